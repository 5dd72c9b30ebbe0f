-- For a fact object, `told` lists the conditions in `of_fact` that apply, and `least` is the first of these. For a document, `told` lists the conditions in
-- `of_document` that are shown.
use Rattle.oim_report.proofs.Shared.{◌≡◌, List, [], ◌∷◌, refl, filter, find, Binding, Reason, MemberForm, UnknownMember, DocumentType, Namespace, BaseUrl, TaxonomyUrl, Feature, Links, Notes, DimensionsMissing, NameForm, UnboundPrefix, ReservedNamespace, MissingConcept, UnknownConcept, UnknownDimension, DimensionValue, PeriodForm, PeriodOrder, UnitForm, UnitOnOther, LanguageForm, LanguageOnNumeric, ValueForm, NumberForm, NumberDigits, DecimalsForm, DecimalsRange, DecimalsOnOther, Data, Sheet}
use Rattle.oim_report.specs.Holds.{document_holds, holds}
use Rattle.oim_report.specs.Least.{is_shown, least, told}

abbrev pub of_fact : List Reason
of_fact = MemberForm ∷ UnknownMember ∷ Links ∷ Notes ∷ DimensionsMissing ∷ NameForm ∷ UnboundPrefix ∷ ReservedNamespace ∷ MissingConcept ∷ UnknownConcept ∷ UnknownDimension ∷ DimensionValue ∷ PeriodForm ∷ PeriodOrder ∷ UnitForm ∷ UnitOnOther ∷ LanguageForm ∷ LanguageOnNumeric ∷ ValueForm ∷ NumberForm ∷ NumberDigits ∷ DecimalsForm ∷ DecimalsRange ∷ DecimalsOnOther ∷ []

pub fact_told : (sheet : Sheet) (bs : List Binding) (d : Data) → told (holds sheet bs d) ≡ filter (holds sheet bs d) of_fact
unfolding told holds
fact_told sheet bs d = refl

pub fact_least : (sheet : Sheet) (bs : List Binding) (d : Data) → least (holds sheet bs d) ≡ find (holds sheet bs d) of_fact
unfolding least holds
fact_least sheet bs d = refl

abbrev pub of_document : List Reason
of_document = MemberForm ∷ UnknownMember ∷ DocumentType ∷ Namespace ∷ BaseUrl ∷ TaxonomyUrl ∷ Feature ∷ []

pub document_told : (tree : Data) → told (document_holds tree) ≡ filter (is_shown (document_holds tree)) of_document
unfolding told document_holds
document_told tree = refl
