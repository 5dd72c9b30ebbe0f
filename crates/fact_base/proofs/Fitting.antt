-- If facts of one dimension set fit a sheet, their values that are not nil are of one kind.
use Rattle.fact_base.proofs.Shared.{◌≡◌, ◌≢◌, ℕ, List, Option, Some, None, refl, sym, ap, ◌∙◌, All-contains, Contains, All, kind_order, Value, Nil, Number, AText, AName, rising_are_different, DimensionSet, FactFits, ValueFits, Sheet, Numeric, Text, Name, Summed, facts_with, EntryFits, AreAlike, AreSummarised}
use Rattle.std.specs.FinMap as map
use Rattle.oim_report.specs.declared.concept_kind.ConceptKind.{ConceptKind}
use Rattle.fact_base.proofs.EntryFacts.{in_facts_with}

-- the number that `kind_order` returns for values of this kind that are not nil; 0 for None
abbrev kind_number : Option ConceptKind → ℕ
kind_number None = 0
kind_number (Some Numeric) = 1
kind_number (Some Text) = 2
kind_number (Some Name) = 3

of_kind : (kind : ConceptKind) (v : Value) → ValueFits kind v → v ≢ Nil → kind_order v ≡ kind_number (Some kind)
of_kind kind Nil fits some = absurd (some refl)
of_kind Numeric (Number m d) fits some = refl
of_kind Text (AText t) fits some = refl
of_kind Name (AName n) fits some = refl
of_kind kind v fits some = absurd fits

of_one_kind : (sheet : Sheet) (s : DimensionSet) (vs : List Value) → All (FactFits sheet) (facts_with s vs) → AreAlike vs
of_one_kind sheet s vs fit v w first second some other = is v first some ∙ sym (is w second other)
  where
    is : (x : Value) → Contains vs x → x ≢ Nil → kind_order x ≡ kind_number (map.get sheet.concepts s.concept)
    is x at some =
        let fact = All-contains (FactFits sheet) (facts_with s vs) (record { dimensions = s; value = x }) fit (in_facts_with s vs x at) in
        of_kind fact.kind x fact.value some ∙ sym (ap kind_number fact.listed)

pub entry_summarised : (sheet : Sheet) (s : DimensionSet) (kept : Summed) → EntryFits sheet s kept → AreSummarised kept.0 kept.1
entry_summarised sheet s kept fits = record {
  some = fits.some;
  in_order = fits.in_order;
  different = rising_are_different kept.0 fits.in_order;
  alike = of_one_kind sheet s kept.0 fits.facts;
  summary = fits.summary;
}
