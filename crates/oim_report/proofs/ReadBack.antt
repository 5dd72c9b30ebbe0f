-- If a fact fits a sheet and its names are spelled as in `SpellsFact`, each of its written parts is read back.
use Rattle.oim_report.proofs.Shared.{All, IsTrue, IfSome, option_and_then, option_map, ◌==◌, ◌&&◌, if◌then◌else◌, ◌≡◌, ℕ, List, Some, None, refl, sym, ap, ◌∙◌, ◌≢◌, [], ◌∷◌, ◌++◌, length, true, false, not, cond, arith, ℤ, Bool, Option, is_eq, Less, Equal, Greater, result_ok, str_to_ascii_lowercase, cond-true, and_parts, and_from, or_from, is_ascii_alphanumeric, list_all, list_any, nat_tests, list_any-append, QName, exact_name, name_cmp, Binding, Expands, filled_number, NumberForm, NumberDigits, Value, is_finite_decimals, IsShort, is_number, is_short, units_of, Nil, Number, AText, AName, short_numbers_denote, plain_reads_back, rises, IsPeriod, period_text, Measures, IsUnit, IsMeasure, HasMeasures, Spells, SpellsEach, is_mark, is_piece, is_unit_text, numerator_pieces, denominator_pieces, unit_text, pure_name, pure_alone, Member, Period, is_language, Forever, Instant, Duration, ConceptKind, text, SaysEntity, SaysPeriod, SaysUnit, SaysLanguage, SaysMembers, SaysValue, SaysNumber, FitsName, EntityFits, MeasuresFit, LanguageFits, DimensionFits, ValueFits, IsLanguageOf, option_spelled, option_unit_text, concept_kind, said_concept, said_entity, said_period, said_unit, said_language, said_members, said_value, side_of, unit_with, unit_of, text_said, Sheet, SpellsDimension, SpellsMeasures, SpellsName, SpellsValue, decimals_given, defined_given, option_given, value_given, Numeric, Text, Name}
use Rattle.std.specs.FinMap as map
use Rattle.oim_value.specs.Plain.{plain}
use Rattle.oim_dims.proofs.Periods.{period_back}
use Rattle.oim_dims.proofs.UnitText.{unit_back}
use Rattle.oim_report.proofs.WrittenTexts.{expands, expands_entity, name_back, entity_back}
use Rattle.oim_report.proofs.UnitSays.{side, spelled}

pub record ConceptReadsBack (sheet : Sheet) (bs : List Binding) (spelled : QName → List ℕ) (n : QName) (kind : ConceptKind) : Type 0 where
  pub says : Expands bs (spelled n) n
  pub said : said_concept bs (text (spelled n)) ≡ Some n
  pub listed : concept_kind sheet bs (text (spelled n)) ≡ Some kind

abbrev pub ConceptsReadBack : Type 0
ConceptsReadBack = (sheet : Sheet) (bs : List Binding) (spelled : QName → List ℕ) (n : QName) (kind : ConceptKind) → FitsName n → SpellsName bs spelled n → map.get sheet.concepts n ≡ Some kind → ConceptReadsBack sheet bs spelled n kind

pub record EntityReadsBack (bs : List Binding) (spelled : QName → List ℕ) (entity : Option QName) : Type 0 where
  pub says : SaysEntity bs (option_given (option_spelled spelled entity)) entity
  pub said : said_entity bs (option_given (option_spelled spelled entity)) ≡ Some entity

abbrev pub EntitiesReadBack : Type 0
EntitiesReadBack = (bs : List Binding) (spelled : QName → List ℕ) (entity : Option QName) → EntityFits entity → IfSome entity (SpellsName bs spelled) → EntityReadsBack bs spelled entity

pub record PeriodReadsBack (p : Period) : Type 0 where
  pub says : SaysPeriod (option_given (period_text p)) p
  pub said : said_period (option_given (period_text p)) ≡ Some p

abbrev pub PeriodsReadBack : Type 0
PeriodsReadBack = (p : Period) → IsPeriod p → PeriodReadsBack p

pub record UnitReadsBack (bs : List Binding) (spelled : QName → List ℕ) (kind : ConceptKind) (unit : Option Measures) : Type 0 where
  pub says : SaysUnit bs (option_given (option_unit_text spelled unit)) unit
  pub said : said_unit bs kind (option_given (option_unit_text spelled unit)) ≡ Some unit

abbrev pub UnitsReadBack : Type 0
UnitsReadBack = (bs : List Binding) (spelled : QName → List ℕ) (kind : ConceptKind) (unit : Option Measures) → IfSome unit IsUnit → IfSome unit (MeasuresFit kind) → IfSome unit (SpellsMeasures bs spelled) → UnitReadsBack bs spelled kind unit

pub record LanguageReadsBack (kind : ConceptKind) (language : Option (List ℕ)) : Type 0 where
  pub says : SaysLanguage (option_given language) language
  pub said : said_language kind (option_given language) ≡ Some language

abbrev pub LanguagesReadBack : Type 0
LanguagesReadBack = (kind : ConceptKind) (language : Option (List ℕ)) → LanguageFits kind language → LanguageReadsBack kind language

pub record MembersReadBack (sheet : Sheet) (bs : List Binding) (spelled : QName → List ℕ) (es : List (QName × Member)) : Type 0 where
  pub says : SaysMembers sheet bs (defined_given spelled es) es
  pub said : said_members sheet bs (defined_given spelled es) ≡ Some es

abbrev pub DimensionsReadBack : Type 0
DimensionsReadBack = (sheet : Sheet) (bs : List Binding) (spelled : QName → List ℕ) (es : List (QName × Member)) → IsTrue (rises es) → All (DimensionFits sheet) es → All (SpellsDimension bs spelled) es → MembersReadBack sheet bs spelled es

pub record ValueReadsBack (bs : List Binding) (spelled : QName → List ℕ) (kind : ConceptKind) (v : Value) : Type 0 where
  pub says : SaysValue bs kind (value_given spelled v) (decimals_given spelled v) v
  pub said : said_value bs kind (value_given spelled v) (decimals_given spelled v) ≡ Some v

abbrev pub ValuesReadBack : Type 0
ValuesReadBack = (bs : List Binding) (spelled : QName → List ℕ) (kind : ConceptKind) (v : Value) → ValueFits kind v → SpellsValue bs spelled v → ValueReadsBack bs spelled kind v

-- ---- The concept, the entity, the period and the language of a written fact are read back.

pub concept_back : ConceptsReadBack
concept_back sheet bs spelled n kind fits s listed =
    let known : concept_kind sheet bs (text (spelled n)) ≡ Some kind = ap (option_and_then (map.get sheet.concepts)) (name_back bs spelled n fits s) ∙ listed in
    record {
      says = expands bs spelled n s fits;
      said = name_back bs spelled n fits s;
      listed = known;
    }

pub entity_part_back : EntitiesReadBack
entity_part_back bs spelled None fits s = record { says = refl; said = refl }
entity_part_back bs spelled (Some n) fits s = record {
  says = (n, refl, expands_entity bs spelled n s fits);
  said = ap (option_map Some) (entity_back bs spelled n fits s);
}

pub period_part_back : PeriodsReadBack
period_part_back Forever h = record { says = refl; said = refl }
period_part_back (Instant m) h = let back = period_back (Instant m) h in record { says = back; said = ap result_ok back }
period_part_back (Duration start end) h = let back = period_back (Duration start end) h in record { says = back; said = ap result_ok back }

kept_back : (kind : ConceptKind) (l : List ℕ) → IsLanguageOf kind l → said_language kind (text l) ≡ Some (Some (str_to_ascii_lowercase l)) → LanguageReadsBack kind (Some l)
kept_back kind l fits said = record { says = (fits.form, ap Some (sym fits.lower)); said = said ∙ ap (λ t. Some (Some t)) fits.lower }

pub language_back : LanguagesReadBack
language_back kind None fits = record { says = refl; said = refl }
language_back Numeric (Some l) fits = absurd (fits.other refl)
language_back Text (Some l) fits = kept_back Text l fits (cond-true (is_language l) _ _ fits.form)
language_back Name (Some l) fits = kept_back Name l fits (cond-true (is_language l) _ _ fits.form)

-- ---- A written unit is read back.

-- ---- the pieces of a unit's text

simple_plain : (c : ℕ) → is_ascii_alphanumeric c ≡ true → is_mark c ≡ false
simple_plain c h = grind (arith, nat_tests)

simple_none : (p : List ℕ) → list_all is_ascii_alphanumeric p ≡ true → list_any is_mark p ≡ false
simple_none [] h = refl
simple_none (c ∷ cs) h =
    let b = and_parts (is_ascii_alphanumeric c) (list_all is_ascii_alphanumeric cs) h in
    or_from (is_mark c) (list_any is_mark cs) (simple_plain c b.0) (simple_none cs b.1)

some_bytes : (p l : List ℕ) → not (length (p ++ 58 ∷ l) == 0) ≡ true
some_bytes [] l = filled_number (length l)
some_bytes (c ∷ cs) l = filled_number (length (cs ++ 58 ∷ l))

piece_form : (p l : List ℕ) → list_all is_ascii_alphanumeric p ≡ true → list_any is_mark l ≡ false → is_piece (p ++ 58 ∷ l) ≡ true
piece_form p l simple plain =
    let none : list_any is_mark (p ++ 58 ∷ l) ≡ false = list_any-append is_mark p (58 ∷ l) ∙ or_from (list_any is_mark p) (list_any is_mark (58 ∷ l)) (simple_none p simple) plain in
    and_from (not (length (p ++ 58 ∷ l) == 0)) (not (list_any is_mark (p ++ 58 ∷ l))) (some_bytes p l) (ap not none)

spells_measure : (bs : List Binding) (spelled : QName → List ℕ) (n : QName) → FitsName n → IsMeasure n → SpellsName bs spelled n → Spells bs (spelled n) n
spells_measure bs spelled n fits measure s = record {
  piece = ap is_piece s.text ∙ piece_form s.prefix n.local_part s.simple measure.plain;
  expands = expands bs spelled n s fits;
}

-- ---- the sides of a unit

abbrev measures : List QName → List QName → Measures
measures ns ds = record { numerators = ns; denominators = ds }

with_back : (ns ds : List QName) → measures ns ds ≢ pure_alone → unit_with ns ds ≡ Some (measures ns ds)
with_back (n ∷ []) [] other =
    elim (name_cmp n pure_name) as (λ o. name_cmp n pure_name ≡ o → cond (is_eq o) None (Some (measures (n ∷ []) [])) ≡ Some (measures (n ∷ []) [])) [
      | Less ↦ λ o. refl
      | Equal ↦ λ o. let same : n ≡ pure_name = exact_name n pure_name o in absurd (other (λ i. measures (same i ∷ []) []))
      | Greater ↦ λ o. refl
    ] refl
with_back ns ds other = refl

unit_said : (bs : List Binding) (t : List ℕ) (m : Measures) → HasMeasures bs t m → IsUnit m → unit_of bs t ≡ Some (Some m)
unit_said bs t m h is =
    cond-true (is_unit_text t) _ _ h.form
    ∙ ap (option_and_then (λ ns. option_map (unit_with ns) (side_of bs (denominator_pieces t)))) (side bs (numerator_pieces t) m.numerators h.numerators is.numerators)
    ∙ ap (option_map (unit_with m.numerators)) (side bs (denominator_pieces t) m.denominators h.denominators is.denominators)
    ∙ ap Some (with_back m.numerators m.denominators is.unit)

pub unit_part_back : UnitsReadBack
unit_part_back bs spelled kind None is fits s = record { says = refl; said = refl }
unit_part_back bs spelled kind (Some m) is fits s =
    let each : SpellsEach bs spelled m = record {
      numerators = λ k d within. spells_measure bs spelled _ (fits.numerators k d within) (is.multiplied k d within) (s.numerators k d within);
      denominators = λ k d within. spells_measure bs spelled _ (fits.denominators k d within) (is.divided k d within) (s.denominators k d within);
    } in
    let back = unit_back bs spelled m is each in
    record {
      says = back.unit;
      said = ap (λ k. said_unit bs k (text (unit_text spelled m))) fits.numeric ∙ unit_said bs (unit_text spelled m) m back.unit.0 is;
    }

-- ---- A written value is read back, whether it is nil, a number with its decimals, a text or a name.

short_of : (a b : Bool) → cond (not a) (Some NumberForm) (cond (not b) (Some NumberDigits) None) ≡ None → b ≡ true
short_of true true h = refl
short_of a b h = cc

module _ (units : ℤ) (short : IsShort units) where
  says : SaysNumber (plain units) units
  says =
      let back = plain_reads_back units short in
      record { denoted = back.denotes; short = short_of (is_number (plain units)) (is_short (plain units)) back.accepted }

  same : units_of (plain units) ≡ units
  same = let back = plain_reads_back units short in sym ((short_numbers_denote (plain units) units back.accepted).0 back.denotes)

  said : (bs : List Binding) (places : Option ℤ) → text_said bs Numeric places (plain units) ≡ Some (Number units places)
  said bs places =
      let form : is_number (plain units) ≡ true = says.denoted.form in
      let few : is_short (plain units) ≡ true = says.short in
      (λ i. if form i && few i then Some (Number (units_of (plain units)) places) else None) ∙ ap (λ u. Some (Number u places)) same

pub value_part_back : ValuesReadBack
value_part_back bs spelled kind Nil fits s = record { says = refl; said = refl }
value_part_back bs spelled Numeric (Number units None) fits s = record {
  says = (says units fits.0, refl);
  said = said units fits.0 bs None;
}
value_part_back bs spelled Numeric (Number units (Some d)) fits s =
    let few : is_finite_decimals d ≡ true = fits.1 in
    record {
      says = (says units fits.0, (few, refl));
      said = ap (λ b. option_and_then (λ (places : Option ℤ). text_said bs Numeric places (plain units)) (if b then Some (Some d) else None)) few ∙ said units fits.0 bs (Some d);
    }
value_part_back bs spelled Text (AText t) fits s = record { says = refl; said = refl }
value_part_back bs spelled Name (AName n) fits s = record {
  says = expands bs spelled n s fits;
  said = ap (option_map AName) (name_back bs spelled n fits s);
}
value_part_back bs spelled o d fits s = absurd fits
