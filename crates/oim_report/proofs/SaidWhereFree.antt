-- A fact object has a valid form and denotes a fact exactly if no condition applies to it.
use Rattle.oim_report.proofs.Shared.{◌≡◌, ℕ, List, [], ◌++◌, map, Bool, true, false, not, ◌||◌, ◌&&◌, Ok, refl, sym, ap, subst, ◌∙◌, Option, Some, None, codes, if◌then◌else◌, is_none, is_some, option_and_then, option_map, option_to_list, filter_map, flat_map, not-false, or_parts, and_right, option_map_or, list_any, Binding, Spelled, a_name, an_entity, Reason, MemberForm, UnknownMember, Links, Notes, DimensionsMissing, NameForm, UnboundPrefix, ReservedNamespace, MissingConcept, UnknownConcept, UnknownDimension, DimensionValue, PeriodForm, PeriodOrder, UnitForm, UnitOnOther, LanguageForm, LanguageOnNumeric, ValueForm, NumberForm, NumberDigits, DecimalsForm, DecimalsRange, DecimalsOnOther, is_finite_decimals, is_number, is_short, Value, DimensionSet, is_language, is_unit_text, Fact, Data, Members, object, as_object, get_member, ConceptKind, Numeric, Text, Name, given_of, is_absent, is_no_object, members, text_of, comes_again, named, names_refusal, least, FactsAreSaid, IsFree, fact_or, fact_outcome, DimensionMembers, FactMembers, HasForm, defined_members, dimension_parts, fact_parts, parts_of, concept_kind, fact_of, fact_with, said_concept, said_dimensions, said_fact, said_members, said_value, value_with, Sheet, same_concept_kind}
use Rattle.std.specs.FinMap as map_of
use Rattle.oim_report.specs.Holds.{as_text, holds, holds_with, is_kind, is_some_and, lacks_moment, names, no_text, pieces, runs_backward}
use Rattle.oim_report.proofs.Accepted.{EachSays, IsSaid, and_then_some, is_said, map_some}
use Rattle.oim_report.proofs.FreeMembers.{ConceptFree, ConceptSaid, DecimalsFree, EntityFree, LanguageFree, MembersFree, PeriodFree, UnitFree, ValueFree, concept_free, concept_said, decimals_free, decimals_said, entity_free, entity_said, is_misfit, is_misplaced, language_free, language_said, members_free, members_said, names_in, period_free, period_said, spelled_by, unit_free, unit_said, value_free, value_said}
use Rattle.oim_report.proofs.LeastOf.{none_is}
use Rattle.oim_report.proofs.SheetEntries.{AreFree, are_free, names-parts, names_append, none_refused}
use Rattle.oim_report.proofs.ValueWords.{absent_same, defined_same, no_text_same, no_value_same, no_whole_same, seen_member, text_same, there_same, whole_of, whole_same}
use Rattle.oim_report.proofs.Passed.{second_false}

-- ---- the parts of an object that denotes a fact

-- no condition on the parts applies; `xs` are the taxonomy-defined dimensions
record PartsFree (sheet : Sheet) (bs : List Binding) (kind : ConceptKind) (p : FactMembers) (ds : DimensionMembers) (xs : List (List ℕ × Data)) : Type 0 where
  concept : ConceptFree sheet bs ds.concept
  entity : EntityFree bs ds.entity
  period : PeriodFree ds.period
  unit : UnitFree bs kind ds.unit
  language : LanguageFree kind ds.language
  members : MembersFree sheet bs xs
  value : ValueFree bs kind p.value
  decimals : DecimalsFree kind p.decimals

parts_free : (sheet : Sheet) (bs : List Binding) (p : FactMembers) (ds : DimensionMembers) (xs : List (List ℕ × Data)) (f : Fact) → ds.defined ≡ map seen_member xs → (is : IsSaid sheet bs p ds f) → PartsFree sheet bs is.kind p ds xs
parts_free sheet bs p ds xs f same is =
    let each = is.each in
    let d = and_then_some (value_with bs is.kind p.value) _ f.value is.value in
    record {
      concept = concept_free sheet bs ds.concept is.kind is.listed;
      entity = entity_free bs ds.entity f.dimensions.entity each.entity;
      period = period_free ds.period f.dimensions.period each.period;
      unit = unit_free bs is.kind ds.unit f.dimensions.unit each.unit;
      language = language_free is.kind ds.language f.dimensions.language each.language;
      members = members_free sheet bs xs f.dimensions.members (ap (said_members sheet bs) (sym same) ∙ each.members);
      value = value_free bs is.kind p.value d.0 f.value d.2;
      decimals = decimals_free is.kind p.decimals d.0 d.1;
    }

pub together : (sheet : Sheet) (bs : List Binding) (kind : ConceptKind) (ds : DimensionMembers) (d : DimensionSet) → EachSays sheet bs kind ds d → said_dimensions sheet bs kind ds ≡ Some d
together sheet bs kind ds d each = rw (each.concept, each.entity, each.period, each.unit, each.language, each.members) refl

with_value : (sheet : Sheet) (bs : List Binding) (kind : ConceptKind) (p : FactMembers) (ds : DimensionMembers) (d : DimensionSet) (v : Value) → concept_kind sheet bs ds.concept ≡ Some kind → said_dimensions sheet bs kind ds ≡ Some d → said_value bs kind p.value p.decimals ≡ Some v → fact_of sheet bs p ds ≡ Some (record { dimensions = d; value = v })
with_value sheet bs kind p ds d v listed dimensions value = ap (option_and_then (fact_with sheet bs p ds)) listed ∙ rw (dimensions, value) refl

parts_said : (sheet : Sheet) (bs : List Binding) (p : FactMembers) (ds : DimensionMembers) (xs : List (List ℕ × Data)) → ds.defined ≡ map seen_member xs → (c : ConceptSaid sheet bs ds.concept) → PartsFree sheet bs c.kind p ds xs → (f : Fact) × (fact_of sheet bs p ds ≡ Some f)
parts_said sheet bs p ds xs same c free =
    let e = entity_said bs ds.entity free.entity in
    let t = period_said ds.period free.period in
    let u = unit_said bs c.kind ds.unit free.unit in
    let l = language_said c.kind ds.language free.language in
    let m = members_said sheet bs xs free.members in
    let places = decimals_said c.kind p.decimals free.decimals in
    let v = value_said bs c.kind p.value places.0 free.value in
    let d : DimensionSet = record { concept = c.name; entity = e.0; period = t.0; unit = u.0; language = l.0; members = m.0 } in
    let each : EachSays sheet bs c.kind ds d = record { concept = c.said; entity = e.1; period = t.1; unit = u.1; language = l.1; members = ap (said_members sheet bs) same ∙ m.1 } in
    let value : said_value bs c.kind p.value p.decimals ≡ Some v.0 = ap (option_and_then (value_with bs c.kind p.value)) places.1 ∙ v.1 in
    (record { dimensions = d; value = v.0 }, with_value sheet bs c.kind p ds d v.0 c.listed (together sheet bs c.kind ds d each) value)

-- ---- tests

is_there : (o : Option Data) (ms : Members) → option_and_then as_object o ≡ Some ms → is_none o ≡ false
is_there None ms is = absurd (cc)
is_there (Some d) ms is = refl

record IsShaped (value dimensions links concept entity period unit language : Bool) : Type 0 where
  value_is : value ≡ false
  dimensions_is : dimensions ≡ false
  links_is : links ≡ false
  concept_is : concept ≡ false
  entity_is : entity ≡ false
  period_is : period ≡ false
  unit_is : unit ≡ false
  language_is : language ≡ false

shaped : (v d l c e p u t : Bool) → (v || d || l || c || e || p || u || t) ≡ false → IsShaped v d l c e p u t
shaped v d l c e p u t none =
    let seven = or_parts (v || d || l || c || e || p || u) t none in
    let six = or_parts (v || d || l || c || e || p) u seven.0 in
    let five = or_parts (v || d || l || c || e) p six.0 in
    let four = or_parts (v || d || l || c) e five.0 in
    let three = or_parts (v || d || l) c four.0 in
    let two = or_parts (v || d) l three.0 in
    let one = or_parts v d two.0 in
    record { value_is = one.0; dimensions_is = one.1; links_is = two.1; concept_is = three.1; entity_is = four.1; period_is = five.1; unit_is = six.1; language_is = seven.1 }

-- ---- the conditions of `Holds`, for a fact object with an object `dimensions`

module _ (sheet : Sheet) (bs : List Binding) (fms ms : Members) where
  abbrev fact : Data
  fact = object fms

  abbrev ds : DimensionMembers
  ds = dimension_parts ms

  abbrev at : List ℕ → Option Data
  at key = get_member key ms

  abbrev value : Option Data
  value = get_member (codes "value") fms

  abbrev decimals : Option Data
  decimals = get_member (codes "decimals") fms

  abbrev applies : Reason → Bool
  applies = holds_with sheet bs fact ms

  -- the names in each part
  abbrev of_concept : List Spelled
  of_concept = map a_name (option_to_list (option_and_then as_text (at (codes "concept"))))

  abbrev of_entity : List Spelled
  of_entity = map an_entity (option_to_list (option_and_then as_text (at (codes "entity"))))

  abbrev of_defined : List Spelled
  of_defined = flat_map (names_in sheet bs) (defined_members ms)

  abbrev of_unit : List Spelled
  of_unit = map a_name (option_map_or pieces (option_and_then as_text (at (codes "unit"))) [])

  abbrev of_value : List Spelled
  of_value = map a_name (if is_kind sheet bs fact ms Name then option_to_list (option_and_then as_text value) else [])

  concept_names : names_refusal bs of_concept ≡ names_refusal bs (spelled_by a_name ds.concept)
  concept_names = ap (λ t. names_refusal bs (map a_name (option_to_list t))) (text_same (at (codes "concept")))

  entity_names : names_refusal bs of_entity ≡ names_refusal bs (spelled_by an_entity ds.entity)
  entity_names = ap (λ t. names_refusal bs (map an_entity (option_to_list t))) (text_same (at (codes "entity")))

  unit_names : names_refusal bs of_unit ≡ names_refusal bs (map a_name (option_map_or pieces (text_of ds.unit) []))
  unit_names = ap (λ t. names_refusal bs (map a_name (option_map_or pieces t []))) (text_same (at (codes "unit")))

  unknown_concept : applies UnknownConcept ≡ is_some_and (λ n. is_none (map_of.get sheet.concepts n)) (said_concept bs ds.concept)
  unknown_concept = ap (λ t. is_some_and (λ n. is_none (map_of.get sheet.concepts n)) (option_and_then (named bs) t)) (text_same (at (codes "concept")))

  period_form : applies PeriodForm ≡ is_some_and lacks_moment (text_of ds.period)
  period_form = ap (is_some_and lacks_moment) (text_same (at (codes "period")))

  period_order : applies PeriodOrder ≡ is_some_and runs_backward (text_of ds.period)
  period_order = ap (is_some_and runs_backward) (text_same (at (codes "period")))

  unit_form : applies UnitForm ≡ is_some_and (λ t. not (is_unit_text t)) (text_of ds.unit)
  unit_form = ap (is_some_and (λ t. not (is_unit_text t))) (text_same (at (codes "unit")))

  language_form : applies LanguageForm ≡ is_some_and (λ t. not (is_language t)) (text_of ds.language)
  language_form = ap (is_some_and (λ t. not (is_language t))) (text_same (at (codes "language")))

  decimals_range : applies DecimalsRange ≡ is_some_and (λ n. not (is_finite_decimals n)) (whole_of (given_of decimals))
  decimals_range = ap (is_some_and (λ n. not (is_finite_decimals n))) (whole_same decimals)

  -- the conditions that depend on the kind of the concept
  module _ (kind : ConceptKind) (known : concept_kind sheet bs ds.concept ≡ Some kind) where
    kinds : (k : ConceptKind) → is_kind sheet bs fact ms k ≡ same_concept_kind k kind
    kinds k =
        ap (λ t. is_some_and (same_concept_kind k) (option_and_then (map_of.get sheet.concepts) (option_and_then (named bs) t))) (text_same (at (codes "concept")))
        ∙ ap (is_some_and (same_concept_kind k)) known

    value_names : names_refusal bs of_value ≡ names_refusal bs (map a_name (if same_concept_kind Name kind then option_to_list (text_of (given_of value)) else []))
    value_names = λ i. names_refusal bs (map a_name (if kinds Name i then option_to_list (text_same value i) else []))

    misplaced_unit : applies UnitOnOther ≡ is_misplaced kind ds.unit
    misplaced_unit = λ i. there_same (at (codes "unit")) i && (kinds Text i || kinds Name i)

    misplaced_language : applies LanguageOnNumeric ≡ (not (is_absent ds.language) && same_concept_kind Numeric kind)
    misplaced_language = λ i. there_same (at (codes "language")) i && kinds Numeric i

    number_form : applies NumberForm ≡ (same_concept_kind Numeric kind && is_some_and (λ t. not (is_number t)) (text_of (given_of value)))
    number_form = λ i. kinds Numeric i && is_some_and (λ t. not (is_number t)) (text_same value i)

    number_digits : applies NumberDigits ≡ (same_concept_kind Numeric kind && is_some_and (λ t. is_number t && not (is_short t)) (text_of (given_of value)))
    number_digits = λ i. kinds Numeric i && is_some_and (λ t. is_number t && not (is_short t)) (text_same value i)

    misplaced_decimals : applies DecimalsOnOther ≡ is_misplaced kind (given_of decimals)
    misplaced_decimals = λ i. there_same decimals i && (kinds Text i || kinds Name i)

    -- ---- if each part is free, no condition applies

    module _ (free : PartsFree sheet bs kind (parts_of fms) ds (defined_members ms)) (form : HasForm (parts_of fms) ds) (is : option_and_then as_object (get_member (codes "dimensions") fms) ≡ Some ms) where
      none_refused_name : AreFree bs (names sheet bs fact ms)
      none_refused_name =
          are_free bs (names sheet bs fact ms)
          (names_append bs of_concept (of_entity ++ (of_defined ++ (of_unit ++ of_value))) (concept_names ∙ free.concept.names)
          (names_append bs of_entity (of_defined ++ (of_unit ++ of_value)) (entity_names ∙ free.entity.names)
          (names_append bs of_defined (of_unit ++ of_value) free.members.each.names
          (names_append bs of_unit of_value (unit_names ∙ free.unit.names) (value_names ∙ free.value.names)))))

      fits : applies MemberForm ≡ false
      fits =
          let links = or_parts (is_no_object (get_member (codes "dimensions") fms)) (is_no_object (get_member (codes "links") fms)) form.shaped in
          (λ i. (absent_same value ∙ free.value.present) i || links.0 i || links.1 i
          || (no_text_same (at (codes "concept")) ∙ free.concept.is_text) i || (no_text_same (at (codes "entity")) ∙ free.entity.is_text) i || (no_text_same (at (codes "period")) ∙ free.period.is_text) i
          || (no_text_same (at (codes "unit")) ∙ free.unit.is_text) i || (no_text_same (at (codes "language")) ∙ free.language.is_text) i)

      rows_free : (r : Reason) → applies r ≡ false
      rows_free MemberForm = fits
      rows_free UnknownMember = λ i. form.known i || form.known_inside i
      rows_free Links = form.unlinked
      rows_free Notes = there_same (at (codes "noteId")) ∙ ap not form.unnoted
      rows_free DimensionsMissing = is_there (get_member (codes "dimensions") fms) ms is
      rows_free NameForm = none_refused_name.form
      rows_free UnboundPrefix = none_refused_name.prefix
      rows_free ReservedNamespace = none_refused_name.namespace
      rows_free MissingConcept = and_right (is_some (option_and_then as_object (get_member (codes "dimensions") fms))) (is_none (at (codes "concept"))) (absent_same (at (codes "concept")) ∙ free.concept.present)
      rows_free UnknownConcept = unknown_concept ∙ free.concept.listed
      rows_free UnknownDimension = free.members.each.known
      rows_free DimensionValue = λ i. free.members.each.fit i || free.members.once i
      rows_free PeriodForm = period_form ∙ free.period.form
      rows_free PeriodOrder = period_order ∙ free.period.order
      rows_free UnitForm = unit_form ∙ free.unit.form
      rows_free UnitOnOther = misplaced_unit ∙ free.unit.numeric
      rows_free LanguageForm = language_form ∙ free.language.form
      rows_free LanguageOnNumeric = misplaced_language ∙ free.language.not_numeric
      rows_free ValueForm = no_value_same value ∙ free.value.form
      rows_free NumberForm = number_form ∙ free.value.number
      rows_free NumberDigits = number_digits ∙ free.value.digits
      rows_free DecimalsForm = no_whole_same decimals ∙ free.decimals.form
      rows_free DecimalsRange = decimals_range ∙ free.decimals.range
      rows_free DecimalsOnOther = misplaced_decimals ∙ free.decimals.numeric
      rows_free r = refl

  -- ---- if no condition applies, each part is free

  module _ (free : (r : Reason) → applies r ≡ false) (is : option_and_then as_object (get_member (codes "dimensions") fms) ≡ Some ms) where
    shape : IsShaped (is_none value) (is_no_object (get_member (codes "dimensions") fms)) (is_no_object (get_member (codes "links") fms)) (is_some_and no_text (at (codes "concept"))) (is_some_and no_text (at (codes "entity"))) (is_some_and no_text (at (codes "period"))) (is_some_and no_text (at (codes "unit"))) (is_some_and no_text (at (codes "language")))
    shape = shaped (is_none value) (is_no_object (get_member (codes "dimensions") fms)) (is_no_object (get_member (codes "links") fms)) (is_some_and no_text (at (codes "concept"))) (is_some_and no_text (at (codes "entity"))) (is_some_and no_text (at (codes "period"))) (is_some_and no_text (at (codes "unit"))) (is_some_and no_text (at (codes "language"))) (free MemberForm)

    abbrev Named : List Spelled → Type 0
    Named ns = names_refusal bs ns ≡ None

    each_named : Named of_concept × Named of_entity × Named of_defined × Named of_unit × Named of_value
    each_named =
        let one = names-parts bs of_concept (of_entity ++ (of_defined ++ (of_unit ++ of_value))) (none_refused bs (names sheet bs fact ms) (record { form = free NameForm; prefix = free UnboundPrefix; namespace = free ReservedNamespace })) in
        let two = names-parts bs of_entity (of_defined ++ (of_unit ++ of_value)) one.1 in
        let three = names-parts bs of_defined (of_unit ++ of_value) two.1 in
        let four = names-parts bs of_unit of_value three.1 in
        (one.0, two.0, three.0, four.0, four.1)

    concept_row : ConceptFree sheet bs ds.concept
    concept_row = record {
      present = sym (absent_same (at (codes "concept"))) ∙ second_false (is_some (option_and_then as_object (get_member (codes "dimensions") fms))) (is_none (at (codes "concept"))) (ap is_some is) (free MissingConcept);
      is_text = sym (no_text_same (at (codes "concept"))) ∙ shape.concept_is;
      names = sym concept_names ∙ each_named.0;
      listed = sym unknown_concept ∙ free UnknownConcept;
    }

    free_parts : (kind : ConceptKind) → concept_kind sheet bs ds.concept ≡ Some kind → PartsFree sheet bs kind (parts_of fms) ds (defined_members ms)
    free_parts kind known =
        let values = or_parts (list_any (is_misfit sheet bs) (defined_members ms)) (comes_again (filter_map (λ m. named bs m.0) (defined_members ms))) (free DimensionValue) in
        record {
          concept = concept_row;
          entity = record { is_text = sym (no_text_same (at (codes "entity"))) ∙ shape.entity_is; names = sym entity_names ∙ each_named.1 };
          period = record { is_text = sym (no_text_same (at (codes "period"))) ∙ shape.period_is; form = sym period_form ∙ free PeriodForm; order = sym period_order ∙ free PeriodOrder };
          unit = record { is_text = sym (no_text_same (at (codes "unit"))) ∙ shape.unit_is; names = sym unit_names ∙ each_named.3; form = sym unit_form ∙ free UnitForm; numeric = sym (misplaced_unit kind known) ∙ free UnitOnOther };
          language = record { is_text = sym (no_text_same (at (codes "language"))) ∙ shape.language_is; form = sym language_form ∙ free LanguageForm; not_numeric = sym (misplaced_language kind known) ∙ free LanguageOnNumeric };
          members = record { each = record { names = each_named.2; known = free UnknownDimension; fit = values.0 }; once = values.1 };
          value = record {
            present = sym (absent_same value) ∙ shape.value_is;
            form = sym (no_value_same value) ∙ free ValueForm;
            number = sym (number_form kind known) ∙ free NumberForm;
            digits = sym (number_digits kind known) ∙ free NumberDigits;
            names = sym (value_names kind known) ∙ each_named.4;
          };
          decimals = record { form = sym (no_whole_same decimals) ∙ free DecimalsForm; range = sym decimals_range ∙ free DecimalsRange; numeric = sym (misplaced_decimals kind known) ∙ free DecimalsOnOther };
        }

    object_says : (f : Fact) × (fact_of sheet bs (parts_of fms) ds ≡ Some f)
    object_says =
        let c = concept_said sheet bs ds.concept concept_row in
        parts_said sheet bs (parts_of fms) ds (defined_members ms) (defined_same ms) c (free_parts c.kind c.listed)

    object_has_form : HasForm (parts_of fms) ds
    object_has_form =
        let known = or_parts _ _ (free UnknownMember) in
        record {
          there = ap (option_map dimension_parts) is;
          shaped = λ i. shape.dimensions_is i || shape.links_is i;
          known = known.0;
          known_inside = known.1;
          unlinked = free Links;
          unnoted = not-false (is_absent ds.note) (sym (there_same (at (codes "noteId"))) ∙ free Notes);
        }

-- ---- a fact object that denotes a fact

free_inside : (sheet : Sheet) (bs : List Binding) (fms ms : Members) (f : Fact) → option_and_then as_object (get_member (codes "dimensions") fms) ≡ Some ms → HasForm (parts_of fms) (dimension_parts ms) → fact_of sheet bs (parts_of fms) (dimension_parts ms) ≡ Some f → IsFree sheet bs (object fms)
unfolding holds
free_inside sheet bs fms ms f is form said r =
    let all = is_said sheet bs (parts_of fms) (dimension_parts ms) f said in
    let parts = parts_free sheet bs (parts_of fms) (dimension_parts ms) (defined_members ms) f (defined_same ms) all in
    ap (λ o. holds_with sheet bs (object fms) (members o) r) is ∙ rows_free sheet bs fms ms all.kind all.listed parts form is r

free_object : (sheet : Sheet) (bs : List Binding) (fms : Members) (ds : DimensionMembers) (f : Fact) → HasForm (parts_of fms) ds → fact_of sheet bs (parts_of fms) ds ≡ Some f → IsFree sheet bs (object fms)
free_object sheet bs fms ds f form said =
    let ms = map_some dimension_parts (option_and_then as_object (get_member (codes "dimensions") fms)) ds form.there in
    free_inside sheet bs fms ms.0 f ms.1 (subst (HasForm (parts_of fms)) (sym ms.2) form) (ap (fact_of sheet bs (parts_of fms)) ms.2 ∙ said)

pub said_free : (sheet : Sheet) (bs : List Binding) (d : Data) (p : FactMembers) (ds : DimensionMembers) (f : Fact) → fact_parts d ≡ Some p → HasForm p ds → fact_of sheet bs p ds ≡ Some f → IsFree sheet bs d
said_free sheet bs (object fms) p ds f are form said =
    let same : p ≡ parts_of fms = cc in
    free_object sheet bs fms ds f (subst (λ q. HasForm q ds) same form) (ap (λ q. fact_of sheet bs q ds) (sym same) ∙ said)
said_free sheet bs d p ds f are form said = absurd (cc)

pub said_outcome : (sheet : Sheet) (bs : List Binding) (d : Data) (p : FactMembers) (ds : DimensionMembers) (f : Fact) → fact_parts d ≡ Some p → HasForm p ds → fact_of sheet bs p ds ≡ Some f → fact_outcome sheet bs d ≡ Ok f
said_outcome sheet bs d p ds f are form said =
    let none = (none_is (holds sheet bs d)).1 (said_free sheet bs d p ds f are form said) in
    let says : option_and_then (said_fact sheet bs) (fact_parts d) ≡ Some f = ap (option_and_then (said_fact sheet bs)) are ∙ ap (option_and_then (fact_of sheet bs p)) form.there ∙ said in
    (λ i. fact_or (none i) (says i))

-- ---- a fact object to which no condition applies

dimensions_are : (o : Option Data) → is_no_object o ≡ false → is_none o ≡ false → (ms : Members) × (option_and_then as_object o ≡ Some ms)
dimensions_are (Some (object ms)) shaped some = (ms, refl)
dimensions_are o shaped some = absurd (cc)

object_is_said : (sheet : Sheet) (bs : List Binding) (fms : Members) → IsFree sheet bs (object fms) → (f : Fact) × (said_fact sheet bs (parts_of fms) ≡ Some f)
unfolding holds
object_is_said sheet bs fms free =
    let inner = get_member (codes "dimensions") fms in
    let o = option_and_then as_object inner in
    let shape = shaped (is_none (get_member (codes "value") fms)) (is_no_object inner) _ _ _ _ _ _ (free MemberForm) in
    let ms = dimensions_are inner shape.dimensions_is (free DimensionsMissing) in
    let rows : (r : Reason) → holds_with sheet bs (object fms) ms.0 r ≡ false = λ r. sym (ap (λ m. holds_with sheet bs (object fms) (members m) r) ms.1) ∙ free r in
    let f = object_says sheet bs fms ms.0 rows ms.1 in
    (f.0, ap (λ m. option_and_then (fact_of sheet bs (parts_of fms)) (option_map dimension_parts m)) ms.1 ∙ f.1)

object_form : (sheet : Sheet) (bs : List Binding) (fms : Members) → IsFree sheet bs (object fms) → (ds : DimensionMembers) × HasForm (parts_of fms) ds
unfolding holds
object_form sheet bs fms free =
    let inner = get_member (codes "dimensions") fms in
    let shape = shaped (is_none (get_member (codes "value") fms)) (is_no_object inner) _ _ _ _ _ _ (free MemberForm) in
    let ms = dimensions_are inner shape.dimensions_is (free DimensionsMissing) in
    let rows : (r : Reason) → holds_with sheet bs (object fms) ms.0 r ≡ false = λ r. sym (ap (λ m. holds_with sheet bs (object fms) (members m) r) ms.1) ∙ free r in
    (dimension_parts ms.0, object_has_form sheet bs fms ms.0 rows ms.1)

-- the parts of an accepted fact object have a valid form
pub free_form : (sheet : Sheet) (bs : List Binding) (d : Data) (p : FactMembers) → fact_parts d ≡ Some p → IsFree sheet bs d → (ds : DimensionMembers) × HasForm p ds
free_form sheet bs (object fms) p are free =
    let same : parts_of fms ≡ p = cc in
    let formed = object_form sheet bs fms free in
    (formed.0, subst (λ q. HasForm q formed.0) same formed.1)
free_form sheet bs d p are free = absurd (cc)

free_or : (r : Option Reason) (o : Option Fact) (f : Fact) → fact_or r o ≡ Ok f → r ≡ None
free_or None o f e = refl
free_or (Some r) o f e = absurd (cc)

pub outcome_free : (sheet : Sheet) (bs : List Binding) (d : Data) (f : Fact) → fact_outcome sheet bs d ≡ Ok f → IsFree sheet bs d
outcome_free sheet bs d f e = (none_is (holds sheet bs d)).0 (free_or (least (holds sheet bs d)) (option_and_then (said_fact sheet bs) (fact_parts d)) f e)

pub facts_are_said : FactsAreSaid
unfolding holds
facts_are_said sheet bs (object fms) free = object_is_said sheet bs fms free
facts_are_said sheet bs o free = let no : true ≡ false = free MemberForm in absurd (cc)
