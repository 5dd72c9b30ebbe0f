-- If a fact fits a sheet and its names are spelled as in `SpellsFact`, its object has the parts in `parts_given`.
use Rattle.oim_report.proofs.Shared.{◌≡◌, ◌≢◌, ℕ, List, [], ◌∷◌, codes, true, false, Option, Some, None, refl, ap, ◌∙◌, pos, ◌≤◌, arith, negsuc, All, IfSome, IsUtf8, ◌&&◌, ℤ, unsigned_abs, option_map, leb-true, nat_cmp, Less, Equal, Greater, suc, is_utf8, and_from, All-head, All-tail, is_utf8-from_IsUtf8, match_ordering, ordering_reverse, slice_cmp, nat_list_cmp_total, IsUtf8-are_ascii, QName, Binding, other_bytes, Value, Nil, Number, AText, AName, is_finite_decimals, DimensionSet, period_text, Measures, Fact, Member, NoMember, MemberText, MemberName, get_member, of_integer, get_member-put_other, ConceptKind, Numeric, Text, Name, DimensionKind, Explicit, Typed, given, given_of, has_colon, any_member, is_unknown, core_keys, defined_in, dimension_parts, parts_of, EntityFits, LanguageFits, UnitFits, MemberFits, DimensionFits, ValueFits, FactFits, put_text, option_spelled, option_unit_text, member_data, with_defined, dimension_members, value_data, with_decimals, fact_members, Sheet, SpellsName, SpellsMeasures, SpellsMember, SpellsDimension, SpellsFact, SpellsValue, option_given, with_given, member_given, defined_given, dimensions_given, value_given, decimals_given, FactObjectHasParts, FactObjectIsPlain, Ascends, IsWhole, IsBefore, MembersArePlain, MembersHaveUtf8, IsPlainJson}
use Rattle.oim_value.specs.Plain.{plain}
use Rattle.oim_value.specs.declared.limits.TheConstants.{MOST_DECIMALS}
use Rattle.serde_json.specs.Data.{string, object, Members, no_members, put, Data, number, member, members_depth}
use Rattle.oim_report.proofs.JsonTexts.{given_text}
use Rattle.oim_report.proofs.WrittenTexts.{spelled_utf8, spelled_colon, plain_utf8, period_utf8, language_utf8, unit_utf8}
use Rattle.oim_report.proofs.PutMembers.{ascends_put, defined_put, known_put, text_there, text_past, text_ascends, text_undefined, text_known, before_all, before_put}

-- ---- written texts are read back unchanged

option_back : (t : Option (List ℕ)) → IfSome t IsUtf8 → given_of (option_map string t) ≡ option_given t
option_back None h = refl
option_back (Some t) h = given_text t h

member_back : (bs : List Binding) (spelled : QName → List ℕ) (kind : DimensionKind) (m : Member) → MemberFits kind m → SpellsMember bs spelled m → given (member_data spelled m) ≡ member_given spelled m
member_back bs spelled Explicit (MemberName n) fits s = given_text (spelled n) (spelled_utf8 bs spelled n s fits.utf8)
member_back bs spelled Typed (MemberText t) fits s = given_text t fits
member_back bs spelled Typed NoMember fits s = refl
member_back bs spelled kind m fits s = absurd fits

value_back : (bs : List Binding) (spelled : QName → List ℕ) (kind : ConceptKind) (v : Value) → ValueFits kind v → SpellsValue bs spelled v → given (value_data spelled v) ≡ value_given spelled v
value_back bs spelled kind Nil fits s = refl
value_back bs spelled Numeric (Number units places) fits s = given_text (plain units) (plain_utf8 units fits.0)
value_back bs spelled Text (AText t) fits s = given_text t fits
value_back bs spelled Name (AName n) fits s = given_text (spelled n) (spelled_utf8 bs spelled n s fits.utf8)
value_back bs spelled kind v fits s = absurd fits

-- ---- the core dimensions

module _ (entity language period unit : Option (List ℕ)) (concept : List ℕ) where
  abbrev only_concept : Members
  only_concept = put (codes "concept") (string concept) no_members

  abbrev and_unit : Members
  and_unit = put_text (codes "unit") unit only_concept

  abbrev and_period : Members
  and_period = put_text (codes "period") period and_unit

  abbrev and_language : Members
  and_language = put_text (codes "language") language and_period

  abbrev core : Members
  core = put_text (codes "entity") entity and_language

  past_unit : (key : List ℕ) → key ≢ codes "unit" → get_member key and_unit ≡ get_member key only_concept
  past_unit key u = text_past key (codes "unit") unit only_concept u

  past_period : (key : List ℕ) → key ≢ codes "period" → key ≢ codes "unit" → get_member key and_period ≡ get_member key only_concept
  past_period key p u = text_past key (codes "period") period and_unit p ∙ past_unit key u

  past_language : (key : List ℕ) → key ≢ codes "language" → key ≢ codes "period" → key ≢ codes "unit" → get_member key and_language ≡ get_member key only_concept
  past_language key l p u = text_past key (codes "language") language and_period l ∙ past_period key p u

  past_entity : (key : List ℕ) → key ≢ codes "entity" → key ≢ codes "language" → key ≢ codes "period" → key ≢ codes "unit" → get_member key core ≡ get_member key only_concept
  past_entity key e l p u = text_past key (codes "entity") entity and_language e ∙ past_language key l p u

  at_unit : get_member (codes "unit") core ≡ option_map string unit
  at_unit =
      text_past (codes "unit") (codes "entity") entity and_language (other_bytes _ _ refl)
      ∙ text_past (codes "unit") (codes "language") language and_period (other_bytes _ _ refl)
      ∙ text_past (codes "unit") (codes "period") period and_unit (other_bytes _ _ refl)
      ∙ text_there (codes "unit") unit only_concept refl

  at_period : get_member (codes "period") core ≡ option_map string period
  at_period =
      text_past (codes "period") (codes "entity") entity and_language (other_bytes _ _ refl)
      ∙ text_past (codes "period") (codes "language") language and_period (other_bytes _ _ refl)
      ∙ text_there (codes "period") period and_unit (past_unit (codes "period") (other_bytes _ _ refl))

  at_language : get_member (codes "language") core ≡ option_map string language
  at_language =
      text_past (codes "language") (codes "entity") entity and_language (other_bytes _ _ refl)
      ∙ text_there (codes "language") language and_period (past_period (codes "language") (other_bytes _ _ refl) (other_bytes _ _ refl))

  at_entity : get_member (codes "entity") core ≡ option_map string entity
  at_entity = text_there (codes "entity") entity and_language (past_language (codes "entity") (other_bytes _ _ refl) (other_bytes _ _ refl) (other_bytes _ _ refl))

  at_concept : get_member (codes "concept") core ≡ Some (string concept)
  at_concept = past_entity (codes "concept") (other_bytes _ _ refl) (other_bytes _ _ refl) (other_bytes _ _ refl) (other_bytes _ _ refl)

  at_note : get_member (codes "noteId") core ≡ None
  at_note = past_entity (codes "noteId") (other_bytes _ _ refl) (other_bytes _ _ refl) (other_bytes _ _ refl) (other_bytes _ _ refl)

  core_ascends : Ascends core
  core_ascends =
      text_ascends (codes "entity") entity and_language
      (text_ascends (codes "language") language and_period
      (text_ascends (codes "period") period and_unit
      (text_ascends (codes "unit") unit only_concept
      (tt, tt))))

  core_undefined : defined_in core ≡ []
  core_undefined =
      text_undefined (codes "entity") entity and_language refl
      ∙ text_undefined (codes "language") language and_period refl
      ∙ text_undefined (codes "period") period and_unit refl
      ∙ text_undefined (codes "unit") unit only_concept refl

  core_known : any_member (is_unknown core_keys) core ≡ false
  core_known =
      text_known core_keys (codes "entity") entity and_language refl
      (text_known core_keys (codes "language") language and_period refl
      (text_known core_keys (codes "period") period and_unit refl
      (text_known core_keys (codes "unit") unit only_concept refl refl)))

-- ---- taxonomy-defined dimensions

-- the texts of a dimension are UTF-8, and its key has a colon
record IsWritten (spelled : QName → List ℕ) (e : QName × Member) : Type 0 where
  colon : has_colon (spelled e.0) ≡ true
  utf8 : IsUtf8 (spelled e.0)
  member : given (member_data spelled e.1) ≡ member_given spelled e.1

module _ (spelled : QName → List ℕ) where
  past_defined : (key : List ℕ) → has_colon key ≡ false → (es : List (QName × Member)) → All (IsWritten spelled) es → (ms : Members) → get_member key (with_defined spelled es ms) ≡ get_member key ms
  past_defined key plain [] w ms = refl
  past_defined key plain (e ∷ es) w ms =
      let colon = (All-head (IsWritten spelled) e es w).colon in
      get_member-put_other key (spelled e.0) (member_data spelled e.1) (with_defined spelled es ms) (λ same. let is : has_colon key ≡ true = ap has_colon same ∙ colon in cc)
      ∙ past_defined key plain es (All-tail (IsWritten spelled) e es w) ms

  defined_ascends : (es : List (QName × Member)) (ms : Members) → Ascends ms → Ascends (with_defined spelled es ms)
  defined_ascends [] ms h = h
  defined_ascends (e ∷ es) ms h = ascends_put (spelled e.0) (member_data spelled e.1) (with_defined spelled es ms) (defined_ascends es ms h)

  defined_back : (es : List (QName × Member)) → All (IsWritten spelled) es → (ms : Members) → Ascends ms → defined_in ms ≡ [] → defined_in (with_defined spelled es ms) ≡ defined_given spelled es
  defined_back [] w ms h none = none
  defined_back (e ∷ es) w ms h none =
      let we = All-head (IsWritten spelled) e es w in
      let key : (has_colon (spelled e.0) && is_utf8 (spelled e.0)) ≡ true = and_from (has_colon (spelled e.0)) (is_utf8 (spelled e.0)) we.colon (is_utf8-from_IsUtf8 (spelled e.0) we.utf8) in
      defined_put (spelled e.0) (member_data spelled e.1) (with_defined spelled es ms) key (defined_ascends es ms h)
      ∙ ap (λ g. with_given (spelled e.0) g (defined_in (with_defined spelled es ms))) we.member
      ∙ ap (with_given (spelled e.0) (member_given spelled e.1)) (defined_back es (All-tail (IsWritten spelled) e es w) ms h none)

  defined_known : (es : List (QName × Member)) → All (IsWritten spelled) es → (ms : Members) → any_member (is_unknown core_keys) ms ≡ false → any_member (is_unknown core_keys) (with_defined spelled es ms) ≡ false
  defined_known [] w ms h = h
  defined_known (e ∷ es) w ms h =
      let colon = (All-head (IsWritten spelled) e es w).colon in
      known_put core_keys (spelled e.0) (member_data spelled e.1) (with_defined spelled es ms) (rw colon refl) (defined_known es (All-tail (IsWritten spelled) e es w) ms h)

-- ---- all dimensions

-- the core dimensions have UTF-8 texts, and W holds of each taxonomy-defined one
pub record HasTexts (W : QName × Member → Type 0) (spelled : QName → List ℕ) (d : DimensionSet) : Type 0 where
  pub concept : IsUtf8 (spelled d.concept)
  pub entity : IfSome (option_spelled spelled d.entity) IsUtf8
  pub language : IfSome d.language IsUtf8
  pub period : IfSome (period_text d.period) IsUtf8
  pub unit : IfSome (option_unit_text spelled d.unit) IsUtf8
  pub members : All W d.members

dimensions_back : (spelled : QName → List ℕ) (d : DimensionSet) → HasTexts (IsWritten spelled) spelled d → dimension_parts (dimension_members spelled d) ≡ dimensions_given spelled d
dimensions_back spelled d h =
    let e = option_spelled spelled d.entity in
    let l = d.language in
    let p = period_text d.period in
    let u = option_unit_text spelled d.unit in
    let c = spelled d.concept in
    let past = λ (key : List ℕ) (plain : has_colon key ≡ false). past_defined spelled key plain d.members h.members (core e l p u c) in
    let concept = ap given_of (past (codes "concept") refl ∙ at_concept e l p u c) ∙ given_text c h.concept in
    let entity = ap given_of (past (codes "entity") refl ∙ at_entity e l p u c) ∙ option_back e h.entity in
    let period = ap given_of (past (codes "period") refl ∙ at_period e l p u c) ∙ option_back p h.period in
    let unit = ap given_of (past (codes "unit") refl ∙ at_unit e l p u c) ∙ option_back u h.unit in
    let language = ap given_of (past (codes "language") refl ∙ at_language e l p u c) ∙ option_back l h.language in
    let note = ap given_of (past (codes "noteId") refl ∙ at_note e l p u c) in
    let defined = defined_back spelled d.members h.members (core e l p u c) (core_ascends e l p u c) (core_undefined e l p u c) in
    let unknown = defined_known spelled d.members h.members (core e l p u c) (core_known e l p u c) in
    λ i. record { concept = concept i; entity = entity i; period = period i; unit = unit i; language = language i; note = note i; defined = defined i; unknown = unknown i }

-- ---- the object

shape : (spelled : QName → List ℕ) (v : Value) (ms : Members) → parts_of (with_decimals spelled v (put (codes "dimensions") (object ms) (put (codes "value") (value_data spelled v) no_members))) ≡ record { value = given (value_data spelled v); decimals = decimals_given spelled v; dimensions = Some (dimension_parts ms); linked = false; misshapen = false; unknown = false }
shape spelled (Number units (Some (pos d))) ms = refl
shape spelled v ms = refl

entity_texts : (bs : List Binding) (spelled : QName → List ℕ) (n : Option QName) → EntityFits n → IfSome n (SpellsName bs spelled) → IfSome (option_spelled spelled n) IsUtf8
entity_texts bs spelled None fits s = tt
entity_texts bs spelled (Some n) fits s = spelled_utf8 bs spelled n s fits.utf8

language_texts : (kind : ConceptKind) (l : Option (List ℕ)) → LanguageFits kind l → IfSome l IsUtf8
language_texts kind None fits = tt
language_texts kind (Some l) fits = language_utf8 l fits.form

unit_texts : (bs : List Binding) (spelled : QName → List ℕ) (kind : ConceptKind) (m : Option Measures) → UnitFits kind m → IfSome m (SpellsMeasures bs spelled) → IfSome (option_unit_text spelled m) IsUtf8
unit_texts bs spelled kind None fits s = tt
unit_texts bs spelled kind (Some m) fits s =
    unit_utf8 spelled m
    (λ k d within. spelled_utf8 bs spelled _ (s.numerators k d within) (fits.numerators k d within).utf8)
    (λ k d within. spelled_utf8 bs spelled _ (s.denominators k d within) (fits.denominators k d within).utf8)

one_written : (sheet : Sheet) (bs : List Binding) (spelled : QName → List ℕ) (e : QName × Member) → DimensionFits sheet e → SpellsDimension bs spelled e → IsWritten spelled e
one_written sheet bs spelled e fits s = record {
  colon = spelled_colon bs spelled e.0 s.name;
  utf8 = spelled_utf8 bs spelled e.0 s.name fits.name.utf8;
  member = member_back bs spelled fits.kind e.1 fits.member s.member;
}

pub has_texts : (W : QName × Member → Type 0) (sheet : Sheet) (bs : List Binding) (spelled : QName → List ℕ) (f : Fact) → FactFits sheet f → SpellsFact bs spelled f
    → ((e : QName × Member) → DimensionFits sheet e → SpellsDimension bs spelled e → W e) → HasTexts W spelled f.dimensions
has_texts W sheet bs spelled f fits s written = record {
  concept = spelled_utf8 bs spelled f.dimensions.concept s.concept fits.concept.utf8;
  entity = entity_texts bs spelled f.dimensions.entity fits.entity s.entity;
  language = language_texts fits.kind f.dimensions.language fits.language;
  period = period_utf8 f.dimensions.period fits.set.period;
  unit = unit_texts bs spelled fits.kind f.dimensions.unit fits.unit s.unit;
  members = λ k d within. written _ (fits.members k d within) (s.members k d within);
}

pub parts_back : FactObjectHasParts
parts_back sheet bs spelled f fits s =
    let texts = has_texts (IsWritten spelled) sheet bs spelled f fits s (one_written sheet bs spelled) in
    let value = value_back bs spelled fits.kind f.value fits.value s.value in
    let dimensions = dimensions_back spelled f.dimensions texts in
    ap Some (shape spelled f.value (dimension_members spelled f.dimensions) ∙ (λ i. record { value = value i; decimals = decimals_given spelled f.value; dimensions = Some (dimensions i); linked = false; misshapen = false; unknown = false }))

-- ---- The object of a written fact is plain JSON with UTF-8 strings and keys, at most two levels deep.

pub record AreKept (ms : Members) (n : ℕ) : Type 0 where
  pub plain : MembersArePlain ms
  pub utf8 : MembersHaveUtf8 ms
  pub shallow : members_depth ms ≤ n

pub kept_more : (k : List ℕ) (d : Data) (ms : Members) (n : ℕ) → IsBefore k ms → IsUtf8 k → IsPlainJson d n → AreKept ms n → AreKept (member k d ms) n
kept_more k d ms n before utf8 here there = record {
  plain = (here.plain, before, there.plain);
  utf8 = (utf8, here.utf8, there.utf8);
  shallow = omega (arith, here.shallow, there.shallow);
}

kept_first : (k : List ℕ) (d : Data) (ms : Members) (n : ℕ) → AreKept (member k d ms) n → IsPlainJson d n
kept_first k d ms n h = record { plain = h.plain.0; utf8 = h.utf8.1; shallow = omega (arith, h.shallow) }

kept_rest : (k : List ℕ) (d : Data) (ms : Members) (n : ℕ) → AreKept (member k d ms) n → AreKept ms n
kept_rest k d ms n h = record { plain = h.plain.2; utf8 = h.utf8.2; shallow = omega (arith, h.shallow) }

kept_put : (k : List ℕ) (d : Data) (ms : Members) (n : ℕ) → IsUtf8 k → IsPlainJson d n → AreKept ms n → AreKept (put k d ms) n
kept_put k d no_members n utf8 here h = kept_more k d no_members n tt utf8 here h
kept_put k d (member l e ms) n utf8 here h =
    elim (slice_cmp nat_cmp k l) as (λ o. slice_cmp nat_cmp k l ≡ o → AreKept (match_ordering o (member k d (member l e ms)) (member l d ms) (member l e (put k d ms))) n) [
      | Less ↦ λ o. kept_more k d (member l e ms) n (o, before_all k l ms o h.plain.1) utf8 here h
      | Equal ↦ λ o. kept_more l d ms n h.plain.1 h.utf8.0 here (kept_rest l e ms n h)
      | Greater ↦ λ o. kept_more l e (put k d ms) n (before_put l k d ms (nat_list_cmp_total.antisymm l k ∙ ap ordering_reverse o) h.plain.1) h.utf8.0 (kept_first l e ms n h) (kept_put k d ms n utf8 here (kept_rest l e ms n h))
    ] refl

pub none_kept : (n : ℕ) → AreKept no_members n
none_kept n = record { plain = tt; utf8 = tt; shallow = omega arith }

pub text_kept : (t : List ℕ) (n : ℕ) → IsUtf8 t → IsPlainJson (string t) n
text_kept t n utf8 = record { plain = tt; utf8 = utf8; shallow = omega arith }

pub object_kept : (ms : Members) (n : ℕ) → AreKept ms n → IsPlainJson (object ms) (suc n)
object_kept ms n are = record { plain = are.plain; utf8 = are.utf8; shallow = omega (arith, are.shallow) }

kept_text : (k : List ℕ) (t : Option (List ℕ)) (ms : Members) (n : ℕ) → IsUtf8 k → IfSome t IsUtf8 → AreKept ms n → AreKept (put_text k t ms) n
kept_text k None ms n utf8 here h = h
kept_text k (Some t) ms n utf8 here h = kept_put k (string t) ms n utf8 (text_kept t n here) h

member_kept : (bs : List Binding) (spelled : QName → List ℕ) (kind : DimensionKind) (m : Member) → MemberFits kind m → SpellsMember bs spelled m → IsPlainJson (member_data spelled m) 0
member_kept bs spelled Explicit (MemberName n) fits s = text_kept (spelled n) 0 (spelled_utf8 bs spelled n s fits.utf8)
member_kept bs spelled Typed (MemberText t) fits s = text_kept t 0 fits
member_kept bs spelled Typed NoMember fits s = record { plain = tt; utf8 = tt; shallow = omega arith }
member_kept bs spelled kind m fits s = absurd fits

record IsKeptDimension (spelled : QName → List ℕ) (e : QName × Member) : Type 0 where
  key : IsUtf8 (spelled e.0)
  member : IsPlainJson (member_data spelled e.1) 0

defined_kept : (spelled : QName → List ℕ) (es : List (QName × Member)) (ms : Members) → All (IsKeptDimension spelled) es → AreKept ms 0 → AreKept (with_defined spelled es ms) 0
defined_kept spelled [] ms w h = h
defined_kept spelled (e ∷ es) ms w h =
    let we = All-head (IsKeptDimension spelled) e es w in
    kept_put (spelled e.0) (member_data spelled e.1) (with_defined spelled es ms) 0 we.key we.member (defined_kept spelled es ms (All-tail (IsKeptDimension spelled) e es w) h)

dimensions_kept : (spelled : QName → List ℕ) (d : DimensionSet) → HasTexts (IsKeptDimension spelled) spelled d → AreKept (dimension_members spelled d) 0
dimensions_kept spelled d h =
    defined_kept spelled d.members _ h.members
    (kept_text (codes "entity") (option_spelled spelled d.entity) _ 0 (IsUtf8-are_ascii _ refl) h.entity
    (kept_text (codes "language") d.language _ 0 (IsUtf8-are_ascii _ refl) h.language
    (kept_text (codes "period") (period_text d.period) _ 0 (IsUtf8-are_ascii _ refl) h.period
    (kept_text (codes "unit") (option_unit_text spelled d.unit) _ 0 (IsUtf8-are_ascii _ refl) h.unit
    (kept_put (codes "concept") (string (spelled d.concept)) no_members 0 (IsUtf8-are_ascii _ refl) (text_kept (spelled d.concept) 0 h.concept) (none_kept 0))))))

value_kept : (bs : List Binding) (spelled : QName → List ℕ) (kind : ConceptKind) (v : Value) → ValueFits kind v → SpellsValue bs spelled v → IsPlainJson (value_data spelled v) 1
value_kept bs spelled kind Nil fits s = record { plain = tt; utf8 = tt; shallow = omega arith }
value_kept bs spelled Numeric (Number units places) fits s = text_kept (plain units) 1 (plain_utf8 units fits.0)
value_kept bs spelled Text (AText t) fits s = text_kept t 1 fits
value_kept bs spelled Name (AName n) fits s = text_kept (spelled n) 1 (spelled_utf8 bs spelled n s fits.utf8)
value_kept bs spelled kind v fits s = absurd fits

few_whole : (d : ℤ) → is_finite_decimals d ≡ true → IsWhole (of_integer d)
few_whole (pos n) h = omega (arith, leb-true n (unsigned_abs MOST_DECIMALS) h)
few_whole (negsuc n) h = omega (arith, leb-true (unsigned_abs (negsuc n)) (unsigned_abs MOST_DECIMALS) h)

decimals_kept : (d : ℤ) → is_finite_decimals d ≡ true → IsPlainJson (number (of_integer d)) 1
decimals_kept d h = record { plain = few_whole d h; utf8 = tt; shallow = omega arith }

with_decimals_kept : (spelled : QName → List ℕ) (kind : ConceptKind) (v : Value) (ms : Members) → ValueFits kind v → AreKept ms 1 → AreKept (with_decimals spelled v ms) 1
with_decimals_kept spelled Numeric (Number units (Some d)) ms fits h = kept_put (codes "decimals") (number (of_integer d)) ms 1 (IsUtf8-are_ascii _ refl) (decimals_kept d fits.1) h
with_decimals_kept spelled x (Number units (Some d)) ms fits h = absurd fits
with_decimals_kept spelled kind v ms fits h = h

pub fact_plain : FactObjectIsPlain
fact_plain sheet bs spelled f fits s =
    let texts = has_texts (IsKeptDimension spelled) sheet bs spelled f fits s (λ e fit says. record { key = spelled_utf8 bs spelled e.0 says.name fit.name.utf8; member = member_kept bs spelled fit.kind e.1 fit.member says.member }) in
    let of_dimensions = object_kept (dimension_members spelled f.dimensions) 0 (dimensions_kept spelled f.dimensions texts) in
    let of_value : AreKept (put (codes "value") (value_data spelled f.value) no_members) 1 = kept_put (codes "value") (value_data spelled f.value) no_members 1 (IsUtf8-are_ascii _ refl) (value_kept bs spelled fits.kind f.value fits.value s.value) (none_kept 1) in
    object_kept (fact_members spelled f) 1 (with_decimals_kept spelled fits.kind f.value _ fits.value (kept_put (codes "dimensions") (object (dimension_members spelled f.dimensions)) (put (codes "value") (value_data spelled f.value) no_members) 1 (IsUtf8-are_ascii _ refl) of_dimensions of_value))
