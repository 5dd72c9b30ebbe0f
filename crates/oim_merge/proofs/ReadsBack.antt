-- The text of a body that fits a sheet is read as the document with the body's facts and references.
use Rattle.oim_merge.proofs.Shared.{◌≡◌, ℕ, List, [], ◌∷◌, ◌++◌, true, false, cond, Option, Some, None, ◌+◌, Ok, Err, refl, sym, ap, subst, ◌≢◌, ◌∙◌, codes, map, arith, get_or, IfSome, option_map, All, Bool, IsTrue, ◌<◌, ◌↔◌, ⊤, nat_lt, not, find, list_all, bytes_eq, IsAscii, is_utf8, Binding, uri_of, Value, AName, Fact, and_parts, false≢true, nat_tests, is_utf8-from_IsUtf8, IsUtf8-from_ascii, All-head, All-tail, Data, string, array, object, Members, no_members, member, level_cmp, level_entry, Level, Unique, AllLevel, is_lt, level_of, any_member, given, text, values, json, Sheet, Document, Refusal, Body, Fits, each_by_there, features_member, identifier, members_before, members_by, name_text, prefix, text_items, tree_declaring, xbrl_member, CanonicalReadsBack, EarlierReadsBack, IsHeldTo, LeastLevelIsDeclared, document_at, EarlierIsNotCanonical, within_limit}
use Rattle.oim_names.specs.QName.{QName}
use Rattle.oim_dims.specs.Unit.{Measures}
use Rattle.oim_dims.specs.declared.member.Member.{Member}
use Rattle.oim_dims.specs.declared.member.Member.TheVariants.{Name as MemberName}
use Rattle.oim_report.specs.ReadBack.{SpellsDimension, SpellsFact, SpellsMeasures, SpellsMember, SpellsName, SpellsValue}
use Rattle.std.proofs.lemmas.Str.Ascii.{IsAscii-nil, IsAscii-cons}
use Rattle.serde_json.specs.Written.{compact_text}
use Rattle.oim_names.specs.Expansion.{reserved_uri}
use Rattle.oim_names.specs.declared.reason.Reason.TheVariants.{DisallowedDuplicates}
use Rattle.oim_report.specs.FactFits.{FactFits, IsNamespace}
use Rattle.oim_report.specs.FactObject.{fact_object}
use Rattle.oim_report.specs.Namespaces.{binds_nothing, bindings_in}
use Rattle.oim_report.specs.Holds.{document_refusal}
use Rattle.oim_report.specs.Info.{declarations, document_type, level_said, said_level, said_references, said_reference}
use Rattle.oim_report.specs.References.{IsKeptReference}
use Rattle.oim_report.specs.Outcome.{all_or_first, at, fact_outcome, facts_said, tree_outcome, unless_above, outcome}
use Rattle.oim_report.specs.Refusal.{map_ok}
use Rattle.oim_report.specs.declared.place.Place.TheVariants.{Document as AtDocument}
use Rattle.oim_report.proofs.DocumentHolds.{document_least}
use Rattle.oim_report.proofs.ReadFact.{fact_back}
use Rattle.oim_report.proofs.TextUtf8.{object_text_back}
use Rattle.oim_report.specs.PlainJson.{IsPlainJson}
use Rattle.oim_write.specs.Uris.{uris}
use Rattle.oim_write.specs.Bytes.{canonical, earlier}
use Rattle.oim_write.specs.Prefixes.{bindings_of}
use Rattle.oim_write.proofs.Namespaces.{uris_are_namespaces}
use Rattle.oim_write.proofs.PlainTrees.{trees_are_plain}
use Rattle.oim_write.proofs.SpelledFacts.{facts_are_spelled, prefix_is_part}
use Rattle.oim_write.proofs.FirstKeys.{behind_type, earlier_letter, present_letter}
use Rattle.oim_report.proofs.JsonTexts.{given_text}

-- ---- further bindings at the end do not change how earlier prefixes are resolved

found_before_more : (bs more : List Binding) (p u : List ℕ) → uri_of bs p ≡ Some u → uri_of (bs ++ more) p ≡ Some u
found_before_more [] more p u h = absurd (cc)
found_before_more (b ∷ bs) more p u h =
    elim (bytes_eq b.prefix p) as (λ t. option_map (λ (c : Binding). c.uri) (cond t (Some b) (find (λ (c : Binding). bytes_eq c.prefix p) bs)) ≡ Some u → option_map (λ (c : Binding). c.uri) (cond t (Some b) (find (λ (c : Binding). bytes_eq c.prefix p) (bs ++ more))) ≡ Some u) [
      | true ↦ λ here. here
      | false ↦ λ later. found_before_more bs more p u later
    ] h

module _ (bs more : List Binding) (spelled : QName → List ℕ) where
  name_by_more : (n : QName) → SpellsName bs spelled n → SpellsName (bs ++ more) spelled n
  name_by_more n h = record { prefix = h.prefix; filled = h.filled; simple = h.simple; bound = found_before_more bs more h.prefix n.uri h.bound; text = h.text }

  entity_by_more : (e : Option QName) → IfSome e (SpellsName bs spelled) → IfSome e (SpellsName (bs ++ more) spelled)
  entity_by_more None h = tt
  entity_by_more (Some n) h = name_by_more n h

  unit_by_more : (m : Option Measures) → IfSome m (SpellsMeasures bs spelled) → IfSome m (SpellsMeasures (bs ++ more) spelled)
  unit_by_more None h = tt
  unit_by_more (Some m) h = record {
    numerators = λ k d within. name_by_more _ (h.numerators k d within);
    denominators = λ k d within. name_by_more _ (h.denominators k d within);
  }

  member_by_more : (m : Member) → SpellsMember bs spelled m → SpellsMember (bs ++ more) spelled m
  member_by_more (MemberName n) h = name_by_more n h
  member_by_more m h = tt

  dimension_by_more : (e : QName × Member) → SpellsDimension bs spelled e → SpellsDimension (bs ++ more) spelled e
  dimension_by_more e h = record { name = name_by_more e.0 h.name; member = member_by_more e.1 h.member }

  value_by_more : (v : Value) → SpellsValue bs spelled v → SpellsValue (bs ++ more) spelled v
  value_by_more (AName n) h = name_by_more n h
  value_by_more v h = tt

  pub spelled_by_more : (f : Fact) → SpellsFact bs spelled f → SpellsFact (bs ++ more) spelled f
  spelled_by_more f h = record {
    concept = name_by_more f.dimensions.concept h.concept;
    entity = entity_by_more f.dimensions.entity h.entity;
    unit = unit_by_more f.dimensions.unit h.unit;
    members = λ k d within. dimension_by_more _ (h.members k d within);
    value = value_by_more f.value h.value;
  }

-- ---- reading a text

reference_back : (r : List ℕ) → IsKeptReference r → said_reference None (string r) ≡ Some r
reference_back r is = rw (is.utf8, is.kept, is.short) refl

references_back : (rs : List (List ℕ)) → All IsKeptReference rs → said_references None (text_items rs) ≡ Some rs
references_back [] are = refl
references_back (r ∷ rs) are = rw (reference_back r (All-head IsKeptReference r rs are), references_back rs (All-tail IsKeptReference r rs are)) refl

facts_back : (sheet : Sheet) (bs : List Binding) (key : Fact → List ℕ) (spelled : QName → List ℕ) (fs : List Fact) (n : ℕ) →
    All (FactFits sheet) fs → All (SpellsFact bs spelled) fs →
    all_or_first n (map (fact_outcome sheet bs) (values (members_by key (fact_object spelled) fs))) ≡ Ok fs
facts_back sheet bs key spelled [] n fit spell = refl
facts_back sheet bs key spelled (f ∷ fs) n fit spell =
    rw (fact_back sheet bs spelled f (All-head (FactFits sheet) f fs fit) (All-head (SpellsFact bs spelled) f fs spell)).outcome
    (ap (map_ok (λ gs. f ∷ gs)) (facts_back sheet bs key spelled fs (n + 1) (All-tail (FactFits sheet) f fs fit) (All-tail (SpellsFact bs spelled) f fs spell)))

none_above : (l : Level) → is_lt (level_cmp l l) ≡ false
none_above Unique = refl
none_above l = refl

none_above_all : (found : Level) → is_lt (level_cmp AllLevel found) ≡ false
none_above_all Unique = refl
none_above_all found = refl

small_byte : (c : ℕ) → nat_lt c 128 ≡ true → c < 128
small_byte c h = grind (arith, nat_tests)

ascii : (t : List ℕ) → list_all (λ c. nat_lt c 128) t ≡ true → IsAscii t
ascii [] h = IsAscii-nil
ascii (c ∷ cs) h = let both = and_parts (nat_lt c 128) (list_all (λ d. nat_lt d 128) cs) h in IsAscii-cons c cs (small_byte c both.0) (ascii cs both.1)

type_said : is_utf8 document_type ≡ true
type_said = is_utf8-from_IsUtf8 document_type (IsUtf8-from_ascii document_type (ascii document_type refl))

-- ---- the level

-- the declared level; `all` if no level is declared
abbrev declared_level : Option Level → Level
declared_level None = AllLevel
declared_level (Some l) = l

ascii_given : (t : List ℕ) → list_all (λ c. nat_lt c 128) t ≡ true → given (string t) ≡ text t
ascii_given t h = given_text t (IsUtf8-from_ascii t (ascii t h))

level_given : (l : Level) → said_level (given (string (level_entry l).text) ∷ []) ≡ Some l
level_given Unique = ap (λ g. said_level (g ∷ [])) (ascii_given (codes "none") refl)
level_given l = ap (λ g. said_level (g ∷ [])) (ascii_given (level_entry l).text refl)

level_found : (bs : List Binding) → uri_of bs (codes "xbrl") ≡ Some reserved_uri → (l : Level) → said_level (declarations bs (member (codes "xbrl:allowedDuplicates") (string (level_entry l).text) no_members)) ≡ Some l
level_found bs bound l = rw bound (level_given l)

-- ---- the report object

abbrev report_object : Option Level → Members → List (List ℕ) → Members → Data
report_object declared namespaces references facts =
    object (member (codes "documentInfo") (
    object (member (codes "documentType") (string document_type) (
    features_member declared (
    member (codes "namespaces") (object namespaces) (
    member (codes "taxonomy") (array (text_items references)) no_members))))) (
    member (codes "facts") (object facts) no_members))

-- if a level is declared, the prefix of its feature is bound
abbrev BindsFeature : Option Level → List Binding → Type 0
BindsFeature None bs = ⊤
BindsFeature (Some l) bs = uri_of bs (codes "xbrl") ≡ Some reserved_uri

abbrev Accepts : Option Level → Type 0
Accepts declared =
    (namespaces : Members) (references : List (List ℕ)) (facts : Members) →
    any_member binds_nothing namespaces ≡ false → All IsKeptReference references → BindsFeature declared (bindings_in namespaces) →
    (document_refusal (report_object declared namespaces references facts) ≡ None) × (level_said (report_object declared namespaces references facts) ≡ Some (declared_level declared))

accepts : (declared : Option Level) → Accepts declared
accepts None namespaces references facts binds are bound =
    (sym (document_least (report_object None namespaces references facts)) ∙ rw (binds, references_back references are, type_said) refl, refl)
accepts (Some l) namespaces references facts binds are bound =
    let said = level_found (bindings_in namespaces) bound l in
    (sym (document_least (report_object (Some l) namespaces references facts)) ∙ rw (binds, references_back references are, type_said, said) refl, said)

object_back : (sheet : Sheet) (declared : Option Level) (namespaces : Members) (references : List (List ℕ)) (key : Fact → List ℕ) (spelled : QName → List ℕ) (facts : List Fact) →
    any_member binds_nothing namespaces ≡ false → All IsKeptReference references → BindsFeature declared (bindings_in namespaces) → All (FactFits sheet) facts → All (SpellsFact (bindings_in namespaces) spelled) facts →
    tree_outcome sheet (Some (report_object declared namespaces references (members_by key (fact_object spelled) facts))) ≡ unless_above (level_of facts) (record { facts = facts; references = references; level = declared_level declared })
object_back sheet None namespaces references key spelled facts binds are bound fit spell =
    let fs : Members = members_by key (fact_object spelled) facts in
    let both = accepts None namespaces references fs binds are bound in
    let read : facts_said sheet (bindings_in namespaces) fs ≡ Ok facts = facts_back sheet (bindings_in namespaces) key spelled facts 1 fit spell in
    rw (both.0, read, references_back references are) refl
object_back sheet (Some l) namespaces references key spelled facts binds are bound fit spell =
    let fs : Members = members_by key (fact_object spelled) facts in
    let both = accepts (Some l) namespaces references fs binds are bound in
    let read : facts_said sheet (bindings_in namespaces) fs ≡ Ok facts = facts_back sheet (bindings_in namespaces) key spelled facts 1 fit spell in
    rw (both.0, read, references_back references are, both.1) refl

-- ---- the namespaces

reserved_given : given (string reserved_uri) ≡ text reserved_uri
reserved_given = ascii_given reserved_uri refl

not_empty : (u : List ℕ) → u ≢ [] → bytes_eq u [] ≡ false
not_empty [] h = absurd (h refl)
not_empty (c ∷ cs) h = refl

-- the bindings after those of the names' URIs: the binding of `xbrl` if a level is declared, otherwise none
abbrev last_bindings : Option Level → List Binding
last_bindings None = []
last_bindings (Some l) = (record { prefix = codes "xbrl"; uri = reserved_uri }) ∷ []

binds_last : (declared : Option Level) → any_member binds_nothing (xbrl_member declared) ≡ false
binds_last None = refl
binds_last (Some l) = rw reserved_given refl

binds_all : (declared : Option Level) (us vs : List (List ℕ)) → All IsNamespace vs → any_member binds_nothing (members_before (prefix us) string vs (xbrl_member declared)) ≡ false
binds_all declared us [] are = binds_last declared
binds_all declared us (v ∷ vs) are =
    let first = All-head IsNamespace v vs are in
    rw (prefix_is_part us v, given_text v first.utf8, not_empty v first.filled, binds_all declared us vs (All-tail IsNamespace v vs are)) refl

bound_last : (declared : Option Level) → bindings_in (xbrl_member declared) ≡ last_bindings declared
bound_last None = refl
bound_last (Some l) = rw reserved_given refl

bound_all : (declared : Option Level) (us vs : List (List ℕ)) → All IsNamespace vs → bindings_in (members_before (prefix us) string vs (xbrl_member declared)) ≡ map (λ u. record { prefix = prefix us u; uri = u }) vs ++ last_bindings declared
bound_all declared us [] are = bound_last declared
bound_all declared us (v ∷ vs) are = rw (given_text v (All-head IsNamespace v vs are).utf8, bound_all declared us vs (All-tail IsNamespace v vs are)) refl

xbrl_found : (us vs : List (List ℕ)) → uri_of (map (λ u. record { prefix = prefix us u; uri = u }) vs ++ (record { prefix = codes "xbrl"; uri = reserved_uri }) ∷ []) (codes "xbrl") ≡ Some reserved_uri
xbrl_found us [] = refl
xbrl_found us (v ∷ vs) = xbrl_found us vs

feature_bound : (declared : Option Level) (us : List (List ℕ)) → BindsFeature declared (bindings_of us ++ last_bindings declared)
feature_bound None us = tt
feature_bound (Some l) us = xbrl_found us us

-- ---- the whole

read_back : (sheet : Sheet) (b : Body) (declared : Option Level) → IsPlainJson (tree_declaring declared b) 4 → json (compact_text (tree_declaring declared b)) ≡ Some (tree_declaring declared b)
read_back sheet b declared plain = object_text_back _ (record { plain = plain.plain; utf8 = plain.utf8; shallow = omega (arith, plain.shallow) })

-- the text of a body that fits a sheet is read as the document of the body, unless the level of the facts is above the
-- declared level
declared_reads_back : (sheet : Sheet) (b : Body) (declared : Option Level) → Fits sheet b → outcome sheet (compact_text (tree_declaring declared b)) ≡ unless_above (level_of b.facts) (document_at (declared_level declared) b)
unfolding outcome
declared_reads_back sheet b declared fits =
    let us : List (List ℕ) = uris b.facts in
    let are : All IsNamespace us = uris_are_namespaces sheet b fits in
    let bs : List Binding = bindings_of us ++ last_bindings declared in
    let bound : bindings_in (members_before (prefix us) string us (xbrl_member declared)) ≡ bs = bound_all declared us us are in
    let spell : All (SpellsFact bs (name_text us)) b.facts = each_by_there _ b.facts (λ f there. spelled_by_more (bindings_of us) (last_bindings declared) (name_text us) f (facts_are_spelled b.facts f there)) in
    ap (tree_outcome sheet) (read_back sheet b declared (trees_are_plain sheet b declared fits))
    ∙ object_back sheet declared (members_before (prefix us) string us (xbrl_member declared)) b.references (identifier b.facts) (name_text us) b.facts
    (binds_all declared us us are) fits.references (subst (BindsFeature declared) (sym bound) (feature_bound declared us)) fits.facts (subst (λ cs. All (SpellsFact cs (name_text us)) b.facts) (sym bound) spell)

pub canonical_reads_back : CanonicalReadsBack
unfolding canonical
canonical_reads_back sheet b fits =
    let level : Level = level_of b.facts in
    declared_reads_back sheet b (Some level) fits
    ∙ ap (λ t. cond t (Err (at AtDocument DisallowedDuplicates)) (Ok (document_at level b))) (none_above level)

pub earlier_reads_back : EarlierReadsBack
unfolding earlier
earlier_reads_back sheet b fits =
    declared_reads_back sheet b None fits
    ∙ ap (λ t. cond t (Err (at AtDocument DisallowedDuplicates)) (Ok (document_at AllLevel b))) (none_above_all (level_of b.facts))

-- ---- the strictest level

module _ (d : Document) (r : Refusal) where
  refused_where : (t : Bool) → (cond t (Err r) (Ok d) ≡ Err r) ↔ IsTrue t
  refused_where true = (λ h. refl, λ h. refl)
  refused_where false = (λ h. absurd (cc), λ h. absurd (false≢true h))

  read_where : (t : Bool) → (cond t (Err r) (Ok d) ≡ Ok d) ↔ IsTrue (not t)
  read_where true = (λ h. absurd (cc), λ h. absurd (false≢true h))
  read_where false = (λ h. refl, λ h. refl)

held : (declared found : Level) (b : Body) → IsHeldTo declared found (document_at declared b) (unless_above found (document_at declared b))
held declared found b =
    let d : Document = document_at declared b in
    let r : Refusal = at AtDocument DisallowedDuplicates in
    let above : Bool = is_lt (level_cmp declared found) in
    record {
      refused = refused_where d r above;
      read = subst (λ t. (unless_above found d ≡ Ok d) ↔ IsTrue t) (sym (within_limit declared found)) (read_where d r above);
    }

pub least_level_is_declared : LeastLevelIsDeclared
least_level_is_declared sheet b level fits =
    subst (IsHeldTo level (level_of b.facts) (document_at level b)) (sym (declared_reads_back sheet b (Some level) fits)) (held level (level_of b.facts) b)

pub earlier_is_not_canonical : EarlierIsNotCanonical
earlier_is_not_canonical b c same =
    let letters : 110 ≡ 102 = sym (earlier_letter b) ∙ ap (λ t. get_or t behind_type 0) same ∙ present_letter c in
    absurd (omega (arith, letters))
