-- Facts that were found in a text, sorted by their identifiers.
use Rattle.oim_report.proofs.Shared.{◌≡◌, ℕ, List, [], ◌∷◌, Bool, false, Option, Some, None, Result, Ok, Err, refl, sym, ap, ◌∙◌, subst, codes, not, is_none, option_and_then, if◌then◌else◌, IfOk, IfErr, IsUtf8, unwrap_or, suc, ◌+◌, ◌++◌, length, drop, take, slice_get, map, true, cond, String, Global, string_bytes, arith, append_assoc, append-nil, string_cmp, Less, Equal, Greater, nat_cmp, is_lt, length-append, or_parts, or_from, false≢true, get_or_from_slice_get, slice_get_within, match_ordering, slice_cmp, insert_entry, FinMap, drop_more, length-map, map-append, Data, object, Members, no_items, put, no_members, member, get, as_array, as_object, read, MemberForm, UnknownMember, DocumentType, Namespace, BaseUrl, TaxonomyUrl, Feature, DisallowedDuplicates, Binding, name_cmp, level_cmp, Level, AllLevel, Fact, AtDocument, Document, Refusal, level_of, info, namespaces_of, bindings_of, taxonomy_of, features_of, facts_of, said_base_url, said_references, declarations, said_level, base_url_said, references_said, level_said, root_keys, info_keys, document_type, document_refusal, json, members, given_of, object_at, any_in, any_member, is_unknown, is_no_object, is_no_array, json_text, without_mark, entries, values, is_text, binds_nothing, bindings_in, map_ok, Sheet, IsPiece, put_all, IsLike, IsOutline, Ascends, IsBefore, append, AreFound, AreRelated, is_above, rise_after, identifiers_in, AreRanks, IsRank, less_is}
use Rattle.oim_report.specs.Outcome.{at, facts_said, document_with, allowed, then_allowed, unless_refused, tree_outcome, outcome, fact_outcome, all_or_first}
use Rattle.oim_report.proofs.DocumentHolds.{document_least, has_misshapen_part, has_other_type, has_unknown_part, info_refusal, shape_refusal}
use Rattle.oim_report.proofs.EachRefusal.{first_holding, first_refusal, none_of}
use Rattle.oim_report.proofs.PutMembers.{before_all, rising_stays}
use Rattle.oim_report.proofs.Texts.{passes}
use Rattle.oim_report.proofs.TextSpans.{take_next}

-- ---- a report that is read in pieces has the outcome of the whole report

module _ (kept fs all : Members) (like : IsLike all kept (Some (object fs))) where
  info_same : (key : List ℕ) → info key (object all) ≡ info key (object kept)
  info_same key = ap (option_and_then (get key)) like.info

  namespaces_same : namespaces_of (object all) ≡ namespaces_of (object kept)
  namespaces_same = ap (option_and_then as_object) (info_same (codes "namespaces"))

  pub bindings_same : bindings_of (object all) ≡ bindings_of (object kept)
  bindings_same = ap (λ o. bindings_in (members o)) namespaces_same

  features_same : features_of (object all) ≡ features_of (object kept)
  features_same = ap (λ o. members (option_and_then as_object o)) (info_same (codes "features"))

  taxonomy_same : taxonomy_of (object all) ≡ taxonomy_of (object kept)
  taxonomy_same = ap (λ o. unwrap_or (option_and_then as_array o) no_items) (info_same (codes "taxonomy"))

  base_same : base_url_said (object all) ≡ base_url_said (object kept)
  base_same = ap (λ o. said_base_url (given_of o)) (info_same (codes "baseURL"))

  pub references_same : references_said (object all) ≡ references_said (object kept)
  references_same = λ i. option_and_then (λ base. said_references base (taxonomy_same i)) (base_same i)

  pub level_same : level_said (object all) ≡ level_said (object kept)
  level_same = λ i. said_level (declarations (bindings_same i) (features_same i))

  pub facts_same : facts_of (object all) ≡ fs
  facts_same = ap (λ o. members (option_and_then as_object o)) like.facts

  info_refusal_same : info_refusal (object all) ≡ info_refusal (object kept)
  info_refusal_same = λ i. first_holding ((any_in binds_nothing (namespaces_same i), Namespace) ∷ (is_none (base_same i), BaseUrl) ∷ (is_none (references_same i), TaxonomyUrl) ∷ (is_none (level_same i), Feature) ∷ [])

  misshapen_same : has_misshapen_part (object kept) ≡ false → has_misshapen_part (object all) ≡ false
  misshapen_same e =
      let p = or_parts _ (is_no_array (info (codes "taxonomy") (object kept))) e in
      let q = or_parts _ (is_no_object (get (codes "facts") (object kept))) p.0 in
      let r = or_parts _ (is_no_object (info (codes "features") (object kept))) q.0 in
      let s = or_parts _ (is_no_object (info (codes "namespaces") (object kept))) r.0 in
      let t = or_parts false (is_none (object_at (codes "documentInfo") (object kept))) s.0 in
      or_from _ _ (or_from _ _ (or_from _ _ (or_from _ _ (or_from false _ refl
      (ap (λ o. is_none (option_and_then as_object o)) like.info ∙ t.1))
      (ap is_no_object (info_same (codes "namespaces")) ∙ s.1))
      (ap is_no_object (info_same (codes "features")) ∙ r.1))
      (ap is_no_object like.facts))
      (ap is_no_array (info_same (codes "taxonomy")) ∙ p.1)

  unknown_same : has_unknown_part (object kept) ≡ false → has_unknown_part (object all) ≡ false
  unknown_same e =
      let p = or_parts (any_member (is_unknown root_keys) kept) (any_in (is_unknown info_keys) (object_at (codes "documentInfo") (object kept))) e in
      or_from _ _ like.known (ap (λ o. any_in (is_unknown info_keys) (option_and_then as_object o)) like.info ∙ p.1)

  type_same : has_other_type (object all) ≡ has_other_type (object kept)
  type_same = ap (λ o. not (is_text document_type (given_of o))) (info_same (codes "documentType"))

three : (a b c : Bool) → first_holding ((a, MemberForm) ∷ (b, UnknownMember) ∷ (c, DocumentType) ∷ []) ≡ None → (a ≡ false) × (b ≡ false) × (c ≡ false)
three false false false e = (refl, refl, refl)
three a b c e = absurd (cc)

not_refused_whole : (kept fs all : Members) → IsLike all kept (Some (object fs)) → document_refusal (object kept) ≡ None → document_refusal (object all) ≡ None
not_refused_whole kept fs all like e =
    let tree = object kept in
    let groups = none_of (shape_refusal tree) _ (document_least tree ∙ e) in
    let info = none_of (info_refusal tree) None groups.1 in
    let each = three (has_misshapen_part tree) (has_unknown_part tree) (has_other_type tree) groups.0 in
    let shape : shape_refusal (object all) ≡ None = λ i. first_holding ((misshapen_same kept fs all like each.0 i, MemberForm) ∷ (unknown_same kept fs all like each.1 i, UnknownMember) ∷ ((type_same kept fs all like ∙ each.2) i, DocumentType) ∷ []) in
    sym (document_least (object all)) ∙ (λ i. first_refusal (shape i ∷ (info_refusal_same kept fs all like ∙ info.0) i ∷ []))

module _ (sheet : Sheet) (bytes : List ℕ) (tree : Data) (kept fs all : Members) (t : tree ≡ object kept) (like : IsLike all kept (Some (object fs))) (reads : json bytes ≡ Some (object all)) (accepted : document_refusal tree ≡ None) where
  facts_decide : (said : Result (List Fact) Refusal) → facts_said sheet (bindings_of tree) fs ≡ said → outcome sheet bytes ≡ then_allowed (map_ok (document_with (object all)) said)
  unfolding outcome
  facts_decide said e =
      let whole = object all in
      let none = not_refused_whole kept fs all like (ap document_refusal (sym t) ∙ accepted) in
      let same : facts_said sheet (bindings_of whole) (facts_of whole) ≡ said = (λ i. facts_said sheet ((bindings_same kept fs all like ∙ ap bindings_of (sym t)) i) (facts_same kept fs all like i)) ∙ e in
      ap (tree_outcome sheet) reads ∙ ap (λ o. unless_refused o (then_allowed (map_ok (document_with whole) (facts_said sheet (bindings_of whole) (facts_of whole))))) none
      ∙ ap (λ o. then_allowed (map_ok (document_with whole) o)) same

  pub whole_refused : (r : Refusal) → facts_said sheet (bindings_of tree) fs ≡ Err r → outcome sheet bytes ≡ Err r
  whole_refused r said = facts_decide (Err r) said

  module _ (facts : List Fact) (references : List (List ℕ)) (level : Level) (said : facts_said sheet (bindings_of tree) fs ≡ Ok facts) (r : references_said tree ≡ Some references) (l : level_said tree ≡ Some level) where
    abbrev whole : Document
    whole = record { facts = facts; references = references; level = level }

    by_level : (above : Bool) → is_lt (level_cmp level (level_of facts)) ≡ above → outcome sheet bytes ≡ (if above then Err (at AtDocument DisallowedDuplicates) else Ok whole)
    by_level above e =
        let refs : references_said (object all) ≡ Some references = references_same kept fs all like ∙ ap references_said (sym t) ∙ r in
        let lev : level_said (object all) ≡ Some level = level_same kept fs all like ∙ ap level_said (sym t) ∙ l in
        let made : document_with (object all) facts ≡ whole = λ i. record { facts = facts; references = unwrap_or (refs i) []; level = unwrap_or (lev i) AllLevel } in
        facts_decide (Ok facts) said ∙ ap allowed made ∙ ap (λ b. if b then Err (at AtDocument DisallowedDuplicates) else Ok whole) e

    pub whole_outcome : is_lt (level_cmp level (level_of facts)) ≡ false → outcome sheet bytes ≡ Ok (record { facts = facts; references = references; level = level })
    whole_outcome within = by_level false within

    pub whole_above : is_lt (level_cmp level (level_of facts)) ≡ true → outcome sheet bytes ≡ Err (at AtDocument DisallowedDuplicates)
    whole_above above = by_level true above

pub if_ok : {A E : Type 0} (r : Result A E) (a : A) (P : A → Type 0) → r ≡ Ok a → IfOk r P → P a
if_ok r a P e h = subst (λ s. IfOk s P) e h

pub if_err : {A E : Type 0} (r : Result A E) (x : E) (P : E → Type 0) → r ≡ Err x → IfErr r P → P x
if_err r x P e h = subst (λ s. IfErr s P) e h

pub json_outline : {A E : Type 0} (r : Result A E) (t : A → Data) (f : A → List ℕ) (bytes text : List ℕ) → IfOk r (λ o. IsOutline text (t o) (f o)) → IsUtf8 text → text ≡ without_mark bytes
    → IfOk r (λ o. (kept : Members) × (t o ≡ object kept) × ((found : Members) → IsPiece (f o) found → (all : Members) × (json bytes ≡ Some (object all)) × IsLike all kept (Some (object found))))
json_outline (Err q) t f bytes text h utf8 e = tt
json_outline (Ok o) t f bytes text h utf8 e = (h.0, h.1, (λ found p. let w = h.2 found p in (w.0, ap json_text (sym e) ∙ passes text (read text) utf8 ∙ w.1, w.2)))

module _ (sheet : Sheet) (bs : List Binding) where
  -- ---- one piece after another

  found_append : (ms ns : Members) (ss ts : List (List ℕ)) (fs gs : List Fact) → AreFound sheet bs ms ss fs → AreFound sheet bs ns ts gs → AreFound sheet bs (append ms ns) (ss ++ ts) (fs ++ gs)
  found_append no_members ns [] ts [] gs h k = k
  found_append (member l d ms) ns (s ∷ ss) ts (f ∷ fs) gs h k = (h.0, h.1, found_append ms ns ss ts fs gs h.2 k)
  found_append ms ns ss ts fs gs h k = absurd h

  pub found_by : (ms : Members) (ss ts : List (List ℕ)) (fs gs : List Fact) → ts ≡ ss → gs ≡ fs → AreFound sheet bs ms ss fs → AreFound sheet bs ms ts gs
  found_by ms ss ts fs gs e f h = subst (λ l. AreFound sheet bs ms l gs) (sym e) (subst (AreFound sheet bs ms ss) (sym f) h)

  -- ---- the facts that the pieces denote

  said_from : (n : ℕ) (ms : Members) (ss : List (List ℕ)) (fs : List Fact) → AreFound sheet bs ms ss fs → all_or_first n (map (fact_outcome sheet bs) (values ms)) ≡ Ok fs
  said_from n no_members [] [] h = refl
  said_from n (member k d ms) (s ∷ ss) (f ∷ fs) h =
      ap (λ o. all_or_first n (o ∷ map (fact_outcome sheet bs) (values ms))) h.1 ∙ ap (map_ok (λ gs. f ∷ gs)) (said_from (n + 1) ms ss fs h.2)
  said_from n ms ss fs h = absurd h

  pub found_said : (ms : Members) (ss : List (List ℕ)) (fs : List Fact) → AreFound sheet bs ms ss fs → facts_said sheet bs ms ≡ Ok fs
  found_said ms ss fs h = said_from 1 ms ss fs h

  -- ---- identifiers that ascend

  both_true : (a b : Bool) → cond a b false ≡ true → (a ≡ true) × (b ≡ true)
  both_true true b e = (refl, e)
  both_true false b e = absurd (false≢true e)

  rise_behind : (k : List ℕ) (ms : Members) (ss : List (List ℕ)) (fs : List Fact) → AreFound sheet bs ms ss fs → rise_after (Some k) ss ≡ true → IsBefore k ms × Ascends ms
  rise_behind k no_members [] [] h e = (tt, tt)
  rise_behind k (member l d ms) (s ∷ ss) (f ∷ fs) h e =
      let t = both_true (is_above (Some k) s) (rise_after (Some s) ss) e in
      let rest = rise_behind l ms ss fs h.2 (ap (λ x. rise_after (Some x) ss) (sym h.0) ∙ t.1) in
      let below : slice_cmp nat_cmp k l ≡ Less = less_is (slice_cmp nat_cmp k l) (ap (λ x. is_lt (slice_cmp nat_cmp k x)) (sym h.0) ∙ t.0) in
      ((below, before_all k l ms below rest.0), rest)
  rise_behind k ms ss fs h e = absurd h

  rises : (ms : Members) (ss : List (List ℕ)) (fs : List Fact) → AreFound sheet bs ms ss fs → rise_after None ss ≡ true → Ascends ms
  rises no_members ss fs h e = tt
  rises (member l d ms) (s ∷ ss) (f ∷ fs) h e = rise_behind l ms ss fs h.2 (ap (λ x. rise_after (Some x) ss) (sym h.0) ∙ e)
  rises (member l d ms) ss fs h e = absurd h

  pub rising_found : (ms : Members) (ss : List (List ℕ)) (fs : List Fact) → AreFound sheet bs ms ss fs → rise_after None ss ≡ true → AreFound sheet bs (put_all ms no_members) ss fs
  rising_found ms ss fs h e = subst (λ l. AreFound sheet bs l ss fs) (sym (rising_stays ms (rises ms ss fs h e))) h

  pub keys_found : (ms : Members) (ss : List (List ℕ)) (fs : List Fact) → AreFound sheet bs ms ss fs → identifiers_in (entries ms) ≡ ss
  keys_found no_members [] [] h = refl
  keys_found (member l d ms) (s ∷ ss) (f ∷ fs) h = λ i. sym h.0 i ∷ keys_found ms ss fs h.2 i
  keys_found ms ss fs h = absurd h

  pub none_found : (ss : List (List ℕ)) (fs : List Fact) → ss ≡ [] → fs ≡ [] → AreFound sheet bs no_members ss fs
  none_found ss fs e f = subst (λ l. AreFound sheet bs no_members l fs) (sym e) (subst (AreFound sheet bs no_members []) (sym f) tt)

  pub found_one : (ms : Members) (ss : List (List ℕ)) (fs : List Fact) (k : List ℕ) (d : Data) (f : Fact) → AreFound sheet bs ms ss fs → fact_outcome sheet bs d ≡ Ok f
      → AreFound sheet bs (append ms (member k d no_members)) (ss ++ k ∷ []) (fs ++ f ∷ [])
  found_one ms ss fs k d f h o = found_append ms (member k d no_members) ss (k ∷ []) fs (f ∷ []) h (refl, o, tt)

  found_length : (ms : Members) (ss : List (List ℕ)) (fs : List Fact) → AreFound sheet bs ms ss fs → length fs ≡ length ss
  found_length no_members [] [] h = refl
  found_length (member l d ms) (s ∷ ss) (f ∷ fs) h = ap suc (found_length ms ss fs h.2)
  found_length ms ss fs h = absurd h

-- ---- items stored by identifier, each as a part of a value

module _ {X V : Type 0} (says : Data → X → Type 0) (part : V → X) where
  abbrev pub AreKept : Members → List (String Global × V) → Type 0
  AreKept ms es = AreRelated says ms (map (λ e. string_bytes e.0) es) (map (λ e. part e.1) es)

  pub kept_put : (k : List ℕ) (d : Data) (s : String Global) (v : V) (ms : Members) (es : List (String Global × V)) → string_bytes s ≡ k → says d (part v) → AreKept ms es → AreKept (put k d ms) (insert_entry string_cmp es s v)
  kept_put k d s v no_members [] e o h = (e, o, tt)
  kept_put k d s v (member l y ms) (x ∷ es) e o h =
      let here = ap (λ z. slice_cmp nat_cmp z (string_bytes x.0)) e ∙ ap (slice_cmp nat_cmp k) h.0 in
      elim (slice_cmp nat_cmp k l) as (λ p. slice_cmp nat_cmp k l ≡ p → AreKept (match_ordering p (member k d (member l y ms)) (member l d ms) (member l y (put k d ms))) (insert_entry string_cmp (x ∷ es) s v)) [
        | Less ↦ λ p. subst (λ q. AreKept (member k d (member l y ms)) (match_ordering q ((s, v) ∷ x ∷ es) ((x.0, v) ∷ es) (x ∷ insert_entry string_cmp es s v))) (sym (here ∙ p)) (e, o, h)
        | Equal ↦ λ p. subst (λ q. AreKept (member l d ms) (match_ordering q ((s, v) ∷ x ∷ es) ((x.0, v) ∷ es) (x ∷ insert_entry string_cmp es s v))) (sym (here ∙ p)) (h.0, o, h.2)
        | Greater ↦ λ p. subst (λ q. AreKept (member l y (put k d ms)) (match_ordering q ((s, v) ∷ x ∷ es) ((x.0, v) ∷ es) (x ∷ insert_entry string_cmp es s v))) (sym (here ∙ p)) (h.0, h.1, kept_put k d s v ms es e o h.2)
      ] refl
  kept_put k d s v ms es e o h = absurd h

-- ---- the steps of the loops

pub goes_on : (last : Option (List ℕ)) (s : List ℕ) (ss : List (List ℕ)) → is_above last s ≡ true → rise_after last (s ∷ ss) ≡ rise_after (Some s) ss
goes_on last s ss e = ap (λ b. cond b (rise_after (Some s) ss) false) e

pub stops : (last : Option (List ℕ)) (s : List ℕ) (ss : List (List ℕ)) → is_above last s ≡ false → rise_after last (s ∷ ss) ≡ false
stops last s ss e = ap (λ b. cond b (rise_after (Some s) ss) false) e

pub at_index : {X : Type 0} (xs : List X) (i : ℕ) (x : X) → slice_get xs i ≡ Some x → drop i xs ≡ x ∷ drop (i + 1) xs
at_index xs i x e = drop_more xs i x (slice_get_within xs i x e) ∙ ap (λ y. y ∷ drop (i + 1) xs) (get_or_from_slice_get xs i x x e)

-- ---- values that are stored one after another

abbrev pub put_entries : {V : Type 0} → List (String Global) → List V → List (String Global × V) → List (String Global × V)
put_entries (s ∷ ss) (v ∷ vs) es = put_entries ss vs (insert_entry string_cmp es s v)
put_entries o vs es = es

pub put_one_more : {V : Type 0} (ss : List (String Global)) (vs : List V) (s : String Global) (v : V) (es : List (String Global × V)) → length vs ≡ length ss → put_entries (ss ++ s ∷ []) (vs ++ v ∷ []) es ≡ insert_entry string_cmp (put_entries ss vs es) s v
put_one_more [] [] s v es l = refl
put_one_more (t ∷ ss) (w ∷ vs) s v es l = put_one_more ss vs s v (insert_entry string_cmp es t w) (omega (arith, l))
put_one_more ss vs s v es l = absurd (omega (arith, l))

pub keys_more : (ids : List (List ℕ)) (i : ℕ) (keys : List (String Global)) (s : String Global) (k : List ℕ) → slice_get ids i ≡ Some k → string_bytes s ≡ k → take i ids ≡ map string_bytes keys → take (i + 1) ids ≡ map string_bytes (keys ++ s ∷ [])
keys_more ids i keys s k here key are =
    take_next ids i k here ∙ (λ j. are j ++ sym key j ∷ []) ∙ sym (map-append string_bytes keys (s ∷ []))

kept_all : {X V : Type 0} (says : Data → X → Type 0) (part : V → X) (ms now : Members) (ss : List (String Global)) (vs : List V) (es : List (String Global × V)) → AreRelated says ms (map string_bytes ss) (map part vs) → AreKept says part now es → AreKept says part (put_all ms now) (put_entries ss vs es)
kept_all says part no_members now [] vs es h k = k
kept_all says part (member l d ms) now (s ∷ ss) (v ∷ vs) es h k = kept_all says part ms (put l d now) ss vs (insert_entry string_cmp es s v) h.2 (kept_put says part l d s v now es h.0 h.1 k)
kept_all says part ms now ss vs es h k = absurd h

none_left : {X : Type 0} (xs front rest : List X) (n : ℕ) → xs ≡ front ++ rest → length xs ≡ n → length front ≡ n → xs ≡ front
none_left xs front [] n e l k = e ∙ append-nil front
none_left xs front (y ∷ ys) n e l k = absurd (let long = ap length e ∙ length-append front (y ∷ ys) in omega (arith, l, k, long))

pub all_kept : {V : Type 0} (fact : V → Fact) (sheet : Sheet) (bs : List Binding) (ms : Members) (ids : List (List ℕ)) (ss : List (String Global)) (fs rest : List Fact) (taken : List V) (es : List (String Global × V)) → AreFound sheet bs ms ids fs → ids ≡ map string_bytes ss → fs ≡ map fact taken ++ rest
    → length taken ≡ length ss → es ≡ put_entries ss taken [] → AreFound sheet bs (put_all ms no_members) (map (λ e. string_bytes e.0) es) (map (λ e. fact e.1) es)
all_kept fact sheet bs ms ids ss fs rest taken es h same e l k =
    let says : Data → Fact → Type 0 = λ d f. fact_outcome sheet bs d ≡ Ok f in
    let keyed : AreFound sheet bs ms (map string_bytes ss) fs = subst (λ is. AreFound sheet bs ms is fs) same h in
    let all = none_left fs (map fact taken) rest (length ss) e (found_length sheet bs ms (map string_bytes ss) fs keyed ∙ length-map ss string_bytes) (length-map taken fact ∙ l) in
    subst (AreKept says fact (put_all ms no_members)) (sym k) (kept_all says fact ms no_members ss taken [] (subst (AreFound sheet bs ms (map string_bytes ss)) all keyed) tt)

pub taken_one : {X V : Type 0} (part : V → X) (xs left old : List X) (taken : List V) (v : V) → xs ≡ map part taken ++ old → old ≡ part v ∷ left → xs ≡ map part (taken ++ v ∷ []) ++ left
taken_one part xs left old taken v e o =
    e ∙ ap (λ l. map part taken ++ l) o ∙ sym (append_assoc (map part taken) (part v ∷ []) left) ∙ ap (λ l. l ++ left) (sym (map-append part taken (v ∷ [])))

pub longer : {V : Type 0} (taken : List V) (ss : List (String Global)) (v : V) (s : String Global) → length taken ≡ length ss → length (taken ++ v ∷ []) ≡ length (ss ++ s ∷ [])
longer taken ss v s l = length-append taken (v ∷ []) ∙ ap (λ n. n + 1) l ∙ sym (length-append ss (s ∷ []))

-- ---- the ranks of the concepts of facts

module _ {K : Type 0} (m : FinMap name_cmp K) where
  pub none_ranked : (fs : List Fact) (rs : List ℕ) → fs ≡ [] → rs ≡ [] → AreRanks m fs rs
  none_ranked fs rs f r = subst (λ l. AreRanks m l rs) (sym f) (subst (AreRanks m []) (sym r) tt)

  pub ranks_append : (fs gs : List Fact) (rs ss : List ℕ) → AreRanks m fs rs → AreRanks m gs ss → AreRanks m (fs ++ gs) (rs ++ ss)
  ranks_append [] gs [] ss h k = k
  ranks_append (f ∷ fs) gs (r ∷ rs) ss h k = (h.0, ranks_append fs gs rs ss h.1 k)
  ranks_append fs gs rs ss h k = absurd h

  pub ranked_by : (fs gs : List Fact) (rs ss : List ℕ) → gs ≡ fs → ss ≡ rs → AreRanks m fs rs → AreRanks m gs ss
  ranked_by fs gs rs ss e k h = subst (λ l. AreRanks m l ss) (sym e) (subst (AreRanks m fs) (sym k) h)

  -- facts that are stored by identifier, each with its rank
  abbrev AreRanked : List (String Global × (Fact × ℕ)) → Type 0
  AreRanked es = AreRanks m (map (λ e. e.1.0) es) (map (λ e. e.1.1) es)

  ranked_put : (s : String Global) (v : Fact × ℕ) (es : List (String Global × (Fact × ℕ))) → IsRank m v.0.dimensions.concept v.1 → AreRanked es → AreRanked (insert_entry string_cmp es s v)
  ranked_put s v [] is h = (is, tt)
  ranked_put s v (x ∷ es) is h =
      elim (string_cmp s x.0) as (λ o. AreRanked (match_ordering o ((s, v) ∷ x ∷ es) ((x.0, v) ∷ es) (x ∷ insert_entry string_cmp es s v))) [
        | Less ↦ (is, h)
        | Equal ↦ (is, h.1)
        | Greater ↦ (h.0, ranked_put s v es is h.1)
      ]

  ranked_all : (ss : List (String Global)) (vs : List (Fact × ℕ)) (fs : List Fact) (rs : List ℕ) (es : List (String Global × (Fact × ℕ))) → AreRanks m (map (λ v. v.0) vs ++ fs) (map (λ v. v.1) vs ++ rs) → AreRanked es → AreRanked (put_entries ss vs es)
  ranked_all [] vs fs rs es h k = k
  ranked_all (s ∷ ss) [] fs rs es h k = k
  ranked_all (s ∷ ss) (v ∷ vs) fs rs es h k = ranked_all ss vs fs rs (insert_entry string_cmp es s v) h.1 (ranked_put s v es h.0 k)

  pub all_ranked : (ss : List (String Global)) (facts fs : List Fact) (ranks rs : List ℕ) (taken : List (Fact × ℕ)) (es : List (String Global × (Fact × ℕ))) → AreRanks m facts ranks → facts ≡ map (λ v. v.0) taken ++ fs → ranks ≡ map (λ v. v.1) taken ++ rs → es ≡ put_entries ss taken [] → AreRanks m (map (λ e. e.1.0) es) (map (λ e. e.1.1) es)
  all_ranked ss facts fs ranks rs taken es h f r k = subst AreRanked (sym k) (ranked_all ss taken fs rs [] (subst (AreRanks m (map (λ v. v.0) taken ++ fs)) r (subst (λ l. AreRanks m l ranks) f h)) tt)
