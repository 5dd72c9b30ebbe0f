-- The members of an object after a member is added.
use Rattle.oim_report.proofs.Shared.{◌≡◌, ◌≢◌, ℕ, List, [], ◌∷◌, Bool, true, false, cond, Option, Some, None, refl, sym, ap, ◌∙◌, option_and_then, subst, option_map, Less, Equal, Greater, Ordering, is_eq, bytes_eq, ◌&&◌, nat_cmp, ⊤, match_ordering, ordering_reverse, slice_cmp, is_utf8, or_parts, or_from, nat_list_cmp_total, tied_itself, exact_bytes, is_eq-slice_cmp, Data, string, Members, no_members, member, put, get_member, of_json, of_members, get_member-put, get_member-put_other, put_text, Given, given, any_member, has_colon, is_unknown, defined_in, is_defined, IsBefore, with_given, Ascends, put_all}
use Rattle.json.specs.Json as j
use Rattle.oim_report.proofs.JoinedMembers.{plus}
use Rattle.oim_report.proofs.Accepted.{and_then_some}

pub before_all : (k l : List ℕ) (ms : Members) → slice_cmp nat_cmp k l ≡ Less → IsBefore l ms → IsBefore k ms
before_all k l no_members less h = tt
before_all k l (member m d ms) less h = (nat_list_cmp_total.trans k l m less h.0, before_all k l ms less h.1)

pub before_put : (l k : List ℕ) (d : Data) (ms : Members) → slice_cmp nat_cmp l k ≡ Less → IsBefore l ms → IsBefore l (put k d ms)
before_put l k d no_members less h = (less, tt)
before_put l k d (member m e ms) less h =
    elim (slice_cmp nat_cmp k m) as (λ o. IsBefore l (match_ordering o (member k d (member m e ms)) (member m d ms) (member m e (put k d ms)))) [
      | Less ↦ (less, h)
      | Equal ↦ h
      | Greater ↦ (h.0, before_put l k d ms less h.1)
    ]

pub ascends_put : (k : List ℕ) (d : Data) (ms : Members) → Ascends ms → Ascends (put k d ms)
ascends_put k d no_members h = (tt, tt)
ascends_put k d (member l e ms) h =
    elim (slice_cmp nat_cmp k l) as (λ o. slice_cmp nat_cmp k l ≡ o → Ascends (match_ordering o (member k d (member l e ms)) (member l d ms) (member l e (put k d ms)))) [
      | Less ↦ λ o. ((o, before_all k l ms o h.0), h)
      | Equal ↦ λ o. h
      | Greater ↦ λ o. (before_put l k d ms (nat_list_cmp_total.antisymm l k ∙ ap ordering_reverse o) h.0, ascends_put k d ms h.1)
    ] refl

before_kept : (key : List ℕ) (g : Given) (ms : Members) → IsBefore key ms → with_given key g (defined_in ms) ≡ (key, g) ∷ defined_in ms
before_kept key g no_members h = refl
before_kept key g (member l e ms) h =
    elim (is_defined l) as (λ b. with_given key g (cond b ((l, given e) ∷ defined_in ms) (defined_in ms)) ≡ (key, g) ∷ cond b ((l, given e) ∷ defined_in ms) (defined_in ms)) [
      | true ↦ ap (λ o. match_ordering o ((key, g) ∷ (l, given e) ∷ defined_in ms) ((l, g) ∷ defined_in ms) ((l, given e) ∷ with_given key g (defined_in ms))) h.0
      | false ↦ before_kept key g ms h.1
    ]

pub defined_put : (key : List ℕ) (d : Data) (ms : Members) → is_defined key ≡ true → Ascends ms → defined_in (put key d ms) ≡ with_given key (given d) (defined_in ms)
defined_put key d no_members is h = ap (λ b. cond b ((key, given d) ∷ []) []) is
defined_put key d (member l e ms) is h =
    elim (slice_cmp nat_cmp key l) as (λ o. slice_cmp nat_cmp key l ≡ o → defined_in (match_ordering o (member key d (member l e ms)) (member l d ms) (member l e (put key d ms))) ≡ with_given key (given d) (defined_in (member l e ms))) [
      | Less ↦ λ o. ap (λ b. cond b ((key, given d) ∷ defined_in (member l e ms)) (defined_in (member l e ms))) is ∙ sym (before_kept key (given d) (member l e ms) (o, before_all key l ms o h.0))
      | Equal ↦ λ o.
          let there : is_defined l ≡ true = ap is_defined (sym (exact_bytes key l o)) ∙ is in
          ap (λ b. cond b ((l, given d) ∷ defined_in ms) (defined_in ms)) there
          ∙ sym (ap (λ b. with_given key (given d) (cond b ((l, given e) ∷ defined_in ms) (defined_in ms))) there ∙ ap (λ r. match_ordering r ((key, given d) ∷ (l, given e) ∷ defined_in ms) ((l, given d) ∷ defined_in ms) ((l, given e) ∷ with_given key (given d) (defined_in ms))) o)
      | Greater ↦ λ o.
          later (is_defined l) l e ms o (defined_put key d ms is h.1)
    ] refl
  where
    later : (b : Bool) (l : List ℕ) (e : Data) (ms : Members) → slice_cmp nat_cmp key l ≡ Greater → defined_in (put key d ms) ≡ with_given key (given d) (defined_in ms)
        → cond b ((l, given e) ∷ defined_in (put key d ms)) (defined_in (put key d ms)) ≡ with_given key (given d) (cond b ((l, given e) ∷ defined_in ms) (defined_in ms))
    later true l e ms o more =
        ap (λ ds. (l, given e) ∷ ds) more
        ∙ sym (ap (λ r. match_ordering r ((key, given d) ∷ (l, given e) ∷ defined_in ms) ((l, given d) ∷ defined_in ms) ((l, given e) ∷ with_given key (given d) (defined_in ms))) o)
    later false l e ms o more = more

pub undefined_put : (key : List ℕ) (d : Data) (ms : Members) → has_colon key ≡ false → defined_in (put key d ms) ≡ defined_in ms
undefined_put key d no_members plain = ap (λ b. cond (b && is_utf8 key) ((key, given d) ∷ []) []) plain
undefined_put key d (member l e ms) plain =
    elim (slice_cmp nat_cmp key l) as (λ o. slice_cmp nat_cmp key l ≡ o → defined_in (match_ordering o (member key d (member l e ms)) (member l d ms) (member l e (put key d ms))) ≡ defined_in (member l e ms)) [
      | Less ↦ λ o. ap (λ b. cond (b && is_utf8 key) ((key, given d) ∷ defined_in (member l e ms)) (defined_in (member l e ms))) plain
      | Equal ↦ λ o.
          let not_there : has_colon l ≡ false = ap has_colon (sym (exact_bytes key l o)) ∙ plain in
          ap (λ b. cond (b && is_utf8 l) ((l, given d) ∷ defined_in ms) (defined_in ms)) not_there ∙ sym (ap (λ b. cond (b && is_utf8 l) ((l, given e) ∷ defined_in ms) (defined_in ms)) not_there)
      | Greater ↦ λ o. ap (λ ds. cond (is_defined l) ((l, given e) ∷ ds) ds) (undefined_put key d ms plain)
    ] refl

pub known_put : (known : List (List ℕ)) (key : List ℕ) (d : Data) (ms : Members) → is_unknown known key d ≡ false → any_member (is_unknown known) ms ≡ false → any_member (is_unknown known) (put key d ms) ≡ false
known_put known key d no_members is h = or_from (is_unknown known key d) false is refl
known_put known key d (member l e ms) is h =
    let b = or_parts (is_unknown known l e) (any_member (is_unknown known) ms) h in
    elim (slice_cmp nat_cmp key l) as (λ o. any_member (is_unknown known) (match_ordering o (member key d (member l e ms)) (member l d ms) (member l e (put key d ms))) ≡ false) [
      | Less ↦ or_from (is_unknown known key d) (any_member (is_unknown known) (member l e ms)) is h
      | Equal ↦ h
      | Greater ↦ or_from (is_unknown known l e) (any_member (is_unknown known) (put key d ms)) b.0 (known_put known key d ms is b.1)
    ]

pub other_key : (name key : List ℕ) → slice_cmp nat_cmp name key ≡ Less → bytes_eq name key ≡ false
other_key name key less = sym (is_eq-slice_cmp name key) ∙ ap is_eq less

pub text_there : (key : List ℕ) (t : Option (List ℕ)) (ms : Members) → get_member key ms ≡ None → get_member key (put_text key t ms) ≡ option_map string t
text_there key None ms none = none
text_there key (Some t) ms none = get_member-put key (string t) ms

pub text_past : (key other : List ℕ) (t : Option (List ℕ)) (ms : Members) → key ≢ other → get_member key (put_text other t ms) ≡ get_member key ms
text_past key other None ms differ = refl
text_past key other (Some t) ms differ = get_member-put_other key other (string t) ms differ

pub text_ascends : (key : List ℕ) (t : Option (List ℕ)) (ms : Members) → Ascends ms → Ascends (put_text key t ms)
text_ascends key None ms h = h
text_ascends key (Some t) ms h = ascends_put key (string t) ms h

pub text_undefined : (key : List ℕ) (t : Option (List ℕ)) (ms : Members) → has_colon key ≡ false → defined_in (put_text key t ms) ≡ defined_in ms
text_undefined key None ms plain = refl
text_undefined key (Some t) ms plain = undefined_put key (string t) ms plain

pub text_known : (known : List (List ℕ)) (key : List ℕ) (t : Option (List ℕ)) (ms : Members) → is_unknown known key (string []) ≡ false → any_member (is_unknown known) ms ≡ false → any_member (is_unknown known) (put_text key t ms) ≡ false
text_known known key None ms is h = h
text_known known key (Some t) ms is h = known_put known key (string t) ms is h

-- ---- members with different keys can be added to an object in any order, with the same result

abbrev cmp : List ℕ → List ℕ → Ordering
cmp k l = slice_cmp nat_cmp k l

flipped : (k l : List ℕ) (o : Ordering) → cmp k l ≡ o → cmp l k ≡ ordering_reverse o
flipped k l o e = nat_list_cmp_total.antisymm l k ∙ ap ordering_reverse e

-- ---- the index at which a member is inserted

put_at : {o : Ordering} (k l : List ℕ) (d e : Data) (ms : Members) → cmp k l ≡ o → put k d (member l e ms) ≡ match_ordering o (member k d (member l e ms)) (member l d ms) (member l e (put k d ms))
put_at k l d e ms h = ap (λ o. match_ordering o (member k d (member l e ms)) (member l d ms) (member l e (put k d ms))) h

-- ---- two keys

below_both : (k l : List ℕ) (d e : Data) (ms : Members) → cmp k l ≡ Less → put k d (put l e ms) ≡ put l e (put k d ms)
below_both k l d e no_members less = put_at k l d e no_members less ∙ sym (put_at l k e d no_members (flipped k l Less less))
below_both k l d e (member m x ms) less =
    let above = flipped k l Less less in
    elim (cmp l m) as (λ o. cmp l m ≡ o → put k d (put l e (member m x ms)) ≡ put l e (put k d (member m x ms))) [
      | Less ↦ λ h.
          let first = nat_list_cmp_total.trans k l m less h in
          ap (put k d) (put_at l m e x ms h) ∙ put_at k l d e (member m x ms) less
          ∙ sym (ap (put l e) (put_at k m d x ms first) ∙ put_at l k e d (member m x ms) above ∙ ap (member k d) (put_at l m e x ms h))
      | Equal ↦ λ h.
          let same = exact_bytes l m h in
          let first : cmp k m ≡ Less = ap (cmp k) (sym same) ∙ less in
          ap (put k d) (put_at l m e x ms h) ∙ put_at k m d e ms first
          ∙ sym (ap (put l e) (put_at k m d x ms first) ∙ put_at l k e d (member m x ms) above ∙ ap (member k d) (put_at l m e x ms h))
      | Greater ↦ λ h.
          ap (put k d) (put_at l m e x ms h)
          ∙ elim (cmp k m) as (λ p. cmp k m ≡ p → put k d (member m x (put l e ms)) ≡ put l e (put k d (member m x ms))) [
            | Less ↦ λ g.
                put_at k m d x (put l e ms) g
                ∙ sym (ap (put l e) (put_at k m d x ms g) ∙ put_at l k e d (member m x ms) above ∙ ap (member k d) (put_at l m e x ms h))
            | Equal ↦ λ g.
                put_at k m d x (put l e ms) g
                ∙ sym (ap (put l e) (put_at k m d x ms g) ∙ put_at l m e d ms h)
            | Greater ↦ λ g.
                put_at k m d x (put l e ms) g ∙ ap (member m x) (below_both k l d e ms less)
                ∙ sym (ap (put l e) (put_at k m d x ms g) ∙ put_at l m e x (put k d ms) h)
          ] refl
    ] refl

pub either_first : (k l : List ℕ) (d e : Data) (ms : Members) → (k ≡ l → ⊥) → put k d (put l e ms) ≡ put l e (put k d ms)
either_first k l d e ms other =
    elim (cmp k l) as (λ o. cmp k l ≡ o → put k d (put l e ms) ≡ put l e (put k d ms)) [
      | Less ↦ λ h. below_both k l d e ms h
      | Equal ↦ λ h. absurd (other (exact_bytes k l h))
      | Greater ↦ λ h. sym (below_both l k e d ms (flipped k l Greater h))
    ] refl

put_again : (k : List ℕ) (d e : Data) (ms : Members) → put k d (put k e ms) ≡ put k d ms
put_again k d e no_members = put_at k k d e no_members (tied_itself nat_list_cmp_total k)
put_again k d e (member l x ms) =
    let same = tied_itself nat_list_cmp_total k in
    elim (cmp k l) as (λ o. cmp k l ≡ o → put k d (put k e (member l x ms)) ≡ put k d (member l x ms)) [
      | Less ↦ λ h. ap (put k d) (put_at k l e x ms h) ∙ put_at k k d e (member l x ms) same ∙ sym (put_at k l d x ms h)
      | Equal ↦ λ h. ap (put k d) (put_at k l e x ms h) ∙ put_at k l d e ms h ∙ sym (put_at k l d x ms h)
      | Greater ↦ λ h. ap (put k d) (put_at k l e x ms h) ∙ put_at k l d x (put k e ms) h ∙ ap (member l x) (put_again k d e ms) ∙ sym (put_at k l d x ms h)
    ] refl

-- ---- all members of an object

abbrev pub Lacks : List ℕ → Members → Type 0
Lacks k no_members = ⊤
Lacks k (member l d ms) = (k ≡ l → ⊥) × Lacks k ms

pub put_all_later : (k : List ℕ) (d : Data) (ms onto : Members) → Lacks k ms → put_all ms (put k d onto) ≡ put k d (put_all ms onto)
put_all_later k d no_members onto h = refl
put_all_later k d (member l e ms) onto h = ap (put_all ms) (sym (either_first k l d e onto h.0)) ∙ put_all_later k d ms (put l e onto) h.1

differs : (k l : List ℕ) → cmp k l ≡ Less → k ≡ l → ⊥
differs k l h e = let same : Equal ≡ Less = sym (tied_itself nat_list_cmp_total l) ∙ ap (λ m. cmp m l) (sym e) ∙ h in absurd (Prim.cc)

lacks_before : (k : List ℕ) (ms : Members) → IsBefore k ms → Lacks k ms
lacks_before k no_members h = tt
lacks_before k (member l d ms) h = (differs k l h.0, lacks_before k ms h.1)

pub put_first : (k : List ℕ) (d : Data) (ms : Members) → IsBefore k ms → put k d ms ≡ member k d ms
put_first k d no_members h = refl
put_first k d (member l e ms) h = put_at k l d e ms h.0

pub rising_stays : (ms : Members) → Ascends ms → put_all ms no_members ≡ ms
rising_stays no_members h = refl
rising_stays (member k d ms) h = put_all_later k d ms no_members (lacks_before k ms h.0) ∙ ap (put k d) (rising_stays ms h.1) ∙ put_first k d ms h.0

pub put_onto : (k : List ℕ) (d : Data) (ms onto : Members) → Ascends ms → put_all (put k d ms) onto ≡ put k d (put_all ms onto)
put_onto k d no_members onto h = refl
put_onto k d (member l e ms) onto h =
    elim (cmp k l) as (λ o. cmp k l ≡ o → put_all (put k d (member l e ms)) onto ≡ put k d (put_all ms (put l e onto))) [
      | Less ↦ λ o. ap (λ l. put_all l onto) (put_at k l d e ms o) ∙ put_all_later k d (member l e ms) onto (differs k l o, lacks_before k ms (before_all k l ms o h.0))
      | Equal ↦ λ o.
          let same = exact_bytes k l o in
          let lacks = subst (λ x. Lacks x ms) (sym same) (lacks_before l ms h.0) in
          ap (λ l. put_all l onto) (put_at k l d e ms o)
          ∙ ap (λ x. put_all ms (put x d onto)) (sym same)
          ∙ ap (put_all ms) (sym (put_again k d e onto) ∙ ap (λ x. put k d (put x e onto)) same)
          ∙ put_all_later k d ms (put l e onto) lacks
      | Greater ↦ λ o. ap (λ l. put_all l onto) (put_at k l d e ms o) ∙ put_onto k d ms (put l e onto) h.1
    ] refl

-- ---- the keys of an object that was read ascend

pub rising_found : (ms : j.Members) (old found : Members) → of_members ms old ≡ Some found → Ascends old → Ascends found
rising_found j.no_members old found e h = let same : old ≡ found = Prim.cc in subst Ascends same h
rising_found (j.member k v ms) old found e h = let t = and_then_some _ (of_json v) found e in rising_found ms (put k t.0 old) found t.2 (ascends_put k t.0 old h)

-- ---- the members of a text, added to other members

of_members_onto : (ms : j.Members) (old found onto : Members) → Ascends old → of_members ms old ≡ Some found → of_members ms (put_all old onto) ≡ Some (put_all found onto)
of_members_onto j.no_members old found onto h e = let same : old ≡ found = Prim.cc in ap (λ l. Some (put_all l onto)) same
of_members_onto (j.member k v ms) old found onto h e =
    let t = and_then_some _ (of_json v) found e in
    ap (option_and_then (λ d. of_members ms (put k d (put_all old onto)))) t.1 ∙ ap (of_members ms) (sym (put_onto k t.0 old onto h)) ∙ of_members_onto ms (put k t.0 old) found onto (ascends_put k t.0 old h) t.2

pub found_onto : (ms : j.Members) (found onto : Members) → of_members ms no_members ≡ Some found → of_members ms onto ≡ Some (put_all found onto)
found_onto ms found onto e = of_members_onto ms no_members found onto tt e

pub of_members-plus : (ms ns : j.Members) (old : Members) → of_members (plus ms ns) old ≡ option_and_then (of_members ns) (of_members ms old)
of_members-plus j.no_members ns old = refl
of_members-plus (j.member k v ms) ns old = after (of_json v) (λ d. of_members-plus ms ns (put k d old))
  where
    after : (o : Option Data) → ((d : Data) → of_members (plus ms ns) (put k d old) ≡ option_and_then (of_members ns) (of_members ms (put k d old)))
        → option_and_then (λ d. of_members (plus ms ns) (put k d old)) o ≡ option_and_then (of_members ns) (option_and_then (λ d. of_members ms (put k d old)) o)
    after None same = refl
    after (Some d) same = same d

pub both_found : (ms ns : j.Members) (found more : Members) → of_members ms no_members ≡ Some found → of_members ns no_members ≡ Some more → of_members (plus ms ns) no_members ≡ Some (put_all more found)
both_found ms ns found more e f = of_members-plus ms ns no_members ∙ ap (option_and_then (of_members ns)) e ∙ found_onto ns more found f
