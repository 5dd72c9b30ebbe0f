-- Members and facts that are read from a tape.
use Rattle.oim_report.proofs.Shared.{◌≡◌, ℕ, ◌-◌, ◌<◌, ◌≤◌, List, Some, None, option_and_then, option_map, OnOk, Result, refl, ap, ◌∙◌, arith, [], ◌++◌, Option, sym, subst, on_ok_weaker, Token, Json, value, if_last, document, depth, members_depth, json_tokens, tokens, value-json_tokens, value-json_tokens_back, Data, null, boolean, string, array, no_items, item, Members, no_members, put, member, of_json, of_items, of_members, max_depth, Ascends, AreData, IsRead, IsReadWhere, one, alone, HasMember, IsPiece, put_all, append}
use Rattle.json.specs.Find.{as_array, as_number, as_object, BeginsWith, InItems, InMembers, NextItem, NextMember}
use Rattle.json.specs.Json as j
use Rattle.oim_report.proofs.Accepted.{map_some}
use Rattle.oim_report.proofs.PutMembers.{ascends_put}
use Rattle.oim_report.proofs.JoinedMembers.{Reads}
use Rattle.oim_report.proofs.PiecesInTurn.{has_put, has_put_all, read_back}
use Rattle.oim_report.proofs.FactsSoFar.{append_append, append_none}

-- ---- the members of an object on a tape, while they are read one after another

-- the members of `vs` before the place on the tape have been put into `ms`, which satisfies `Is`; their values nest at most n
-- levels deep
pub record IsReading (n : ℕ) (vs : j.Members) (tape : List Token) (Is : Members → Type 0) : Type 0 where
  pub left : j.Members
  pub ms : Members
  pub here : InMembers tape left
  pub reads : of_members vs no_members ≡ of_members left ms
  pub rises : Ascends ms
  pub is : Is ms
  pub flat : members_depth left ≤ n → members_depth vs ≤ n

pub begun : (n : ℕ) (vs : j.Members) (tape : List Token) (Is : Members → Type 0) → InMembers tape vs → Is no_members → IsReading n vs tape Is
begun n vs tape Is here is = record { left = vs; ms = no_members; here = here; reads = refl; rises = tt; is = is; flat = λ h. h }

pub record IsMember (n : ℕ) (key : List ℕ) (v : Json) (Is More : Members → Type 0) : Type 0 where
  pub found : Data
  pub reads : of_json v ≡ Some found
  pub flat : depth v ≤ n
  pub puts : (ms : Members) → Ascends ms → Is ms → More (put key found ms)

pub one_member : (n : ℕ) (vs : j.Members) (tape rest : List Token) (Is More : Members → Type 0) (m : List ℕ × List Token) → NextMember tape (Some m) rest → ((v : Json) → BeginsWith m.1 v → IsMember n m.0 v Is More)
    → IsReading n vs tape Is → IsReading n vs rest More
one_member n vs tape rest Is More m next is_one r =
    let step = next r.left r.here in
    let v = step.0 in
    let one = is_one v step.3 in
    let depths : members_depth r.left ≡ members_depth (j.member m.0 v step.1) = ap members_depth step.2 in
    let low = one.flat in
    record {
      left = step.1;
      ms = put m.0 one.found r.ms;
      here = step.4;
      reads = r.reads ∙ ap (λ l. of_members l r.ms) step.2 ∙ ap (option_and_then (λ d. of_members step.1 (put m.0 d r.ms))) one.reads;
      rises = ascends_put m.0 one.found r.ms r.rises;
      is = one.puts r.ms r.rises r.is;
      flat = λ h. r.flat (omega (arith, depths, low, h));
    }

pub record AreRead (n : ℕ) (vs : j.Members) (Is : Members → Type 0) : Type 0 where
  pub ms : Members
  pub reads : of_members vs no_members ≡ Some ms
  pub is : Is ms
  pub flat : members_depth vs ≤ n

pub all_read : (n : ℕ) (vs : j.Members) (tape rest : List Token) (Is : Members → Type 0) → NextMember tape None rest → IsReading n vs tape Is → AreRead n vs Is
all_read n vs tape rest Is next r =
    let none : r.left ≡ j.no_members = next r.left r.here in
    let depths : members_depth r.left ≡ 0 = ap members_depth none in
    record { ms = r.ms; reads = r.reads ∙ ap (λ l. of_members l r.ms) none; is = r.is; flat = r.flat (omega (arith, depths)) }

-- ---- values that are skipped

pub number_skipped : {E : Type 0} (v : Json) (s : List ℕ) (n : ℕ) (r : Result (Unit {0}) E) → as_number v ≡ Some s → OnOk r (IsRead 0 (j.number s)) → OnOk r (IsRead n v)
number_skipped (j.number t) s n r e read =
    let same : t ≡ s = Prim.cc in
    on_ok_weaker r (λ h. record { found = h.found; reads = ap (λ x. of_json (j.number x)) same ∙ h.reads; flat = omega arith }) read
number_skipped v s n r e read = absurd (Prim.cc)

pub plain_skipped : (v : Json) (n : ℕ) → as_number v ≡ None → as_array v ≡ None → as_object v ≡ None → IsRead n v
plain_skipped j.null n e f g = record { found = null; reads = refl; flat = omega arith }
plain_skipped (j.boolean b) n e f g = record { found = boolean b; reads = refl; flat = omega arith }
plain_skipped (j.string s) n e f g = record { found = string s; reads = refl; flat = omega arith }
plain_skipped v n e f g = absurd (Prim.cc)

-- if the items after the place on the tape are read, all items are read
pub record AreSkipped (n : ℕ) (vs : j.Items) (tape : List Token) : Type 0 where
  pub left : j.Items
  pub here : InItems tape left
  pub whole : IsRead n (j.array left) → IsRead n (j.array vs)

item_read : (n : ℕ) (v : Json) (vs : j.Items) → 0 < n → IsRead (n - 1) v → IsRead n (j.array vs) → IsRead n (j.array (j.item v vs))
item_read n v vs some one rest =
    let items = map_some array (of_items vs) rest.found rest.reads in
    let low = one.flat in
    let below = rest.flat in
    record {
      found = array (item one.found items.0);
      reads = λ i. option_map array (option_and_then (λ d. option_map (item d) (items.1 i)) (one.reads i));
      flat = omega (arith, low, below, some);
    }

pub one_skipped : (n : ℕ) (vs : j.Items) (tape rest place : List Token) → 0 < n → NextItem tape (Some place) rest → ((v : Json) → BeginsWith place v → IsRead (n - 1) v) → AreSkipped n vs tape → AreSkipped n vs rest
one_skipped n vs tape rest place some next is_one r =
    let step = next r.left r.here in
    record {
      left = step.1;
      here = step.4;
      whole = λ more. r.whole (subst (λ l. IsRead n (j.array l)) (sym step.2) (item_read n step.0 step.1 some (is_one step.0 step.3) more));
    }

pub all_skipped : (n : ℕ) (vs : j.Items) (tape rest : List Token) → 0 < n → NextItem tape None rest → AreSkipped n vs tape → IsRead n (j.array vs)
all_skipped n vs tape rest some next r = r.whole (subst (λ l. IsRead n (j.array l)) (sym (next r.left r.here)) (record { found = array no_items; reads = refl; flat = omega (arith, some) }))

-- ---- a piece whose facts are read from a tape

members_put : (vs : j.Members) (ms onto : Members) → AreData vs ms → of_members vs onto ≡ Some (put_all ms onto)
members_put j.no_members no_members onto h = refl
members_put (j.member k v vs) (member l d ms) onto h =
    ap (option_and_then (λ x. of_members vs (put k x onto))) h.1 ∙ ap (λ q. of_members vs (put q d onto)) h.0 ∙ members_put vs ms (put l d onto) h.3
members_put vs ms onto h = absurd h

shallow : (vs : j.Members) (ms : Members) → AreData vs ms → members_depth vs ≤ 125
shallow j.no_members no_members h = omega arith
shallow (j.member k v vs) (member l d ms) h = let rest = shallow vs ms h.3 in let here = h.2 in omega (arith, rest, here)
shallow vs ms h = absurd h

last_only : (o : Option (Json × List Token)) (v : Json) → option_and_then (λ p. if_last p.0 p.1) o ≡ Some v → o ≡ Some (v, [])
last_only (Some (w, [])) v e = let same : w ≡ v = Prim.cc in ap (λ x. Some (x, [])) same
last_only o v e = absurd (Prim.cc)

-- the depth is bounded because `serde_json` allows one level less than the tape
within_levels : (text : List ℕ) (v : Json) → document text ≡ Some v → depth v ≤ max_depth → value max_depth (tokens text) ≡ Some (v, [])
within_levels text v e levels =
    let spelled : tokens text ≡ json_tokens v ++ [] = value-json_tokens_back j.max_depth (tokens text) [] v (last_only (value j.max_depth (tokens text)) v e) in
    ap (value max_depth) spelled ∙ value-json_tokens v max_depth [] levels

pub taped_piece : (piece : List ℕ) (vs : j.Members) (ms : Members) → document (alone piece) ≡ Some (one vs) → of_members vs no_members ≡ Some ms → members_depth vs ≤ 125 → HasMember ms → IsPiece piece ms
taped_piece piece vs ms e gives low some =
    let reads : Reads max_depth piece vs = within_levels (alone piece) (one vs) e (omega (arith, low)) in
    record { some = some; reads = read_back piece ms (record { ms = vs; reads = reads; gives = gives }) }

pub piece_of_facts : (piece : List ℕ) (vs : j.Members) (ms : Members) → document (alone piece) ≡ Some (one vs) → AreData vs ms → HasMember ms → IsPiece piece (put_all ms no_members)
piece_of_facts piece vs ms e are some =
    let low = shallow vs ms are in
    taped_piece piece vs (put_all ms no_members) e (members_put vs ms no_members are) (omega (arith, low)) (still ms some)
  where
    still : (ms : Members) → HasMember ms → HasMember (put_all ms no_members)
    still no_members h = h
    still (member k d ms) h = has_put_all ms (put k d no_members) (has_put k d no_members)

-- ---- the facts of a piece, while they are read one after another

-- the members of `vs` before the place on the tape are the data `ms`, of which `Is` is true
pub record AreReading (vs : j.Members) (tape : List Token) (Is : Members → Type 0) : Type 0 where
  pub left : j.Members
  pub ms : Members
  pub here : InMembers tape left
  pub are : (more : Members) → AreData left more → AreData vs (append ms more)
  pub is : Is ms

pub none_reading : (vs : j.Members) (tape : List Token) (Is : Members → Type 0) → InMembers tape vs → Is no_members → AreReading vs tape Is
none_reading vs tape Is here is = record { left = vs; ms = no_members; here = here; are = λ more h. h; is = is }

pub one_read : (vs : j.Members) (tape rest : List Token) (Is More : Members → Type 0) (m : List ℕ × List Token) → NextMember tape (Some m) rest
    → ((v : Json) → BeginsWith m.1 v → IsReadWhere v (λ d. (ms : Members) → Is ms → More (append ms (member m.0 d no_members)))) → AreReading vs tape Is → AreReading vs rest More
one_read vs tape rest Is More m next reads r =
    let step = next r.left r.here in
    let one = reads step.0 step.3 in
    record {
      left = step.1;
      ms = append r.ms (member m.0 one.found no_members);
      here = step.4;
      are = λ l h. subst (AreData vs) (sym (append_append r.ms (member m.0 one.found no_members) l)) (r.are (member m.0 one.found l) (subst (λ k. AreData k (member m.0 one.found l)) (sym step.2) (refl, one.reads, one.flat, h)));
      is = one.is r.ms r.is;
    }

pub all_found : (vs : j.Members) (tape rest : List Token) (Is : Members → Type 0) → NextMember tape None rest → AreReading vs tape Is → (ms : Members) × AreData vs ms × Is ms
all_found vs tape rest Is next r =
    let none : r.left ≡ j.no_members = next r.left r.here in
    (r.ms, subst (AreData vs) (append_none r.ms) (r.are no_members (subst (λ l. AreData l no_members) (sym none) tt)), r.is)
