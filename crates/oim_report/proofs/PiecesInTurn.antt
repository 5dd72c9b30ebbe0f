-- Pieces: how `serde_json` reads them, and the members of pieces that are read one after another.
use Rattle.oim_report.proofs.Shared.{◌≡◌, ℕ, List, [], Option, Some, option_and_then, refl, ap, ◌∙◌, ◌∷◌, ◌++◌, sym, option_map, subst, append_assoc, append-nil, Less, Equal, Greater, nat_cmp, match_ordering, slice_cmp, Token, tokens, Data, no_items, item, array, Members, object, no_members, member, put, of_json, of_items, of_members, number_of, max_depth, read, alone, one_data, HasMember, IsPiece, put_all, IsUpTo, one, Ascends, append}
use Rattle.json.specs.Json.{Json, Items, value, if_last}
use Rattle.json.specs.Json as j
use Rattle.serde_json.specs.Data as d
use Rattle.oim_report.proofs.JoinedMembers.{Reads, HasSome, plus, joined}
use Rattle.oim_report.proofs.Accepted.{map_some, and_then_some}
use Rattle.oim_report.proofs.PutMembers.{both_found, ascends_put, put_onto}

-- ---- how `serde_json` reads the text of an array that contains one object

-- `serde_json` reads the text as JSON members, and their data are `found`
pub record ReadAs (a : List ℕ) (found : d.Members) : Type 0 where
  pub ms : j.Members
  pub reads : Reads max_depth a ms
  pub gives : of_members ms d.no_members ≡ Some found

number_only : (s : List ℕ) (x : Data) → of_json (j.number s) ≡ Some x → (n : d.Num) × (d.number n ≡ x)
number_only s x e = let m = map_some d.number (number_of s) x e in (m.0, m.2)

no_more : (vs : Items) → of_items vs ≡ Some d.no_items → vs ≡ j.no_items
no_more j.no_items e = refl
no_more (j.item v vs) e =
    let t = and_then_some _ (of_json v) d.no_items e in
    let m = map_some (d.item t.0) (of_items vs) d.no_items t.2 in
    let is : d.item t.0 m.0 ≡ d.no_items = m.2 in
    absurd (Prim.cc)

of_object : (v : Json) (found : d.Members) → of_json v ≡ Some (d.object found) → (ms : j.Members) × (v ≡ j.object ms) × (of_members ms d.no_members ≡ Some found)
of_object (j.number s) found e = let n = number_only s _ e in let is : d.number n.0 ≡ d.object found = n.1 in absurd (Prim.cc)
of_object (j.array vs) found e = let m = map_some d.array (of_items vs) _ e in let is : d.array m.0 ≡ d.object found = m.2 in absurd (Prim.cc)
of_object (j.object ms) found e =
    let m = map_some d.object (of_members ms d.no_members) _ e in
    let is : d.object m.0 ≡ d.object found = m.2 in
    let same : m.0 ≡ found = Prim.cc in
    (ms, refl, m.1 ∙ ap (λ f. Some f) same)
of_object v found e = absurd (Prim.cc)

of_one : (vs : Items) (found : d.Members) → of_items vs ≡ Some (d.item (d.object found) d.no_items) → (ms : j.Members) × (vs ≡ j.item (j.object ms) j.no_items) × (of_members ms d.no_members ≡ Some found)
of_one j.no_items found e = absurd (Prim.cc)
of_one (j.item v vs) found e =
    let t = and_then_some _ (of_json v) _ e in
    let m = map_some (d.item t.0) (of_items vs) _ t.2 in
    let is : d.item t.0 m.0 ≡ d.item (d.object found) d.no_items = m.2 in
    let first : t.0 ≡ d.object found = Prim.cc in
    let rest : m.0 ≡ d.no_items = Prim.cc in
    let o = of_object v found (t.1 ∙ ap (λ x. Some x) first) in
    let none = no_more vs (m.1 ∙ ap (λ x. Some x) rest) in
    (o.0, (λ i. j.item (o.1 i) (none i)), o.2)

of_array : (v : Json) (found : d.Members) → of_json v ≡ Some (one_data found) → (ms : j.Members) × (v ≡ one ms) × (of_members ms d.no_members ≡ Some found)
of_array (j.number s) found e = let n = number_only s _ e in let is : d.number n.0 ≡ one_data found = n.1 in absurd (Prim.cc)
of_array (j.array vs) found e =
    let m = map_some d.array (of_items vs) _ e in
    let is : d.array m.0 ≡ one_data found = m.2 in
    let same : m.0 ≡ d.item (d.object found) d.no_items = Prim.cc in
    let o = of_one vs found (m.1 ∙ ap (λ x. Some x) same) in
    (o.0, ap j.array o.1, o.2)
of_array (j.object ms) found e = let m = map_some d.object (of_members ms d.no_members) _ e in let is : d.object m.0 ≡ one_data found = m.2 in absurd (Prim.cc)
of_array v found e = absurd (Prim.cc)

whole_some : (o : Option (Json × List Token)) (x : Data) → option_and_then of_json (option_and_then (λ p. if_last p.0 p.1) o) ≡ Some x → (v : Json) × (o ≡ Some (v, [])) × (of_json v ≡ Some x)
whole_some (Some (v, [])) x e = (v, refl, e)
whole_some o x e = absurd (Prim.cc)

pub read_as : (a : List ℕ) (found : d.Members) → read (alone a) ≡ Some (one_data found) → ReadAs a found
read_as a found e =
    let w = whole_some (value max_depth (tokens (alone a))) (one_data found) e in
    let o = of_array w.0 found w.2 in
    record { ms = o.0; reads = w.1 ∙ ap (λ v. Some (v, [])) o.1; gives = o.2 }

pub some_read : (ms : j.Members) (found : d.Members) → of_members ms d.no_members ≡ Some found → HasMember found → HasSome ms
some_read j.no_members d.no_members e h = h
some_read j.no_members (d.member k x found) e h = absurd (Prim.cc)
some_read (j.member k v ms) found e h = tt

-- ---- two texts of members, joined by a comma, as `serde_json` reads them

pub joined_as : (a b : List ℕ) (found more : Members) → HasMember found → HasMember more → ReadAs a found → ReadAs b more → ReadAs (a ++ 44 ∷ b) (put_all more found)
joined_as a b found more some some_more r s = record {
  ms = plus r.ms s.ms;
  reads = joined max_depth a b r.ms s.ms (some_read r.ms found r.gives some) (some_read s.ms more s.gives some_more) r.reads s.reads;
  gives = both_found r.ms s.ms found more r.gives s.gives;
}

-- ---- pieces that are read one after another

pub has_put : (k : List ℕ) (d : Data) (ms : Members) → HasMember (put k d ms)
has_put k d no_members = tt
has_put k d (member l e ms) =
    elim (slice_cmp nat_cmp k l) as (λ o. HasMember (match_ordering o (member k d (member l e ms)) (member l d ms) (member l e (put k d ms)))) [
      | Less ↦ tt
      | Equal ↦ tt
      | Greater ↦ tt
    ]

pub has_put_all : (ms onto : Members) → HasMember onto → HasMember (put_all ms onto)
has_put_all no_members onto h = h
has_put_all (member k d ms) onto h = has_put_all ms (put k d onto) (has_put k d onto)

pub read_back : (a : List ℕ) (found : Members) → ReadAs a found → read (alone a) ≡ Some (one_data found)
read_back a found r =
    ap (λ o. option_and_then of_json (option_and_then (λ p. j.if_last p.0 p.1) o)) r.reads
    ∙ ap (λ o. option_map array (option_and_then (λ x. option_map (item x) (Some no_items)) (option_map object o))) r.gives

pub both_pieces : (a b : List ℕ) (found more : Members) → IsPiece a found → IsPiece b more → IsPiece (a ++ 44 ∷ b) (put_all more found)
both_pieces a b found more p q = record {
  some = has_put_all more found p.some;
  reads = read_back (a ++ 44 ∷ b) (put_all more found) (joined_as a b found more p.some q.some (read_as a found p.reads) (read_as b more q.reads));
}

pub put_append : (ms ns onto : Members) → put_all (append ms ns) onto ≡ put_all ns (put_all ms onto)
put_append no_members ns onto = refl
put_append (member k d ms) ns onto = put_append ms ns (put k d onto)

pub put_again : (ns old onto : Members) → Ascends old → put_all (put_all ns old) onto ≡ put_all ns (put_all old onto)
put_again no_members old onto h = refl
put_again (member k d ns) old onto h = put_again ns (put k d old) onto (ascends_put k d old h) ∙ ap (put_all ns) (put_onto k d old onto h)

with_piece : (text left piece : List ℕ) (ms ns : Members) → IsUpTo text left ms → IsPiece piece (put_all ns no_members) → (done : List ℕ) × ((rest : List ℕ) → left ≡ piece ++ rest → text ≡ done ++ rest) × IsPiece done (put_all (append ms ns) no_members)
with_piece text left piece no_members ns up p = (piece, (λ rest s. sym up ∙ s), p)
with_piece text left piece (member k d ms) ns up p =
    let done = up.0 in
    let before = put_all (member k d ms) no_members in (
      done ++ 44 ∷ piece,
      (λ rest s. up.1 ∙ ap (λ l. done ++ 44 ∷ l) s ∙ sym (append_assoc done (44 ∷ piece) rest)),
      subst (IsPiece (done ++ 44 ∷ piece)) (put_again ns no_members before tt ∙ sym (put_append (member k d ms) ns no_members)) (both_pieces done piece before (put_all ns no_members) up.2 p),
    )

has_some : (ms : Members) → HasMember (put_all ms no_members) → HasMember ms
has_some no_members h = h
has_some (member k d ms) h = tt

up_to : (text rest done : List ℕ) (ms ns : Members) → HasMember ns → text ≡ done ++ 44 ∷ rest → IsPiece done (put_all (append ms ns) no_members) → IsUpTo text rest (append ms ns)
up_to text rest done no_members no_members some s p = absurd some
up_to text rest done ms ns some s p = (done, s, p)

pub one_more : (text left piece rest : List ℕ) (ms ns : Members) → IsUpTo text left ms → left ≡ piece ++ 44 ∷ rest → IsPiece piece (put_all ns no_members) → IsUpTo text rest (append ms ns)
one_more text left piece rest ms ns up splits p =
    let w = with_piece text left piece ms ns up p in
    up_to text rest w.0 ms ns (has_some ns p.some) (w.1 (44 ∷ rest) splits) w.2

pub last_one : (text left piece : List ℕ) (ms ns : Members) → IsUpTo text left ms → left ≡ piece → IsPiece piece (put_all ns no_members) → IsPiece text (put_all (append ms ns) no_members)
last_one text left piece ms ns up splits p =
    let w = with_piece text left piece ms ns up p in
    subst (λ t. IsPiece t (put_all (append ms ns) no_members)) (sym (w.1 [] (splits ∙ sym (append-nil piece)) ∙ append-nil w.0)) w.2
