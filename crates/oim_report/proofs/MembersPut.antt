-- The parts of an object, and the parts after a member is put into the object.
use Rattle.oim_report.proofs.Shared.{◌≡◌, ℕ, List, Bool, true, false, cond, ◌||◌, Option, Some, codes, bytes_eq, nat_cmp, Less, Equal, Greater, refl, sym, ap, ◌∙◌, zero, suc, ◌+◌, ◌<◌, [], ◌∷◌, length, get_or, Bor, subst, arith, Result, insert, ◌++◌, append_assoc, ◌&&◌, not, option_map, option_and_then, IsUtf8, OnOk, match_ordering, slice_cmp, is_utf8, false≢true, cond-true, or_parts, and_from, list_any, map-append, on_ok_weaker, bytes_eq-Decides, bytes_not_eq, ⊤, is_utf8-from_IsUtf8, Data, object, Members, no_members, member, put, as_object, get, get_member, get_member-put, get_member-put_other, Given, given, given_of, any_member, has_colon, has_member, is_unknown, is_no_object, DimensionMembers, FactMembers, core_keys, fact_keys, defined_in, dimension_parts, parts_of, with_given, Ascends, IsSoFar, JsonMember, seen, seen_defined, seen_dimensions}
use Rattle.oim_report.specs.declared.fact.fact_members.DimensionMembers.{DimensionMembers as LentDimensions}
use Rattle.oim_report.proofs.PutMembers.{defined_put, undefined_put}

pub colon_other : (name key : List ℕ) → has_colon name ≡ false → has_colon key ≡ true → bytes_eq name key ≡ false
colon_other name key plain colon = bytes_not_eq name key (λ same. false≢true (sym plain ∙ ap has_colon same ∙ colon))

pub colon_known : (known : List (List ℕ)) (key : List ℕ) (d : Data) → has_colon key ≡ true → is_unknown known key d ≡ false
colon_known known key d colon = ap (λ b. not b && not (list_any (λ k. bytes_eq k key) known)) colon

pub get_in : (key : List ℕ) (d : Data) (ms : Members) → as_object d ≡ Some ms → get key d ≡ get_member key ms
get_in key (object ns) ms is = let same : ns ≡ ms = Prim.cc in ap (get_member key) same
get_in key d ms is = absurd (Prim.cc)

defined_here : (key : List ℕ) (d : Data) (ms : Members) → has_colon key ≡ true → IsUtf8 key → defined_in (member key d ms) ≡ (key, given d) ∷ defined_in ms
defined_here key d ms colon utf8 = cond-true _ _ _ (and_from _ _ colon (is_utf8-from_IsUtf8 key utf8))

pub push_defined : (done : List (Bor (List ℕ) × JsonMember)) (x : Bor (List ℕ) × JsonMember) (key : List ℕ) (d : Data) (ms : Members) → x.0.now ≡ key → seen x.1 ≡ given d → has_colon key ≡ true → IsUtf8 key → seen_defined (done ++ x ∷ []) ++ defined_in ms ≡ seen_defined done ++ defined_in (member key d ms)
push_defined done x key d ms name given colon utf8 =
    ap (λ ds. ds ++ defined_in ms) (map-append (λ (m : Bor (List ℕ) × JsonMember). let seen_one : List ℕ × Given = (m.0.now, seen m.1) in seen_one) done (x ∷ []))
    ∙ append_assoc (seen_defined done) (seen_defined (x ∷ [])) (defined_in ms)
    ∙ (λ i. seen_defined done ++ (name i, given i) ∷ defined_in ms)
    ∙ ap (λ ds. seen_defined done ++ ds) (sym (defined_here key d ms colon utf8))

-- the value at a name after `put`: the new value if the name is the key
pub got : (name key : List ℕ) (d : Data) (ms : Members) → get_member name (put key d ms) ≡ cond (bytes_eq name key) (Some d) (get_member name ms)
got name key d ms = by_test (bytes_eq name key) refl
  where
    by_test : (b : Bool) → bytes_eq name key ≡ b → get_member name (put key d ms) ≡ cond b (Some d) (get_member name ms)
    by_test true e = let same : name ≡ key = (bytes_eq-Decides name key).0 e in ap (λ n. get_member n (put key d ms)) same ∙ get_member-put key d ms
    by_test false e = get_member-put_other name key d ms (λ same. false≢true (sym e ∙ (bytes_eq-Decides name key).1 same))

-- a new key that is not unknown does not change whether some key is unknown
known_still : (known : List (List ℕ)) (key : List ℕ) (d : Data) (ms : Members) → is_unknown known key d ≡ false → any_member (is_unknown known) (put key d ms) ≡ any_member (is_unknown known) ms
known_still known key d no_members is = ap (λ b. b || false) is
known_still known key d (member l e ms) is =
    elim (slice_cmp nat_cmp key l) as (λ o. any_member (is_unknown known) (match_ordering o (member key d (member l e ms)) (member l d ms) (member l e (put key d ms))) ≡ any_member (is_unknown known) (member l e ms)) [
      | Less ↦ ap (λ b. b || any_member (is_unknown known) (member l e ms)) is
      | Equal ↦ refl
      | Greater ↦ ap (λ b. is_unknown known l e || b) (known_still known key d ms is)
    ]

-- the parts with a core dimension put in, or the same parts if the key is no core dimension
abbrev pub with_core : List ℕ → Given → DimensionMembers → DimensionMembers
with_core key g p = record {
  concept = cond (bytes_eq (codes "concept") key) g p.concept;
  entity = cond (bytes_eq (codes "entity") key) g p.entity;
  period = cond (bytes_eq (codes "period") key) g p.period;
  unit = cond (bytes_eq (codes "unit") key) g p.unit;
  language = cond (bytes_eq (codes "language") key) g p.language;
  note = cond (bytes_eq (codes "noteId") key) g p.note;
  defined = p.defined;
  unknown = p.unknown;
}

given_cond : (b : Bool) (d : Data) (o : Option Data) → given_of (cond b (Some d) o) ≡ cond b (given d) (given_of o)
given_cond true d o = refl
given_cond false d o = refl

given_got : (name key : List ℕ) (d : Data) (ms : Members) → given_of (get_member name (put key d ms)) ≡ cond (bytes_eq name key) (given d) (given_of (get_member name ms))
given_got name key d ms = ap given_of (got name key d ms) ∙ given_cond (bytes_eq name key) d (get_member name ms)

pub core_put : (key : List ℕ) (d : Data) (ms : Members) → has_colon key ≡ false → is_unknown core_keys key d ≡ false → dimension_parts (put key d ms) ≡ with_core key (given d) (dimension_parts ms)
core_put key d ms plain known = λ i. record {
  concept = given_got (codes "concept") key d ms i;
  entity = given_got (codes "entity") key d ms i;
  period = given_got (codes "period") key d ms i;
  unit = given_got (codes "unit") key d ms i;
  language = given_got (codes "language") key d ms i;
  note = given_got (codes "noteId") key d ms i;
  defined = undefined_put key d ms plain i;
  unknown = known_still core_keys key d ms known i;
}

-- a name without a colon keeps its value if the new key has a colon
pub kept_name : (name key : List ℕ) (d : Data) (ms : Members) → has_colon name ≡ false → has_colon key ≡ true → get_member name (put key d ms) ≡ get_member name ms
kept_name name key d ms plain colon = got name key d ms ∙ ap (λ b. cond b (Some d) (get_member name ms)) (colon_other name key plain colon)

pub defined_dimension : (key : List ℕ) (d : Data) (ms : Members) → has_colon key ≡ true → is_utf8 key ≡ true → Ascends ms → dimension_parts (put key d ms) ≡ record (dimension_parts ms) { defined = with_given key (given d) (defined_in ms) }
defined_dimension key d ms colon utf8 rises = λ i. record {
  concept = given_of (kept_name (codes "concept") key d ms refl colon i);
  entity = given_of (kept_name (codes "entity") key d ms refl colon i);
  period = given_of (kept_name (codes "period") key d ms refl colon i);
  unit = given_of (kept_name (codes "unit") key d ms refl colon i);
  language = given_of (kept_name (codes "language") key d ms refl colon i);
  note = given_of (kept_name (codes "noteId") key d ms refl colon i);
  defined = defined_put key d ms (and_from (has_colon key) (is_utf8 key) colon utf8) rises i;
  unknown = known_still core_keys key d ms (colon_known core_keys key d colon) i;
}

-- if the members have the parts `old`, they have the parts `new` after the core dimension is put in
pub core_at : (name : List ℕ) → has_colon name ≡ false → ((d : Data) → is_unknown core_keys name d ≡ false) → (key : List ℕ) → key ≡ name → (g : Given) (old new : DimensionMembers) → with_core name g old ≡ new
    → (d : Data) (ms : Members) → given d ≡ g → Ascends ms → dimension_parts ms ≡ old → dimension_parts (put key d ms) ≡ new
core_at name plain known key same g old new becomes d ms is rises are =
    ap (λ k. dimension_parts (put k d ms)) same ∙ core_put name d ms plain (known d) ∙ (λ i. with_core name (is i) (are i)) ∙ becomes

-- ---- a fact object

abbrev fact_found : (v p ds ls : Option Data) → Bool → FactMembers
fact_found v p ds ls unknown = record {
  value = given_of v;
  decimals = given_of p;
  dimensions = option_map dimension_parts (option_and_then as_object ds);
  linked = has_member (option_and_then as_object ls);
  misshapen = is_no_object ds || is_no_object ls;
  unknown = unknown;
}

fact_put : (key : List ℕ) (d : Data) (ms : Members) → is_unknown fact_keys key d ≡ false → parts_of (put key d ms)
    ≡ fact_found (cond (bytes_eq (codes "value") key) (Some d) (get_member (codes "value") ms)) (cond (bytes_eq (codes "decimals") key) (Some d) (get_member (codes "decimals") ms))
    (cond (bytes_eq (codes "dimensions") key) (Some d) (get_member (codes "dimensions") ms)) (cond (bytes_eq (codes "links") key) (Some d) (get_member (codes "links") ms)) (any_member (is_unknown fact_keys) ms)
fact_put key d ms known = λ i. fact_found (got (codes "value") key d ms i) (got (codes "decimals") key d ms i) (got (codes "dimensions") key d ms i) (got (codes "links") key d ms i) (known_still fact_keys key d ms known i)

pub value_put : (d : Data) (g : Given) (ms : Members) (p : FactMembers) → given d ≡ g → IsSoFar ms p → IsSoFar (put (codes "value") d ms) (record p { value = g })
value_put d g ms p is h = record {
  are = fact_put (codes "value") d ms refl
      ∙ (λ i. record { value = is i; decimals = (h.are i).decimals; dimensions = (h.are i).dimensions; linked = (h.are i).linked; misshapen = (h.are i).misshapen; unknown = (h.are i).unknown });
  shaped = h.shaped;
  unlinked = h.unlinked;
}

pub decimals_put : (d : Data) (g : Given) (ms : Members) (p : FactMembers) → given d ≡ g → IsSoFar ms p → IsSoFar (put (codes "decimals") d ms) (record p { decimals = g })
decimals_put d g ms p is h = record {
  are = fact_put (codes "decimals") d ms refl
      ∙ (λ i. record { value = (h.are i).value; decimals = is i; dimensions = (h.are i).dimensions; linked = (h.are i).linked; misshapen = (h.are i).misshapen; unknown = (h.are i).unknown });
  shaped = h.shaped;
  unlinked = h.unlinked;
}

pub dimensions_put : (ds : Members) (parts : DimensionMembers) (ms : Members) (p : FactMembers) → dimension_parts ds ≡ parts → IsSoFar ms p → IsSoFar (put (codes "dimensions") (object ds) ms) (record p { dimensions = Some parts })
dimensions_put ds parts ms p is h =
    let whole : (is_no_object (get_member (codes "dimensions") ms) || is_no_object (get_member (codes "links") ms)) ≡ false = ap (λ q. q.misshapen) h.are ∙ h.shaped in
    let links : is_no_object (get_member (codes "links") ms) ≡ false = (or_parts _ _ whole).1 in
    record {
      are = fact_put (codes "dimensions") (object ds) ms refl
          ∙ (λ i. record { value = (h.are i).value; decimals = (h.are i).decimals; dimensions = Some (is i); linked = (h.are i).linked; misshapen = (links ∙ sym h.shaped) i; unknown = (h.are i).unknown });
      shaped = h.shaped;
      unlinked = h.unlinked;
    }

pub extension_put : (key : List ℕ) (d : Data) (ms : Members) (p : FactMembers) → has_colon key ≡ true → IsSoFar ms p → IsSoFar (put key d ms) p
extension_put key d ms p colon h = record {
  are = (λ i. fact_found (kept_name (codes "value") key d ms refl colon i) (kept_name (codes "decimals") key d ms refl colon i) (kept_name (codes "dimensions") key d ms refl colon i) (kept_name (codes "links") key d ms refl colon i)
      (known_still fact_keys key d ms (colon_known fact_keys key d colon) i)) ∙ h.are;
  shaped = h.shaped;
  unlinked = h.unlinked;
}

pub links_put : (ms : Members) (p : FactMembers) → IsSoFar ms p → IsSoFar (put (codes "links") (object no_members) ms) p
links_put ms p h =
    let whole : (is_no_object (get_member (codes "dimensions") ms) || is_no_object (get_member (codes "links") ms)) ≡ false = ap (λ q. q.misshapen) h.are ∙ h.shaped in
    let dimensions : is_no_object (get_member (codes "dimensions") ms) ≡ false = (or_parts _ _ whole).0 in
    record {
      are = fact_put (codes "links") (object no_members) ms refl
          ∙ (λ i. record { value = (h.are i).value; decimals = (h.are i).decimals; dimensions = (h.are i).dimensions; linked = (sym h.unlinked) i; misshapen = (ap (λ b. b || false) dimensions ∙ sym h.shaped) i; unknown = (h.are i).unknown });
      shaped = h.shaped;
      unlinked = h.unlinked;
    }

-- ---- where a key is inserted in a list that is in byte order of the keys

module _ (key : List ℕ) where
  -- the first n keys are less than the key
  abbrev pub Above : ℕ → List (List ℕ × Given) → Type 0
  Above zero xs = ⊤
  Above (suc n) [] = ⊥
  Above (suc n) (x ∷ xs) = (slice_cmp nat_cmp key x.0 ≡ Greater) × Above n xs

  next_above : (n : ℕ) (xs : List (Bor (List ℕ) × JsonMember)) (other : Bor (List ℕ) × JsonMember) → Above n (seen_defined xs) → n < length xs → slice_cmp nat_cmp key (get_or xs n other).0.now ≡ Greater → Above (suc n) (seen_defined xs)
  next_above n [] other h l g = absurd (omega (arith, l))
  next_above zero (y ∷ xs) other h l g = (g, tt)
  next_above (suc n) (y ∷ xs) other h l g = (h.0, next_above n xs other h.1 (omega (arith, l)) g)

  pub above_next : (n : ℕ) (xs : List (Bor (List ℕ) × JsonMember)) (other : Bor (List ℕ) × JsonMember) → Above n (seen_defined xs) → n < length xs → slice_cmp nat_cmp key (get_or xs n other).0.now ≡ Greater → Above (n + 1) (seen_defined xs)
  above_next n xs other h l g = let more : suc n ≡ n + 1 = omega arith in subst (λ k. Above k (seen_defined xs)) more (next_above n xs other h l g)

  passed : (g : Given) (n : ℕ) (y : List ℕ × Given) (xs : List (List ℕ × Given)) → slice_cmp nat_cmp key y.0 ≡ Greater → with_given key g xs ≡ insert xs n (key, g) → with_given key g (y ∷ xs) ≡ insert (y ∷ xs) (suc n) (key, g)
  passed g n y xs above e = ap (λ o. match_ordering o ((key, g) ∷ y ∷ xs) ((y.0, g) ∷ xs) (y ∷ with_given key g xs)) above ∙ ap (λ l. y ∷ l) e

  pub before_next : (g : Given) (n : ℕ) (xs : List (Bor (List ℕ) × JsonMember)) (other : Bor (List ℕ) × JsonMember) → Above n (seen_defined xs) → n < length xs → slice_cmp nat_cmp key (get_or xs n other).0.now ≡ Less → with_given key g (seen_defined xs) ≡ insert (seen_defined xs) n (key, g)
  before_next g n [] other h l less = absurd (omega (arith, l))
  before_next g zero (y ∷ xs) other h l less = ap (λ o. match_ordering o ((key, g) ∷ seen_defined (y ∷ xs)) ((y.0.now, g) ∷ seen_defined xs) ((y.0.now, seen y.1) ∷ with_given key g (seen_defined xs))) less
  before_next g (suc n) (y ∷ xs) other h l less = passed g n _ (seen_defined xs) h.0 (before_next g n xs other h.1 (omega (arith, l)) less)

  pub behind_all : (g : Given) (n : ℕ) (xs : List (Bor (List ℕ) × JsonMember)) → Above n (seen_defined xs) → n ≡ length xs → with_given key g (seen_defined xs) ≡ insert (seen_defined xs) n (key, g)
  behind_all g zero [] h e = refl
  behind_all g (suc n) [] h e = absurd h
  behind_all g zero (y ∷ xs) h e = absurd (omega (arith, e))
  behind_all g (suc n) (y ∷ xs) h e = passed g n _ (seen_defined xs) h.0 (behind_all g n xs h.1 (omega (arith, e)))

-- ---- the parts of `dimensions` after a taxonomy-defined dimension is inserted

pub seen_insert : (xs : List (Bor (List ℕ) × JsonMember)) (n : ℕ) (x : Bor (List ℕ) × JsonMember) → seen_defined (insert xs n x) ≡ insert (seen_defined xs) n (x.0.now, seen x.1)
seen_insert [] zero x = refl
seen_insert [] (suc n) x = refl
seen_insert (y ∷ xs) zero x = refl
seen_insert (y ∷ xs) (suc n) x = ap (λ l. (y.0.now, seen y.1) ∷ l) (seen_insert xs n x)

pub defined_at : {E : Type 0} (r : Result (Unit {0}) E) (old new : LentDimensions) (key : List ℕ) (g : Given) → IsUtf8 key → has_colon key ≡ true → new ≡ record old { defined = new.defined }
    → OnOk r (seen_defined new.defined.items ≡ with_given key g (seen_defined old.defined.items))
    → OnOk r ((d : Data) (ms : Members) → given d ≡ g → Ascends ms → dimension_parts ms ≡ seen_dimensions old → dimension_parts (put key d ms) ≡ seen_dimensions new)
defined_at r old new key g utf8 colon others here = on_ok_weaker r
    (λ h d ms is rises are.
    let p = seen_dimensions old in
    defined_dimension key d ms colon (is_utf8-from_IsUtf8 key utf8) rises
    ∙ (λ i. record (are i) { defined = with_given key (is i) (are i).defined })
    ∙ ap (λ l. record p { defined = l }) (sym h)
    ∙ sym (ap seen_dimensions others))
    here
