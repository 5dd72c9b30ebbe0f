-- Proofs of the laws of sets, maps and summaries.
use Rattle.merge_laws.proofs.Shared.{◌≡◌, ℕ, zero, suc, ◌<◌, true, false, cond, List, [], ◌∷◌, length, get_or, Option, Some, None, refl, sym, ap, subst, ◌∙◌, arith, Contains, IsTrue, is_some, option_map, All, AllByRecursion, IsTotalOrder, Equal-is, both_ways, is_eq, match_ordering, Ordering, Less, Equal, Greater, common_part, Value, Summarised, summary_of, both_summaries, summary_of_all, alone, same_items, item_at, has_key, itself, entry_key, value_at, merged_entries, map_with, map_union, set_with, set_union, All-from_recursion, recursion_from_All}
use Rattle.std.proofs.Math.Bool.{or-false}
use Rattle.merge_laws.specs.Members.{SetIsItsMembers, MapIsItsValues, MapUnionKeeps, MapWithKeeps, SummaryOfOne, SummaryOfBoth, SummaryOfUnion, SummaryOfMembers}
use Rattle.merge_laws.specs.code.SummaryLaws.{summary_associates, summary_commutes, summary_idempotent}
use Rattle.merge_laws.proofs.Both.{set_tells_item}

module _ {K : Type 0} {R : K → K → Ordering} (o : IsTotalOrder R) (exact : (x y : K) → R x y ≡ Equal → x ≡ y) where
  itself_found : (q : K) (xs : List K) → item_at R itself q xs ≡ cond (has_key R itself q xs) (Some q) None
  itself_found q [] = refl
  itself_found q (x ∷ xs) = elim (is_eq (R q x)) as (λ b. is_eq (R q x) ≡ b → cond b (Some x) (item_at R itself q xs) ≡ cond (is_some (cond b (Some x) (item_at R itself q xs))) (Some q) None) [
    | true ↦ λ t. ap Some (sym (exact q x ((Equal-is (R q x)).0 t)))
    | false ↦ λ t. itself_found q xs
  ] refl

  pub set_is_its_members : SetIsItsMembers R
  set_is_its_members xs ys g h same = same_items itself o xs ys g h (λ q.
      let there : has_key R itself q xs ≡ has_key R itself q ys = both_ways _ _
      (λ l. (set_tells_item o exact ys q).1 ((same q).0 ((set_tells_item o exact xs q).0 l)))
      (λ r. (set_tells_item o exact xs q).1 ((same q).1 ((set_tells_item o exact ys q).0 r))) in
      itself_found q xs ∙ ap (λ b. cond b (Some q) None) there ∙ sym (itself_found q ys))

  module _ {V : Type 0} where
    entry_there : (k : K) (es : List (K × V)) → item_at R entry_key k es ≡ option_map (λ v. (k, v)) (value_at R k es)
    entry_there k [] = refl
    entry_there k (e ∷ es) = elim (is_eq (R k e.0)) as (λ b. is_eq (R k e.0) ≡ b → cond b (Some e) (item_at R entry_key k es) ≡ option_map (λ (v : V). (k, v)) (option_map (λ (f : K × V). f.1) (cond b (Some e) (item_at R entry_key k es)))) [
      | true ↦ λ t. λ i. Some (sym (exact k e.0 ((Equal-is (R k e.0)).0 t)) i, e.1)
      | false ↦ λ t. entry_there k es
    ] refl

  pub map_is_its_values : (V : Type 0) → MapIsItsValues R V
  map_is_its_values V es fs g h same = same_items entry_key o es fs g h (λ k. entry_there k es ∙ ap (λ (a : Option V). option_map (λ v. (k, v)) a) (same k) ∙ sym (entry_there k fs))

pub all_by_index : {A : Type 0} (P : A → Type 0) (xs : List A) → AllByRecursion P xs → All P xs
all_by_index = All-from_recursion

pub all_in_turn : {A : Type 0} (P : A → Type 0) (xs : List A) → All P xs → AllByRecursion P xs
all_in_turn = recursion_from_All

-- if merging keeps a property, `put` and the union of two maps keep it for all entries
module _ {K V : Type 0} {R : K → K → Ordering} (exact : (x y : K) → R x y ≡ Equal → x ≡ y) (merged : V → V → V) (P : K → V → Type 0) (closed : (k : K) (v w : V) → P k v → P k w → P k (merged v w)) where
  abbrev pub Has : K × V → Type 0
  Has e = P e.0 e.1

  pub map_with_has : (k : K) (v : V) (es : List (K × V)) → P k v → AllByRecursion Has es → AllByRecursion Has (map_with R merged k v es)
  map_with_has k v [] p h = (p, tt)
  map_with_has k v (e ∷ es) p h = elim (R k e.0) as (λ r. R k e.0 ≡ r → AllByRecursion Has (match_ordering r ((k, v) ∷ e ∷ es) (merged_entries merged e (k, v) ∷ es) (e ∷ map_with R merged k v es))) [
    | Less ↦ λ t. (p, h)
    | Equal ↦ λ t. (closed e.0 e.1 v h.0 (subst (λ q. P q v) (exact k e.0 t) p), h.1)
    | Greater ↦ λ t. (h.0, map_with_has k v es p h.1)
  ] refl

  pub map_union_has : (es fs : List (K × V)) → AllByRecursion Has es → AllByRecursion Has fs → AllByRecursion Has (map_union R merged es fs)
  map_union_has es [] h g = h
  map_union_has es (f ∷ fs) h g = map_with_has f.0 f.1 _ g.0 (map_union_has es fs h g.1)

  pub all_of_union : (es fs : List (K × V)) → All Has es → All Has fs → All Has (map_union R merged es fs)
  all_of_union es fs h g = all_by_index Has _ (map_union_has es fs (all_in_turn Has es h) (all_in_turn Has fs g))

  pub all_with_value : (k : K) (v : V) (es : List (K × V)) → P k v → All Has es → All Has (map_with R merged k v es)
  all_with_value k v es p h = all_by_index Has _ (map_with_has k v es p (all_in_turn Has es h))

module _ {K V : Type 0} {R : K → K → Ordering} (exact : (x y : K) → R x y ≡ Equal → x ≡ y) (merged : V → V → V) where
  pub map_union_keeps : MapUnionKeeps R merged
  map_union_keeps test kept es fs h g = all_of_union exact merged (λ k v. IsTrue (test (k, v))) kept es fs h g

  pub map_with_keeps : MapWithKeeps R merged
  map_with_keeps test kept es k v h p = all_with_value exact merged (λ k v. IsTrue (test (k, v))) kept k v es p h

-- ---- summaries

with_nothing : (a : Summarised) → both_summaries a (summary_of_all []) ≡ a
with_nothing a = λ i. record { nil = or-false a.nil i; ends = alone common_part a.ends i }

pub summary_of_one : SummaryOfOne
summary_of_one v = with_nothing (summary_of v)

pub summary_of_both : SummaryOfBoth
summary_of_both [] ws = refl
summary_of_both (v ∷ vs) ws = ap (both_summaries (summary_of v)) (summary_of_both vs ws) ∙ sym (summary_associates (summary_of v) (summary_of_all vs) (summary_of_all ws))

past : (a b c : Summarised) → both_summaries a (both_summaries b c) ≡ both_summaries b (both_summaries a c)
past a b c = sym (summary_associates a b c) ∙ ap (λ x. both_summaries x c) (summary_commutes a b) ∙ summary_associates b a c

again : (a b : Summarised) → both_summaries a (both_summaries a b) ≡ both_summaries a b
again a b = sym (summary_associates a a b) ∙ ap (λ x. both_summaries x b) (summary_idempotent a)

module _ (R : Value → Value → Ordering) (exact : (v w : Value) → R v w ≡ Equal → v ≡ w) where
  one_more : (v : Value) (ws : List Value) → summary_of_all (set_with R v ws) ≡ both_summaries (summary_of v) (summary_of_all ws)
  one_more v [] = refl
  one_more v (w ∷ ws) = elim (R v w) as (λ r. R v w ≡ r → summary_of_all (match_ordering r (v ∷ w ∷ ws) (w ∷ ws) (w ∷ set_with R v ws)) ≡ both_summaries (summary_of v) (summary_of_all (w ∷ ws))) [
    | Less ↦ λ t. refl
    | Equal ↦ λ t. sym (ap (λ x. both_summaries (summary_of x) (summary_of_all (w ∷ ws))) (exact v w t) ∙ again (summary_of w) (summary_of_all ws))
    | Greater ↦ λ t. ap (both_summaries (summary_of w)) (one_more v ws) ∙ past (summary_of w) (summary_of v) (summary_of_all ws)
  ] refl

  more : (vs ws : List Value) → summary_of_all (set_union R vs ws) ≡ both_summaries (summary_of_all vs) (summary_of_all ws)
  more vs [] = sym (with_nothing (summary_of_all vs))
  more vs (w ∷ ws) = one_more w (set_union R vs ws) ∙ ap (both_summaries (summary_of w)) (more vs ws) ∙ past (summary_of w) (summary_of_all vs) (summary_of_all ws)

pub summary_of_union : SummaryOfUnion
summary_of_union R exact vs ws = more R exact vs ws

nothing_new : (v : Value) (ws : List Value) (k : ℕ) → k < length ws → get_or ws k v ≡ v → both_summaries (summary_of v) (summary_of_all ws) ≡ summary_of_all ws
nothing_new v [] k lt is = absurd (omega (arith, lt))
nothing_new v (w ∷ ws) zero lt is = ap (λ x. both_summaries (summary_of x) (summary_of_all (w ∷ ws))) (sym is) ∙ again (summary_of w) (summary_of_all ws)
nothing_new v (w ∷ ws) (suc k) lt is = past (summary_of v) (summary_of w) (summary_of_all ws) ∙ ap (both_summaries (summary_of w)) (nothing_new v ws k (omega (arith, lt)) is)

none_new : (vs ws : List Value) → ((v : Value) → Contains vs v → Contains ws v) → both_summaries (summary_of_all vs) (summary_of_all ws) ≡ summary_of_all ws
none_new [] ws there = refl
none_new (v ∷ vs) ws there =
    let here = there v (zero, omega arith, refl) in
    summary_associates (summary_of v) (summary_of_all vs) (summary_of_all ws)
    ∙ ap (both_summaries (summary_of v)) (none_new vs ws (λ w one. there w (suc one.0, omega (arith, one.1), one.2)))
    ∙ nothing_new v ws here.0 here.1 here.2

pub summary_of_members : SummaryOfMembers
summary_of_members vs ws same =
    sym (none_new ws vs (λ v. (same v).1)) ∙ summary_commutes (summary_of_all ws) (summary_of_all vs) ∙ none_new vs ws (λ v. (same v).0)
