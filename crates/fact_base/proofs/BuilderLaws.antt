-- The facts and references that a builder collects.
use Rattle.fact_base.proofs.Shared.{◌≡◌, ℕ, List, [], ◌∷◌, ◌++◌, append-nil, sym, ap, subst, ◌∙◌, inl, inr, ⊎_elim, arith, All-contains, ◌↔◌, ◌⊎◌, Bool, Result, Ok, Err, OnOk, Contains, IsPermutation, Equal-is, IsEquivalence, IsTotalOrder, All, dedup, eq_by_cmp, Ordering, Equal, Contains-dedup, Contains-from_dedup, IsStrictlySortedBy-dedup, Contains-permutation, IsPermutation-sym, SameMembers, IsSet, fact_cmp, Fact, fact_cmp_exact, fact_cmp_total, facts_agree, Document, FactFits, IsKeptReference, Sheet, Body, body, gathered, text_cmp, union, IsBody, Entry, facts_of_entries, AreEntriesOf, AreStored, Fits}
use Rattle.std.specs.List.Sorted.{IsSorted}
use Rattle.oim_dims.specs.contracts.fact.FactOrd.TheImpl.{cmp-value as derived_fact}
use Rattle.fact_base.specs.Sets.{set_of}
use Rattle.fact_base.proofs.Members.{each_by_there, in_one_of_both}
use Rattle.fact_base.proofs.Sets.{all_there, is_set_of, same_sets, set_of-both, set_of_is_set}
use Rattle.fact_base.proofs.TextOrder.{text_cmp_exact, text_cmp_total}
use Rattle.fact_base.proofs.EntryFacts.{rises}

-- ---- sorting without repeats

module _ {K : Type 0} {R : K → K → Ordering} (o : IsTotalOrder R) (exact : (x y : K) → R x y ≡ Equal → x ≡ y) where
  pub set_of_set : (xs : List K) → set_of R (set_of R xs) ≡ set_of R xs
  set_of_set xs =
      let all = set_of_is_set o exact xs in
      sym (is_set_of o exact (set_of R xs) (set_of R xs) all.rises (λ x. (λ h. h, λ h. h)))

  pub sorted_once : {E : K → K → Bool} (e : IsEquivalence E) (ties : (x y : K) → E x y ≡ eq_by_cmp R x y) (xs sorted once : List K) → IsPermutation xs sorted → IsSorted R sorted → once ≡ dedup E sorted → once ≡ set_of R xs
  sorted_once {E} e ties xs sorted once moved in_order is =
      is_set_of o exact once xs (subst (IsSet R) (sym is) (IsStrictlySortedBy-dedup o ties sorted in_order)) (λ x. (
        λ h. Contains-permutation sorted xs x (IsPermutation-sym xs sorted moved) (Contains-from_dedup E sorted x (subst (λ ys. Contains ys x) is h)),
        λ h. subst (λ ys. Contains ys x) (sym is) (Contains-dedup e (λ y z alike. exact y z ((Equal-is (R y z)).0 (sym (ties y z) ∙ alike))) sorted x (Contains-permutation xs sorted x moved h)),
      ))

  -- ---- sets from several lists

  in_set_of_both : (xs ys : List K) (x : K) → Contains (set_of R (xs ++ ys)) x ↔ (Contains xs x ⊎ Contains ys x)
  in_set_of_both xs ys x =
      let all = set_of_is_set o exact (xs ++ ys) in
      let one = in_one_of_both xs ys x in
      (λ h. one.0 ((all.members x).0 h), λ h. (all.members x).1 (one.1 h))

  pub sets_commute : (xs ys : List K) → set_of R (xs ++ ys) ≡ set_of R (ys ++ xs)
  sets_commute xs ys = same_sets o exact (xs ++ ys) (ys ++ xs) (λ x.
      let first = in_one_of_both xs ys x in
      let second = in_one_of_both ys xs x in (
        λ h. second.1 (⊎_elim inr inl (first.0 h)),
        λ h. first.1 (⊎_elim inr inl (second.0 h)),
      ))

  pub sets_associate : (xs ys zs : List K) → set_of R (xs ++ set_of R (ys ++ zs)) ≡ set_of R (set_of R (xs ++ ys) ++ zs)
  sets_associate xs ys zs = same_sets o exact (xs ++ set_of R (ys ++ zs)) (set_of R (xs ++ ys) ++ zs) (λ x.
      let first = in_one_of_both xs (set_of R (ys ++ zs)) x in
      let second = in_one_of_both (set_of R (xs ++ ys)) zs x in
      let left = in_set_of_both xs ys x in
      let right = in_set_of_both ys zs x in (
        λ h. ⊎_elim (λ l. second.1 (inl (left.1 (inl l)))) (λ r. ⊎_elim (λ m. second.1 (inl (left.1 (inr m)))) (λ z. second.1 (inr z)) (right.0 r)) (first.0 h),
        λ h. ⊎_elim (λ l. ⊎_elim (λ m. first.1 (inl m)) (λ y. first.1 (inr (right.1 (inl y)))) (left.0 l)) (λ z. first.1 (inr (right.1 (inr z)))) (second.0 h),
      ))

-- ---- the orders of the code's types are the defined ones

derived_set : (facts : List Fact) → set_of derived_fact.it facts ≡ set_of fact_cmp facts
derived_set facts = λ i. set_of (λ (x y : Fact). facts_agree x y i) facts

pub derived_sorted : (facts : List Fact) → IsSorted derived_fact.it facts → IsSorted fact_cmp facts
derived_sorted facts sorted = subst (λ R. IsSorted R facts) (λ i x y. facts_agree x y i) sorted

pub always_ok : {A E P : Type 0} (r : Result A E) → P → OnOk r P
always_ok (Ok a) p = p
always_ok (Err e) p = tt

-- ---- one more report

gathered_fits : (sheet : Sheet) (facts : List Fact) (references : List (List ℕ)) → All (FactFits sheet) facts → All IsKeptReference references → Fits sheet (gathered facts references)
gathered_fits sheet facts references fit kept =
    let some = set_of_is_set fact_cmp_total fact_cmp_exact facts in
    let texts = set_of_is_set text_cmp_total text_cmp_exact references in
    record {
      rises = record { facts = some.rises; references = texts.rises };
      facts = each_by_there (FactFits sheet) (set_of fact_cmp facts) (λ f at. All-contains (FactFits sheet) facts f fit ((some.members f).0 at));
      references = each_by_there IsKeptReference (set_of text_cmp references) (λ r at. All-contains IsKeptReference references r kept ((texts.members r).0 at));
    }

pub document_fits : (sheet : Sheet) (d : Document) → All (FactFits sheet) d.facts → All IsKeptReference d.references → Fits sheet (body (d ∷ []))
document_fits sheet d facts references = gathered_fits sheet (d.facts ++ []) (d.references ++ []) (subst (All (FactFits sheet)) (sym (append-nil d.facts)) facts) (subst (All IsKeptReference) (sym (append-nil d.references)) references)

pub nothing_fits : (sheet : Sheet) → Fits sheet (gathered [] [])
nothing_fits sheet = gathered_fits sheet [] [] (λ k d within. absurd (omega (arith, within))) (λ k d within. absurd (omega (arith, within)))

same_gathered : (facts more : List Fact) (references others : List (List ℕ)) → set_of fact_cmp facts ≡ set_of fact_cmp more → set_of text_cmp references ≡ set_of text_cmp others → gathered facts references ≡ gathered more others
same_gathered facts more references others p q = λ i. record { facts = p i; references = q i }

pub derived_gathered : (facts more : List Fact) (references others : List (List ℕ)) → set_of derived_fact.it facts ≡ set_of derived_fact.it more → set_of text_cmp references ≡ set_of text_cmp others → gathered facts references ≡ gathered more others
derived_gathered facts more references others p q = same_gathered facts more references others (sym (derived_set facts) ∙ p ∙ derived_set more) q

pub gathered_document : (facts : List Fact) (references : List (List ℕ)) (d : Document) → SameMembers facts d.facts → references ≡ d.references → gathered facts references ≡ body (d ∷ [])
gathered_document facts references d same is = same_gathered facts (d.facts ++ []) references (d.references ++ [])
    (same_sets fact_cmp_total fact_cmp_exact facts d.facts same ∙ ap (set_of fact_cmp) (sym (append-nil d.facts)))
    (ap (set_of text_cmp) (is ∙ sym (append-nil d.references)))

pub gathered_both : (facts more : List Fact) (references others : List (List ℕ)) → gathered (facts ++ more) (references ++ others) ≡ union (gathered facts references) (gathered more others)
gathered_both facts more references others =
    λ i. record { facts = set_of-both fact_cmp_total fact_cmp_exact facts more i; references = set_of-both text_cmp_total text_cmp_exact references others i }

pub with_nothing : (b : Body) → IsBody b → b ≡ union b (body [])
unfolding set_of
with_nothing b rises = λ i. record {
  facts = is_set_of fact_cmp_total fact_cmp_exact b.facts (b.facts ++ []) rises.facts (λ f. (subst (λ fs. Contains fs f) (sym (append-nil b.facts)), subst (λ fs. Contains fs f) (append-nil b.facts))) i;
  references = is_set_of text_cmp_total text_cmp_exact b.references (b.references ++ []) rises.references (λ r. (subst (λ rs. Contains rs r) (sym (append-nil b.references)), subst (λ rs. Contains rs r) (append-nil b.references))) i;
}

-- the facts and the references of a body are in order, each once
pub gathered_body : (b : Body) → IsBody b → gathered b.facts b.references ≡ b
gathered_body b rises = sym (λ i. record {
  facts = is_set_of fact_cmp_total fact_cmp_exact b.facts b.facts rises.facts (λ f. (λ h. h, λ h. h)) i;
  references = is_set_of text_cmp_total text_cmp_exact b.references b.references rises.references (λ r. (λ h. h, λ h. h)) i;
})

pub gathered_with_body : (b : Body) (facts listed : List Fact) (references texts : List (List ℕ)) → IsBody b → listed ≡ facts ++ b.facts → texts ≡ references ++ b.references → gathered listed texts ≡ union (gathered facts references) b
gathered_with_body b facts listed references texts rises p q =
    (λ i. gathered (p i) (q i)) ∙ gathered_both facts b.facts references b.references ∙ ap (union (gathered facts references)) (gathered_body b rises)

-- ---- unions with what is there

pub union_of_known : (b more : Body) → IsBody b → All (Contains b.facts) more.facts → All (Contains b.references) more.references → b ≡ union b more
union_of_known b more rises facts references = λ i. record {
  facts = all_there fact_cmp_total fact_cmp_exact b.facts more.facts rises.facts facts i;
  references = all_there text_cmp_total text_cmp_exact b.references more.references rises.references references i;
}

pub union_itself : (b : Body) → IsBody b → b ≡ union b b
union_itself b rises = union_of_known b b rises (each_by_there (Contains b.facts) b.facts (λ f h. h)) (each_by_there (Contains b.references) b.references (λ r h. h))

-- ---- unions in another order

pub union_commutes : (a b : Body) → union a b ≡ union b a
union_commutes a b = λ i. record {
  facts = sets_commute fact_cmp_total fact_cmp_exact a.facts b.facts i;
  references = sets_commute text_cmp_total text_cmp_exact a.references b.references i;
}

pub union_associates : (a b c : Body) → union a (union b c) ≡ union (union a b) c
union_associates a b c = λ i. record {
  facts = sets_associate fact_cmp_total fact_cmp_exact a.facts b.facts c.facts i;
  references = sets_associate text_cmp_total text_cmp_exact a.references b.references c.references i;
}

pub union_swaps : (a b c : Body) → union (union a b) c ≡ union (union a c) b
union_swaps a b c = sym (union_associates a b c) ∙ ap (union a) (union_commutes b c) ∙ union_associates a c b

-- if a base has all of a body, so has its union with others
pub adds_nothing : (base others more : Body) → base ≡ union base more → union base others ≡ union (union base others) more
adds_nothing base others more is = ap (λ b. union b others) is ∙ union_swaps base more others

-- ---- the base of the collected facts

pub record Bases (sheet : Sheet) (es : List Entry) (texts : List (List ℕ)) (b : Body) : Type 0 where
  pub stored : AreStored sheet es texts
  pub body : ◌≡◌ {A = Body} (record { facts = facts_of_entries es; references = texts }) b

pub becomes_base : (sheet : Sheet) (facts sorted : List Fact) (es : List Entry) (references texts : List (List ℕ)) → Fits sheet (gathered facts references) → IsPermutation facts sorted → AreEntriesOf sorted es → texts ≡ set_of text_cmp references → Bases sheet es texts (gathered facts references)
becomes_base sheet facts sorted es references texts fits moved are is =
    let all = set_of_is_set fact_cmp_total fact_cmp_exact facts in
    let back = IsPermutation-sym facts sorted moved in
    let there : SameMembers (facts_of_entries es) facts = λ f. (
      λ h. Contains-permutation sorted facts f back ((are.members f).0 h),
      λ h. (are.members f).1 (Contains-permutation facts sorted f moved h),
    ) in
    let each : All (FactFits sheet) sorted = each_by_there (FactFits sheet) sorted (λ f at. All-contains (FactFits sheet) (set_of fact_cmp facts) f fits.facts ((all.members f).1 (Contains-permutation sorted facts f back at))) in
    record {
      stored = record {
        rise = are.rise;
        entries = are.fit sheet each;
        in_order = subst (IsSet text_cmp) (sym is) fits.rises.references;
        references = subst (All IsKeptReference) (sym is) fits.references;
      };
      body = λ i. record {
        facts = is_set_of fact_cmp_total fact_cmp_exact (facts_of_entries es) facts (rises es are.rise are.in_order) there i;
        references = is i;
      };
    }
