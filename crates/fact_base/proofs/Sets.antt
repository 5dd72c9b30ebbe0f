-- The members of sets.
use Rattle.fact_base.proofs.Shared.{◌≡◌, List, [], ◌∷◌, ◌++◌, subst, inl, inr, ⊎_elim, ◌↔◌, Contains, IsTotalOrder, All, All-contains, Ordering, Equal, SameMembers, IsSet, itself, set_with_has_item, set_is_its_members, none_rise}
use Rattle.fact_base.specs.Sets.{set_of}
use Rattle.fact_base.proofs.Members.{first_there, first_or_later, in_one_of_both, later_there, none_there}

pub record IsSetOf {K : Type 0} (R : K → K → Ordering) (xs set : List K) : Type 0 where
  pub rises : IsSet R set
  pub members : (x : K) → Contains set x ↔ Contains xs x

module _ {K : Type 0} {R : K → K → Ordering} (o : IsTotalOrder R) (exact : (x y : K) → R x y ≡ Equal → x ≡ y) where
  pub set_of_is_set : (xs : List K) → IsSetOf R xs (set_of R xs)
  unfolding set_of
  set_of_is_set [] = record { rises = none_rise R itself; members = λ x. (λ h. h, λ h. h) }
  set_of_is_set (x ∷ xs) =
      let rest = set_of_is_set xs in
      let both = set_with_has_item o exact (set_of R xs) x rest.rises in
      record {
        rises = both.rises;
        members = λ y. (
          λ h. ⊎_elim (λ l. later_there x xs y ((rest.members y).0 l)) (λ r. ⊎_elim (λ is. subst (Contains (x ∷ xs)) is (first_there x xs)) (none_there y) (first_or_later x [] y r)) ((both.members y).0 h),
          λ h. (both.members y).1 (⊎_elim (λ is. inr (subst (Contains (x ∷ [])) is (first_there x []))) (λ r. inl ((rest.members y).1 r)) (first_or_later x xs y h)),
        );
      }

  pub is_set_of : (set xs : List K) → IsSet R set → SameMembers set xs → set ≡ set_of R xs
  is_set_of set xs rises same =
      let all = set_of_is_set xs in
      set_is_its_members o exact set (set_of R xs) rises all.rises (λ x. (λ h. (all.members x).1 ((same x).0 h), λ h. (same x).1 ((all.members x).0 h)))

  pub same_sets : (xs ys : List K) → SameMembers xs ys → set_of R xs ≡ set_of R ys
  same_sets xs ys same =
      let all = set_of_is_set xs in
      is_set_of (set_of R xs) ys all.rises (λ x. (λ h. (same x).0 ((all.members x).0 h), λ h. (all.members x).1 ((same x).1 h)))

  pub all_there : (xs ys : List K) → IsSet R xs → All (Contains xs) ys → xs ≡ set_of R (xs ++ ys)
  all_there xs ys rise all = is_set_of xs (xs ++ ys) rise (λ x. (
    λ h. (in_one_of_both xs ys x).1 (inl h),
    λ h. ⊎_elim (λ l. l) (All-contains (Contains xs) ys x all) ((in_one_of_both xs ys x).0 h),
  ))

  pub set_of-both : (xs ys : List K) → set_of R (xs ++ ys) ≡ set_of R (set_of R xs ++ set_of R ys)
  set_of-both xs ys =
      let first = set_of_is_set xs in
      let second = set_of_is_set ys in
      same_sets (xs ++ ys) (set_of R xs ++ set_of R ys) (λ x.
      let spelled = in_one_of_both xs ys x in
      let kept = in_one_of_both (set_of R xs) (set_of R ys) x in (
        λ h. kept.1 (⊎_elim (λ l. inl ((first.members x).1 l)) (λ r. inr ((second.members x).1 r)) (spelled.0 h)),
        λ h. spelled.1 (⊎_elim (λ l. inl ((first.members x).0 l)) (λ r. inr ((second.members x).0 r)) (kept.0 h)),
      ))
