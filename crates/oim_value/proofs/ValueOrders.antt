-- Properties of the derived order of values.
use Rattle.oim_value.proofs.Shared.{◌≡◌, refl, subst, ◌∙◌, ℤ, Option, Some, None, Ordering, Less, Equal, Greater, Value, Nil, Number, AText, AName, value_cmp}
use Rattle.std.specs.Cmp.{IsTotalOrder}
use Rattle.std.specs.Ordering.{ordering_reverse}
use Rattle.oim_value.specs.contracts.value.ValueKey.TheImpl.Laws.{exact-law}
use Rattle.oim_value.specs.contracts.value.ValueOrd.TheImpl.Laws.{total-law}
use Rattle.oim_value.specs.contracts.value.ValueOrd.TheImpl.{cmp-value as derived}

numbers_agree : (m n : ℤ) (d e : Option ℤ) → derived.it (Number m d) (Number n e) ≡ value_cmp (Number m d) (Number n e)
numbers_agree m n (Some d) (Some e) = refl
numbers_agree m n (Some d) None = refl
numbers_agree m n None (Some e) = refl
numbers_agree m n None None = refl

pub values_agree : (x y : Value) → derived.it x y ≡ value_cmp x y
values_agree = elim [
  | Nil ↦ elim [ Nil ↦ refl | Number n e ↦ refl | AText t ↦ refl | AName n ↦ refl ]
  | Number m d ↦ elim [ Nil ↦ refl | Number n e ↦ numbers_agree m n d e | AText t ↦ refl | AName n ↦ refl ]
  | AText s ↦ elim [ Nil ↦ refl | Number n e ↦ refl | AText t ↦ refl | AName n ↦ refl ]
  | AName m ↦ elim [ Nil ↦ refl | Number n e ↦ refl | AText t ↦ refl | AName n ↦ refl ]
]

pub value_cmp_total : IsTotalOrder value_cmp
value_cmp_total = subst IsTotalOrder (λ i x y. values_agree x y i) total-law

pub value_cmp_exact : (x y : Value) → value_cmp x y ≡ Equal → x ≡ y
value_cmp_exact x y h = exact-law x y (values_agree x y ∙ h)

pub value_cmp_self : (x : Value) → value_cmp x x ≡ Equal
value_cmp_self x = ties (value_cmp x x) (value_cmp_total.antisymm x x)
  where
    ties : (r : Ordering) → r ≡ ordering_reverse r → r ≡ Equal
    ties Less h = cc
    ties Equal h = refl
    ties Greater h = cc
