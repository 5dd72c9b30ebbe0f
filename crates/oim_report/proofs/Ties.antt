-- The derived comparisons of values, dimensions and levels agree with the definitions.
use Rattle.oim_report.proofs.Shared.{◌≡◌, cond, true, refl, sym, ap, ◌∙◌, is_eq, is_lt, Equal-is, ord_max, partial_lt, level_cmp, Level, values_agree, Value, value_cmp, dimensions_agree, dimensions_cmp_exact, dimensions_eq, DimensionSet, dimensions_cmp}
use Rattle.oim_value.specs.contracts.level.LevelOrd.TheImpl.{cmp-value as derived}
use Rattle.oim_value.specs.contracts.level.LevelPartialOrd.TheImpl.{partial_cmp-value as partial}
use Rattle.oim_value.specs.declared.level.Level.TheVariants.{Unique, Complete, Consistent, All}
use Rattle.oim_value.specs.contracts.value.ValueOrd.TheImpl.Laws.{matches_eq-law as values_match}
use Rattle.oim_value.specs.contracts.value.ValuePartialEq.TheImpl.{eq-value as value_eq}
use Rattle.oim_dims.specs.contracts.dimensions.DimensionsOrd.TheImpl.Laws.{matches_eq-law as dimensions_match}

pub equal_values_tie : (v w : Value) → value_eq.it v w ≡ is_eq (value_cmp v w)
equal_values_tie v w = values_match v w ∙ ap is_eq (values_agree v w)

pub equal_dimensions_tie : (x y : DimensionSet) → dimensions_eq.it x y ≡ is_eq (dimensions_cmp x y)
equal_dimensions_tie x y = dimensions_match x y ∙ ap is_eq (dimensions_agree x y)

pub equal_dimensions : (x y : DimensionSet) → dimensions_eq.it x y ≡ true → x ≡ y
equal_dimensions x y h = dimensions_cmp_exact x y ((Equal-is (dimensions_cmp x y)).0 (sym (equal_dimensions_tie x y) ∙ h))

pub level_max_is : (l m : Level) → ord_max derived.it l m ≡ ord_max level_cmp l m
level_max_is l m = ap (λ o. cond (is_lt o) l m) (levels_agree m l)
  where
    levels_agree : (l m : Level) → derived.it l m ≡ level_cmp l m
    levels_agree = elim [
      | Unique ↦ elim [ Unique ↦ refl | Complete ↦ refl | Consistent ↦ refl | All ↦ refl ]
      | Complete ↦ elim [ Unique ↦ refl | Complete ↦ refl | Consistent ↦ refl | All ↦ refl ]
      | Consistent ↦ elim [ Unique ↦ refl | Complete ↦ refl | Consistent ↦ refl | All ↦ refl ]
      | All ↦ elim [ Unique ↦ refl | Complete ↦ refl | Consistent ↦ refl | All ↦ refl ]
    ]

-- the derived order puts one level below another exactly if the first is stricter
pub lesser_levels_tie : (l m : Level) → partial_lt partial.it l m ≡ is_lt (level_cmp l m)
lesser_levels_tie = elim [
  | Unique ↦ elim [ Unique ↦ refl | Complete ↦ refl | Consistent ↦ refl | All ↦ refl ]
  | Complete ↦ elim [ Unique ↦ refl | Complete ↦ refl | Consistent ↦ refl | All ↦ refl ]
  | Consistent ↦ elim [ Unique ↦ refl | Complete ↦ refl | Consistent ↦ refl | All ↦ refl ]
  | All ↦ elim [ Unique ↦ refl | Complete ↦ refl | Consistent ↦ refl | All ↦ refl ]
]
