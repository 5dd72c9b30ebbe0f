-- A search through one list and then another.
use Rattle.oim_dims.proofs.Shared.{◌≡◌, List, [], ◌∷◌, ◌++◌, Bool, true, false, ◌||◌, cond, refl, sym, ap, ◌∙◌, Option, Some, None, is_some, option_map, option_or, find, list_any, find-append}

pub some_found : {B : Type 0} (test : B → Bool) (xs : List B) → is_some (find test xs) ≡ list_any test xs
some_found test [] = refl
some_found test (x ∷ xs) = elim (test x) as (λ b. is_some (cond b (Some x) (find test xs)) ≡ (b || list_any test xs)) [ true ↦ refl | false ↦ some_found test xs ]

mapped_some : {A B : Type 0} (v : A → B) (o : Option A) → is_some o ≡ is_some (option_map v o)
mapped_some v None = refl
mapped_some v (Some a) = refl

module _ {A B : Type 0} (v : A → B) (test : B → Bool) (xs ys : List B) where
  pub in_first : (a : A) → option_map v (Some a) ≡ find test xs → option_map v (Some a) ≡ find test (xs ++ ys)
  in_first a found = sym (find-append test xs ys ∙ ap (λ o. option_or o (find test ys)) (sym found))

  pub some_first : (a : A) → option_map v (Some a) ≡ find test xs → true ≡ (list_any test xs || list_any test ys)
  some_first a found = ap (λ b. b || list_any test ys) (ap is_some found ∙ some_found test xs)

  pub in_second : (o : Option A) → option_map v None ≡ find test xs → option_map v o ≡ find test ys → option_map v o ≡ find test (xs ++ ys)
  in_second o none found = sym (find-append test xs ys ∙ ap (λ q. option_or q (find test ys)) (sym none) ∙ sym found)

  pub some_second : (o : Option A) → option_map v None ≡ find test xs → option_map v o ≡ find test ys → is_some o ≡ (list_any test xs || list_any test ys)
  some_second o none found = mapped_some v o ∙ ap is_some found ∙ some_found test ys ∙ ap (λ b. b || list_any test ys) (ap is_some none ∙ some_found test xs)
