-- In a guarded text, a formula begins only after a `'`.
use Rattle.row_formats.proofs.Shared.{◌≡◌, ℕ, Bool, true, false, ◌&&◌, if◌then◌else◌, List, [], ◌∷◌, refl, sym, ap, ◌∙◌, AreMarked, FormulasAreMarked, IsMarked, begins_formula, guarded_inside, is_separator, is_sign, is_skipped, marked}

begins_marked : (test : Bool) (t : List ℕ) → begins_formula (marked test t) ≡ begins_formula t
begins_marked true t = refl
begins_marked false t = refl

-- marks change nothing about where a formula begins
begins_inside : (t : List ℕ) → begins_formula (guarded_inside t) ≡ begins_formula t
begins_inside [] = refl
begins_inside (b ∷ t) = ap (λ f. if is_skipped b then f else is_sign b) (begins_marked (begins_formula t && is_separator b) (guarded_inside t) ∙ begins_inside t)

is_marked : (t : List ℕ) (test : Bool) → (begins_formula t ≡ true → test ≡ true) → IsMarked (marked test t)
is_marked [] true follows = λ is. refl
is_marked [] false follows = tt
is_marked (b ∷ t) true follows = λ is. refl
is_marked (b ∷ t) false follows = λ is. absurd (let no = follows is in cc)

-- a `'` is no separator
are_marked_after : (t : List ℕ) (test : Bool) → AreMarked t → AreMarked (marked test t)
are_marked_after t true are = ((λ is. cc), are)
are_marked_after t false are = are

are_marked_inside : (t : List ℕ) → AreMarked (guarded_inside t)
are_marked_inside [] = tt
are_marked_inside (b ∷ t) =
    let test = begins_formula t && is_separator b in
    ((λ is. is_marked (guarded_inside t) test (λ begins. rw (sym (begins_inside t), begins, is))), are_marked_after (guarded_inside t) test (are_marked_inside t))

pub formulas_are_marked : FormulasAreMarked
formulas_are_marked t =
    (is_marked (guarded_inside t) (begins_formula t) (λ begins. sym (begins_inside t) ∙ begins), are_marked_after (guarded_inside t) (begins_formula t) (are_marked_inside t))
