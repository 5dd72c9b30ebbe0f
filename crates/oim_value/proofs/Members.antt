-- The members of a list with one more item at its head.
use Rattle.std.proofs.Common.{◌≡◌, ◌⊎◌, zero, suc, List, [], ◌∷◌, Contains, Any, refl, arith, inl, inr}

pub none_there : {A B : Type 0} (x : A) → Contains [] x → B
none_there x h = absurd (omega (arith, h.1))

pub first_there : {A : Type 0} (x : A) (xs : List A) → Contains (x ∷ xs) x
first_there x xs = (zero, omega arith, refl)

pub later_there : {A : Type 0} (x : A) (xs : List A) (y : A) → Contains xs y → Contains (x ∷ xs) y
later_there x xs y h = (suc h.0, omega (arith, h.1), h.2)

pub first_or_later : {A : Type 0} (x : A) (xs : List A) (y : A) → Contains (x ∷ xs) y → (x ≡ y) ⊎ Contains xs y
first_or_later x xs y (zero, within, is) = inl is
first_or_later x xs y (suc k, within, is) = inr (k, omega (arith, within), is)

pub some_later : {A : Type 0} (P : A → Type 0) (x : A) (xs : List A) → Any P xs → Any P (x ∷ xs)
some_later P x xs h = (suc h.0, h.1, omega (arith, h.2), h.3, h.4)

pub some_first : {A : Type 0} (P : A → Type 0) (x : A) (xs : List A) → P x → Any P (x ∷ xs)
some_first P x xs h = (zero, x, omega arith, refl, h)
