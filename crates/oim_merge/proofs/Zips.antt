-- Lists whose elements are related index by index.
use Rattle.oim_merge.proofs.Shared.{ℕ, zero, suc, ◌<◌, List, [], ◌∷◌, length, get_or, set, replicate, Option, Some, None, arith, slice_get, AllZip, numbered}

abbrev pub AtBoth : {A B : Type 0} → (A → B → Type 0) → Option A → Option B → Type 0
AtBoth R None None = Unit {0}
AtBoth R (Some x) (Some y) = R x y
AtBoth R o d = ⊥

zip_get : {A B : Type 0} (R : A → B → Type 0) (xs : List A) (ys : List B) → AllZip R xs ys → (k : ℕ) → AtBoth R (slice_get xs k) (slice_get ys k)
zip_get R [] [] h k = tt
zip_get R (x ∷ xs) (y ∷ ys) h zero = h.0
zip_get R (x ∷ xs) (y ∷ ys) h (suc k) = zip_get R xs ys h.1 k
zip_get R xs ys h k = absurd h

pub zip_numbered : {A B : Type 0} (R : A → B → Type 0) (xs : List A) (ys : List B) → AllZip R xs ys → (k : ℕ) → AtBoth R (numbered xs k) (numbered ys k)
zip_numbered R xs ys h zero = tt
zip_numbered R xs ys h (suc k) = zip_get R xs ys h k

pub zip_at : {A B : Type 0} (R : A → B → Type 0) (xs : List A) (ys : List B) → AllZip R xs ys → (k : ℕ) (d : A) (e : B) → k < length xs → R (get_or xs k d) (get_or ys k e)
zip_at R [] [] h k d e within = absurd (omega (arith, within))
zip_at R (x ∷ xs) (y ∷ ys) h zero d e within = h.0
zip_at R (x ∷ xs) (y ∷ ys) h (suc k) d e within = zip_at R xs ys h.1 k d e (omega (arith, within))
zip_at R xs ys h k d e within = absurd h

pub zip_set : {A B : Type 0} (R : A → B → Type 0) (xs : List A) (ys : List B) → AllZip R xs ys → (k : ℕ) (d : A) (y : B) → R (get_or xs k d) y → AllZip R xs (set ys k y)
zip_set R [] [] h k d y one = tt
zip_set R (x ∷ xs) (w ∷ ys) h zero d y one = (one, h.1)
zip_set R (x ∷ xs) (w ∷ ys) h (suc k) d y one = (h.0, zip_set R xs ys h.1 k d y one)
zip_set R xs ys h k d y one = absurd h

pub zip_both : {A B : Type 0} (R : A → B → Type 0) (xs : List A) (ys : List B) → AllZip R xs ys → (k : ℕ) (x : A) (y : B) → R x y → AllZip R (set xs k x) (set ys k y)
zip_both R [] [] h k x y one = tt
zip_both R (z ∷ xs) (w ∷ ys) h zero x y one = (one, h.1)
zip_both R (z ∷ xs) (w ∷ ys) h (suc k) x y one = (h.0, zip_both R xs ys h.1 k x y one)
zip_both R xs ys h k x y one = absurd h

pub zip_weaker : {A B : Type 0} (R S : A → B → Type 0) → ((x : A) (y : B) → R x y → S x y) → (xs : List A) (ys : List B) → AllZip R xs ys → AllZip S xs ys
zip_weaker R S weaker [] [] h = tt
zip_weaker R S weaker (x ∷ xs) (y ∷ ys) h = (weaker x y h.0, zip_weaker R S weaker xs ys h.1)
zip_weaker R S weaker o d h = absurd h

pub zip_same : {A B : Type 0} (R : A → B → Type 0) (xs : List A) (y : B) → ((x : A) → R x y) → AllZip R xs (replicate (length xs) y)
zip_same R [] y each = tt
zip_same R (x ∷ xs) y each = (each x, zip_same R xs y each)
