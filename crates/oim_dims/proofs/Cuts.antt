-- Texts that are cut at their first separator.
use Rattle.oim_dims.proofs.Shared.{◌≡◌, ℕ, suc, ◌+◌, ◌<◌, Bool, true, false, List, [], ◌∷◌, ◌++◌, length, drop, refl, arith, ◌||◌, position_or_len, before_first, after_first, list_any, take-append_seam}

pub none_passes : (p : ℕ → Bool) (xs : List ℕ) → position_or_len p xs ≡ length xs → list_any p xs ≡ false
none_passes p [] h = refl
none_passes p (x ∷ xs) h =
    elim (p x) as (λ b. p x ≡ b → list_any p (x ∷ xs) ≡ false) [
      | true ↦ λ e. let none = rw e at h in absurd (omega (arith, none))
      | false ↦ λ e. let more : 1 + position_or_len p xs ≡ length (x ∷ xs) = rw e at h in rw e (none_passes p xs (omega (arith, more)))
    ] refl

pub no_index : (p : ℕ → Bool) (xs : List ℕ) → list_any p xs ≡ false → position_or_len p xs ≡ length xs
no_index p [] h = refl
no_index p (x ∷ xs) h =
    elim (p x) as (λ b. p x ≡ b → position_or_len p (x ∷ xs) ≡ length (x ∷ xs)) [
      | true ↦ λ e. absurd (cc (rw e at h))
      | false ↦ λ e. let rest = no_index p xs (rw e at h) in rw (e, rest) (omega arith)
    ] refl

index_after : (p : ℕ → Bool) (xs ys : List ℕ) (c : ℕ) → list_any p xs ≡ false → p c ≡ true → position_or_len p (xs ++ c ∷ ys) ≡ length xs
index_after p [] ys c none here = rw here refl
index_after p (x ∷ xs) ys c none here =
    elim (p x) as (λ b. p x ≡ b → position_or_len p (x ∷ xs ++ c ∷ ys) ≡ length (x ∷ xs)) [
      | true ↦ λ e. absurd (cc (rw e at none))
      | false ↦ λ e. let rest = index_after p xs ys c (rw e at none) here in rw (e, rest) (omega arith)
    ] refl

some_after : (p : ℕ → Bool) (xs ys : List ℕ) (c : ℕ) → p c ≡ true → list_any p (xs ++ c ∷ ys) ≡ true
some_after p [] ys c here = rw here refl
some_after p (x ∷ xs) ys c here = rw (some_after p xs ys c here) (elim (p x) as (λ b. (b || true) ≡ true) [ true ↦ refl | false ↦ refl ])

pub drop_past : (xs ys : List ℕ) (c : ℕ) → drop (length xs + 1) (xs ++ c ∷ ys) ≡ ys
drop_past [] ys c = refl
drop_past (x ∷ xs) ys c = let next : suc (length xs) + 1 ≡ suc (length xs + 1) = omega arith in rw next (drop_past xs ys c)

-- the first separator of the text t lies between the parts xs and ys
pub record IsCut (p : ℕ → Bool) (t xs ys : List ℕ) : Type 0 where
  pub some : list_any p t ≡ true
  pub before : before_first p t ≡ xs
  pub after : after_first p t ≡ ys

pub cut : (p : ℕ → Bool) (xs ys : List ℕ) (c : ℕ) → list_any p xs ≡ false → p c ≡ true → IsCut p (xs ++ c ∷ ys) xs ys
cut p xs ys c none here =
    let index = index_after p xs ys c none here in
    record {
      some = some_after p xs ys c here;
      before = rw index (take-append_seam xs (c ∷ ys));
      after = rw index (drop_past xs ys c);
    }

pub some_passes : (p : ℕ → Bool) (xs : List ℕ) → (position_or_len p xs < length xs) → list_any p xs ≡ true
some_passes p [] h = absurd (omega arith)
some_passes p (x ∷ xs) h =
    elim (p x) as (λ b. p x ≡ b → list_any p (x ∷ xs) ≡ true) [
      | true ↦ λ e. rw e refl
      | false ↦ λ e. let more : 1 + position_or_len p xs < length (x ∷ xs) = rw e at h in rw e (some_passes p xs (omega (arith, more)))
    ] refl
