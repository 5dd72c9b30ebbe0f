-- A language in lower case is read without a change.
use Rattle.oim_dims.proofs.Shared.{◌≡◌, ℕ, suc, Bool, true, false, cond, List, [], ◌∷◌, map, take, refl, sym, ap, ◌∙◌, arith, list_all, slice_split, onto_first, position_or_len, is_ascii_alphabetic, is_ascii_alphanumeric, to_ascii_lowercase, str_to_ascii_lowercase, nat_tests, length-map, is_hyphen, is_group, is_language, LanguagesAreKept}
use Rattle.std.proofs.lemmas.Str.Ascii.{lowercase-lowercase}

lower_hyphen : (c : ℕ) → is_hyphen (to_ascii_lowercase c) ≡ is_hyphen c
lower_hyphen c = grind (arith, nat_tests)

lower_letter : (c : ℕ) → is_ascii_alphabetic (to_ascii_lowercase c) ≡ is_ascii_alphabetic c
lower_letter c = grind (arith, nat_tests)

lower_letter_or_digit : (c : ℕ) → is_ascii_alphanumeric (to_ascii_lowercase c) ≡ is_ascii_alphanumeric c
lower_letter_or_digit c = grind (arith, nat_tests)

lower_all : (p : ℕ → Bool) → ((c : ℕ) → p (to_ascii_lowercase c) ≡ p c) → (xs : List ℕ) → list_all p (str_to_ascii_lowercase xs) ≡ list_all p xs
lower_all p same [] = refl
lower_all p same (x ∷ xs) = rw (same x, lower_all p same xs) refl

lower_onto : (c : ℕ) (gs : List (List ℕ)) → map str_to_ascii_lowercase (onto_first c gs) ≡ onto_first (to_ascii_lowercase c) (map str_to_ascii_lowercase gs)
lower_onto c [] = refl
lower_onto c (g ∷ gs) = refl

lower_split : (xs : List ℕ) → slice_split is_hyphen (str_to_ascii_lowercase xs) ≡ map str_to_ascii_lowercase (slice_split is_hyphen xs)
lower_split [] = refl
lower_split (x ∷ xs) =
    rw (lower_hyphen x, lower_split xs)
    (elim (is_hyphen x) as (λ b. cond b ([] ∷ map str_to_ascii_lowercase (slice_split is_hyphen xs)) (onto_first (to_ascii_lowercase x) (map str_to_ascii_lowercase (slice_split is_hyphen xs))) ≡ map str_to_ascii_lowercase (cond b ([] ∷ slice_split is_hyphen xs) (onto_first x (slice_split is_hyphen xs)))) [
      | true ↦ refl
      | false ↦ sym (lower_onto x (slice_split is_hyphen xs))
    ])

lower_group : (g : List ℕ) → is_group (str_to_ascii_lowercase g) ≡ is_group g
lower_group g = rw (length-map, lower_all is_ascii_alphanumeric lower_letter_or_digit g) refl

lower_groups : (gs : List (List ℕ)) → list_all is_group (map str_to_ascii_lowercase gs) ≡ list_all is_group gs
lower_groups [] = refl
lower_groups (g ∷ gs) = rw (lower_group g, lower_groups gs) refl

lower_index : (xs : List ℕ) → position_or_len is_hyphen (str_to_ascii_lowercase xs) ≡ position_or_len is_hyphen xs
lower_index [] = refl
lower_index (x ∷ xs) = rw (lower_hyphen x, lower_index xs) refl

lower_take : (n : ℕ) (xs : List ℕ) → take n (str_to_ascii_lowercase xs) ≡ str_to_ascii_lowercase (take n xs)
lower_take (suc n) (x ∷ xs) = ap (λ t. to_ascii_lowercase x ∷ t) (lower_take n xs)
lower_take n xs = refl

pub lower_language : (t : List ℕ) → is_language (str_to_ascii_lowercase t) ≡ is_language t
lower_language t = rw (lower_split t, lower_groups (slice_split is_hyphen t), lower_index t, lower_take (position_or_len is_hyphen t) t, lower_all is_ascii_alphabetic lower_letter (take (position_or_len is_hyphen t) t)) refl

pub lower_again : (t : List ℕ) → str_to_ascii_lowercase (str_to_ascii_lowercase t) ≡ str_to_ascii_lowercase t
lower_again [] = refl
lower_again (c ∷ cs) = rw (lowercase-lowercase c, lower_again cs) refl

pub language_kept : LanguagesAreKept
language_kept t h = record { language = lower_language t ∙ h; same = lower_again t }
