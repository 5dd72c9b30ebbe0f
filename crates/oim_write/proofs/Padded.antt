-- A padded number is the text of the number, with zeros before it or without its first digits. Texts of numbers are spelled with it.
use Rattle.oim_write.proofs.Shared.{◌≡◌, ℕ, zero, suc, ◌+◌, ◌-◌, ◌/◌, ◌%◌, ◌^◌, ◌<◌, ◌≤◌, List, [], ◌∷◌, ◌++◌, length, drop, append_assoc, length-append, refl, sym, ap, ◌∙◌, arith, ⊎_elim, add-one, ℤ, unsigned_abs, replicate, Result, Ok, Err, OnOk, is_ok, if◌then◌else◌, drop-append-le, drop_all, replicate_more, cases_lt, UNIT_PLACES, integer_digits, plain, sign_text, with_leading_zeros, all_places, plain_whole}
use Rattle.std.specs.Fmt.{decimal}
use Rattle.std.proofs.lemmas.Fmt.{decimal_by_steps_wide, length-decimal-le_wide}
use Rattle.std.proofs.lemmas.Nat.{mod_below}
use Rattle.oim_write.specs.Rank.{padded}

padded_none : (w : ℕ) → padded w 0 ≡ replicate w 48
unfolding padded
padded_none zero = refl
padded_none (suc w) = ap (λ r. r ++ 48 ∷ []) (padded_none w) ∙ replicate_more w 48 ∙ ap (λ k. replicate k 48) (add-one w)

-- the last w digits of a text, with zeros before it if it is shorter
abbrev pub fitted : ℕ → List ℕ → List ℕ
fitted w ds = replicate (w - length ds) 48 ++ drop (length ds - w) ds

fitted_one : (n w : ℕ) → n < 10 → padded w n ≡ fitted w ((48 + n) ∷ [])
unfolding padded
fitted_one n zero small = refl
fitted_one n (suc w) small =
    let none : n / 10 ≡ 0 = omega arith in
    let last : n % 10 ≡ n = omega arith in
    let zeros : suc w - 1 ≡ w = omega arith in
    let all : 1 - suc w ≡ 0 = omega arith in
    (λ i. padded w (none i) ++ (48 + last i) ∷ [])
    ∙ ap (λ r. r ++ (48 + n) ∷ []) (padded_none w)
    ∙ (λ i. replicate (sym zeros i) 48 ++ drop (sym all i) ((48 + n) ∷ []))

fitted_more : (n w : ℕ) (ds : List ℕ) → ((v : ℕ) → padded v (n / 10) ≡ fitted v ds) → padded w n ≡ fitted w (ds ++ (48 + n % 10) ∷ [])
unfolding padded
fitted_more n zero ds front =
    let long : List ℕ = ds ++ (48 + n % 10) ∷ [] in
    let none : 0 - length long ≡ 0 = omega arith in
    (λ i. replicate (sym none i) 48 ++ sym (drop_all (length long - 0) long (omega arith)) i)
fitted_more n (suc w) ds front =
    let d : ℕ = 48 + n % 10 in
    let more : length (ds ++ d ∷ []) ≡ length ds + 1 = length-append ds (d ∷ []) in
    let zeros : w - length ds ≡ suc w - length (ds ++ d ∷ []) = omega (arith, more) in
    let cut : length ds - w ≡ length (ds ++ d ∷ []) - suc w = omega (arith, more) in
    ap (λ r. r ++ d ∷ []) (front w)
    ∙ append_assoc (replicate (w - length ds) 48) (drop (length ds - w) ds) (d ∷ [])
    ∙ ap (λ r. replicate (w - length ds) 48 ++ r) (sym (drop-append-le (length ds - w) ds (d ∷ []) (omega arith)))
    ∙ (λ i. replicate (zeros i) 48 ++ drop (cut i) (ds ++ d ∷ []))

pub padded_fitted : (w n : ℕ) → n < 10 ^ 64 → padded w n ≡ fitted w (decimal n)
padded_fitted w n small = decimal_by_steps_wide (λ m ds. (v : ℕ) → padded v m ≡ fitted v ds) (λ m one v. fitted_one m v one) (λ m ds many front v. fitted_more m v ds front) n small w

pub padded_end : (counter len pad : ℕ) → pad ≤ counter → (len ≤ pad → counter ≤ pad) → (pad ≤ len → counter ≡ len) → counter - len ≡ pad - len
padded_end counter len pad far near none = ⊎_elim (λ less. omega (arith, none (omega arith))) (λ more. omega (arith, near more)) (cases_lt pad len)

pub padded_is : (w n counter : ℕ) (ds cut : List ℕ) → n < 10 ^ 64 → ds ≡ decimal n → counter - length ds ≡ w - length ds → cut ≡ drop (length ds - w) ds → replicate (counter - length ds) 48 ++ cut ≡ padded w n
padded_is w n counter ds cut small is zeros last = (λ i. replicate (zeros i) 48 ++ last i) ∙ ap (fitted w) is ∙ sym (padded_fitted w n small)

pub pushed : {T E : Type 0} (r : Result T E) (new old more whole : List ℕ) → new ≡ (if is_ok r then old ++ more else old) → old ++ more ≡ whole → OnOk r (new ≡ whole)
pushed (Ok x) new old more whole step all = step ∙ all
pushed (Err e) new old more whole step all = tt

-- ---- a number of units

padded_zeros : (w n : ℕ) → 0 < w → n < 10 ^ w → n < 10 ^ 64 → padded w n ≡ with_leading_zeros w (decimal n)
padded_zeros w n some fits small =
    let none : length (decimal n) - w ≡ 0 = omega (arith, length-decimal-le_wide w n some fits small) in
    padded_fitted w n small ∙ ap (λ k. replicate (w - length (decimal n)) 48 ++ drop k (decimal n)) none

module _ (m : ℤ) (sign ds : List ℕ) (size : ℕ) (sized : size ≡ unsigned_abs m) (signed : sign ≡ sign_text m) (digits : ds ≡ decimal (size / 10 ^ UNIT_PLACES)) where
  pub whole_is : size % 10 ^ UNIT_PLACES ≡ 0 → sign ++ ds ≡ plain m
  whole_is none = (λ i. signed i ++ digits i) ∙ ap (λ n. sign_text m ++ integer_digits n) sized ∙ plain_whole m (rw (← sized) none)

  pub places_are : (zs : List ℕ) → zs ≡ padded UNIT_PLACES (size % 10 ^ UNIT_PLACES) → ((sign ++ ds) ++ 46 ∷ []) ++ zs ≡ all_places m
  places_are zs zeros =
      let rest : size % 10 ^ UNIT_PLACES < 10 ^ UNIT_PLACES = mod_below size (10 ^ UNIT_PLACES) (omega arith) in
      let places = zeros ∙ padded_zeros UNIT_PLACES (size % 10 ^ UNIT_PLACES) (omega arith) rest (omega arith) in
      append_assoc (sign ++ ds) (46 ∷ []) zs ∙ append_assoc sign ds (46 ∷ zs)
      ∙ (λ i. signed i ++ (digits i ++ 46 ∷ places i))
      ∙ ap (λ n. sign_text m ++ (integer_digits n ++ 46 ∷ with_leading_zeros UNIT_PLACES (decimal (n % 10 ^ UNIT_PLACES)))) sized
