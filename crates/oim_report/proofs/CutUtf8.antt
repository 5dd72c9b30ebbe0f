-- If a UTF-8 text is cut at ASCII characters, its parts are UTF-8.
use Rattle.oim_report.proofs.Shared.{◌≡◌, ℕ, ◌+◌, ◌-◌, ◌<◌, ◌≤◌, List, [], ◌∷◌, ◌++◌, length, get_or, take, drop, Bool, true, false, ◌==◌, ◌&&◌, cond, refl, sym, subst, arith, length-append, All, IsUtf8, eqb-true, take_all, inl, inr, take-append_seam, get_or-append_seam, after_first, before_first, join_with_byte, list_any, position_or_len, and_parts, cases_lt, drop_all, nat_tests, All-cons, passes_at_first, IsUtf8-take, IsUtf8-drop, IsUtf8-between, IsUtf8-nil, IsCharBoundary-before_ascii, IsCharBoundary-after_ascii, is_slash, is_colon}
use Rattle.std.proofs.lemmas.List.Splits.{join_with_byte-slice_split}
use Rattle.oim_dims.specs.Unit.{inner, side_pieces, numerator_pieces, denominator_pieces}
use Rattle.oim_dims.proofs.Cuts.{drop_past}

abbrev pub OnlyAscii : (ℕ → Bool) → Type 0
OnlyAscii p = (c : ℕ) → p c ≡ true → c < 128

module _ (p : ℕ → Bool) (ascii : OnlyAscii p) (t : List ℕ) (utf8 : IsUtf8 t) where
  passed : position_or_len p t < length t → get_or t (position_or_len p t) 0 < 128
  passed lt = ascii _ (passes_at_first p t 0 lt)

  pub after_utf8 : IsUtf8 (after_first p t)
  after_utf8 = elim (cases_lt (position_or_len p t) (length t)) [
    | inl lt ↦ IsUtf8-drop t (position_or_len p t + 1) utf8 (IsCharBoundary-after_ascii t (position_or_len p t) utf8 lt (passed lt))
    | inr ge ↦ subst IsUtf8 (sym (drop_all (position_or_len p t + 1) t (omega (arith, ge)))) IsUtf8-nil
  ]

  pub before_utf8 : IsUtf8 (before_first p t)
  before_utf8 = elim (cases_lt (position_or_len p t) (length t)) [
    | inl lt ↦ IsUtf8-take t (position_or_len p t) utf8 (IsCharBoundary-before_ascii t (position_or_len p t) lt (passed lt))
    | inr ge ↦ subst IsUtf8 (sym (take_all (position_or_len p t) t (omega (arith, ge)))) utf8
  ]

seam_within : (xs ys : List ℕ) (c : ℕ) → length xs < length (xs ++ c ∷ ys)
seam_within xs ys c = simp length-append (omega arith)

pub both_utf8 : (xs ys : List ℕ) (c : ℕ) → c < 128 → IsUtf8 (xs ++ c ∷ ys) → IsUtf8 xs × IsUtf8 ys
both_utf8 xs ys c ascii utf8 =
    let low : get_or (xs ++ c ∷ ys) (length xs) 0 < 128 = rw (get_or-append_seam xs c ys 0) ascii in (
      subst IsUtf8 (take-append_seam xs (c ∷ ys)) (IsUtf8-take (xs ++ c ∷ ys) (length xs) utf8 (IsCharBoundary-before_ascii (xs ++ c ∷ ys) (length xs) (seam_within xs ys c) low)),
      subst IsUtf8 (drop_past xs ys c) (IsUtf8-drop (xs ++ c ∷ ys) (length xs + 1) utf8 (IsCharBoundary-after_ascii (xs ++ c ∷ ys) (length xs) utf8 (seam_within xs ys c) low)),
    )

joined_utf8 : (c : ℕ) → c < 128 → (ps : List (List ℕ)) → IsUtf8 (join_with_byte c ps) → All IsUtf8 ps
joined_utf8 c ascii [] utf8 = λ k d lt. absurd (omega (arith, lt))
joined_utf8 c ascii (p ∷ []) utf8 = All-cons IsUtf8 p [] utf8 (λ k d lt. absurd (omega (arith, lt)))
joined_utf8 c ascii (p ∷ q ∷ ps) utf8 = let both = both_utf8 p (join_with_byte c (q ∷ ps)) c ascii utf8 in All-cons IsUtf8 p (q ∷ ps) both.0 (joined_utf8 c ascii (q ∷ ps) both.1)

only_slash : OnlyAscii is_slash
only_slash c h = grind (arith, nat_tests, h)

pub only_colon : OnlyAscii is_colon
only_colon c h = grind (arith, nat_tests, h)

two : (s : List ℕ) → get_or s 0 0 ≡ 40 → get_or s (length s - 1) 0 ≡ 41 → 2 ≤ length s
two [] a b = absurd (omega (arith, a))
two (c ∷ []) a b = absurd (omega (arith, a, b))
two (c ∷ d ∷ cs) a b = omega arith

inside_utf8 : (s : List ℕ) → IsUtf8 s → get_or s 0 0 ≡ 40 → get_or s (length s - 1) 0 ≡ 41 → IsUtf8 (take (length s - 1 - 1) (drop 1 s))
inside_utf8 s utf8 open' close =
    let many = two s open' close in
    IsUtf8-between s 1 (length s - 1) utf8 (omega (arith, many)) (IsCharBoundary-after_ascii s 0 utf8 (omega (arith, many)) (omega (arith, open'))) (IsCharBoundary-before_ascii s (length s - 1) (omega (arith, many)) (omega (arith, close)))

inner_utf8 : (s : List ℕ) → IsUtf8 s → IsUtf8 (inner s)
inner_utf8 s utf8 =
    let P : Bool → Type 0 = λ b. (get_or s 0 0 == 40 && get_or s (length s - 1) 0 == 41) ≡ b → IsUtf8 (cond b (take (length s - 1 - 1) (drop 1 s)) s) in
    elim (get_or s 0 0 == 40 && get_or s (length s - 1) 0 == 41) as P [
      | true ↦ λ e. (let both = and_parts (get_or s 0 0 == 40) (get_or s (length s - 1) 0 == 41) e in inside_utf8 s utf8 (eqb-true _ _ both.0) (eqb-true _ _ both.1))
      | false ↦ λ e. utf8
    ] refl

pieces_utf8 : (s : List ℕ) → IsUtf8 s → All IsUtf8 (side_pieces s)
pieces_utf8 s utf8 = joined_utf8 42 (omega arith) (side_pieces s) (subst IsUtf8 (sym (join_with_byte-slice_split 42 (inner s))) (inner_utf8 s utf8))

pub numerators_utf8 : (t : List ℕ) → IsUtf8 t → All IsUtf8 (numerator_pieces t)
unfolding numerator_pieces
numerators_utf8 t utf8 = pieces_utf8 (before_first is_slash t) (before_utf8 is_slash only_slash t utf8)

pub denominators_utf8 : (t : List ℕ) → IsUtf8 t → All IsUtf8 (denominator_pieces t)
unfolding denominator_pieces
denominators_utf8 t utf8 = elim (list_any is_slash t) as (λ b. All IsUtf8 (cond b (side_pieces (after_first is_slash t)) [])) [
  | true ↦ pieces_utf8 (after_first is_slash t) (after_utf8 is_slash only_slash t utf8)
  | false ↦ λ k d lt. absurd (omega (arith, lt))
]
