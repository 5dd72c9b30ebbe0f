-- The sides of a unit's text.
use Rattle.oim_dims.proofs.Shared.{◌≡◌, ◌≢◌, ℕ, suc, ◌+◌, ◌-◌, ◌<◌, true, false, List, [], ◌∷◌, ◌++◌, length, take, get_or, length-append, refl, sym, ap, ◌∙◌, arith, if◌then◌else◌, ◌==◌, position_or_len, before_first, after_first, take_more, take_all, take-append_seam, get_or-append_seam, eqb-true, is_slash}
use Rattle.oim_dims.specs.Unit.{inner, side_pieces, numerator_pieces, denominator_pieces}
use Rattle.oim_dims.proofs.Cuts.{none_passes, some_passes}

front_and_last : (xs : List ℕ) → 0 < length xs → xs ≡ take (length xs - 1) xs ++ get_or xs (length xs - 1) 0 ∷ []
front_and_last xs h =
    let e : length xs - 1 + 1 ≡ length xs = omega arith in
    sym (rw e at (sym (take_more xs (length xs - 1) 0 (omega arith))) ∙ take_all (length xs) xs (omega arith))

pub unopened : (s : List ℕ) → ((rest : List ℕ) → s ≢ 40 ∷ rest) → s ≡ inner s
unopened [] h = refl
unopened (c ∷ cs) h =
    elim (c == 40) as (λ b. (c == 40) ≡ b → c ∷ cs ≡ inner (c ∷ cs)) [
      | true ↦ λ e. absurd (h cs (ap (λ x. x ∷ cs) (eqb-true c 40 e)))
      | false ↦ λ e. rw e refl
    ] refl

inner_open : (rest : List ℕ) → inner (40 ∷ rest) ≡ (if get_or (40 ∷ rest) (length rest) 0 == 41 then take (length rest - 1) rest else 40 ∷ rest)
inner_open rest = let e : length (40 ∷ rest) - 1 ≡ length rest = omega arith in rw e refl

last_open : (c : ℕ) (cs : List ℕ) → (get_or (40 ∷ c ∷ cs) (length (c ∷ cs)) 0 == 41) ≡ true → c ∷ cs ≡ take (length cs) (c ∷ cs) ++ 41 ∷ []
last_open c cs h =
    let last : get_or (c ∷ cs) (length cs) 0 ≡ 41 = eqb-true _ 41 h in
    let e : length (c ∷ cs) - 1 ≡ length cs = omega arith in
    rw (e, last) at (front_and_last (c ∷ cs) (omega arith))

open_alone : (rest : List ℕ) → ((front : List ℕ) → rest ≢ front ++ 41 ∷ []) → 40 ∷ rest ≡ inner (40 ∷ rest)
open_alone [] h = refl
open_alone (c ∷ cs) h =
    elim (get_or (40 ∷ c ∷ cs) (length (c ∷ cs)) 0 == 41) as (λ b. (get_or (40 ∷ c ∷ cs) (length (c ∷ cs)) 0 == 41) ≡ b → 40 ∷ c ∷ cs ≡ inner (40 ∷ c ∷ cs)) [
      | true ↦ λ e. absurd (h _ (last_open c cs e))
      | false ↦ λ e. sym (inner_open (c ∷ cs) ∙ ap (λ b. if b then take (length (c ∷ cs) - 1) (c ∷ cs) else 40 ∷ c ∷ cs) e)
    ] refl

pub unclosed : (s rest : List ℕ) → s ≡ 40 ∷ rest → ((front : List ℕ) → rest ≢ front ++ 41 ∷ []) → s ≡ inner s
unclosed s rest is h = rw is (open_alone rest h)

pub closed : (s rest body : List ℕ) → s ≡ 40 ∷ rest → rest ≡ body ++ 41 ∷ [] → body ≡ inner s
closed s rest body is ends =
    let long : length (body ++ 41 ∷ []) ≡ suc (length body) = omega (arith, length-append body (41 ∷ [])) in
    let back : suc (length body) - 1 ≡ length body = omega arith in
    rw (is, ends) (sym (inner_open (body ++ 41 ∷ []) ∙ rw (long, get_or-append_seam body 41 [] 0, back) (take-append_seam body (41 ∷ []))))

pub one_side : (t : List ℕ) → position_or_len is_slash t ≡ length t → (numerator_pieces t ≡ side_pieces t) × (denominator_pieces t ≡ [])
unfolding numerator_pieces denominator_pieces
one_side t whole = (let front : before_first is_slash t ≡ t = rw whole (take_all (length t) t (omega arith)) in rw front refl, rw (none_passes is_slash t whole) refl)

pub two_sides : (t : List ℕ) → position_or_len is_slash t < length t → (numerator_pieces t ≡ side_pieces (before_first is_slash t)) × (denominator_pieces t ≡ side_pieces (after_first is_slash t))
unfolding numerator_pieces denominator_pieces
two_sides t some = (refl, rw (some_passes is_slash t some) refl)
