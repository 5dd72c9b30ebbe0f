use Rattle.oim_value.proofs.Shared.{◌≡◌, ◌++◌, ◌∷◌, [], ◌/◌, ◌%◌, ◌^◌, ◌<◌, ◌-◌, ℕ, List, false, length, ap, arith, ◌∙◌, ℤ, string_bytes, unsigned_abs, decimal, padded_integral, format_spec, nat_tests, to_z-of_z, to_z, of_z, w128, UNIT_PLACES, without_trailing, integer_digits, plain, sign_text}
use Rattle.oim_value.proofs.PlainLaws.{fitting_is_writable}
use Rattle.oim_value.proofs.PlainLemmas.{padded_integral-zeros, take-without_trailing}
use Rattle.oim_value.proofs.Written.{all_places, all_places_ascii, plain_cut, plain_whole}
use Rattle.oim_value.proofs.fixed.write_units.Goals as goal

whole_text : (m : ℤ) (t sign : List ℕ) (size : ℕ) → size ≡ unsigned_abs m → sign ≡ sign_text m → size % 10 ^ UNIT_PLACES ≡ 0 → t ≡ sign ++ decimal (size / 10 ^ UNIT_PLACES) → t ≡ plain m
whole_text m t sign size e f none text = text ∙ (λ i. f i ++ integer_digits (e i)) ∙ plain_whole m (rw (← e) none)

places_text : (m : ℤ) (t sign : List ℕ) (size : ℕ) → size ≡ unsigned_abs m → sign ≡ sign_text m → t ≡ sign ++ (decimal (size / 10 ^ UNIT_PLACES) ++ 46 ∷ padded_integral (format_spec 32 0 4 UNIT_PLACES (2 ^ 64 - 1)) false [] (decimal (size % 10 ^ UNIT_PLACES))) → t ≡ all_places m
places_text m t sign size e f text =
    text ∙ (λ i. f i ++ (integer_digits (e i) ++ 46 ∷ padded_integral-zeros (decimal (e i % 10 ^ UNIT_PLACES)) i))

pub returns-then-rest-eq0 : goal.returns-then-rest-eq0
returns-then-rest-eq0 c =
    let units : to_z w128 (of_z w128 c.args.units) ≡ c.args.units = to_z-of_z w128 c.args.units c.ranges.units in
    let size : c.unsigned_abs-size.result ≡ unsigned_abs c.args.units = c.unsigned_abs-size.ensures.value ∙ ap unsigned_abs units in
    let sign : c.sign_of-sign.result.now ≡ sign_text c.args.units = c.sign_of-sign.ensures ∙ ap sign_text units in
    c.in_ok-whole.ensures ∙ whole_text c.args.units _ _ _ size sign (rw c.pow-2.ensures at c.if-rest-eq0.true) (rw c.pow.ensures at c.in_ok-format.ensures.ok)

pub truncate-requires : goal.truncate-requires
truncate-requires c =
    let units : to_z w128 (of_z w128 c.args.units) ≡ c.args.units = to_z-of_z w128 c.args.units c.ranges.units in
    let size : c.unsigned_abs-size.result ≡ unsigned_abs c.args.units = c.unsigned_abs-size.ensures.value ∙ ap unsigned_abs units in
    let sign : c.sign_of-sign.result.now ≡ sign_text c.args.units = c.sign_of-sign.ensures ∙ ap sign_text units in
    let text : string_bytes c.in_ok-text.text ≡ all_places c.args.units = places_text c.args.units _ _ _ size sign (rw (c.laid_out.ensures, c.pow.ensures, c.pow-2.ensures) at c.in_ok-text.ensures.ok) in
    let small = all_places_ascii c.args.units (fitting_is_writable c.args.units c.ranges.units) (length c.skip_trailing_zeros-kept.result.now) in
    let here = rw (← text) at small in
    λ within. (omega arith, λ some inside high. absurd (omega arith))

pub returns : goal.returns
returns c =
    let units : to_z w128 (of_z w128 c.args.units) ≡ c.args.units = to_z-of_z w128 c.args.units c.ranges.units in
    let size : c.unsigned_abs-size.result ≡ unsigned_abs c.args.units = c.unsigned_abs-size.ensures.value ∙ ap unsigned_abs units in
    let sign : c.sign_of-sign.result.now ≡ sign_text c.args.units = c.sign_of-sign.ensures ∙ ap sign_text units in
    let text : string_bytes c.in_ok-text.text ≡ all_places c.args.units = places_text c.args.units _ _ _ size sign (rw (c.laid_out.ensures, c.pow.ensures, c.pow-2.ensures) at c.in_ok-text.ensures.ok) in
    let some : 0 < unsigned_abs c.args.units % 10 ^ UNIT_PLACES = (let other = rw (c.pow-2.ensures, size) at c.if-rest-eq0.false in grind (arith, nat_tests)) in
    let kept : c.skip_trailing_zeros-kept.result.now ≡ without_trailing (string_bytes c.in_ok-text.text) = c.skip_trailing_zeros-kept.ensures ∙ ap without_trailing c.as_bytes.ensures.value in
    c.in_ok-cut.ensures ∙ (c.truncate.ensures.bytes ∙ rw kept (take-without_trailing (string_bytes c.in_ok-text.text) ∙ ap without_trailing text) ∙ plain_cut c.args.units some)
