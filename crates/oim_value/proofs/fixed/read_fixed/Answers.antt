use Rattle.oim_value.proofs.Shared.{◌≡◌, ◌-◌, ℕ, List, ◌++◌, ◌*◌, ◌^◌, length, true, ap, arith, rules, ◌∙◌, IsTrue, digits_value_after, UNIT_PLACES, is_point, integer_part, fraction_part, is_numeral, unsigned, is_negative, signed, before_first, after_first}
use Rattle.oim_value.proofs.Numerals.{parts_of_numeral, digits_without_leading, digits_without_trailing}
use Rattle.oim_value.proofs.Units.{denotes_from}
use Rattle.oim_value.proofs.fixed.read_fixed.Goals as goal

both : {a b x y : List ℕ} → a ≡ b → x ≡ y → (f : List ℕ → ℕ) → f (a ++ x) ≡ f (b ++ y)
both p q f = λ i. f (p i ++ q i)

is_numeral-both : {a b x y : List ℕ} → a ≡ b → x ≡ y → IsTrue (is_numeral (a ++ x)) → IsTrue (is_numeral (b ++ y))
is_numeral-both p q h = rw (← p, ← q) h

pub number_of-number-requires-clause-integer : goal.number_of-number-requires-clause-integer
number_of-number-requires-clause-integer c =
    let numeral : is_numeral (c.split_point.result.0.now ++ c.split_point.result.1.now) ≡ true = search rules in
    rw c.skip_leading_zeros-integer.ensures (digits_without_leading c.split_point.result.0.now (parts_of_numeral c.split_point.result.0.now c.split_point.result.1.now numeral).0)

pub number_of-number-requires-clause-fraction : goal.number_of-number-requires-clause-fraction
number_of-number-requires-clause-fraction c =
    let numeral : is_numeral (c.split_point.result.0.now ++ c.split_point.result.1.now) ≡ true = search rules in
    rw c.skip_trailing_zeros-fraction.ensures (digits_without_trailing c.split_point.result.1.now (parts_of_numeral c.split_point.result.0.now c.split_point.result.1.now numeral).1)

pub returns-clause-denoted : goal.returns-clause-denoted
returns-clause-denoted c =
    let numeral : is_numeral (c.split_point.result.0.now ++ c.split_point.result.1.now) ≡ true = search rules in
    let rest : c.split_sign-negative.result.1.now ≡ unsigned c.args.text.now = c.split_sign-negative.ensures.rest ∙ ap unsigned c.as_bytes.ensures.value in
    let integer : c.split_point.result.0.now ≡ integer_part c.args.text.now = c.split_point.ensures.integer ∙ ap (before_first is_point) rest in
    let fraction : c.split_point.result.1.now ≡ fraction_part c.args.text.now = c.split_point.ensures.fraction ∙ ap (after_first is_point) rest in
    denotes_from c.args.text.now c.split_point.result.0.now c.split_point.result.1.now c.number_of-number.result (length c.skip_trailing_zeros-fraction.result.now) c.scaled.result
    integer fraction
    (is_numeral-both integer fraction numeral)
    (c.number_of-number.ensures.value ∙ both c.skip_leading_zeros-integer.ensures c.skip_trailing_zeros-fraction.ensures (digits_value_after 10 0))
    (ap (length {A = ℕ}) c.skip_trailing_zeros-fraction.ensures)
    (omega arith)
    (c.scaled.ensures ∙ ap (λ b. signed b (c.number_of-number.result * 10 ^ (UNIT_PLACES - length c.skip_trailing_zeros-fraction.result.now))) (c.split_sign-negative.ensures.negative ∙ ap is_negative c.as_bytes.ensures.value))
