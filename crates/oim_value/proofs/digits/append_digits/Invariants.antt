use Rattle.oim_value.proofs.Shared.{◌≡◌, drop, true, list_all, is_ascii_digit, digits_value_after}
use Rattle.oim_value.proofs.digits.append_digits.Given as goal

-- the number so far, extended by the remaining digits, is `start` extended by all digits
abbrev pub invariant-loop-c : goal.invariant-loop-c
invariant-loop-c l = record {
  told : digits_value_after 10 l.number (drop l.c-index l.digits) ≡ digits_value_after 10 l.fn.start l.digits;
  digits : list_all is_ascii_digit (drop l.c-index l.digits) ≡ true;
}
