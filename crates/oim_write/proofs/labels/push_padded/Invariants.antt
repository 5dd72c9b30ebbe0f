use Rattle.std.proofs.Common.{◌≡◌, ◌-◌, ◌≤◌, ◌++◌, length, replicate, string_bytes}
use Rattle.oim_write.proofs.labels.push_padded.Given as goal

-- zeros are appended in place of missing digits
abbrev pub invariant-loop : goal.invariant-loop
invariant-loop l =
    (string_bytes l.text ≡ string_bytes l.initial.text ++ replicate (l.counter - length l.decimal) 48)
    × (l.digits ≤ length l.decimal → l.counter ≡ length l.decimal)
