use Rattle.std.proofs.Common.{◌≡◌, ◌+◌, ◌^◌, ◌<◌, ◌≤◌, length, take, vec_capacity}
use Rattle.oim_names.proofs.copied.copies_of.Given as goal

abbrev pub invariant-loop-item : goal.invariant-loop-item
invariant-loop-item g l = record {
  copied : l.copies.items ≡ take l.item-index l.items;
  room : length l.items ≤ vec_capacity l.copies;
  more : length l.items + l.more < 2 ^ 64 → length l.items + l.more ≤ vec_capacity l.copies;
}
