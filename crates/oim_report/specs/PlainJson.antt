-- JSON values that are read back from their compact text: no float, integers in range, keys in order, UTF-8 texts, nesting within
-- a limit (RFC 8259; the ranges are own).
use Rattle.std.specs.Prelude.{◌≡◌, ℕ, ◌^◌, ◌<◌, ◌≤◌, pos, negsuc, List, IsUtf8, ⊤, false, Some}
use Rattle.std.specs.declared.cmp.Ordering.TheVariants.{Less}
use Rattle.std.specs.Ordering.{nat_cmp}
use Rattle.std.specs.Cmp.Lexicographic.{slice_cmp}
use Rattle.serde_json.specs.Data.{Num, unsigned, negative, float, Data, null, boolean, number, string, array, object, Items, no_items, item, Members, no_members, member, depth}
use Rattle.serde_json.specs.Read.{max_depth}
use Rattle.serde_json.specs.Written.{compact_text, has_float}
use Rattle.oim_report.specs.Json.{json}

-- an integer that can be written and read: from -2^63 to 2^64 - 1
abbrev pub IsWhole : Num → Type 0
IsWhole (unsigned n) = n < 2 ^ 64
IsWhole (negative (pos n)) = ⊥
IsWhole (negative (negsuc n)) = n < 2 ^ 63
IsWhole (float x) = ⊥

-- the key is less than each key of the members
abbrev pub IsBefore : List ℕ → Members → Type 0
IsBefore k no_members = ⊤
IsBefore k (member l d ms) = (slice_cmp nat_cmp k l ≡ Less) × IsBefore k ms

abbrev mutual
  pub IsPlain : Data → Type 0
  IsPlain null = ⊤
  IsPlain (boolean b) = ⊤
  IsPlain (number n) = IsWhole n
  IsPlain (string s) = ⊤
  IsPlain (array ds) = ItemsArePlain ds
  IsPlain (object ms) = MembersArePlain ms

  pub ItemsArePlain : Items → Type 0
  ItemsArePlain no_items = ⊤
  ItemsArePlain (item d ds) = IsPlain d × ItemsArePlain ds

  pub MembersArePlain : Members → Type 0
  MembersArePlain no_members = ⊤
  MembersArePlain (member k d ms) = IsPlain d × IsBefore k ms × MembersArePlain ms

-- each string and each key is UTF-8
abbrev mutual
  pub HasUtf8 : Data → Type 0
  HasUtf8 null = ⊤
  HasUtf8 (boolean b) = ⊤
  HasUtf8 (number n) = ⊤
  HasUtf8 (string s) = IsUtf8 s
  HasUtf8 (array ds) = ItemsHaveUtf8 ds
  HasUtf8 (object ms) = MembersHaveUtf8 ms

  pub ItemsHaveUtf8 : Items → Type 0
  ItemsHaveUtf8 no_items = ⊤
  ItemsHaveUtf8 (item d ds) = HasUtf8 d × ItemsHaveUtf8 ds

  pub MembersHaveUtf8 : Members → Type 0
  MembersHaveUtf8 no_members = ⊤
  MembersHaveUtf8 (member k d ms) = IsUtf8 k × HasUtf8 d × MembersHaveUtf8 ms

-- a plain value with UTF-8 strings and keys, at most `most` levels deep
pub record IsPlainJson (d : Data) (most : ℕ) : Type 0 where
  pub plain : IsPlain d
  pub utf8 : HasUtf8 d
  pub shallow : depth d ≤ most

-- the compact text of a plain object with UTF-8 strings and keys, at most `max_depth` levels deep, is read as that object
abbrev pub PlainTextReadsBack : Type 0
PlainTextReadsBack = (ms : Members) → IsPlainJson (object ms) max_depth → json (compact_text (object ms)) ≡ Some (object ms)

-- a plain value has no float, so its compact text is the one that `serde_json` writes
abbrev pub PlainHasNoFloat : Type 0
PlainHasNoFloat = (d : Data) → IsPlain d → has_float d ≡ false

-- each string and each key of a value that was read is UTF-8
abbrev pub ReadHasUtf8 : Type 0
ReadHasUtf8 = (bytes : List ℕ) (d : Data) → json bytes ≡ Some d → HasUtf8 d
