-- The limits on the length of URLs and references (own) and on the nesting of JSON (the limit of `serde_json`).
use Rattle.std.specs.Prelude.{◌≡◌, ◌↔◌, ℕ, ◌≤◌, IsTrue, List, length, Some}
use Rattle.serde_json.specs.Data.{Data, object, Members, depth}
use Rattle.serde_json.specs.Written.{compact_text}
use Rattle.oim_report.specs.declared.limits.TheConstants.{MOST_LEVELS}
use Rattle.oim_report.specs.Json.{json}
use Rattle.oim_report.specs.References.{is_within_limit}
use Rattle.oim_report.specs.PlainJson.{IsPlainJson}

-- the limit for each base URL, reference and kept text is 65,536 bytes
abbrev pub TextsAreWithinLimit : Type 0
TextsAreWithinLimit = (text : List ℕ) → IsTrue (is_within_limit text) ↔ (length text ≤ 65_536)

-- a value that was read is at most `MOST_LEVELS` levels deep
abbrev pub NestsWithinLimit : Type 0
NestsWithinLimit = (bytes : List ℕ) (tree : Data) → json bytes ≡ Some tree → depth tree ≤ MOST_LEVELS

-- a plain object with UTF-8 strings and keys, at most `MOST_LEVELS` levels deep, is read back from its compact text
abbrev pub NestedIsRead : Type 0
NestedIsRead = (ms : Members) → IsPlainJson (object ms) MOST_LEVELS → json (compact_text (object ms)) ≡ Some (object ms)
