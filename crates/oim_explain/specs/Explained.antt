-- What `explain` returns for a report (own).
use Rattle.std.specs.Prelude.{◌≡◌, ℕ, ◌+◌, ◌-◌, ◌^◌, min, List, [], ◌++◌, get_or, length, map, replicate, Option, None, Some, IsSomeAnd, string_bytes}
use Rattle.std.specs.Option.{unwrap_or}
use Rattle.json.specs.Json.{document}
use Rattle.json.specs.Strict.{HasUniqueKeys}
use Rattle.oim_report.specs.Faults.{faults}
use Rattle.oim_report.specs.Identifiers.{identifiers}
use Rattle.oim_report.specs.Json.{without_mark}
use Rattle.oim_report.specs.Sheet.{Sheet}
use Rattle.oim_report.specs.declared.place.Place.{Place}
use Rattle.oim_report.specs.declared.place.Place.TheVariants.{Document, Fact}
use Rattle.oim_report.specs.declared.refusal.Refusal.{Refusal}
use Rattle.oim_explain.specs.Lines.{AreLines, Printed, repeated_member}
use Rattle.oim_explain.specs.declared.lines.Explained.{Explained}
use Rattle.oim_explain.specs.declared.lines.Input.{Input}

-- the identifier of the fact with a fault, given the identifiers of all facts in byte order; facts are numbered from 1
abbrev pub identifier_at : List (List ℕ) → Place → Option (List ℕ)
identifier_at is Document = None
identifier_at is (Fact n) = Some (get_or is (n - 1) [])

abbrev pub printed_fault : List (List ℕ) → Refusal → Printed
printed_fault is refusal = record { refusal = Some refusal; identifier = identifier_at is refusal.place }

-- the faults of a report, in the order of `faults`
abbrev pub printed_faults : Sheet → List ℕ → List Printed
printed_faults sheet bytes = map (printed_fault (unwrap_or (identifiers bytes) [])) (faults sheet bytes)

-- the bytes are JSON in which an object repeats a key
abbrev pub RepeatsKeys : List ℕ → Type 0
RepeatsKeys bytes = IsSomeAnd (document (without_mark bytes)) (λ tree. ¬ (HasUniqueKeys tree))

-- the number of lines, as far as 64 bits hold it
abbrev pub counted : ℕ → ℕ
counted n = min n (2 ^ 64 - 1)

pub record Explains (input : Input) (bytes : List ℕ) (found : List Printed) (e : Explained) : Type 0 where
  pub repeated : ℕ
  -- the lines of the faults that were found come before those of repeated members
  pub lines : AreLines input (found ++ replicate repeated repeated_member) (string_bytes e.text)
  pub count : e.faults ≡ counted (length found + repeated)
  pub unique : ¬ (RepeatsKeys bytes) → repeated ≡ 0
