-- What reading a report gives (own).
use Rattle.std.specs.Prelude.{◌≡◌, ℕ, List, Result, Ok, Err, MatchResult}
use Rattle.oim_report.specs.Outcome.{outcome}
use Rattle.oim_report.specs.Report.{Reading}
use Rattle.oim_report.specs.Sheet.{Sheet}
use Rattle.oim_report.specs.declared.refusal.Refusal.{Refusal}

-- `read` is the report or refusal that `outcome` gives for these bytes
abbrev pub IsOutcome : Sheet → List ℕ → Result Reading Refusal → Type 0
IsOutcome sheet bytes read = MatchResult read (λ r. outcome sheet bytes ≡ Ok r.document) (λ refusal. outcome sheet bytes ≡ Err refusal)
