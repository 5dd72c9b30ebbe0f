-- Reports that are added one at a time (own).
use Rattle.std.specs.Prelude.{◌≡◌, ◌+◌, ℕ, List, [], ◌∷◌, ◌++◌, length}
use Rattle.oim_report.specs.Outcome.{outcome}
use Rattle.oim_report.specs.Sheet.{Sheet}
use Rattle.oim_report.specs.declared.refusal.Refusal.{Refusal}
use Rattle.fact_base.specs.Body.{Body, body, union}
use Rattle.oim_merge.specs.Reports.{document_in, merged, refusal_in, refused}

-- the sheet, the body of the accepted reports, the refusals, and the count of all reports
pub record Added : Type 0 where
  pub sheet : Sheet
  pub body : Body
  pub refusals : List (ℕ × Refusal)
  pub reports : ℕ

abbrev pub begun : Sheet → Added
begun sheet = record { sheet = sheet; body = body []; refusals = []; reports = 0 }

-- an accepted report adds its facts and references; a refused report adds only its refusal
abbrev pub with_report : Added → List ℕ → Added
with_report a bytes = record {
  sheet = a.sheet;
  body = union a.body (body (document_in (outcome a.sheet bytes)));
  refusals = a.refusals ++ refusal_in (a.reports + 1) (outcome a.sheet bytes);
  reports = a.reports + 1;
}

abbrev pub with_reports : Added → List (List ℕ) → Added
with_reports a [] = a
with_reports a (bytes ∷ reports) = with_reports (with_report a bytes) reports

-- the state after all reports of a list, computed from the whole list
abbrev pub added : Sheet → List (List ℕ) → Added
added sheet reports = record { sheet = sheet; body = merged sheet reports; refusals = refused sheet reports; reports = length reports }

-- adding reports one at a time gives the state that is computed from the whole list
abbrev pub StepsAreList : Type 0
StepsAreList = (sheet : Sheet) (reports : List (List ℕ)) → with_reports (begun sheet) reports ≡ added sheet reports
