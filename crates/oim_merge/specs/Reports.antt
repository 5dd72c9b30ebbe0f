-- Reports that are read under a sheet (own).
use Rattle.std.specs.Prelude.{ℕ, suc, List, [], ◌∷◌, ◌++◌, flat_map, Result, Ok, Err}
use Rattle.oim_report.specs.Document.{Document}
use Rattle.oim_report.specs.Outcome.{outcome}
use Rattle.oim_report.specs.Sheet.{Sheet}
use Rattle.oim_report.specs.declared.refusal.Refusal.{Refusal}
use Rattle.fact_base.specs.Body.{Body, body}

-- the document of an accepted report; a refused report has no document
abbrev pub document_in : Result Document Refusal → List Document
document_in (Ok d) = d ∷ []
document_in (Err r) = []

-- the documents of the accepted reports, in the order of the reports
abbrev pub accepted : Sheet → List (List ℕ) → List Document
accepted sheet reports = flat_map (λ bytes. document_in (outcome sheet bytes)) reports

-- the body of the accepted reports
abbrev pub merged : Sheet → List (List ℕ) → Body
merged sheet reports = body (accepted sheet reports)

-- the refusal of a report, with the report's number; an accepted report has no refusal
abbrev pub refusal_in : ℕ → Result Document Refusal → List (ℕ × Refusal)
refusal_in n (Ok d) = []
refusal_in n (Err r) = (n, r) ∷ []

-- the refusals in the order of the reports; the first report has the number n
abbrev pub refused_from : ℕ → Sheet → List (List ℕ) → List (ℕ × Refusal)
refused_from n sheet [] = []
refused_from n sheet (bytes ∷ reports) = refusal_in n (outcome sheet bytes) ++ refused_from (suc n) sheet reports

abbrev pub refused : Sheet → List (List ℕ) → List (ℕ × Refusal)
refused sheet reports = refused_from 1 sheet reports
