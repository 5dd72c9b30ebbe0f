-- Cached readings of texts under a sheet (own).
use Rattle.std.specs.Prelude.{◌≡◌, ℕ, List, [], ◌∷◌, Option, None, Some, Result, Ok, Err}
use Rattle.std.specs.List.{AllZip}
use Rattle.oim_report.specs.Document.{Document}
use Rattle.oim_report.specs.Outcome.{outcome}
use Rattle.oim_report.specs.Sheet.{Sheet}
use Rattle.oim_report.specs.declared.refusal.Refusal.{Refusal}
use Rattle.fact_base.specs.Contents.{Contents}
use Rattle.oim_merge.specs.Bases.{base_of}
use Rattle.oim_merge.specs.Replicas.{joined_with}

-- the reading of an outcome: the base of the document, or the refusal
abbrev pub read_as : Sheet → Result Document Refusal → Result Contents Refusal
read_as sheet (Ok d) = Ok (base_of sheet (d ∷ []))
read_as sheet (Err refusal) = Err refusal

-- a base after it joins the base that was read; a refusal changes nothing
abbrev pub with_read : Result Contents Refusal → Contents → Contents
with_read (Ok read) base = joined_with base read
with_read (Err refusal) base = base

-- the cached reading, if there is one, is the result of reading these bytes
abbrev pub IsReadingOf : Sheet → List ℕ → Option (Result Contents Refusal) → Type 0
IsReadingOf sheet bytes None = Unit {0}
IsReadingOf sheet bytes (Some read) = read ≡ read_as sheet (outcome sheet bytes)

-- each cached reading is the result of reading the text at the same index
abbrev pub AreReadings : Sheet → List (List ℕ) → List (Option (Result Contents Refusal)) → Type 0
AreReadings sheet texts kept = AllZip (IsReadingOf sheet) texts kept
