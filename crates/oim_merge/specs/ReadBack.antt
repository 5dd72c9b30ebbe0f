-- Reading a text gives the facts and references that were written (own; levels: OIM Common 1.0, `xbrl:allowedDuplicates`).
use Rattle.std.specs.Prelude.{◌≡◌, ◌≢◌, ◌↔◌, ℕ, List, [], ◌∷◌, IsTrue, Some, Result, Ok, Err}
use Rattle.std.specs.Ordering.{is_le, is_lt}
use Rattle.serde_json.specs.Written.{compact_text}
use Rattle.oim_names.specs.declared.reason.Reason.TheVariants.{DisallowedDuplicates}
use Rattle.oim_value.specs.Level.{level_cmp}
use Rattle.oim_value.specs.declared.level.Level.{Level}
use Rattle.oim_value.specs.declared.level.Level.TheVariants.{All}
use Rattle.oim_report.specs.Document.{Document}
use Rattle.oim_report.specs.Duplicates.{level_of}
use Rattle.oim_report.specs.Outcome.{at, outcome}
use Rattle.oim_report.specs.Sheet.{Sheet}
use Rattle.oim_report.specs.declared.place.Place.TheVariants.{Document as AtDocument}
use Rattle.oim_report.specs.declared.refusal.Refusal.{Refusal}
use Rattle.fact_base.specs.Body.{Body, body}
use Rattle.fact_base.specs.Fits.{Fits}
use Rattle.oim_write.specs.Bytes.{canonical, earlier}
use Rattle.oim_write.specs.Tree.{tree_declaring}

-- the document with this level and a body's facts and references, in order
abbrev pub document_at : Level → Body → Document
document_at level b = record { facts = b.facts; references = b.references; level = level }

-- the text of a body that fits a sheet is read as the body's document, with the level of the facts
abbrev pub CanonicalReadsBack : Type 0
CanonicalReadsBack = (sheet : Sheet) (b : Body) → Fits sheet b → outcome sheet (canonical b) ≡ Ok (document_at (level_of b.facts) b)

-- the earlier form declares no level: the text of a body that fits a sheet is read with all duplicates allowed
abbrev pub EarlierReadsBack : Type 0
EarlierReadsBack = (sheet : Sheet) (b : Body) → Fits sheet b → outcome sheet (earlier b) ≡ Ok (document_at All b)

-- ---- the declared level is the strictest

-- the text of a body with this level declared
abbrev pub declaring : Level → Body → List ℕ
declaring level b = compact_text (tree_declaring (Some level) b)

-- if the declared level is stricter than the level of the facts, the outcome is the refusal `DisallowedDuplicates`; otherwise it is the document
pub record IsHeldTo (declared found : Level) (d : Document) (said : Result Document Refusal) : Type 0 where
  pub refused : (said ≡ Err (at AtDocument DisallowedDuplicates)) ↔ IsTrue (is_lt (level_cmp declared found))
  pub read : (said ≡ Ok d) ↔ IsTrue (is_le (level_cmp found declared))

-- the text of a body that fits a sheet, with any level declared, is refused if and only if that level is stricter than the
-- level of the facts; otherwise it is read as the body's document
abbrev pub LeastLevelIsDeclared : Type 0
LeastLevelIsDeclared =
    (sheet : Sheet) (b : Body) (level : Level) → Fits sheet b →
    IsHeldTo level (level_of b.facts) (document_at level b) (outcome sheet (declaring level b))

-- ---- canonical texts

-- the text of a body that fits a sheet is the canonical text of the document that is read from it
abbrev pub MergedTextsAreCanonical : Type 0
MergedTextsAreCanonical = (sheet : Sheet) (b : Body) (d : Document) → Fits sheet b → outcome sheet (canonical b) ≡ Ok d → canonical b ≡ canonical (body (d ∷ []))

-- a text in the earlier form is not canonical
abbrev pub EarlierIsNotCanonical : Type 0
EarlierIsNotCanonical = (b c : Body) → earlier b ≢ canonical c
