-- The caller's memory after a call (own).
use Rattle.std.specs.Prelude.{◌≡◌, ◌<◌, ◌⊎◌, ℕ, List, [], ◌++◌, length, drop}
use Rattle.oim_names.specs.Reasons.{entry_of}
use Rattle.oim_names.specs.declared.reason.Reason.{Reason}
use Rattle.oim_report.specs.declared.refusal.Refusal.{Refusal}
use Rattle.xbrlmerge_c.specs.Refusals.{refused_reports}
use Rattle.xbrlmerge_c.specs.declared.output.RefusedReport.{RefusedReport}

-- the caller's buffers for bytes and records, and the two numbers that a call sets
pub record CallerMemory : Type 0 where
  pub out : List ℕ
  pub needed : ℕ
  pub refusals : List RefusedReport
  pub refused : ℕ

abbrev pub memory : List ℕ → ℕ → List RefusedReport → ℕ → CallerMemory
memory out needed refusals refused = record { out = out; needed = needed; refusals = refusals; refused = refused }

-- the text and the records are at the start of the buffers; the rest of the buffers is unchanged; `needed` and `refused` are the two lengths
pub record IsHanded (text : List ℕ) (returned : List (ℕ × Refusal)) (old new : CallerMemory) : Type 0 where
  pub out : new.out ≡ text ++ drop (length text) old.out
  pub needed : new.needed ≡ length text
  pub refusals : new.refusals ≡ refused_reports returned ++ drop (length returned) old.refusals
  pub refused : new.refused ≡ length returned

-- the text or the records are longer than their buffer: both lengths are returned, and the buffers are unchanged
pub record IsTooShort (text : List ℕ) (returned : List (ℕ × Refusal)) (old new : CallerMemory) : Type 0 where
  pub short : (length old.out < length text) ⊎ (length old.refusals < length returned)
  pub out : new.out ≡ old.out
  pub needed : new.needed ≡ length text
  pub refusals : new.refusals ≡ old.refusals
  pub refused : new.refused ≡ length returned

-- the number of a row and the refused reports are returned; `out` is unchanged
pub record TellsRow (number : ℕ) (returned : List (ℕ × Refusal)) (old new : CallerMemory) : Type 0 where
  pub out : new.out ≡ old.out
  pub needed : new.needed ≡ number
  pub refusals : new.refusals ≡ refused_reports returned ++ drop (length returned) old.refusals
  pub refused : new.refused ≡ length returned

-- the number of the sheet's refusal is returned; the count of refused reports is 0, and the buffers are unchanged
pub record TellsReason (reason : Reason) (old new : CallerMemory) : Type 0 where
  pub out : new.out ≡ old.out
  pub needed : new.needed ≡ (entry_of reason).number
  pub refusals : new.refusals ≡ old.refusals
  pub refused : new.refused ≡ 0

-- ---- a text and refusals with a given property

pub record Hands (Says : List ℕ → List (ℕ × Refusal) → Type 0) (old new : CallerMemory) : Type 0 where
  pub text : List ℕ
  pub returned : List (ℕ × Refusal)
  pub says : Says text returned
  pub handed : IsHanded text returned old new

-- a buffer is too short; the returned lengths belong to a text and refusals with the property
pub record Asks (Says : List ℕ → List (ℕ × Refusal) → Type 0) (old new : CallerMemory) : Type 0 where
  pub text : List ℕ
  pub returned : List (ℕ × Refusal)
  pub says : Says text returned
  pub short : IsTooShort text returned old new

pub record TellsFirst (Is : ℕ → List (ℕ × Refusal) → Type 0) (old new : CallerMemory) : Type 0 where
  pub number : ℕ
  pub returned : List (ℕ × Refusal)
  pub is : Is number returned
  pub row : TellsRow number returned old new

pub record Rejects (Is : Reason → Type 0) (old new : CallerMemory) : Type 0 where
  pub reason : Reason
  pub is : Is reason
  pub tells : TellsReason reason old new

-- there is no text if a row is above the level; only the refused reports need a buffer
pub record HasNoText (Is : ℕ → List (ℕ × Refusal) → Type 0) (text : List ℕ) (returned : List (ℕ × Refusal)) : Type 0 where
  pub number : ℕ
  pub is : Is number returned
  pub text_is : text ≡ []
