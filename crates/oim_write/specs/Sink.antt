-- How much of a text a sink took, and how often the sink failed (own).
use Rattle.std.specs.Prelude.{◌≡◌, ℕ, ◌+◌, ◌-◌, ◌^◌, ◌≤◌, ◌++◌, min, List, Option, Result, Ok, Err, take, length}
use Rattle.std.specs.Io.KnownBytes.{Appends}
use Rattle.oim_write.specs.declared.write_fault.WriteFault.{WriteFault}
use Rattle.oim_write.specs.declared.write_fault.WriteFault.TheVariants.{OutOfMemory, Device}

-- the sink appended the first n bytes of the text, which has at least n bytes
abbrev pub AppendsFirst : Option (List ℕ) → Option (List ℕ) → List ℕ → ℕ → Type 0
AppendsFirst old new text n = Appends old new (take n text) × (n ≤ length text)

-- a count that saturates at the greatest u64
abbrev pub saturated : ℕ → ℕ
saturated n = min n (2 ^ 64 - 1)

-- the sink took a first part of the text; `written` is the length of this part, and saturates
pub record AppendsFront (old new : Option (List ℕ)) (text : List ℕ) (written : ℕ) : Type 0 where
  pub front : List ℕ
  pub rest : List ℕ
  pub whole : text ≡ front ++ rest
  pub appended : Appends old new front
  pub count : written ≡ saturated (length front)

abbrev pub written_of : WriteFault → ℕ
written_of (OutOfMemory n) = n
written_of (Device n) = n

-- the failures of a sink that had failed n times: n + 1 if the device failed, otherwise n
abbrev pub failures_after_fault : WriteFault → ℕ → ℕ
failures_after_fault (OutOfMemory w) n = n
failures_after_fault (Device w) n = n + 1

-- the failures of a sink that had failed n times, after a call with this result
abbrev pub failures_after_write : {T : Type 0} → Result T WriteFault → ℕ → ℕ
failures_after_write (Ok x) n = n
failures_after_write (Err fault) n = failures_after_fault fault n
