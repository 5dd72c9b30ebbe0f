-- The bytes that a source gave (own).
use Rattle.std.specs.Prelude.{◌≡◌, ℕ, ◌+◌, ◌<◌, List, Option, Result, Ok, Err, length}
use Rattle.std.specs.Io.KnownBytes.{Consumes}
use Rattle.oim_merge.specs.declared.source_reader.ReadFault.{ReadFault}
use Rattle.oim_merge.specs.declared.source_reader.ReadFault.TheVariants.{OutOfMemory, Device, TooLong}

-- the source gave a first part of its bytes, and this part has the property
abbrev pub Gives : Option (List ℕ) → Option (List ℕ) → (List ℕ → Type 0) → Type 0
Gives old new P = (given : List ℕ) × Consumes old new given × P given

-- the bytes that the source gave before a fault: `Device` contains their number; for `TooLong`, their number is above the limit; for
-- `OutOfMemory`, there is no condition
abbrev pub GivesBefore : Option (List ℕ) → Option (List ℕ) → ℕ → ReadFault → Type 0
GivesBefore old new limit OutOfMemory = Unit {0}
GivesBefore old new limit (Device n) = Gives old new (λ given. length given ≡ n)
GivesBefore old new limit TooLong = Gives old new (λ given. limit < length given)

-- the failures of a source that had failed n times: n + 1 if the device failed, otherwise n
abbrev pub failures_after_read : {T : Type 0} → Result T ReadFault → ℕ → ℕ
failures_after_read (Ok x) n = n
failures_after_read (Err OutOfMemory) n = n
failures_after_read (Err (Device w)) n = n + 1
failures_after_read (Err TooLong) n = n
