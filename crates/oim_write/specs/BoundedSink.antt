-- A bound on the number of bytes that a sink takes (own).
use Rattle.std.specs.Prelude.{◌≡◌, ℕ, ◌+◌, ◌*◌, ◌^◌, ◌<◌, ◌≤◌, Bool, true, ◌&&◌, ◌==◌, nat_lt, if◌then◌else◌, List, [], ◌∷◌, length, Option, Result, IsErr, IfOk, OnErr}
use Rattle.std.specs.Io.KnownBytes.{Appends, WriteAppends}
use Rattle.oim_write.specs.Sink.{saturated}
use Rattle.oim_write.specs.declared.sink.SinkError.{SinkError}

-- what contracts see of a bounded sink: the bytes that the other sink holds, how many more the bound leaves room for, and how often it was given more
pub record Bounded : Type 0 where
  pub told : Option (List ℕ)
  pub left : ℕ
  pub overruns : ℕ

abbrev pub bounded : Option (List ℕ) → ℕ → ℕ → Bounded
bounded told left overruns = record { told = told; left = left; overruns = overruns }

-- there are bytes, but the bound leaves room for none of them
abbrev pub overruns : ℕ → List ℕ → Bool
overruns left bytes = left == 0 && nat_lt 0 (length bytes)

-- the sink was given these bytes: it took a first part that fits, or failed; the failure is an overrun exactly if no byte fits
pub record Puts (old new : Bounded) (bytes : List ℕ) (result : Result ℕ SinkError) : Type 0 where
  pub appended : WriteAppends old.told new.told result bytes
  pub count : IfOk result (λ n. n ≤ length bytes)
  pub left : IfOk result (λ n. new.left + n ≡ old.left)
  pub kept : OnErr result (new.left ≡ old.left)
  pub refused : overruns old.left bytes ≡ true → IsErr result
  pub counted : new.overruns ≡ (if overruns old.left bytes then old.overruns + 1 else old.overruns)

-- the failures of a bounded sink: those of the other sink, and the overruns
abbrev pub bounded_failures : ℕ → ℕ → ℕ
bounded_failures failures overruns = saturated (failures + overruns)

-- the bound for the output of a command that read this many bytes: 1 MiB, and 16 bytes for each byte
abbrev pub default_bound : ℕ → ℕ
default_bound read = saturated (2 ^ 20 + 16 * read)

-- ---- laws

-- bytes that a sink was given, the result, and the sink afterwards
pub record PutCall : Type 0 where
  pub bytes : List ℕ
  pub result : Result ℕ SinkError
  pub after : Bounded

-- these calls of `put`, one after another
abbrev pub Runs : Bounded → List PutCall → Bounded → Type 0
Runs old [] new = old ≡ new
Runs old (call ∷ calls) new = Puts old call.after call.bytes call.result × Runs call.after calls new

-- the other sink took at most as many bytes as the bound left room for, and exactly as many if the bound failed
pub record StaysBounded (old new : Bounded) : Type 0 where
  pub taken : List ℕ
  pub appended : Appends old.told new.told taken
  pub within : new.left + length taken ≡ old.left
  pub full : old.overruns < new.overruns → new.left ≡ 0

-- however often a sink is given bytes, it stays within its bound
abbrev pub RunsStayBounded : Type 0
RunsStayBounded = (old new : Bounded) (calls : List PutCall) → Runs old calls new → StaysBounded old new
