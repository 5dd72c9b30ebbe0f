-- A text that is buffered on its way to a sink (own).
use Rattle.std.specs.Prelude.{◌≡◌, ℕ, ◌+◌, ◌++◌, List, [], Option, length}
use Rattle.std.specs.Io.KnownBytes.{Appends}
use Rattle.oim_write.specs.Sink.{saturated}

-- how many bytes the sink took, and which bytes wait
pub record Pending : Type 0 where
  pub written : ℕ
  pub bytes : List ℕ

abbrev pub nothing_yet : Pending
nothing_yet = record { written = 0; bytes = [] }

-- the text was appended to the waiting bytes, and the sink took a first part of these bytes; the rest waits
pub record Passes (old new : Option (List ℕ)) (before after : Pending) (text : List ℕ) : Type 0 where
  pub front : List ℕ
  pub whole : before.bytes ++ text ≡ front ++ after.bytes
  pub appended : Appends old new front
  pub count : saturated after.written ≡ saturated (before.written + length front)

-- a fault: the sink took a first part of the waiting bytes followed by the text; `written` counts all bytes that the sink took, and saturates
pub record Breaks (old new : Option (List ℕ)) (before : Pending) (text : List ℕ) (written : ℕ) : Type 0 where
  pub front : List ℕ
  pub rest : List ℕ
  pub whole : before.bytes ++ text ≡ front ++ rest
  pub appended : Appends old new front
  pub count : written ≡ saturated (before.written + length front)
