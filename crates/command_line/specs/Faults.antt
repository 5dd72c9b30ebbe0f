-- The errors of writing a file, and the faults of the libraries as errors of the command line (own).
use Rattle.std.specs.Prelude.{◌≡◌, ◌⊎◌, ℕ, List, None, Result, IsErrAnd, ⊤}
use Rattle.oim_merge.specs.declared.events.ReplayFault.{ReplayFault}
use Rattle.oim_merge.specs.declared.events.ReplayFault.TheVariants as schedule
use Rattle.oim_merge.specs.declared.fault.Fault.{Fault}
use Rattle.oim_merge.specs.declared.fault.Fault.TheVariants as fault
use Rattle.command_line.specs.declared.error.Error.{Error}
use Rattle.command_line.specs.declared.error.Error.TheVariants as error
use Rattle.command_line.specs.declared.error.Success.{Success}

-- the file with this name was not written
abbrev pub IsWriteError : List ℕ → Error → Type 0
IsWriteError name (error.Unwritten file why) = file.now ≡ name
IsWriteError name error.OutOfMemory = ⊤
IsWriteError name _ = ⊥

-- the words are no request
abbrev pub IsUsageError : Error → Type 0
IsUsageError (error.Usage text) = ⊤
IsUsageError error.OutOfMemory = ⊤
IsUsageError _ = ⊥

-- the device failed, or the text is too long
abbrev pub IsOutputFault : Error → Type 0
IsOutputFault (error.Device written) = ⊤
IsOutputFault (error.TooMuch most) = ⊤
IsOutputFault _ = ⊥

-- memory was refused, or the output failed
abbrev pub IsOutputError : Error → Type 0
IsOutputError error.OutOfMemory = ⊤
IsOutputError e = IsOutputFault e

-- the result of a run, or the fault of its output
abbrev pub IsDoneOrFault : Result Success Error → Result Success Error → Type 0
IsDoneOrFault done result = (result ≡ done) ⊎ IsErrAnd result IsOutputFault

-- the result of a run, or that its file was not written
abbrev pub IsDoneOrUnwritten : List ℕ → Result Success Error → Result Success Error → Type 0
IsDoneOrUnwritten name done result = (result ≡ done) ⊎ IsErrAnd result (IsWriteError name)

-- ---- faults of the libraries

abbrev pub error_of : Fault → Error
error_of (fault.OutOfMemory written) = error.OutOfMemory
error_of (fault.Device written) = error.Device written
error_of (fault.TooLoose row refused) = error.TooLoose row refused
error_of (fault.Sheet reason) = error.Sheet reason None None

abbrev pub error_of_events : ReplayFault → Error
error_of_events schedule.OutOfMemory = error.OutOfMemory
error_of_events (schedule.BadEvent line) = error.Event line
