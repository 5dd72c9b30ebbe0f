-- What the program prints on standard error, and its exit status (own).
use Rattle.std.specs.Prelude.{◌≡◌, IfSome, IsTrue, ℕ, zero, List, [], ◌∷◌, ◌++◌, codes, flat_map, Option, Some, None, Result, Ok, Err, String, string_bytes}
use Rattle.std.specs.Fmt.{decimal}
use Rattle.std.specs.Io.KnownBytes.{Appends}
use Rattle.oim_names.specs.Reasons.{entry_of}
use Rattle.oim_names.specs.declared.reason.Reason.{Reason}
use Rattle.oim_report.specs.declared.refusal.Refusal.{Refusal}
use Rattle.oim_explain.specs.Escaped.{escaped_name}
use Rattle.oim_explain.specs.Lines.{place_text}
use Rattle.command_line.specs.declared.console.Console.{Console}
use Rattle.command_line.specs.declared.error.Error.{Error}
use Rattle.command_line.specs.declared.error.Error.TheVariants as error
use Rattle.command_line.specs.declared.error.Success.{Success}
use Rattle.command_line.specs.declared.error.Success.TheVariants as success

-- ---- the exit status

-- 1 if there is a refusal or a fault; 2 if a row is above the allowed level; 3 for each other error
abbrev pub status_of : Result Success Error → ℕ
status_of (Ok (success.Refusals [])) = 0
status_of (Ok (success.Faults zero)) = 0
status_of (Ok _) = 1
status_of (Err (error.TooLoose row refused)) = 2
status_of (Err _) = 3

-- ---- the lines of refusals

abbrev pub refusal_line : ℕ × Refusal → List ℕ
refusal_line numbered =
    let entry = entry_of numbered.1.reason in
    codes "report " ++ (decimal numbered.0 ++ (codes ": " ++ (decimal entry.number ++ 32 ∷ (entry.name ++ (codes " at " ++ (place_text numbered.1.place ++ 10 ∷ []))))))

abbrev pub refusal_lines : List (ℕ × Refusal) → List ℕ
refusal_lines refusals = flat_map refusal_line refusals

-- ---- the lines of errors, without the text of clap

-- the line of a file that was not read or not written
abbrev pub file_line : List ℕ → List ℕ → List ℕ
file_line file fault = codes "file " ++ (escaped_name file ++ (codes ": " ++ (fault ++ 10 ∷ [])))

abbrev pub sheet_line : Reason → List ℕ
sheet_line reason = codes "sheet: " ++ (decimal (entry_of reason).number ++ 32 ∷ ((entry_of reason).name ++ 10 ∷ []))

-- the line of `explain` for a sheet
abbrev pub explained_lines : {Z : Type 0} → Option (String Z) → List ℕ
explained_lines None = []
explained_lines (Some lines) = string_bytes lines

abbrev pub error_lines : Error → Option (List ℕ)
error_lines (error.TooLoose row refused) = Some (refusal_lines refused ++ (codes "too loose: row " ++ (decimal row ++ 10 ∷ [])))
error_lines (error.Sheet reason explained kind) = Some (sheet_line reason ++ explained_lines explained)
error_lines (error.Unread file why) = Some (file_line file.now (codes "cannot be read"))
error_lines (error.Unwritten file why) = Some (file_line file.now (codes "cannot be written"))
error_lines (error.TooLong file) = Some (file_line file.now (codes "too long"))
error_lines (error.NoNames file) = Some (file_line file.now (codes "names no report"))
error_lines (error.Event line) = Some (codes "event " ++ (decimal line ++ codes ": refused\n"))
error_lines (error.Device written) = Some (codes "device: " ++ (decimal written ++ codes " bytes written\n"))
error_lines (error.TooMuch most) = Some (codes "output: more than " ++ (decimal most ++ codes " bytes; --most-output BYTES sets the bound\n"))
error_lines error.OutOfMemory = Some (codes "out of memory\n")
error_lines _ = None

-- what standard error gets at the end of a plain run; None for the text of clap
abbrev pub lines_of : Result Success Error → Option (List ℕ)
lines_of (Ok (success.Refusals refusals)) = Some (refusal_lines refusals)
lines_of (Ok (success.Faults faults)) = Some []
lines_of (Err e) = error_lines e

-- the console got this text, unless a write failed; nothing is stated of a text that is None
abbrev pub Shows : {E : Type 0} → (E → Option (List ℕ)) → Option (List ℕ) → Console E → Console E → Type 0
Shows contents text old new = (new.is_verbose ≡ old.is_verbose) × (IsTrue new.is_whole → IsTrue old.is_whole × IfSome text (Appends (contents old.err) (contents new.err)))
