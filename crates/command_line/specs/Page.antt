-- A run of the program on one page: its words, the bytes of the files that they name, its output, status and printed lines (own).
-- `Outputs` has the text of each command, `Explained` that of `explain`, `Why` what holds of a file that was not read, `Printed` the
-- status and the lines.
use Rattle.std.specs.Prelude.{◌≡◌, ◌≢◌, ◌⊎◌, ℕ, Bool, true, false, List, [], ◌++◌, Option, Some, None, Result, Ok, Err, IfSome, IsErrAnd, IsTrue, codes, ⊤}
use Rattle.std.specs.Io.KnownBytes.{Appends}
use Rattle.std.specs.Str.{bytes_eq}
use Rattle.clap.specs.Words.{Text}
use Rattle.oim_report.specs.Sheet.{Sheet}
use Rattle.oim_explain.specs.declared.lines.Explained.{Explained}
use Rattle.oim_explain.specs.declared.lines.Format.{Format}
use Rattle.oim_merge.specs.Bundle.{sheet_piece}
use Rattle.oim_merge.specs.Reports.{merged, refused}
use Rattle.oim_merge.specs.Traced.{traced}
use Rattle.command_line.specs.Checks.{Checks}
use Rattle.command_line.specs.Endings.{Ends, Puts}
use Rattle.command_line.specs.Explained.{ExplainGives, Lists, ListsFirst}
use Rattle.command_line.specs.Faults.{IsOutputError, IsUsageError}
use Rattle.command_line.specs.Outputs.{AreSources, AreVerdicts, IsLoose, IsMerge, MergesBundle, NumberedRefusals, Replays}
use Rattle.command_line.specs.Printed.{lines_of, status_of}
use Rattle.command_line.specs.ReportNames.{AreReportNames, IsNameError}
use Rattle.command_line.specs.Why.{IsBadUnder, IsCutInput, IsLost, IsLostUnder, IsNoSheet, IsUnread, LacksSheet, WithRead, WithSheet}
use Rattle.command_line.specs.Words.{AreRefused, Asked, Mean, Task, Work, bundle, check, explain, help, merge, replay, sources, under, verdicts}
use Rattle.command_line.specs.declared.commands.explain.Counts.{Counts}
use Rattle.command_line.specs.declared.error.Error.{Error}
use Rattle.command_line.specs.declared.error.Error.TheVariants as error
use Rattle.command_line.specs.declared.error.Success.{Success}
use Rattle.command_line.specs.declared.error.Success.TheVariants.{Faults, Refusals}

-- clap refuses the words, or memory was refused
abbrev pub IsWordsError : List Text → Error → Type 0
IsWordsError words e = IsUsageError e × ((e ≡ error.OutOfMemory) ⊎ AreRefused words)

-- ---- what a command says under a sheet: its text and the refused reports

-- `gives name bytes` holds if a read of the file may give these bytes
module _ (gives : Text → List ℕ → Type 0) (names : List Text) (sheet : Sheet) where
  abbrev pub Says : Work → List ℕ → NumberedRefusals → Type 0
  Says (merge level) text rs = WithRead gives names (λ reports. IsMerge level (merged sheet reports) (refused sheet reports) text rs)
  Says (verdicts format) text rs = WithRead gives names (λ reports. AreVerdicts format (merged sheet reports) (refused sheet reports) text rs)
  Says (sources format) text rs = WithRead gives names (λ reports. AreSources format names (traced sheet reports) text rs)
  Says (check format) text rs = WithRead gives names (λ reports. Checks format names sheet reports text rs)
  Says (replay replicas events) text rs = (lines : List ℕ) × gives events lines × WithRead gives names (λ reports. Replays sheet replicas lines reports text rs)
  Says (explain format) text rs = ⊥

  -- only `merge` has a row that is too loose
  abbrev pub Loose : Work → ℕ → NumberedRefusals → Type 0
  Loose (merge level) row rs = WithRead gives names (λ reports. IsLoose level (merged sheet reports) (refused sheet reports) row rs)
  Loose work row rs = ⊥

-- ---- how a task ends

-- `fails name` holds if a read of the file may fail
module _ (gives : Text → List ℕ → Type 0) (fails : Text → Type 0) (names : List Text) (sheet : Sheet) (work : Work) where
  -- why a command stopped under its sheet
  abbrev pub Under : Error → Type 0
  Under (error.Unread file cause) = IsLostUnder gives fails names work file.now
  Under (error.TooLong file) = IsLostUnder gives fails names work file.now
  Under (error.Event line) = IsBadUnder gives names work line
  Under (error.TooLoose row rs) = Loose gives names sheet work row rs
  Under e = IsOutputError e

  abbrev pub CommandEnds : List ℕ → Result NumberedRefusals Error → Type 0
  CommandEnds = Puts (Says gives names sheet work) Under

-- how `explain` ends before it prints the counts
abbrev pub EachEnds : (Text → List ℕ → Type 0) → Format → Sheet → Explained → (Text → Type 0) → List Text → List ℕ → Result Counts Error → Type 0
EachEnds gives format sheet of_sheet fails names = Ends (Lists gives format sheet of_sheet names) (Under gives fails names sheet (explain format)) (ListsFirst gives format sheet of_sheet names)

abbrev pub IsExplain : Task → Type 0
IsExplain (under sheet (explain format)) = ⊤
IsExplain task = ⊥

-- memory was refused, or the output failed: its device, its limit, or the file with this name
abbrev pub IsFault : Option Text → Error → Type 0
IsFault (Some name) (error.Unwritten file cause) = file.now ≡ name
IsFault output e = IsOutputError e

-- clap makes the text of help
abbrev pub Helps : List ℕ → NumberedRefusals → Type 0
Helps text rs = rs ≡ []

-- `input` has the bytes of the bundle
module _ (gives : Text → List ℕ → Type 0) (fails : Text → Type 0) (input : List ℕ) where
  abbrev pub Explains : Text → Work → List Text → List ℕ → ℕ → Type 0
  Explains sheet (explain format) names text count = ExplainGives gives format sheet names text count
  Explains sheet work names text count = ⊥

  -- the whole text for these reports, and the result
  abbrev pub Gives : Task → List Text → List ℕ → Success → Type 0
  Gives (under sheet work) names text (Refusals rs) = WithSheet gives sheet (λ s. Says gives names s work text rs)
  Gives (under sheet work) names text (Faults count) = Explains sheet work names text count
  Gives bundle names text (Refusals rs) = MergesBundle input text rs
  Gives help names text (Refusals rs) = Helps text rs
  Gives task names text (Faults count) = ⊥

  module _ (names : List Text) where
    -- why it stopped, if its output did not fail
    abbrev pub Stops : Task → Error → Type 0
    Stops (under sheet work) e = LacksSheet gives fails sheet e ⊎ WithSheet gives sheet (λ s. Under gives fails names s work e)
    Stops bundle e = IsNoSheet (sheet_piece input) e
    Stops help e = ⊥

    abbrev pub Because : Option Text → Task → Error → Type 0
    Because output task e = IsFault output e ⊎ Stops task e

    -- A text that was begun before an error: only if memory was refused or the output failed. But `explain` prints each report
    -- before it reads the next, so after any error its text for the first reports may be begun.
    pub record IsBegun (task : Task) (e : Error) (text : List ℕ) : Type 0 where
      pub first : List Text
      pub others : List Text
      pub split : names ≡ first ++ others
      pub cut : IsExplain task ⊎ (IsOutputError e × (others ≡ []))
      pub success : Success
      pub gives_text : Gives task first text success

    -- how the task ended, if it printed this part
    abbrev pub EndsWith : Option Text → Task → List ℕ → Result Success Error → Type 0
    EndsWith output task = Ends (Gives task names) (Because output task) (IsBegun task)

-- ---- what is read before

-- the bundle or the file of names; `-` is standard input
abbrev pub input_of : Task → Option Text → Option Text
input_of bundle list = Some (codes "-")
input_of task list = list

-- `all` has the bytes of standard input
module _ (gives : Text → List ℕ → Type 0) (all : Option (List ℕ)) where
  abbrev pub IsFrom : Bool → Text → List ℕ → Type 0
  IsFrom true name bytes = IfSome all (λ given. bytes ≡ given)
  IsFrom false name bytes = gives name bytes

  abbrev pub IsInput : Option Text → List ℕ → Type 0
  IsInput None bytes = bytes ≡ []
  IsInput (Some name) bytes = IsFrom (bytes_eq name (codes "-")) name bytes

module _ (fails : Text → Type 0) (all : Option (List ℕ)) where
  abbrev pub IsNotFrom : Bool → Text → Error → Type 0
  IsNotFrom true name = IsCutInput all name
  IsNotFrom false name = IsUnread (IsLost fails name)

  abbrev pub IsInputError : Option Text → Error → Type 0
  IsInputError None e = ⊥
  IsInputError (Some name) e = IsNotFrom (bytes_eq name (codes "-")) name e

-- ---- where the part went

-- what contracts see of the world: the bytes of standard output, and of each file; None where they see nothing
pub record World : Type 0 where
  pub out : Option (List ℕ)
  pub file : Text → Option (List ℕ)

abbrev pub world : Option (List ℕ) → (Text → Option (List ℕ)) → World
world out file = record { out = out; file = file }

-- `empty` has the bytes of a new file, and `free name` holds if no file has the name
module _ (empty : Option (List ℕ)) (free : Text → Type 0) (old new : World) where
  abbrev pub AreKept : Type 0
  AreKept = (name : Text) → new.file name ≡ old.file name

  -- every file is as it was, but the one with this name, and a new one beside it, whose name was free
  abbrev pub SparesOthers : Text → Type 0
  SparesOthers name = ((other : Text) → other ≢ name → new.file other ≡ old.file other)
      ⊎ ((beside : Text) × free beside × ((other : Text) → other ≢ name → other ≢ beside → new.file other ≡ old.file other))

  -- after a success the file has the part as its bytes; after an error it is as it was
  abbrev pub IsPlaced : Text → List ℕ → Result Success Error → Type 0
  IsPlaced name part (Ok success) = Appends empty (new.file name) part
  IsPlaced name part (Err e) = new.file name ≡ old.file name

  -- to standard output, or to the file with this name
  abbrev pub Goes : Option Text → List ℕ → Result Success Error → Type 0
  Goes None part done = Appends old.out new.out part × AreKept
  Goes (Some name) part done = IsPlaced name part done × SparesOthers name × (new.out ≡ old.out)

  -- ---- from the words to the end

  -- a step gave something, and the run went on with it; or the step failed, and the run wrote nothing
  abbrev pub GoesOn : {T : Type 0} → (T → Type 0) → (Error → Type 0) → (T → List ℕ → Result Success Error → Type 0) → List ℕ → Result Success Error → Type 0
  GoesOn {T} Steps Fails Rest part done = ((x : T) × Steps x × Rest x part done) ⊎ (IsErrAnd done Fails × (part ≡ []) × (new.out ≡ old.out) × AreKept)

  module _ (gives : Text → List ℕ → Type 0) (fails : Text → Type 0) where
    -- the request runs
    abbrev pub TaskEnds : Asked → List ℕ → List Text → List ℕ → Result Success Error → Type 0
    TaskEnds a bytes names part done = EndsWith gives fails bytes names a.output a.task part done × Goes a.output part done

    -- the reports are named, and then the request runs
    abbrev pub NamesEnd : Asked → List ℕ → List ℕ → Result Success Error → Type 0
    NamesEnd a bytes = GoesOn (AreReportNames a bytes) (IsNameError a bytes) (TaskEnds a bytes)

    abbrev pub InputEnd : Option (List ℕ) → Asked → List ℕ → Result Success Error → Type 0
    InputEnd all a = GoesOn (IsInput gives all (input_of a.task a.list)) (IsInputError fails all (input_of a.task a.list)) (NamesEnd a)

    -- the words mean a request, given the bytes of standard input, if contracts can see them
    abbrev pub WordsEnd : Option (List ℕ) → List Text → List ℕ → Result Success Error → Type 0
    WordsEnd all words = GoesOn (Mean words) (IsWordsError words) (InputEnd all)

-- ---- the status and standard error

-- standard error is no terminal and took each line, and no second lines are asked for
abbrev pub IsPlain : Bool → Bool → Bool → Type 0
IsPlain is_terminal is_verbose is_whole = (is_terminal ≡ false) × (is_verbose ≡ false) × IsTrue is_whole

-- a whole run is plain if also no option asks for second lines and no line about an awaited bundle is printed
abbrev pub IsPlainRun : List Text → Bool → Bool → Bool → Type 0
IsPlainRun words is_input_terminal is_terminal is_whole =
    ((a : Asked) → Mean words a → a.is_verbose ≡ false) × (words ≡ [] → is_input_terminal ≡ false) × IsPlain is_terminal false is_whole

-- A run printed `part` and ended with `done`, for which `Ends` holds. It returned the status of `done` and, if it is plain, appended
-- its lines to standard error.
pub record IsRun (Ends : List ℕ → Result Success Error → Type 0) (Plain : Type 0) (err_old err_new : Option (List ℕ)) (status : ℕ) : Type 0 where
  pub part : List ℕ
  pub done : Result Success Error
  pub ends : Ends part done
  pub status_is : status ≡ status_of done
  pub lines : Plain → IfSome (lines_of done) (Appends err_old err_new)
