-- Why a run stopped, from the bytes of the files that it names (own).
use Rattle.std.specs.Prelude.{◌≡◌, ◌⊎◌, ◌^◌, ◌<◌, ℕ, List, ◌∷◌, ◌++◌, length, Option, Ok, Err, IfSome, ⊤}
use Rattle.std.specs.List.{AllZip}
use Rattle.clap.specs.Words.{Text}
use Rattle.oim_report.specs.Sheet.{Sheet, sheet_outcome}
use Rattle.oim_merge.specs.EventLines.{IsFirstBadLine, SaysEvents}
use Rattle.oim_merge.specs.Schedule.{IsFirstBad}
use Rattle.oim_merge.specs.declared.event.Event.{Event}
use Rattle.command_line.specs.Words.{Work, replay}
use Rattle.command_line.specs.declared.error.Error.{Error}
use Rattle.command_line.specs.declared.error.Error.TheVariants as error

-- `Lost` holds of the file that was not read. Memory may always be refused.
abbrev pub IsUnread : (Text → Type 0) → Error → Type 0
IsUnread Lost (error.Unread file cause) = Lost file.now
IsUnread Lost (error.TooLong file) = Lost file.now
IsUnread Lost error.OutOfMemory = ⊤
IsUnread Lost _ = ⊥

abbrev pub IsNoSheet : List ℕ → Error → Type 0
IsNoSheet bytes (error.Sheet reason explained kind) = sheet_outcome bytes ≡ Err reason
IsNoSheet bytes error.OutOfMemory = ⊤
IsNoSheet bytes _ = ⊥

-- a reader did not give all its bytes; nothing is said of why it failed, and it is too long only above the limit
abbrev pub IsCutInput : Option (List ℕ) → Text → Error → Type 0
IsCutInput input name (error.Unread file cause) = file.now ≡ name
IsCutInput input name (error.TooLong file) = (file.now ≡ name) × IfSome input (λ all. 2 ^ 31 < length all)
IsCutInput input name error.OutOfMemory = ⊤
IsCutInput input name _ = ⊥

-- a file with this name may fail
abbrev pub IsLost : (Text → Type 0) → Text → Text → Type 0
IsLost fails name file = (file ≡ name) × fails name

module _ (gives : Text → List ℕ → Type 0) where
  -- the files with these names gave reports, in order, and these reports have the property
  abbrev pub WithRead : List Text → (List (List ℕ) → Type 0) → Type 0
  WithRead names P = (reports : List (List ℕ)) × AllZip gives names reports × P reports

  -- the file with this name gave the bytes of a sheet, and the sheet has the property
  abbrev pub WithSheet : Text → (Sheet → Type 0) → Type 0
  WithSheet name P = (bytes : List ℕ) × gives name bytes × (sheet : Sheet) × (sheet_outcome bytes ≡ Ok sheet) × P sheet

  -- the file gave the lines of events, and the events have the property
  abbrev pub WithEvents : Text → (List Event → Type 0) → Type 0
  WithEvents schedule P = (lines : List ℕ) × gives schedule lines × (events : List Event) × SaysEvents lines events × P events

  -- the line is the first that is no event, or the first whose event cannot happen
  abbrev pub IsBadUnder : List Text → Work → ℕ → Type 0
  IsBadUnder names (replay replicas schedule) line = ((lines : List ℕ) × gives schedule lines × IsFirstBadLine lines line)
      ⊎ WithEvents schedule (λ events. WithRead names (λ reports. IsFirstBad replicas (length reports) events line))
  IsBadUnder names work line = ⊥

module _ (gives : Text → List ℕ → Type 0) (fails : Text → Type 0) where
  -- the file was not read, or it gave bytes that are no sheet
  abbrev pub LacksSheet : Text → Error → Type 0
  LacksSheet name e = IsUnread (IsLost fails name) e ⊎ ((bytes : List ℕ) × gives name bytes × IsNoSheet bytes e)

  module _ (names : List Text) where
    -- the files before this one gave reports, and this one was not read
    abbrev pub IsFirstLost : Text → Type 0
    IsFirstLost file = (before : List Text) × (after : List Text) × (names ≡ before ++ file ∷ after) × (reports : List (List ℕ)) × AllZip gives before reports × fails file

    -- the schedule, or a report after it, was not read
    abbrev pub IsLostUnder : Work → Text → Type 0
    IsLostUnder (replay replicas schedule) file = IsLost fails schedule file ⊎ WithEvents gives schedule (λ events. IsFirstLost file)
    IsLostUnder work file = IsFirstLost file
