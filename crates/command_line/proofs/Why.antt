-- Why a part stopped, as why the whole stopped.
use Rattle.std.proofs.Common.{◌<◌, ◌+◌, ℕ, suc, List, [], ◌∷◌, ◌++◌, length, map, get_or, take, drop, Bor, inl, inr, sym, ap, subst, ◌∙◌, drop-cons, take-append-drop}
use Rattle.std.specs.List.{AllZip}
use Rattle.std.proofs.lemmas.List.{map-append}
use Rattle.clap.specs.Words.{Text}
use Rattle.oim_report.specs.Sheet.{Sheet}
use Rattle.oim_merge.specs.EventLines.{ReadingEventsStops, SaysEvents}
use Rattle.oim_merge.specs.Replay.{ReplayStops}
use Rattle.oim_merge.specs.declared.event.Event.{Event}
use Rattle.oim_merge.specs.declared.events.ReplayFault.{ReplayFault}
use Rattle.oim_merge.specs.declared.events.ReplayFault.TheVariants.{BadEvent, OutOfMemory}
use Rattle.oim_explain.specs.declared.lines.Format.{Format}
use Rattle.command_line.specs.Explained.{AreExplained, Report, names_of}
use Rattle.command_line.specs.Faults.{IsOutputError, error_of_events}
use Rattle.command_line.specs.Page.{Under}
use Rattle.command_line.specs.Why.{IsFirstLost, IsLost, IsLostUnder, IsUnread}
use Rattle.command_line.specs.Words.{Work, name_texts, replay}
use Rattle.command_line.specs.declared.error.Error.{Error}
use Rattle.command_line.specs.declared.error.Error.TheVariants as error
use Rattle.command_line.proofs.Readings.{no_name}

-- ---- the first report that was not read

module _ (gives : Text → List ℕ → Type 0) (fails : Text → Type 0) (names : List (Bor Text)) (i : ℕ) (within : i < length names) where
  abbrev next : Text
  next = (get_or names i no_name).now

  abbrev IsLostHere : Text → Type 0
  IsLostHere = IsFirstLost gives fails (name_texts names)

  module _ (reports : List (List ℕ)) (read : AllZip gives (name_texts (take i names)) reports) where
    lost_here : (file : Text) → IsLost fails next file → IsLostHere file
    lost_here file lost = subst IsLostHere (sym lost.0) (
      name_texts (take i names),
      name_texts (drop (suc i) names),
      ap name_texts (sym (take-append-drop i names) ∙ ap (λ rest. take i names ++ rest) (drop-cons names i no_name within))
          ∙ map-append (λ (n : Bor Text). n.now) (take i names) (get_or names i no_name ∷ drop (suc i) names),
      reports,
      read,
      lost.1,
    )

    pub stops_at : (e : Error) → IsUnread (IsLost fails next) e → IsUnread IsLostHere e
    stops_at (error.Unread file cause) lost = lost_here file.now lost
    stops_at (error.TooLong file) lost = lost_here file.now lost
    stops_at error.OutOfMemory lost = tt
    stops_at _ lost = absurd lost

abbrev pub bytes_of : List Report → List (List ℕ)
bytes_of reports = map (λ (r : Report). r.bytes) reports

pub explained_read : (gives : Text → List ℕ → Type 0) (format : Format) (sheet : Sheet) (n : ℕ) (rs : List Report) → AreExplained gives format sheet n rs → AllZip gives (name_texts (names_of rs)) (bytes_of rs)
explained_read gives format sheet n [] are = tt
explained_read gives format sheet n (r ∷ rs) are = (are.0.gave, explained_read gives format sheet (n + 1) rs are.1)

-- ---- under a sheet

module _ (gives : Text → List ℕ → Type 0) (fails : Text → Type 0) (names : List Text) (sheet : Sheet) (work : Work) where
  pub output_under : (e : Error) → IsOutputError e → Under gives fails names sheet work e
  output_under (error.Unread file cause) why = absurd why
  output_under (error.TooLong file) why = absurd why
  output_under (error.Event line) why = absurd why
  output_under (error.TooLoose row returned) why = absurd why
  output_under e why = why

  pub unread_under : {Lost : Text → Type 0} → ((file : Text) → Lost file → IsLostUnder gives fails names work file) → (e : Error) → IsUnread Lost e → Under gives fails names sheet work e
  unread_under lost (error.Unread file cause) why = lost file.now why
  unread_under lost (error.TooLong file) why = lost file.now why
  unread_under lost error.OutOfMemory why = tt
  unread_under lost _ why = absurd why

-- ---- the schedule

module _ (gives : Text → List ℕ → Type 0) (fails : Text → Type 0) (names : List Text) (sheet : Sheet) (replicas : ℕ) (schedule : Text) (lines : List ℕ) (gave : gives schedule lines) where
  pub lines_under : (f : ReplayFault) → ReadingEventsStops lines f → Under gives fails names sheet (replay replicas schedule) (error_of_events f)
  lines_under OutOfMemory stops = tt
  lines_under (BadEvent line) bad = inl (lines, gave, bad)

  pub events_under : (events : List Event) → SaysEvents lines events → (reports : List (List ℕ)) → AllZip gives names reports → (f : ReplayFault) → ReplayStops replicas reports events f → Under gives fails names sheet (replay replicas schedule) (error_of_events f)
  events_under events says reports read OutOfMemory stops = tt
  events_under events says reports read (BadEvent line) bad = inr (lines, gave, events, says, (reports, read, bad))
