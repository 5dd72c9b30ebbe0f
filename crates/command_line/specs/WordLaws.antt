-- Words and the commands that they ask for (own).
use Rattle.std.specs.Prelude.{◌≡◌, ◌≢◌, ◌<◌, ◌^◌, ◌++◌, List, [], ◌∷◌, Option, Some, None, codes, length, ⊤, true}
use Rattle.clap.specs.Words.{Text}
use Rattle.oim_value.specs.Level.{level_entry}
use Rattle.oim_value.specs.declared.level.Level.{Level}
use Rattle.oim_value.specs.declared.level.Level.TheVariants.{All}
use Rattle.oim_explain.specs.declared.lines.Format.{Format}
use Rattle.oim_explain.specs.declared.lines.Format.TheVariants as explained
use Rattle.row_formats.specs.declared.row_format.RowFormat.{RowFormat}
use Rattle.row_formats.specs.declared.row_format.RowFormat.TheVariants as rows
use Rattle.command_line.specs.declared.print_format.PrintFormat.{PrintFormat}
use Rattle.command_line.specs.declared.print_format.PrintFormat.TheVariants as printed
use Rattle.command_line.specs.Arguments.{AreTables, Tables}
use Rattle.command_line.specs.Words.{Asked, Work, alone, asked_with, check, explain, merge, replay, sources, under, verdicts}

-- the word is empty, or does not begin with a hyphen
abbrev pub IsName : Text → Type 0
IsName [] = ⊤
IsName (x ∷ xs) = x ≢ 45

abbrev pub AreNames : List Text → Type 0
AreNames [] = ⊤
AreNames (x ∷ xs) = IsName x × AreNames xs

-- one name or more
abbrev pub AreReports : List Text → Type 0
AreReports [] = ⊥
AreReports (x ∷ xs) = AreNames (x ∷ xs) × (length (x ∷ xs) < 2 ^ 64)

-- whatever tables of names clap is given, the words ask for this command
abbrev pub Ask : List Text → Asked → Type 0
Ask words a = (t : Tables) → AreTables t → asked_with t words ≡ Some a

-- a command with no further options
abbrev pub plainly : Text → Work → List Text → Asked
plainly sheet work names = record (alone (under sheet work)) { names = names }

-- `NAME --sheet SHEET OPTIONS.. REPORTS..` asks for this work on these reports, in this order
abbrev pub IsUsage : Text → List Text → Work → Type 0
IsUsage name options work = (sheet : Text) (reports : List Text) → IsName sheet → AreReports reports
    → Ask (name ∷ codes "--sheet" ∷ sheet ∷ options ++ reports) (plainly sheet work reports)

-- without `--allow`, any level is allowed
abbrev pub MergeWords : Type 0
MergeWords = IsUsage (codes "merge") [] (merge All)

abbrev pub AllowWords : Type 0
AllowWords = (level : Level) → IsUsage (codes "merge") (codes "--allow" ∷ (level_entry level).text ∷ []) (merge level)

abbrev pub format_words : PrintFormat → List Text
format_words printed.Lines = []
format_words (printed.Rows rows.Json) = codes "--format" ∷ codes "json" ∷ []
format_words (printed.Rows rows.Csv) = codes "--format" ∷ codes "csv" ∷ []
format_words (printed.Rows rows.SpreadsheetCsv) = codes "--format" ∷ codes "csv" ∷ codes "--spreadsheet" ∷ []

abbrev pub VerdictsWords : Type 0
VerdictsWords = (format : PrintFormat) → IsUsage (codes "verdicts") (format_words format) (verdicts format)

abbrev pub SourcesWords : Type 0
SourcesWords = (format : PrintFormat) → IsUsage (codes "sources") (format_words format) (sources format)

abbrev pub explained_words : Format → List Text
explained_words explained.Text = []
explained_words explained.Json = codes "--format" ∷ codes "json" ∷ []

abbrev pub ExplainWords : Type 0
ExplainWords = (format : Format) → IsUsage (codes "explain") (explained_words format) (explain format)

abbrev pub ReplayWords : Type 0
ReplayWords = (events : Text) → IsName events
    → IsUsage (codes "replay") (codes "--replicas" ∷ codes "2" ∷ codes "--events" ∷ events ∷ []) (replay 2 events)

abbrev pub CheckAloneWords : Type 0
CheckAloneWords = (sheet report : Text) → IsName sheet → AreReports (report ∷ [])
    → Ask (codes "check" ∷ codes "--sheet" ∷ sheet ∷ report ∷ []) (plainly sheet (check None) (report ∷ []))

abbrev pub CheckSeveralWords : Type 0
CheckSeveralWords = (sheet one other : Text) (more : List Text) → IsName sheet → AreReports (one ∷ other ∷ more)
    → Ask (codes "check" ∷ codes "--sheet" ∷ sheet ∷ one ∷ other ∷ more) (plainly sheet (check (Some printed.Lines)) (one ∷ other ∷ more))

-- in a format, also for one report
abbrev pub CheckRowsWords : Type 0
CheckRowsWords = (format : RowFormat) → IsUsage (codes "check") (format_words (printed.Rows format)) (check (Some (printed.Rows format)))

abbrev pub CheckWords : Type 0
CheckWords = CheckAloneWords × CheckSeveralWords × CheckRowsWords

abbrev pub with_all_options : Text → Text → Option Text → List Text → Asked
with_all_options sheet list output reports =
    record (plainly sheet (merge All) reports) { list = Some list; is_null = true; output = output; most = Some 1000; is_quiet = true; is_verbose = true }

abbrev pub OptionsWords : Type 0
OptionsWords = (sheet list output : Text) (reports : List Text) → IsName sheet → IsName list → IsName output → AreReports reports
    → Ask (codes "merge" ∷ codes "--sheet" ∷ sheet ∷ codes "--reports-from" ∷ list ∷ codes "--null" ∷ codes "--output" ∷ output
    ∷ codes "--most-output" ∷ codes "1000" ∷ codes "--quiet" ∷ codes "--verbose" ∷ reports) (with_all_options sheet list (Some output) reports)
