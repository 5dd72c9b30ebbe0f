-- What the words on the command line ask for (own).
use Rattle.std.specs.Prelude.{◌≡◌, ◌≢◌, ◌&&◌, ◌||◌, not, ℕ, List, [], ◌∷◌, map, Bool, true, false, Option, Some, None, codes, if◌then◌else◌, ◌⊎◌}
use Rattle.std.specs.Prelude.{find, option_map, option_and_then, unwrap_or}
use Rattle.std.specs.Option.{option_map_or}
use Rattle.std.specs.Borrow.{Bor}
use Rattle.std.specs.Str.{bytes_eq}
use Rattle.std.specs.Str.Parse.{digits_value, without_leading_plus}
use Rattle.clap.specs.ValueTests.{is_unsigned_in}
use Rattle.clap.specs.Walk.{Row, all_of, first_of, is_empty}
use Rattle.clap.specs.Words.{IsAmong, Text, fault_of, subcommand_of}
use Rattle.clap.specs.declared.error.kind.ErrorKind.{ErrorKind}
use Rattle.clap.specs.declared.error.kind.ErrorKind.TheVariants as kind
use Rattle.clap.specs.declared.parser.matches.ValueSource.{ValueSource}
use Rattle.clap.specs.declared.parser.matches.ValueSource.TheVariants.{CommandLine}
use Rattle.oim_value.specs.Level.{level_with}
use Rattle.oim_value.specs.declared.level.Level.{Level}
use Rattle.oim_explain.specs.declared.lines.Format.{Format}
use Rattle.oim_explain.specs.declared.lines.Format.TheVariants as explained
use Rattle.row_formats.specs.declared.row_format.RowFormat.TheVariants as rows
use Rattle.command_line.specs.declared.print_format.PrintFormat.{PrintFormat}
use Rattle.command_line.specs.declared.print_format.PrintFormat.TheVariants as printed
use Rattle.command_line.specs.declared.request.Args.{Args}
use Rattle.command_line.specs.declared.request.Request.{Request}
use Rattle.command_line.specs.declared.request.Request.TheVariants as request
use Rattle.command_line.specs.declared.request.Subcommand.{Subcommand}
use Rattle.command_line.specs.declared.request.Subcommand.TheVariants as subcommand
use Rattle.command_line.specs.Arguments.{AreTables, Tables, program_app}

pub data Work : Type 0 where
  merge : Level → Work
  verdicts : PrintFormat → Work
  sources : PrintFormat → Work
  check : Option PrintFormat → Work
  explain : Format → Work
  -- on this many replicas, by the schedule in this file
  replay : ℕ → Text → Work

-- the merge of the bundle on standard input, the text of help, or work under the sheet in this file
pub data Task : Type 0 where
  bundle : Task
  help : Task
  under : Text → Work → Task

-- what the words ask for
pub record Asked : Type 0 where
  pub task : Task
  -- the reports named among the words, in their order
  pub names : List Text
  -- the file of more names, and whether NUL ends each
  pub list : Option Text
  pub is_null : Bool
  pub output : Option Text
  pub most : Option ℕ
  pub is_quiet : Bool
  pub is_verbose : Bool

-- ---- what the code has

abbrev pub work_of : Subcommand → Work
work_of (subcommand.Merge level) = merge level
work_of (subcommand.Verdicts format) = verdicts format
work_of (subcommand.Sources format) = sources format
work_of (subcommand.Check format) = check format
work_of (subcommand.Replay replicas events) = replay replicas events.now

abbrev pub task_of : Request → Task
task_of request.Bundle = bundle
task_of (request.Help e) = help
task_of (request.Explain sheet format) = under sheet.now (explain format)
task_of (request.Under sheet command) = under sheet.now (work_of command)

abbrev pub name_texts : List (Bor Text) → List Text
name_texts names = map (λ (name : Bor Text). name.now) names

abbrev pub asked_of : Args → Asked
asked_of args = record {
  task = task_of args.request;
  names = name_texts args.reports.items;
  list = option_map (λ name. name.now) args.list;
  is_null = args.is_null;
  output = option_map (λ name. name.now) args.output;
  most = args.most;
  is_quiet = args.is_quiet;
  is_verbose = args.is_verbose;
}

-- ---- what clap's matches ask for

-- the option without a value is there
abbrev pub is_set : Text → List Row → Bool
is_set id rows = option_map_or (λ text. bytes_eq text (codes "true")) (first_of id rows) false

abbrev pub is_from_words : Option ValueSource → Bool
is_from_words (Some CommandLine) = true
is_from_words _ = false

abbrev pub source_of : Text → List Row → Option ValueSource
source_of id rows = option_and_then (λ r. r.source) (find (λ r. bytes_eq r.id id) rows)

-- the first option is there without the second one, which it needs
abbrev pub lacks : Text → Text → List Row → Bool
lacks flag option rows = is_set flag rows && not (is_from_words (source_of option rows))

abbrev pub number_of : Text → Option ℕ
number_of text =
    if is_unsigned_in 0 18446744073709551615 text then Some (digits_value 10 (without_leading_plus text)) else None

abbrev pub number_at : Text → List Row → Option ℕ
number_at id rows = option_and_then number_of (first_of id rows)

abbrev pub format_named : Bool → Text → Option PrintFormat
format_named for_spreadsheet text =
    if bytes_eq text (codes "lines") then Some printed.Lines
    else (if bytes_eq text (codes "json") then Some (printed.Rows rows.Json)
    else (if bytes_eq text (codes "csv") then Some (printed.Rows (if for_spreadsheet then rows.SpreadsheetCsv else rows.Csv))
    else None))

abbrev pub format_asked : List Row → Option PrintFormat
format_asked rows = option_and_then (format_named (is_set (codes "spreadsheet") rows)) (first_of (codes "format") rows)

abbrev pub explained_as : Text → Format
explained_as text = if bytes_eq text (codes "json") then explained.Json else explained.Text

abbrev pub explained_asked : List Row → Format
explained_asked rows = option_map_or explained_as (first_of (codes "format") rows) explained.Text

abbrev pub replay_asked : List Row → Option Work
replay_asked rows =
    option_and_then (λ n. option_map (replay n) (first_of (codes "events") rows)) (number_at (codes "replicas") rows)

-- there is one report, and neither a file of names nor a format
abbrev pub is_alone : List Row → List Text → Bool
is_alone rows (report ∷ []) = not (is_from_words (source_of (codes "format") rows) || is_from_words (source_of (codes "reports-from") rows))
is_alone rows _ = false

abbrev pub check_asked : List Row → Option Work
check_asked rows = if is_alone rows (unwrap_or (all_of (codes "REPORT") rows) []) then Some (check None) else option_map (λ format. check (Some format)) (format_asked rows)

abbrev pub subcommand_asked : Text → List Row → Option Work
subcommand_asked name rows =
    if bytes_eq name (codes "merge") then option_map merge (option_and_then level_with (first_of (codes "allow") rows))
    else (if bytes_eq name (codes "verdicts") then option_map verdicts (format_asked rows)
    else (if bytes_eq name (codes "sources") then option_map sources (format_asked rows)
    else (if bytes_eq name (codes "check") then check_asked rows
    else (if bytes_eq name (codes "replay") then replay_asked rows else None))))

abbrev pub work_asked : Text → List Row → Option Work
work_asked name rows =
    if bytes_eq name (codes "explain") then Some (explain (explained_asked rows)) else subcommand_asked name rows

abbrev pub task_asked : Text → List Row → Option Task
task_asked name rows = option_and_then (λ sheet. option_map (under sheet) (work_asked name rows)) (first_of (codes "sheet") rows)

-- `-` is standard output
abbrev pub output_named : Text → Option Text
output_named text = if bytes_eq text (codes "-") then None else Some text

abbrev pub with_options : List Row → Task → Asked
with_options rows task = record {
  task = task;
  names = unwrap_or (all_of (codes "REPORT") rows) [];
  list = first_of (codes "reports-from") rows;
  is_null = is_set (codes "null") rows;
  output = option_and_then output_named (first_of (codes "output") rows);
  most = number_at (codes "most-output") rows;
  is_quiet = is_set (codes "quiet") rows;
  is_verbose = is_set (codes "verbose") rows;
}

-- what the matches of the command with this name ask for
abbrev pub asked_by : Text → List Row → Option Asked
asked_by name rows =
    if lacks (codes "null") (codes "reports-from") rows || lacks (codes "spreadsheet") (codes "format") rows then None
    else option_map (with_options rows) (task_asked name rows)

abbrev pub asked : Option (Text × List Row) → Option Asked
asked = option_and_then (λ p. asked_by p.0 p.1)

-- ---- what the words ask for

-- the command that the words ask for; None if they are refused, or ask for help or the version
abbrev pub asked_with : Tables → List Text → Option Asked
asked_with t words =
    if is_empty (fault_of (program_app false t) words) then asked (subcommand_of (program_app false t) words) else None

-- clap finds a fault of this kind in the words
abbrev pub HasFault : List Text → ErrorKind → Type 0
HasFault words k = (t : Tables) × AreTables t × IsAmong k (fault_of (program_app false t) words)

abbrev pub CallForHelp : List Text → Type 0
CallForHelp words = HasFault words kind.DisplayHelp ⊎ HasFault words kind.DisplayVersion

-- clap finds no fault, but the words ask for no command
abbrev pub AskForNothing : List Text → Type 0
AskForNothing words = (t : Tables) × AreTables t × (fault_of (program_app false t) words ≡ []) × (asked (subcommand_of (program_app false t) words) ≡ None)

abbrev pub AreRefused : List Text → Type 0
AreRefused words = ((k : ErrorKind) × (k ≢ kind.DisplayHelp) × (k ≢ kind.DisplayVersion) × HasFault words k) ⊎ AskForNothing words

-- the task without options
abbrev pub alone : Task → Asked
alone task = with_options [] task

-- clap's matches of the words give this command
abbrev pub AskFor : List Text → Asked → Type 0
AskFor words a = (t : Tables) × AreTables t × (asked_with t words ≡ Some a)

-- no words ask for the merge of the bundle
abbrev pub Mean : List Text → Asked → Type 0
Mean words a = ((words ≡ []) × (a ≡ alone bundle)) ⊎ (CallForHelp words × (a ≡ alone help)) ⊎ AskFor words a
