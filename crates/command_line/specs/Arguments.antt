-- The program's arguments, as what clap reads of them (own).
use Rattle.std.specs.Prelude.{◌≡◌, ℕ, List, [], ◌∷◌, Bool, Some, true, false, map, codes, pos, if◌then◌else◌}
use Rattle.std.specs.Borrow.{Bor}
use Rattle.clap.specs.Lexer.{usize_max}
use Rattle.clap.specs.Words.{App, Rule, Text, app_of, new_app, new_rule, with_rule, with_subcommand}
use Rattle.clap.specs.Simple.{on_top}
use Rattle.clap.specs.declared.builder.command.Command.{Command}
use Rattle.clap.specs.declared.builder.command.Command.TheViews.{out-Command}
use Rattle.clap.specs.declared.builder.action.ArgAction.TheVariants.{SetTrue}
use Rattle.clap.specs.declared.builder.value_parser.ValueParser.{ValueParser}
use Rattle.clap.specs.declared.builder.value_parser.ValueParser.TheVariants as parser

-- clap reads the command as this
abbrev pub IsApp : App → Command → Type 0
IsApp a c = (app_of c ≡ a) × ((out-Command c).has_globals ≡ false)

-- a reference to a list of names
abbrev pub Names : Type 0
Names = Bor (List (Bor Text))

abbrev pub texts_of : Names → List Text
texts_of names = map (λ (name : Bor Text). name.now) names.now

abbrev pub level_names : List Text
level_names = codes "none" ∷ codes "complete" ∷ codes "consistent" ∷ codes "all" ∷ []

abbrev pub format_names : List Text
format_names = codes "lines" ∷ codes "json" ∷ codes "csv" ∷ []

-- the formats of `explain`
abbrev pub explained_names : List Text
explained_names = codes "text" ∷ codes "json" ∷ []

-- references to the names
pub record Tables : Type 0 where
  pub levels : Names
  pub formats : Names
  pub explained : Names

abbrev pub AreTables : Tables → Type 0
AreTables t = (texts_of t.levels ≡ level_names) × (texts_of t.formats ≡ format_names) × (texts_of t.explained ≡ explained_names)

-- ---- an argument

abbrev pub option_rule : Text → Rule
option_rule name = record (new_rule name) { long = Some name; value_names = 1 }

abbrev pub as_required : Rule → Rule
as_required r = record r { required = true }

abbrev pub parsed_by : ValueParser → Rule → Rule
parsed_by values r = record r { parser = Some values }

-- the value is one of these names
abbrev pub one_of_names : Names → Text → Rule → Rule
one_of_names names default r = record (parsed_by (parser.Names names) r) { defaults = default ∷ [] }

abbrev pub flag_rule : Text → Rule
flag_rule name = record (new_rule name) { long = Some name; action = Some SetTrue }

abbrev pub with_short : ℕ → Rule → Rule
with_short letter r = record r { short = Some letter }

-- if `is_strict`, clap refuses the argument without another one
abbrev pub beside : Bool → Rule → Rule
beside is_strict r = if is_strict then record r { is_free = false } else r

abbrev pub reports_rule : Rule
reports_rule = record (new_rule (codes "REPORT")) {
  range = Some (record { start_inclusive = 0; end_inclusive = usize_max });
}

-- ---- the commands

abbrev pub command_app : Text → App
command_app name = with_rule (new_app name) (as_required (option_rule (codes "sheet")))

unfoldable pub with_output_of : App → App
with_output_of a =
    with_rule (with_rule (with_rule a (with_short 111 (option_rule (codes "output"))))
    (parsed_by (parser.Unsigned 1 18446744073709551615) (option_rule (codes "most-output")))) (flag_rule (codes "verbose"))

unfoldable pub with_reports_of : Bool → App → App
with_reports_of is_strict a =
    with_rule (with_rule (with_output_of (with_rule (with_rule a (option_rule (codes "reports-from")))
    (beside is_strict (with_short 48 (flag_rule (codes "null")))))) (flag_rule (codes "quiet"))) reports_rule

unfoldable pub merge_app : Bool → Names → App
merge_app is_strict levels =
    with_reports_of is_strict (with_rule (command_app (codes "merge")) (one_of_names levels (codes "all") (option_rule (codes "allow"))))

unfoldable pub rows_app : Bool → App → Names → App
rows_app is_strict command formats =
    with_reports_of is_strict (with_rule (with_rule command (one_of_names formats (codes "lines") (option_rule (codes "format"))))
    (beside is_strict (flag_rule (codes "spreadsheet"))))

unfoldable pub explain_app : Bool → Names → App
explain_app is_strict formats =
    with_reports_of is_strict (with_rule (command_app (codes "explain")) (one_of_names formats (codes "text") (option_rule (codes "format"))))

unfoldable pub replay_app : Bool → App
replay_app is_strict =
    with_reports_of is_strict (with_rule (with_rule (command_app (codes "replay"))
    (parsed_by (parser.Signed (pos 1) (pos 64)) (as_required (option_rule (codes "replicas")))))
    (as_required (option_rule (codes "events"))))

unfoldable pub top_app : App
top_app = on_top (λ s. record s { no_binary_name = true; has_version = true }) (new_app (codes "xbrlmerge"))

-- what clap reads of the program
unfoldable pub program_app : Bool → Tables → App
program_app is_strict t =
    with_subcommand (with_subcommand (with_subcommand (with_subcommand (with_subcommand (with_subcommand top_app
    (merge_app is_strict t.levels).top) (rows_app is_strict (command_app (codes "verdicts")) t.formats).top)
    (rows_app is_strict (command_app (codes "sources")) t.formats).top) (rows_app is_strict (command_app (codes "check")) t.formats).top)
    (explain_app is_strict t.explained).top) (replay_app is_strict).top
