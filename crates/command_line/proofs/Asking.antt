-- The commands that words ask for.
use Rattle.std.proofs.Common.{◌∙◌, ◌≡◌, ◌++◌, ◌∷◌, [], ℕ, List, None, Some, ap, codes, false, if◌then◌else◌, refl}
use Rattle.std.specs.Option.{unwrap_or}
use Rattle.std.specs.Prelude.{slice_get}
use Rattle.clap.specs.Faults.{settle_fault, turn_fault, walk_fault}
use Rattle.clap.specs.Kinds.{or_else}
use Rattle.clap.specs.Simple.{Shape}
use Rattle.clap.specs.Walk.{Held, Text, Walk, arg_by_id, arg_by_index, idle, is_pending, nothing_held, option, option_word, walk_from, walked}
use Rattle.command_line.specs.Arguments.{Tables}
use Rattle.command_line.specs.Words.{Work, asked_with, check}
use Rattle.command_line.specs.WordLaws.{AllowWords, AreReports, CheckAloneWords, CheckRowsWords, CheckSeveralWords, CheckWords, IsUsage, ExplainWords, IsName, MergeWords, OptionsWords, ReplayWords, SourcesWords, VerdictsWords, plainly, with_all_options}
use Rattle.oim_value.specs.declared.level.Level.TheVariants.{All, Complete, Consistent, Unique}
use Rattle.oim_explain.specs.declared.lines.Format.TheVariants as explained
use Rattle.row_formats.specs.declared.row_format.RowFormat.TheVariants as rows
use Rattle.command_line.specs.declared.print_format.PrintFormat.TheVariants as printed
use Rattle.command_line.proofs.Parsed.{program_on_literals}
use Rattle.command_line.proofs.KnownNames.{Places, for_tables, tables}
use Rattle.command_line.proofs.Reached.{Reaches, above, asked_after, at, command_named, ends_with, ends_with_reports, joined, not_hyphen, reports_built, value_reached}

abbrev shape : Places → ℕ → Shape
shape x k = unwrap_or (slice_get (above (tables x)).subs k) (above (tables x)).top

abbrev sheet_given : List Text → Held
sheet_given values = record { rows = []; pending = Some (codes "sheet", values); skip = 0 }

-- `--sheet SHEET`
sheet_reached : (s : Shape) (sheet : Text) → IsName sheet
    → ◌≡◌ {A = Walk} (walked s.rules [] (walk_from nothing_held) (codes "--sheet")) (at (option (codes "sheet")) 1 (sheet_given []))
    → turn_fault s [] (walk_from nothing_held) (codes "--sheet") ≡ []
    → option_word (arg_by_id s.rules (codes "sheet")) (codes "sheet") sheet (sheet_given []) ≡ (sheet_given (sheet ∷ []), idle)
    → Reaches s (walk_from nothing_held) (codes "--sheet" ∷ sheet ∷ []) (at idle 1 (sheet_given (sheet ∷ [])))
unfolding walked walk_fault
sheet_reached s sheet plain walks turns given =
    joined s _ _ _ (codes "--sheet" ∷ []) (sheet ∷ []) (record { walk = walks; fault = ap (λ k. or_else k []) turns })
    (value_reached s (codes "sheet") (sheet_given []) (sheet_given (sheet ∷ [])) sheet plain given)

-- how the program reads a command that takes reports
record Reads (t : Tables) (name : Text) (s : Shape) : Type 0 where
  named : (words : List Text) → asked_with t (name ∷ words) ≡ asked_after s words
  sheet : (sheet : Text) → IsName sheet → Reaches s (walk_from nothing_held) (codes "--sheet" ∷ sheet ∷ []) (at idle 1 (sheet_given (sheet ∷ [])))
  index : arg_by_index s.rules 1 ≡ Some reports_built
  id : arg_by_id s.rules (codes "REPORT") ≡ Some reports_built

asks : {t : Tables} {name : Text} {s : Shape} → Reads t name s → (sheet r : Text) (rs options : List Text) (h : Held) → IsName sheet
    → Reaches s (at idle 1 (sheet_given (sheet ∷ []))) options (at idle 1 h)
    → is_pending reports_built h.pending ≡ false → settle_fault s.rules s.args_override_self h ≡ [] → AreReports (r ∷ rs)
    → asked_with t (name ∷ codes "--sheet" ∷ sheet ∷ options ++ r ∷ rs) ≡ ends_with s h (r ∷ rs)
asks {name} {s} reads sheet r rs options h plain there other settles reports =
    reads.named (codes "--sheet" ∷ sheet ∷ options ++ r ∷ rs)
    ∙ ends_with_reports s (codes "--sheet" ∷ sheet ∷ options) h r rs
    (joined s _ _ _ (codes "--sheet" ∷ sheet ∷ []) options (reads.sheet sheet plain) there) reads.index reads.id other settles reports.0 reports.1

-- the options lead to a state in which the reports that follow make it this work
abbrev LeadTo : Shape → List Text → Work → Text → Type 0
LeadTo s options work sheet = (h : Held) × Reaches s (at idle 1 (sheet_given (sheet ∷ []))) options (at idle 1 h)
    × (is_pending reports_built h.pending ≡ false) × (settle_fault s.rules s.args_override_self h ≡ [])
    × ((r : Text) (rs : List Text) → ends_with s h (r ∷ rs) ≡ Some (plainly sheet work (r ∷ rs)))

asks_for : (name : Text) (options : List Text) (work : Work) (s : Places → Shape) → ((x : Places) → Reads (tables x) name (s x))
    → ((x : Places) (sheet : Text) → LeadTo (s x) options work sheet) → IsUsage name options work
asks_for name options work s reads lead sheet [] plain reports = elim reports [ ]
asks_for name options work s reads lead sheet (r ∷ rs) plain reports =
    for_tables (λ t. asked_with t (name ∷ codes "--sheet" ∷ sheet ∷ options ++ r ∷ rs) ≡ Some (plainly sheet work (r ∷ rs)))
    (λ x. let to = lead x sheet in asks (reads x) sheet r rs options to.0 plain to.1 to.2 to.3 reports ∙ to.4 r rs)

reads_merge : (x : Places) → Reads (tables x) (codes "merge") (shape x 0)
unfolding program_on_literals
reads_merge x = record { named = λ words. command_named (tables x) (codes "merge") (shape x 0) words refl refl refl; sheet = λ sheet plain. sheet_reached (shape x 0) sheet plain refl refl refl; index = refl; id = refl }

reads_verdicts : (x : Places) → Reads (tables x) (codes "verdicts") (shape x 1)
unfolding program_on_literals
reads_verdicts x = record { named = λ words. command_named (tables x) (codes "verdicts") (shape x 1) words refl refl refl; sheet = λ sheet plain. sheet_reached (shape x 1) sheet plain refl refl refl; index = refl; id = refl }

reads_sources : (x : Places) → Reads (tables x) (codes "sources") (shape x 2)
unfolding program_on_literals
reads_sources x = record { named = λ words. command_named (tables x) (codes "sources") (shape x 2) words refl refl refl; sheet = λ sheet plain. sheet_reached (shape x 2) sheet plain refl refl refl; index = refl; id = refl }

reads_check : (x : Places) → Reads (tables x) (codes "check") (shape x 3)
unfolding program_on_literals
reads_check x = record { named = λ words. command_named (tables x) (codes "check") (shape x 3) words refl refl refl; sheet = λ sheet plain. sheet_reached (shape x 3) sheet plain refl refl refl; index = refl; id = refl }

reads_explain : (x : Places) → Reads (tables x) (codes "explain") (shape x 4)
unfolding program_on_literals
reads_explain x = record { named = λ words. command_named (tables x) (codes "explain") (shape x 4) words refl refl refl; sheet = λ sheet plain. sheet_reached (shape x 4) sheet plain refl refl refl; index = refl; id = refl }

reads_replay : (x : Places) → Reads (tables x) (codes "replay") (shape x 5)
unfolding program_on_literals
reads_replay x = record { named = λ words. command_named (tables x) (codes "replay") (shape x 5) words refl refl refl; sheet = λ sheet plain. sheet_reached (shape x 5) sheet plain refl refl refl; index = refl; id = refl }

pub merge_words : MergeWords
unfolding program_on_literals
merge_words = asks_for _ [] _ _ reads_merge (λ x sheet. (_, record { walk = refl; fault = refl }, refl, refl, λ r rs. refl))

pub allow_words : AllowWords
unfolding program_on_literals
allow_words Unique = asks_for _ (codes "--allow" ∷ codes "none" ∷ []) _ _ reads_merge (λ x sheet. (_, record { walk = refl; fault = refl }, refl, refl, λ r rs. refl))
allow_words Complete = asks_for _ (codes "--allow" ∷ codes "complete" ∷ []) _ _ reads_merge (λ x sheet. (_, record { walk = refl; fault = refl }, refl, refl, λ r rs. refl))
allow_words Consistent = asks_for _ (codes "--allow" ∷ codes "consistent" ∷ []) _ _ reads_merge (λ x sheet. (_, record { walk = refl; fault = refl }, refl, refl, λ r rs. refl))
allow_words All = asks_for _ (codes "--allow" ∷ codes "all" ∷ []) _ _ reads_merge (λ x sheet. (_, record { walk = refl; fault = refl }, refl, refl, λ r rs. refl))

pub verdicts_words : VerdictsWords
unfolding program_on_literals
verdicts_words printed.Lines = asks_for _ [] _ _ reads_verdicts (λ x sheet. (_, record { walk = refl; fault = refl }, refl, refl, λ r rs. refl))
verdicts_words (printed.Rows rows.Json) = asks_for _ (codes "--format" ∷ codes "json" ∷ []) _ _ reads_verdicts (λ x sheet. (_, record { walk = refl; fault = refl }, refl, refl, λ r rs. refl))
verdicts_words (printed.Rows rows.Csv) = asks_for _ (codes "--format" ∷ codes "csv" ∷ []) _ _ reads_verdicts (λ x sheet. (_, record { walk = refl; fault = refl }, refl, refl, λ r rs. refl))
verdicts_words (printed.Rows rows.SpreadsheetCsv) = asks_for _ (codes "--format" ∷ codes "csv" ∷ codes "--spreadsheet" ∷ []) _ _ reads_verdicts (λ x sheet. (_, record { walk = refl; fault = refl }, refl, refl, λ r rs. refl))

pub sources_words : SourcesWords
unfolding program_on_literals
sources_words printed.Lines = asks_for _ [] _ _ reads_sources (λ x sheet. (_, record { walk = refl; fault = refl }, refl, refl, λ r rs. refl))
sources_words (printed.Rows rows.Json) = asks_for _ (codes "--format" ∷ codes "json" ∷ []) _ _ reads_sources (λ x sheet. (_, record { walk = refl; fault = refl }, refl, refl, λ r rs. refl))
sources_words (printed.Rows rows.Csv) = asks_for _ (codes "--format" ∷ codes "csv" ∷ []) _ _ reads_sources (λ x sheet. (_, record { walk = refl; fault = refl }, refl, refl, λ r rs. refl))
sources_words (printed.Rows rows.SpreadsheetCsv) = asks_for _ (codes "--format" ∷ codes "csv" ∷ codes "--spreadsheet" ∷ []) _ _ reads_sources (λ x sheet. (_, record { walk = refl; fault = refl }, refl, refl, λ r rs. refl))

pub explain_words : ExplainWords
unfolding program_on_literals
explain_words explained.Text = asks_for _ [] _ _ reads_explain (λ x sheet. (_, record { walk = refl; fault = refl }, refl, refl, λ r rs. refl))
explain_words explained.Json = asks_for _ (codes "--format" ∷ codes "json" ∷ []) _ _ reads_explain (λ x sheet. (_, record { walk = refl; fault = refl }, refl, refl, λ r rs. refl))

pub replay_words : ReplayWords
unfolding program_on_literals
replay_words events named = asks_for _ (codes "--replicas" ∷ codes "2" ∷ codes "--events" ∷ events ∷ []) _ _ reads_replay (λ x sheet. (
  _,
  joined (shape x 5) _ _ _ (codes "--replicas" ∷ codes "2" ∷ codes "--events" ∷ []) (events ∷ []) (record { walk = refl; fault = refl })
      (value_reached (shape x 5) (codes "events") _ _ events named refl),
  refl,
  refl,
  λ r rs. refl,
))

pub options_words : OptionsWords
unfolding program_on_literals
options_words sheet list output [] plain listed written reports = elim reports [ ]
options_words sheet list output (r ∷ rs) plain listed written reports =
    let rest = codes "--most-output" ∷ codes "1000" ∷ codes "--quiet" ∷ codes "--verbose" ∷ [] in
    let more = codes "--null" ∷ codes "--output" ∷ output ∷ rest in
    for_tables (λ t. asked_with t (codes "merge" ∷ codes "--sheet" ∷ sheet ∷ codes "--reports-from" ∷ list ∷ more ++ r ∷ rs) ≡ Some (with_all_options sheet list (Some output) (r ∷ rs)))
    (λ x. let s = shape x 0 in
    asks (reads_merge x) sheet r rs (codes "--reports-from" ∷ list ∷ more) _ plain
    (joined s _ _ _ (codes "--reports-from" ∷ []) (list ∷ more) (record { walk = refl; fault = refl })
    (joined s _ _ _ (list ∷ []) more (value_reached s (codes "reports-from") _ _ list listed refl)
    (joined s _ _ _ (codes "--null" ∷ codes "--output" ∷ []) (output ∷ rest) (record { walk = refl; fault = refl })
    (joined s _ _ _ (output ∷ []) rest (value_reached s (codes "output") _ _ output written refl) (record { walk = refl; fault = refl })))))
    refl refl reports
    ∙ ap (λ b. Some (with_all_options sheet list (if b then None else Some output) (r ∷ rs))) (not_hyphen output written))

check_alone_words : CheckAloneWords
unfolding program_on_literals
check_alone_words sheet report plain named =
    for_tables (λ t. asked_with t (codes "check" ∷ codes "--sheet" ∷ sheet ∷ report ∷ []) ≡ Some (plainly sheet (check None) (report ∷ [])))
    (λ x. asks (reads_check x) sheet report [] [] _ plain (record { walk = refl; fault = refl }) refl refl named ∙ refl)

check_several_words : CheckSeveralWords
unfolding program_on_literals
check_several_words sheet one other more plain named =
    for_tables (λ t. asked_with t (codes "check" ∷ codes "--sheet" ∷ sheet ∷ one ∷ other ∷ more) ≡ Some (plainly sheet (check (Some printed.Lines)) (one ∷ other ∷ more)))
    (λ x. asks (reads_check x) sheet one (other ∷ more) [] _ plain (record { walk = refl; fault = refl }) refl refl named ∙ refl)

-- by cases on the reports behind the first
behind_first : (P : List Text → Type 0) → P [] → ((r : Text) (rs : List Text) → P (r ∷ rs)) → (rs : List Text) → P rs
behind_first P none some [] = none
behind_first P none some (r ∷ rs) = some r rs

check_rows_words : CheckRowsWords
unfolding program_on_literals
check_rows_words rows.Json = asks_for _ (codes "--format" ∷ codes "json" ∷ []) _ _ reads_check (λ x sheet. (_, record { walk = refl; fault = refl }, refl, refl, λ r. behind_first _ refl (λ s rs. refl)))
check_rows_words rows.Csv = asks_for _ (codes "--format" ∷ codes "csv" ∷ []) _ _ reads_check (λ x sheet. (_, record { walk = refl; fault = refl }, refl, refl, λ r. behind_first _ refl (λ s rs. refl)))
check_rows_words rows.SpreadsheetCsv = asks_for _ (codes "--format" ∷ codes "csv" ∷ codes "--spreadsheet" ∷ []) _ _ reads_check (λ x sheet. (_, record { walk = refl; fault = refl }, refl, refl, λ r. behind_first _ refl (λ s rs. refl)))

pub check_words : CheckWords
check_words = (check_alone_words, check_several_words, check_rows_words)
