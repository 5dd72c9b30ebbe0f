-- The names of the reports: those among the words, then those in a file of names (own).
use Rattle.std.specs.Prelude.{◌≡◌, ◌≢◌, ◌==◌, ℕ, Bool, true, false, List, [], ◌∷◌, ◌++◌, IfSome, Some, map, filter, if◌then◌else◌, ⊤}
use Rattle.std.specs.Option.{option_map_or}
use Rattle.std.specs.List.{slice_split}
use Rattle.std.specs.Str.{IsUtf8}
use Rattle.std.specs.Str.Lines.{strip_carriage_return}
use Rattle.clap.specs.Words.{Text}
use Rattle.oim_report.specs.Json.{without_mark}
use Rattle.command_line.specs.declared.error.Error.{Error}
use Rattle.command_line.specs.declared.error.Error.TheVariants.{Unread, NoNames, OutOfMemory}
use Rattle.command_line.specs.Words.{Asked}

-- NUL, or a line end, which may be CR LF
abbrev pub name_end : Bool → ℕ
name_end is_null = if is_null then 0 else 10

abbrev pub without_return : Bool → Text → Text
without_return is_null name = if is_null then name else strip_carriage_return name

abbrev pub has_text : Text → Bool
has_text [] = false
has_text (x ∷ xs) = true

-- a byte order mark and empty names are skipped
abbrev pub names_in_file : Bool → List ℕ → List Text
names_in_file is_null bytes = filter has_text (map (without_return is_null) (slice_split (λ b. b == name_end is_null) (without_mark bytes)))

-- `bytes` are those of the file of names, if there is one
abbrev pub report_names : Asked → List ℕ → List Text
report_names a bytes = a.names ++ option_map_or (λ file. names_in_file a.is_null bytes) a.list []

-- the file of names is UTF-8, and there is a name
abbrev pub AreReportNames : Asked → List ℕ → List Text → Type 0
AreReportNames a bytes names = (names ≡ report_names a bytes) × IfSome a.list (λ file. IsUtf8 (without_mark bytes) × (names ≢ []))

-- why the names were not read
abbrev pub IsNameError : Asked → List ℕ → Error → Type 0
IsNameError a bytes (Unread file cause) = (a.list ≡ Some file.now) × ¬ (IsUtf8 (without_mark bytes))
IsNameError a bytes (NoNames file) = (a.list ≡ Some file.now) × (report_names a bytes ≡ [])
IsNameError a bytes OutOfMemory = ⊤
IsNameError a bytes _ = ⊥
