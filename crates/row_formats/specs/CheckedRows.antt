-- The results of checking reports in a format, one row for each accepted report (own). In bytes, a line end is 10.
use Rattle.std.specs.Prelude.{ℕ, Bool, true, false, Option, List, [], ◌∷◌, ◌++◌, codes, if◌then◌else◌}
use Rattle.std.specs.Fmt.{decimal}
use Rattle.serde_json.specs.Data.{Data, boolean, unsigned, number, string, object, no_members, member}
use Rattle.serde_json.specs.Written.{compact_text}
use Rattle.oim_value.specs.Level.{level_entry}
use Rattle.oim_merge.specs.declared.checked.Checked.{Checked}
use Rattle.row_formats.specs.CsvCells.{byte_order_mark, cell}
use Rattle.row_formats.specs.CsvRows.{or_empty, record_text}
use Rattle.row_formats.specs.SourceRows.{file_data, file_of}
use Rattle.row_formats.specs.declared.row_format.RowFormat.{RowFormat}
use Rattle.row_formats.specs.declared.row_format.RowFormat.TheVariants.{Json, Csv, SpreadsheetCsv}

-- a result as data: the number of the report, its file, the number of its facts, their level, and whether its bytes are canonical
abbrev pub checked_data : ℕ → Option (List ℕ) → Checked → Data
checked_data report file checked =
    object (member (codes "report") (number (unsigned report)) (
    member (codes "file") (file_data file) (
    member (codes "facts") (number (unsigned checked.facts)) (
    member (codes "level") (string (level_entry checked.level).text) (
    member (codes "canonical") (boolean checked.canonical) no_members)))))

abbrev pub json_checked : ℕ → Option (List ℕ) → Checked → List ℕ
json_checked report file checked = compact_text (checked_data report file checked) ++ 10 ∷ []

abbrev pub csv_checked : Bool → ℕ → Option (List ℕ) → Checked → List ℕ
csv_checked spreadsheet report file checked =
    record_text (decimal report ∷ cell spreadsheet (or_empty file) ∷ decimal checked.facts ∷ (level_entry checked.level).text
    ∷ (if checked.canonical then codes "true" else codes "false") ∷ [])

abbrev pub checked_columns : List (List ℕ)
checked_columns = codes "report" ∷ codes "file" ∷ codes "facts" ∷ codes "level" ∷ codes "canonical" ∷ []

-- how to write the result of the report with this number, given the files of the reports
abbrev pub checked_text : RowFormat → List (List ℕ) → ℕ → Checked → List ℕ
checked_text Json files report checked = json_checked report (file_of files report) checked
checked_text Csv files report checked = csv_checked false report (file_of files report) checked
checked_text SpreadsheetCsv files report checked = csv_checked true report (file_of files report) checked

-- JSON lines have no header; CSV for a spreadsheet begins with a byte order mark
abbrev pub checked_header : RowFormat → List ℕ
checked_header Json = []
checked_header Csv = record_text checked_columns
checked_header SpreadsheetCsv = byte_order_mark ++ record_text checked_columns
