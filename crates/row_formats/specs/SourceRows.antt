-- The sources of facts in a format, one row for each fact object (own). In bytes, a line end is 10.
use Rattle.std.specs.Prelude.{ℕ, ◌-◌, Bool, true, false, Option, Some, None, List, [], ◌∷◌, ◌++◌, codes, slice_get}
use Rattle.std.specs.Fmt.{decimal}
use Rattle.serde_json.specs.Data.{Data, null, unsigned, number, string, object, no_members, member}
use Rattle.serde_json.specs.Written.{compact_text}
use Rattle.fact_base.specs.Passed.{Sheet}
use Rattle.oim_merge.specs.Sources.{SourceText, sources_by}
use Rattle.row_formats.specs.CsvCells.{byte_order_mark, cell}
use Rattle.row_formats.specs.CsvRows.{or_empty, record_text}
use Rattle.row_formats.specs.declared.row_format.RowFormat.{RowFormat}
use Rattle.row_formats.specs.declared.row_format.RowFormat.TheVariants.{Json, Csv, SpreadsheetCsv}

-- the file of the report with this number, from 1; None if the report has no name
abbrev pub file_of : List (List ℕ) → ℕ → Option (List ℕ)
file_of files report = slice_get files (report - 1)

abbrev pub file_data : Option (List ℕ) → Data
file_data None = null
file_data (Some file) = string file

-- a source as data: the number of the report, its file, the fact's identifier in the report, and its identifier in the canonical text
abbrev pub source_data : ℕ → Option (List ℕ) → List ℕ → List ℕ → Data
source_data report file own fact =
    object (member (codes "report") (number (unsigned report)) (
    member (codes "file") (file_data file) (
    member (codes "identifier") (string own) (
    member (codes "fact") (string fact) no_members))))

abbrev pub json_source : ℕ → Option (List ℕ) → List ℕ → List ℕ → List ℕ
json_source report file own fact = compact_text (source_data report file own fact) ++ 10 ∷ []

abbrev pub csv_source : Bool → ℕ → Option (List ℕ) → List ℕ → List ℕ → List ℕ
csv_source spreadsheet report file own fact =
    record_text (decimal report ∷ cell spreadsheet (or_empty file) ∷ cell spreadsheet own ∷ fact ∷ [])

abbrev pub source_columns : List (List ℕ)
source_columns = codes "report" ∷ codes "file" ∷ codes "identifier" ∷ codes "fact" ∷ []

-- how to write a source, given the files of the reports
abbrev pub source_text : RowFormat → List (List ℕ) → SourceText
source_text Json files fact report own = json_source report (file_of files report) own fact
source_text Csv files fact report own = csv_source false report (file_of files report) own fact
source_text SpreadsheetCsv files fact report own = csv_source true report (file_of files report) own fact

-- JSON lines have no header; CSV for a spreadsheet begins with a byte order mark
abbrev pub source_header : RowFormat → List ℕ
source_header Json = []
source_header Csv = record_text source_columns
source_header SpreadsheetCsv = byte_order_mark ++ record_text source_columns

-- the header and the rows of all fact objects in accepted reports, in the order of facts, then reports, then identifiers
abbrev pub sources_in : RowFormat → List (List ℕ) → Sheet → List (List ℕ) → List ℕ
sources_in format files sheet reports = source_header format ++ sources_by (source_text format files) sheet reports
