-- The rows of a body in a format, in order and numbered from 1 (own). In bytes, a quote is 34.
use Rattle.std.specs.Prelude.{◌≡◌, ◌<◌, true, false, ℕ, List, [], ◌∷◌, ◌++◌, codes, flat_map, length, slice_get, Contains, Some}
use Rattle.std.specs.Fmt.{decimal}
use Rattle.std.specs.List.{All}
use Rattle.fact_base.specs.Body.{Body}
use Rattle.fact_base.specs.Fits.{Fits}
use Rattle.fact_base.specs.Passed.{Sheet}
use Rattle.fact_base.specs.Rows.{Row, rows_of}
use Rattle.fact_base.specs.Verdict.{verdict}
use Rattle.fact_base.specs.declared.verdict.Verdict.{Verdict}
use Rattle.oim_merge.specs.Lines.{AreRowsOf, HasOneText, IsRow, RowText, verdict_word}
use Rattle.row_formats.specs.CsvCells.{byte_order_mark}
use Rattle.row_formats.specs.CsvRows.{columns, csv_row, record_text}
use Rattle.row_formats.specs.JsonRows.{json_row}
use Rattle.row_formats.specs.declared.row_format.RowFormat.{RowFormat}
use Rattle.row_formats.specs.declared.row_format.RowFormat.TheVariants.{Json, Csv, SpreadsheetCsv}

-- how to write a row in this format
abbrev pub row_text : RowFormat → RowText
row_text Json = json_row
row_text Csv = csv_row false
row_text SpreadsheetCsv = csv_row true

-- JSON lines have no header; CSV for a spreadsheet begins with a byte order mark
abbrev pub header : RowFormat → List ℕ
header Json = []
header Csv = record_text columns
header SpreadsheetCsv = byte_order_mark ++ record_text columns

-- the text is the header, followed by the rows of the body
pub record AreRows (format : RowFormat) (b : Body) (text : List ℕ) : Type 0 where
  pub rows : List ℕ
  pub are : AreRowsOf (row_text format) b rows
  pub whole : text ≡ header format ++ rows

-- the header and the rows of the body have more bytes than the bound
pub record AreBeyond (format : RowFormat) (b : Body) (bound : ℕ) : Type 0 where
  pub text : List ℕ
  pub are : AreRows format b text
  pub beyond : bound < length text

-- ---- laws

-- the rows of a body that fits a sheet have exactly one text in each format
abbrev pub RowsAreOne : Type 0
RowsAreOne = (format : RowFormat) (sheet : Sheet) (b : Body) → Fits sheet b → HasOneText (AreRows format b)

-- a line of JSON begins with this row number and this word: {"row":1,"verdict":"complete"
abbrev pub LineShows : ℕ → List ℕ → List ℕ → Type 0
LineShows number word line = (more : List ℕ) × (line ≡ codes "{\"row\":" ++ (decimal number ++ (codes ",\"verdict\":\"" ++ (word ++ 34 ∷ more))))

-- a record of CSV has this text in the column with this name
abbrev pub HasField : List ℕ → List ℕ → List (List ℕ) → Type 0
HasField column text fields = (index : ℕ) × ((slice_get columns index ≡ Some column) × (slice_get fields index ≡ Some text))

-- a text consists of this many records of CSV, each with this row number and this word
pub record RecordsShow (count number : ℕ) (word text : List ℕ) : Type 0 where
  pub records : List (List (List ℕ))
  pub counted : length records ≡ count
  pub numbered : All (HasField (codes "row") (decimal number)) records
  pub worded : All (HasField (codes "verdict") word) records
  pub whole : text ≡ flat_map record_text records

-- a row is written with this number and this word; CSV repeats both in the record of each fact
abbrev pub Shows : RowFormat → ℕ → Row → List ℕ → List ℕ → Type 0
Shows Json number r word text = LineShows number word text
Shows Csv number r word text = RecordsShow (length r.1) number word text
Shows SpreadsheetCsv number r word text = RecordsShow (length r.1) number word text

-- in a body that fits a sheet, each row has a verdict, and the text of the row shows the word for this verdict
abbrev pub RowsTellVerdicts : Type 0
RowsTellVerdicts =
    (format : RowFormat) (sheet : Sheet) (b : Body) → Fits sheet b → (r : Row) → Contains (rows_of b.facts) r →
    (number : ℕ) (text : List ℕ) → IsRow (row_text format) b.facts number r text →
    (v : Verdict) × ((verdict b.facts r.0 ≡ Some v) × Shows format number r (verdict_word v) text)
