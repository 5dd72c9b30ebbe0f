use Rattle.row_formats.proofs.Shared.{◌≡◌, take, names_of, csv_facts}
use Rattle.row_formats.proofs.row_csv.csv_row.Given as goal

-- the facts so far are written
abbrev pub invariant-loop-index : goal.invariant-loop-index
invariant-loop-index l = l.text.items ≡ csv_facts l.spreadsheet (names_of l.judged) l.judged.number l.judged.row.dimensions.now l.judged.evidence 0 (take l.index l.judged.row.values.now)
