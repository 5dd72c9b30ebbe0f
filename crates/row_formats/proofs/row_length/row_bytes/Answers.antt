use Rattle.row_formats.proofs.Shared.{arith, shown, dimensions_bytes}
use Rattle.row_formats.proofs.RowLengths.{csv_bytes, facts_more}
use Rattle.row_formats.proofs.row_length.row_bytes.Goals as goal

pub returns-in-Csv : goal.returns-in-Csv
returns-in-Csv c =
    let row = c.args.row in
    let more = facts_more c.dimensions_bytes-dimensions.result (dimensions_bytes row.dimensions.now) row.values.now c.dimensions_bytes-dimensions.ensures in
    csv_bytes c.args.format (shown row) c.facts_bytes-in-Csv.result c.in-Csv.is (omega (arith, more, c.facts_bytes-in-Csv.ensures))
