use Rattle.row_formats.proofs.Shared.{◌++◌, map, sym, ap, ◌∙◌, arith, rows_left, shown}
use Rattle.row_formats.proofs.RowLengths.{beyond}
use Rattle.row_formats.proofs.row_length.has_long_row.Goals as goal

pub returns-then-row_bytes-bound : goal.returns-then-row_bytes-bound
returns-then-row_bytes-bound c = λ is.
    let l = c.loop-row in
    let done = map shown l.yielded in
    let all = ap (λ rs. done ++ rs) (sym c.in-Some.ensures.steps) ∙ l.invariant in
    beyond c.args.format c.args.base.now.sheet c.args.base.now.body c.sheet-sheet.ensures.fits done (rows_left c.next.new.self) (shown c.in-Some.row) all c.args.bound
    (omega (arith, c.if-row_bytes-bound.true, c.row_bytes.ensures))
