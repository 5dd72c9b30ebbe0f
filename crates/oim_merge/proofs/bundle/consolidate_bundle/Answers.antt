use Rattle.std.proofs.lemmas.Result.{IfErr-weaker, IfOk-weaker}
use Rattle.oim_merge.proofs.LinePieces.{HasRead, consolidated, stopped}
use Rattle.oim_merge.proofs.bundle.consolidate_bundle.Goals as goal

pub returns-clause-ok : goal.returns-clause-ok
returns-clause-ok g c =
    let consolidation = c.in_ok-merge_lines.field-0 in
    let read : HasRead c.args.bytes.now c.in-Ok.sheet consolidation = record {
      line = c.cut_line.result.0.now;
      rest = c.cut_line.result.1.now;
      first = c.cut_line.ensures.line;
      others = c.cut_line.ensures.rest;
      sheet_is = c.in-Ok.ensures.ok;
      added_is = c.in_ok-merge_lines.ensures;
    } in
    IfOk-weaker c.finish.result _ _ (consolidated c.args.bytes.now c.in-Ok.sheet consolidation read (g.S.Sink.told c.args.out.now) (g.S.Sink.told c.finish.new.out)) c.finish.ensures.ok

pub returns-clause-err : goal.returns-clause-err
returns-clause-err g c =
    let consolidation = c.in_ok-merge_lines.field-0 in
    let read : HasRead c.args.bytes.now c.in-Ok.sheet consolidation = record {
      line = c.cut_line.result.0.now;
      rest = c.cut_line.result.1.now;
      first = c.cut_line.ensures.line;
      others = c.cut_line.ensures.rest;
      sheet_is = c.in-Ok.ensures.ok;
      added_is = c.in_ok-merge_lines.ensures;
    } in
    IfErr-weaker c.finish.result _ _ (stopped c.args.bytes.now c.in-Ok.sheet consolidation read (g.S.Sink.told c.args.out.now) (g.S.Sink.told c.finish.new.out)) c.finish.ensures.err
