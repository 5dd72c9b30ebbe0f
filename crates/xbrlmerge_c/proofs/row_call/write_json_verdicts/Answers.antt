use Rattle.std.proofs.Common.{inl}
use Rattle.std.proofs.KnownBytes.{Appends-nil}
use Rattle.xbrlmerge_c.specs.code.Reports.{texts_of}
use Rattle.xbrlmerge_c.proofs.Listings.{long_rows, rows_listed}
use Rattle.xbrlmerge_c.proofs.row_call.write_json_verdicts.Goals as goal

pub returns-in-Err : goal.returns-in-Err
returns-in-Err g c = (tt, inl (Appends-nil (g.S.Sink.told c.args.out.now)))

pub returns-then-is_long : goal.returns-then-is_long
returns-then-is_long g c =
    long_rows c.args.sheet.now (texts_of c.args.reports.now) c.args.bound c.in-Ok.merged.base.body c.in-Ok.ensures.base (c.is_long.ensures c.if-is_long.true)

pub returns : goal.returns
returns g c =
    rows_listed c.args.sheet.now (texts_of c.args.reports.now) (g.S.Sink.told c.args.out.now) (g.S.Sink.told c.write_verdicts.new.out) c.in-Ok.merged.base.body c.in-Ok.merged.refusals c.in-Ok.ensures.base c.in-Ok.ensures.refusals
    c.write_verdicts.result c.write_verdicts.ensures.ok c.write_verdicts.ensures.err
