use Rattle.std.proofs.Common.{inl}
use Rattle.std.proofs.KnownBytes.{Appends-nil}
use Rattle.std.proofs.lemmas.Result.{err_from_is_err_and}
use Rattle.xbrlmerge_c.specs.code.Reports.{texts_of}
use Rattle.xbrlmerge_c.proofs.Listings.{sources_listed}
use Rattle.xbrlmerge_c.proofs.row_call.write_source_lines.Goals as goal

pub returns-in_err-trace_reports : goal.returns-in_err-trace_reports
returns-in_err-trace_reports g c =
    let p = err_from_is_err_and c.from_residual.result c.from_residual.ensures.1 in
    rw (p.1, p.2) (tt, inl (Appends-nil (g.S.Sink.told c.args.out.now)))

pub returns : goal.returns
returns g c = sources_listed c.args.sheet.now (texts_of c.args.reports.now) (g.S.Sink.told c.args.out.now) (g.S.Sink.told c.finish.new.out) _ c.in_ok-trace_reports.ensures c.finish.result c.finish.ensures.ok c.finish.ensures.err
