use Rattle.std.proofs.Common.{inl}
use Rattle.std.proofs.KnownBytes.{Appends-nil}
use Rattle.std.proofs.lemmas.Result.{err_from_is_err_and}
use Rattle.xbrlmerge_c.specs.code.Reports.{texts_of}
use Rattle.xbrlmerge_c.proofs.Listings.{lines_listed}
use Rattle.xbrlmerge_c.proofs.row_call.write_verdict_lines.Goals as goal

pub returns-in_err-add_reports : goal.returns-in_err-add_reports
returns-in_err-add_reports g c =
    let p = err_from_is_err_and c.from_residual.result c.from_residual.ensures.1 in
    rw (p.1, p.2) (tt, inl (Appends-nil (g.S.Sink.told c.args.out.now)))

pub returns : goal.returns
returns g c = lines_listed c.args.sheet.now (texts_of c.args.reports.now) (g.S.Sink.told c.args.out.now) (g.S.Sink.told c.finish_lines.new.out) _ c.in_ok-add_reports.ensures c.finish_lines.result c.finish_lines.ensures.ok c.finish_lines.ensures.err
