use Rattle.std.proofs.Common.{◌+◌, ap, ◌∙◌, subst, get_or}
use Rattle.std.specs.Prelude.{IfErr}
use Rattle.oim_merge.specs.Traced.{Traced, with_traced}
use Rattle.command_line.specs.Why.{IsFirstLost, IsLost, IsUnread}
use Rattle.command_line.specs.Words.{name_texts}
use Rattle.command_line.proofs.Readings.{no_name, traced_step}
use Rattle.command_line.proofs.Ends.{of_error}
use Rattle.command_line.proofs.Why.{stops_at}
use Rattle.command_line.proofs.inputs.Inputs.trace.Goals as goal

pub loop-index-preserved : goal.loop-index-preserved
loop-index-preserved g c =
    let l = c.loop-index in
    let names = c.args.self.now.names.now in
    let bytes = c.in_ok-read_report.field-0 in
    let gives = g.F.Folder.gives in
    let gave = subst (λ files. gives files.now (get_or names l.index no_name).now bytes) l.invariant.files c.in_ok-read_report.ensures.ok in
    record {
      files = c.read_report.ensures.files ∙ l.invariant.files;
      console = λ plain. let same = l.invariant.console plain in c.read_report.ensures.console (ap (λ console. console.is_terminal) same ∙ plain) ∙ same;
      read = traced_step (gives c.args.self.now.files.now) names l.index bytes c.loop-index-test.true gave c.args.sheet.now l.merge c.add.new.self (c.in_ok-add.ensures.ok ∙ ap (with_traced l.merge) c.as_bytes.ensures) l.invariant.read;
      count = ap (λ (a : Traced). a.added.reports) c.in_ok-add.ensures.ok ∙ ap (λ n. n + 1) l.invariant.count;
    }

pub returns-in_err-read_report-clause-why : goal.returns-in_err-read_report-clause-why
returns-in_err-read_report-clause-why g c =
    let gives = g.F.Folder.gives c.args.self.now.files.now in
    let fails = g.F.Folder.fails c.args.self.now.files.now in
    let names = c.args.self.now.names.now in
    let l = c.loop-index in
    let e = c.in_err-read_report.field-0.0 in
    let why = subst (λ files. IsUnread (IsLost (g.F.Folder.fails files.now) (get_or names l.index no_name).now) e) l.invariant.files c.in_err-read_report.ensures.why in
    of_error (λ r. IfErr r (IsUnread (IsFirstLost gives fails (name_texts names)))) c.from_residual.result e c.from_residual.ensures.1
    (stops_at gives fails names l.index c.loop-index-test.true l.invariant.read.0 l.invariant.read.1 e why)
