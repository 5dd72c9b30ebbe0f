use Rattle.std.proofs.Common.{◌∙◌, ap, ◌+◌, subst, sym, get_or, take}
use Rattle.std.specs.Prelude.{IfErr}
use Rattle.std.specs.List.{AllZip}
use Rattle.command_line.specs.Why.{IsFirstLost, IsLost, IsUnread}
use Rattle.command_line.specs.Words.{name_texts}
use Rattle.command_line.proofs.Readings.{no_name, read_more}
use Rattle.command_line.proofs.Ends.{of_error}
use Rattle.command_line.proofs.Why.{stops_at}
use Rattle.command_line.proofs.inputs.Inputs.read_reports.Goals as goal

pub loop-name-preserved : goal.loop-name-preserved
loop-name-preserved g c =
    let l = c.loop-name in
    let names = c.args.self.now.names.now in
    let bytes = c.in_ok-read_report.field-0 in
    let gives = g.F.Folder.gives in
    let gave = subst (λ files. gives files.now (get_or names l.name-index no_name).now bytes) l.invariant.files c.in_ok-read_report.ensures.ok in
    record {
      files = c.read_report.ensures.files ∙ l.invariant.files;
      console = λ plain. let same = l.invariant.console plain in c.read_report.ensures.console (ap (λ console. console.is_terminal) same ∙ plain) ∙ same;
      read = subst (AllZip (gives c.args.self.now.files.now) (name_texts (take (l.name-index + 1) names))) (sym c.in_ok-push.ensures.items)
          (read_more (gives c.args.self.now.files.now) names l.name-index bytes c.loop-name-test.true gave l.all.items l.invariant.read);
    }

pub returns-in_err-read_report-clause-why : goal.returns-in_err-read_report-clause-why
returns-in_err-read_report-clause-why g c =
    let gives = g.F.Folder.gives c.args.self.now.files.now in
    let fails = g.F.Folder.fails c.args.self.now.files.now in
    let names = c.args.self.now.names.now in
    let l = c.loop-name in
    let e = c.in_err-read_report.field-0.0 in
    let why = subst (λ files. IsUnread (IsLost (g.F.Folder.fails files.now) (get_or names l.name-index no_name).now) e) l.invariant.files c.in_err-read_report.ensures.why in
    of_error (λ r. IfErr r (IsUnread (IsFirstLost gives fails (name_texts names)))) c.from_residual.result e c.from_residual.ensures.1
    (stops_at gives fails names l.name-index c.loop-name-test.true l.all.items l.invariant.read e why)
