use Rattle.std.proofs.Common.{◌≡◌, ◌+◌, refl, ap, ◌∙◌, subst, get_or, arith}
use Rattle.std.specs.Prelude.{IfErr}
use Rattle.command_line.specs.Checks.{AddsResult, result_written}
use Rattle.command_line.specs.Why.{IsFirstLost, IsLost, IsUnread}
use Rattle.command_line.specs.Words.{name_texts}
use Rattle.command_line.proofs.Checks.{checks_more, none_checked}
use Rattle.command_line.proofs.Readings.{no_name}
use Rattle.command_line.proofs.Ends.{of_error}
use Rattle.command_line.proofs.Why.{stops_at}
use Rattle.command_line.proofs.commands.check.check_each.Goals as goal

pub loop-index-init : goal.loop-index-init
loop-index-init g c = record {
  files = refl;
  console = λ plain. refl;
  read = none_checked (g.F.Folder.gives c.args.inputs.now.files.now) c.args.format (name_texts c.args.inputs.now.names.now) c.args.sheet.now c.in_ok-header.field-0.items c.new.result c.in_ok-header.ensures c.new.ensures;
}

pub loop-index-preserved : goal.loop-index-preserved
loop-index-preserved g c =
    let l = c.loop-index in
    let names = c.args.inputs.now.names.now in
    let bytes = c.in_ok-report.report in
    let gives = g.F.Folder.gives in
    let gave = subst (λ files. gives files.now (get_or names l.index no_name).now bytes) l.invariant.files c.in_ok-report.ensures.ok in
    let number : c.saturating_add-number.result ≡ l.index + 1 = omega (arith, c.saturating_add-number.ensures, c.loop-index-test.true) in
    let adds = subst (λ read. AddsResult (result_written c.args.format (name_texts names)) c.args.sheet.now c.saturating_add-number.result read l.batch.text.items c.add.new.self.text.items l.batch.refusals c.add.new.self.refusals) c.as_bytes.ensures c.in_ok-add.ensures in
    record {
      files = c.read_report.ensures.files ∙ l.invariant.files;
      console = λ plain. let same = l.invariant.console plain in c.read_report.ensures.console (ap (λ console. console.is_terminal) same ∙ plain) ∙ same;
      read = checks_more (gives c.args.inputs.now.files.now) names l.index bytes c.loop-index-test.true gave c.args.format c.args.sheet.now c.saturating_add-number.result l.batch.text.items c.add.new.self.text.items l.batch.refusals c.add.new.self.refusals
          number adds l.invariant.read;
    }

pub returns-in_err-report-clause-why : goal.returns-in_err-report-clause-why
returns-in_err-report-clause-why g c =
    let gives = g.F.Folder.gives c.args.inputs.now.files.now in
    let fails = g.F.Folder.fails c.args.inputs.now.files.now in
    let names = c.args.inputs.now.names.now in
    let l = c.loop-index in
    let e = c.in_err-report.field-0.0 in
    let why = subst (λ files. IsUnread (IsLost (g.F.Folder.fails files.now) (get_or names l.index no_name).now) e) l.invariant.files c.in_err-report.ensures.why in
    of_error (λ r. IfErr r (IsUnread (IsFirstLost gives fails (name_texts names)))) c.from_residual-in_err-report.result e c.from_residual-in_err-report.ensures.1
    (stops_at gives fails names l.index c.loop-index-test.true l.invariant.read.0 l.invariant.read.1 e why)
