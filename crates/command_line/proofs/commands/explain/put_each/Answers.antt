use Rattle.std.proofs.Common.{◌≡◌, ◌+◌, Err, Ok, get_or, string_bytes, subst, sym, ap, refl, ◌∙◌, arith}
use Rattle.std.specs.List.{AllZip}
use Rattle.oim_write.specs.BoundedSink.{bounded_failures}
use Rattle.command_line.specs.Endings.{Prints, PutsText}
use Rattle.command_line.specs.Page.{EachEnds}
use Rattle.command_line.specs.Why.{IsLost, IsUnread}
use Rattle.command_line.specs.Words.{explain, name_texts}
use Rattle.command_line.specs.declared.error.Error.TheVariants.{OutOfMemory}
use Rattle.command_line.proofs.Ends.{of_error}
use Rattle.command_line.proofs.Explained.{HasListed, all_listed, explained_report, report_listed, report_stops, sheet_listed, sheet_stops, stops_here}
use Rattle.command_line.proofs.Readings.{no_name}
use Rattle.command_line.proofs.Why.{bytes_of, explained_read, stops_at, unread_under}
use Rattle.command_line.proofs.commands.explain.put_each.Goals as goal

pub returns-in_err-put_text-clause-ends : goal.returns-in_err-put_text-clause-ends
returns-in_err-put_text-clause-ends g c =
    let gives = g.F.Folder.gives c.args.inputs.now.files.now in
    let fails = g.F.Folder.fails c.args.inputs.now.files.now in
    let sheet = c.args.known.names.now.sheet.now in
    let of_sheet = c.args.known.repeated.now in
    let names = c.args.inputs.now.names.now in
    let told = g.S.Sink.told in
    let old = told c.args.out.now.sink in
    let new = told c.put_text.new.out.sink in
    let e = c.in_err-put_text.field-0.0 in
    let put = subst (λ sink. Prints (PutsText (string_bytes of_sheet.text)) (told sink) new (Err e)) c.raise.ensures.sink
    (subst (λ t. Prints (PutsText t) (told c.raise.new.self.sink) new (Err e)) c.as_str.ensures.value c.in_err-put_text.ensures.put) in
    of_error (Prints (EachEnds gives c.args.known.format sheet of_sheet fails (name_texts names)) old new) c.from_residual.result e c.from_residual.ensures.1
    (sheet_stops gives c.args.known.format sheet of_sheet fails names old new e put)

pub loop-index-init : goal.loop-index-init
loop-index-init g c =
    let told = g.S.Sink.told in
    let text = string_bytes c.args.known.repeated.now.text in
    let new = told c.put_text.new.out.sink in
    let put = subst (λ sink. Prints (PutsText text) (told sink) new (Ok c.in_ok-put_text.field-0)) c.raise.ensures.sink
    (subst (λ t. Prints (PutsText t) (told c.raise.new.self.sink) new (Ok c.in_ok-put_text.field-0)) c.as_str.ensures.value c.in_ok-put_text.ensures.put) in
    record {
      lists = sheet_listed (g.F.Folder.gives c.args.inputs.now.files.now) c.args.known.format c.args.known.names.now.sheet.now c.args.known.repeated.now (g.F.Folder.fails c.args.inputs.now.files.now) c.args.inputs.now.names.now
          (told c.args.out.now.sink) new c.in_ok-put_text.field-0 put;
      files = c.take_allowance.ensures.files;
      same = c.take_allowance.ensures.names;
      failures = c.in_ok-put_text.ensures.failures ∙ (λ i. bounded_failures (g.S.Sink.failures (c.raise.ensures.sink i)) (c.raise.ensures.overruns i));
      console = λ plain. c.take_allowance.ensures.console;
    }

pub returns-in_err-report-clause-ends : goal.returns-in_err-report-clause-ends
returns-in_err-report-clause-ends g c =
    let gives = g.F.Folder.gives c.args.inputs.now.files.now in
    let fails = g.F.Folder.fails c.args.inputs.now.files.now in
    let sheet = c.args.known.names.now.sheet.now in
    let names = c.args.inputs.now.names.now in
    let l = c.loop-index in
    let old = g.S.Sink.told c.args.out.now.sink in
    let new = g.S.Sink.told l.out.sink in
    let e = c.in_err-report.field-0.0 in
    let lists = l.invariant.lists.1 in
    let bytes = bytes_of lists.reports in
    let read = subst (λ ns. AllZip gives ns bytes) lists.named (explained_read gives c.args.known.format sheet 1 lists.reports lists.are) in
    let why = subst (λ files. IsUnread (IsLost (g.F.Folder.fails files.now) (get_or names l.index no_name).now) e) l.invariant.files c.in_err-report.ensures.why in
    of_error (Prints (EachEnds gives c.args.known.format sheet c.args.known.repeated.now fails (name_texts names)) old new) c.from_residual-in_err-report.result e c.from_residual-in_err-report.ensures.1
    (stops_here gives c.args.known.format sheet c.args.known.repeated.now fails names l.index old new l.counts l.invariant.lists e
    (unread_under gives fails (name_texts names) sheet (explain c.args.known.format) (λ file lost. lost) e (stops_at gives fails names l.index c.loop-index-test.true bytes read e why)))

pub returns-in_err-explained-clause-ends : goal.returns-in_err-explained-clause-ends
returns-in_err-explained-clause-ends g c =
    let gives = g.F.Folder.gives c.args.inputs.now.files.now in
    let fails = g.F.Folder.fails c.args.inputs.now.files.now in
    let format = c.args.known.format in
    let sheet = c.args.known.names.now.sheet.now in
    let of_sheet = c.args.known.repeated.now in
    let names = c.args.inputs.now.names.now in
    let l = c.loop-index in
    let told = g.S.Sink.told in
    let old = told c.args.out.now.sink in
    let new = told c.raise-in-loop-index.new.self.sink in
    let lists = subst (λ sink. HasListed gives format sheet of_sheet fails names l.index old (told sink) l.counts) (sym c.raise-in-loop-index.ensures.sink) l.invariant.lists in
    of_error (Prints (EachEnds gives format sheet of_sheet fails (name_texts names)) old new) c.from_residual-in_err-explained.result OutOfMemory c.from_residual-in_err-explained.ensures.1
    (stops_here gives format sheet of_sheet fails names l.index old new l.counts lists OutOfMemory tt)

pub returns-in_err-put_text-2-clause-ends : goal.returns-in_err-put_text-2-clause-ends
returns-in_err-put_text-2-clause-ends g c =
    let gives = g.F.Folder.gives c.args.inputs.now.files.now in
    let fails = g.F.Folder.fails c.args.inputs.now.files.now in
    let format = c.args.known.format in
    let sheet = c.args.known.names.now.sheet.now in
    let of_sheet = c.args.known.repeated.now in
    let names = c.args.inputs.now.names.now in
    let l = c.loop-index in
    let told = g.S.Sink.told in
    let old = told c.args.out.now.sink in
    let mid = told c.raise-in-loop-index.new.self.sink in
    let new = told c.put_text-in-loop-index.new.out.sink in
    let e = c.in_err-put_text-2.field-0.0 in
    let found = c.in_ok-explained.explained in
    let name = get_or names l.index no_name in
    let lists = subst (λ sink. HasListed gives format sheet of_sheet fails names l.index old (told sink) l.counts) (sym c.raise-in-loop-index.ensures.sink) l.invariant.lists in
    let gave = subst (λ files. g.F.Folder.gives files.now name.now c.in_ok-report.report) l.invariant.files c.in_ok-report.ensures.ok in
    let number : c.saturating_add.result ≡ 1 + l.index = omega (arith, c.saturating_add.ensures, c.loop-index-test.true) in
    let is = explained_report gives format sheet name c.in_ok-report.report c.as_bytes.result.now found c.saturating_add.result (1 + l.index) gave number c.as_bytes.ensures c.in_ok-explained.ensures in
    let put = subst (λ t. Prints (PutsText t) mid new (Err e)) c.as_str-in-loop-index.ensures.value c.in_err-put_text-2.ensures.put in
    of_error (Prints (EachEnds gives format sheet of_sheet fails (name_texts names)) old new) c.from_residual-in_err-put_text-2.result e c.from_residual-in_err-put_text-2.ensures.1
    (report_stops gives format sheet of_sheet fails names l.index c.loop-index-test.true (record { name = name; bytes = c.in_ok-report.report; explained = found }) refl is l.counts old mid new lists e put)

pub loop-index-preserved : goal.loop-index-preserved
loop-index-preserved g c =
    let gives = g.F.Folder.gives c.args.inputs.now.files.now in
    let fails = g.F.Folder.fails c.args.inputs.now.files.now in
    let format = c.args.known.format in
    let sheet = c.args.known.names.now.sheet.now in
    let of_sheet = c.args.known.repeated.now in
    let names = c.args.inputs.now.names.now in
    let l = c.loop-index in
    let told = g.S.Sink.told in
    let old = told c.args.out.now.sink in
    let mid = told c.raise-in-loop-index.new.self.sink in
    let new = told c.put_text-in-loop-index.new.out.sink in
    let done = c.in_ok-put_text-2.field-0 in
    let found = c.in_ok-explained.explained in
    let name = get_or names l.index no_name in
    let lists = subst (λ sink. HasListed gives format sheet of_sheet fails names l.index old (told sink) l.counts) (sym c.raise-in-loop-index.ensures.sink) l.invariant.lists in
    let gave = subst (λ files. g.F.Folder.gives files.now name.now c.in_ok-report.report) l.invariant.files c.in_ok-report.ensures.ok in
    let number : c.saturating_add.result ≡ 1 + l.index = omega (arith, c.saturating_add.ensures, c.loop-index-test.true) in
    let is = explained_report gives format sheet name c.in_ok-report.report c.as_bytes.result.now found c.saturating_add.result (1 + l.index) gave number c.as_bytes.ensures c.in_ok-explained.ensures in
    let put = subst (λ t. Prints (PutsText t) mid new (Ok done)) c.as_str-in-loop-index.ensures.value c.in_ok-put_text-2.ensures.put in
    record {
      lists = report_listed gives format sheet of_sheet fails names l.index c.loop-index-test.true (record { name = name; bytes = c.in_ok-report.report; explained = found }) refl is
          l.counts c.with-counts.result c.with-counts.ensures.faulty c.with-counts.ensures.faults old mid new lists done put;
      files = c.take_allowance-in-loop-index.ensures.files ∙ c.read_report.ensures.files ∙ l.invariant.files;
      same = c.take_allowance-in-loop-index.ensures.names ∙ c.read_report.ensures.names ∙ l.invariant.same;
      failures = c.in_ok-put_text-2.ensures.failures
          ∙ (λ i. bounded_failures (g.S.Sink.failures (c.raise-in-loop-index.ensures.sink i)) (c.raise-in-loop-index.ensures.overruns i)) ∙ l.invariant.failures;
      console = λ plain.
          let first = l.invariant.console plain in
          let read = c.read_report.ensures.console (ap (λ console. console.is_terminal) first ∙ plain) in
          let taken = c.take_allowance-in-loop-index.ensures.console ∙ read ∙ first in
          c.clear.ensures (ap (λ console. console.is_terminal) taken ∙ plain) ∙ taken;
    }

pub returns-clause-ends : goal.returns-clause-ends
returns-clause-ends g c =
    let inputs = c.args.inputs.now in
    let l = c.loop-index in
    all_listed (g.F.Folder.gives inputs.files.now) c.args.known.format c.args.known.names.now.sheet.now c.args.known.repeated.now (g.F.Folder.fails inputs.files.now) inputs.names.now l.index c.loop-index-test.false
    (g.S.Sink.told c.args.out.now.sink) (g.S.Sink.told l.out.sink) l.counts l.invariant.lists
