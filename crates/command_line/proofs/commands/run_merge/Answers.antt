use Rattle.std.proofs.Common.{Ok, Err, ap, refl, subst}
use Rattle.fact_base.specs.Contents.{Contents}
use Rattle.oim_write.specs.Bytes.{canonical}
use Rattle.oim_merge.specs.Run.{Stops, Writes}
use Rattle.command_line.specs.Endings.{Prints}
use Rattle.command_line.specs.Faults.{error_of}
use Rattle.command_line.specs.Page.{CommandEnds}
use Rattle.command_line.specs.Words.{merge, name_texts}
use Rattle.command_line.proofs.Ends.{of_error, failed_first}
use Rattle.command_line.proofs.Faults.{merge_ends, merge_stops}
use Rattle.command_line.specs.declared.error.Error.TheVariants.{OutOfMemory}
use Rattle.command_line.proofs.commands.run_merge.Goals as goal

pub returns-in_err-written-clause-ends : goal.returns-in_err-written-clause-ends
returns-in_err-written-clause-ends g c =
    let gives = g.F.Folder.gives c.args.inputs.now.files.now in
    let fails = g.F.Folder.fails c.args.inputs.now.files.now in
    let names = name_texts c.args.inputs.now.names.now in
    let sheet = c.args.sheet.now in
    let old = g.S.Sink.told c.args.out.now in
    let new = g.S.Sink.told c.write_within-written.new.out in
    let level = c.args.allow in
    let a = c.in_ok-consolidate.field-0 in
    let merged = c.in_ok-base.field-0 in
    let f = c.in_err-written.field-0.0 in
    let stops = subst (λ b. Stops level b merged.refusals old new f) (ap (λ (b : Contents). b.body) c.in_ok-base.ensures.base) c.in_err-written.ensures.err in
    of_error (Prints (CommandEnds gives fails names sheet (merge level)) old new) c.from_residual-in_err-written.result (error_of f) c.from_residual-in_err-written.ensures.1
    (merge_ends gives fails names sheet old new level a c.in_ok-consolidate.ensures.ok (Err (error_of f)) (merge_stops old new level a.body a.refusals f (subst (λ rs. Stops level a.body rs old new f) c.in_ok-base.ensures.refusals stops)))

pub returns-clause-ends : goal.returns-clause-ends
returns-clause-ends g c =
    let gives = g.F.Folder.gives c.args.inputs.now.files.now in
    let fails = g.F.Folder.fails c.args.inputs.now.files.now in
    let names = name_texts c.args.inputs.now.names.now in
    let old = g.S.Sink.told c.args.out.now in
    let new = g.S.Sink.told c.write_within-written.new.out in
    let level = c.args.allow in
    let a = c.in_ok-consolidate.field-0 in
    let merged = c.in_ok-base.field-0 in
    let returned = c.in_ok-written.field-0 in
    let writes = subst (λ b. Writes level b merged.refusals old new returned) (ap (λ (b : Contents). b.body) c.in_ok-base.ensures.base) c.in_ok-written.ensures.ok in
    let w = subst (λ rs. Writes level a.body rs old new returned) c.in_ok-base.ensures.refusals writes in
    merge_ends gives fails names c.args.sheet.now old new level a c.in_ok-consolidate.ensures.ok (Ok returned)
    (record { part = canonical a.body; ends = record { within = w.within; text_is = refl; refusals_are = w.refusals_are }; appended = w.appended })

pub returns-in_err-base-clause-ends : goal.returns-in_err-base-clause-ends
returns-in_err-base-clause-ends g c = failed_first c.from_residual-in_err-base.result OutOfMemory c.from_residual-in_err-base.ensures.1 tt
