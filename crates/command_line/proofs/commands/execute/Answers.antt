use Rattle.std.proofs.Common.{None, Ok, Err, inr, subst, sym}
use Rattle.command_line.specs.Endings.{Prints}
use Rattle.command_line.specs.Faults.{error_of}
use Rattle.command_line.specs.Page.{CommandEnds, EndsWith, Says, Under}
use Rattle.command_line.specs.Words.{name_texts, task_of, under, work_of}
use Rattle.command_line.specs.declared.error.Success.TheVariants.{Refusals}
use Rattle.command_line.proofs.Requests.{bundle_prints, bundle_stops, failed, help_stops, sheet_stops, task_stops}
use Rattle.command_line.proofs.commands.execute.Goals as goal

pub returns-in_err-consolidate_bundle-in-Bundle-clause-ends : goal.returns-in_err-consolidate_bundle-in-Bundle-clause-ends
returns-in_err-consolidate_bundle-in-Bundle-clause-ends g c =
    let inputs = c.args.inputs.now in
    let gives = g.F.Folder.gives inputs.files.now in
    let fails = g.F.Folder.fails inputs.files.now in
    let names = name_texts inputs.names.now in
    let f = c.in_err-consolidate_bundle-in-Bundle.field-0.0 in
    failed gives fails inputs.bundle.now names c.in-Bundle.is c.from_residual.result (error_of f) c.from_residual.ensures.1
    (bundle_stops gives fails inputs.bundle.now names _ _ f c.in_err-consolidate_bundle-in-Bundle.ensures.err)

pub returns-in_ok-consolidate_bundle-in-Bundle-clause-ends : goal.returns-in_ok-consolidate_bundle-in-Bundle-clause-ends
returns-in_ok-consolidate_bundle-in-Bundle-clause-ends g c =
    let inputs = c.args.inputs.now in
    let gives = g.F.Folder.gives inputs.files.now in
    let fails = g.F.Folder.fails inputs.files.now in
    let names = name_texts inputs.names.now in
    let old = g.S.Sink.told c.args.out.now.sink in
    let new = g.S.Sink.told c.consolidate_bundle.new.out.sink in
    let returned = c.in_ok-consolidate_bundle-in-Bundle.field-0 in
    subst (λ request. Prints (EndsWith gives fails inputs.bundle.now names None (task_of request)) old new (Ok (Refusals returned))) (sym c.in-Bundle.is)
    (bundle_prints gives fails inputs.bundle.now names old new returned c.in_ok-consolidate_bundle-in-Bundle.ensures.ok)

pub returns-in_err-put_help-in-Help-clause-ends : goal.returns-in_err-put_help-in-Help-clause-ends
returns-in_err-put_help-in-Help-clause-ends g c =
    let inputs = c.args.inputs.now in
    let gives = g.F.Folder.gives inputs.files.now in
    let fails = g.F.Folder.fails inputs.files.now in
    let names = name_texts inputs.names.now in
    let e = c.in_err-put_help-in-Help.field-0.0 in
    failed gives fails inputs.bundle.now names c.in-Help.is c.from_residual-in_err-put_help-in-Help.result e c.from_residual-in_err-put_help-in-Help.ensures.1
    (help_stops gives fails inputs.bundle.now names _ _ e c.in_err-put_help-in-Help.ensures)

pub returns-in_ok-put_help-in-Help-clause-ends : goal.returns-in_ok-put_help-in-Help-clause-ends
returns-in_ok-put_help-in-Help-clause-ends g c =
    let inputs = c.args.inputs.now in
    let gives = g.F.Folder.gives inputs.files.now in
    let fails = g.F.Folder.fails inputs.files.now in
    let names = name_texts inputs.names.now in
    let old = g.S.Sink.told c.args.out.now.sink in
    let new = g.S.Sink.told c.put_help.new.out.sink in
    let p = c.in_ok-put_help-in-Help.ensures in
    subst (λ request. Prints (EndsWith gives fails inputs.bundle.now names None (task_of request)) old new (Ok (Refusals c.in_ok-put_help-in-Help.field-0))) (sym c.in-Help.is)
    (record { part = p.part; ends = p.ends; appended = p.appended })

pub returns-in_err-sheet-in-Under-clause-ends : goal.returns-in_err-sheet-in-Under-clause-ends
returns-in_err-sheet-in-Under-clause-ends g c =
    let inputs = c.args.inputs.now in
    let e = c.in_err-sheet-in-Under.field-0.0 in
    failed (g.F.Folder.gives inputs.files.now) (g.F.Folder.fails inputs.files.now) inputs.bundle.now (name_texts inputs.names.now) c.in-Under.is c.from_residual-in_err-sheet-in-Under.result e c.from_residual-in_err-sheet-in-Under.ensures.1
    (sheet_stops (g.F.Folder.gives inputs.files.now) (g.F.Folder.fails inputs.files.now) inputs.bundle.now (name_texts inputs.names.now) c.in-Under.sheet.now (work_of c.in-Under.subcommand) _ e c.in_err-sheet-in-Under.ensures.why)

pub returns-in_err-execute_under-in-Under-clause-ends : goal.returns-in_err-execute_under-in-Under-clause-ends
returns-in_err-execute_under-in-Under-clause-ends g c =
    let inputs = c.args.inputs.now in
    let gives = g.F.Folder.gives inputs.files.now in
    let fails = g.F.Folder.fails inputs.files.now in
    let names = name_texts inputs.names.now in
    let old = g.S.Sink.told c.args.out.now.sink in
    let new = g.S.Sink.told c.execute_under.new.out.sink in
    let (bytes, gave, read) = c.in_ok-sheet-in-Under.ensures.ok in
    let sheet = c.in_ok-sheet-in-Under.sheet in
    let work = work_of c.in-Under.subcommand in
    let later = c.read_sheet.new.self in
    let e = c.in_err-execute_under-in-Under.field-0.0 in
    let stops = subst (λ files. Prints (CommandEnds (g.F.Folder.gives files.now) (g.F.Folder.fails files.now) names sheet work) old new (Err e)) c.read_sheet.ensures.files
    (subst (λ ns. Prints (CommandEnds (g.F.Folder.gives later.files.now) (g.F.Folder.fails later.files.now) (name_texts ns.now) sheet work) old new (Err e)) c.read_sheet.ensures.names c.in_err-execute_under-in-Under.ensures.ends) in
    failed gives fails inputs.bundle.now names c.in-Under.is c.from_residual-in_err-execute_under-in-Under.result e c.from_residual-in_err-execute_under-in-Under.ensures.1
    (task_stops gives fails inputs.bundle.now names (under c.in-Under.sheet.now work) (Says gives names sheet work) (Under gives fails names sheet work) Refusals
    (λ text returned has. (bytes, gave, sheet, read, has)) e (λ why. inr (inr (bytes, gave, sheet, read, why))) old new stops)

pub returns-in_ok-execute_under-in-Under-clause-ends : goal.returns-in_ok-execute_under-in-Under-clause-ends
returns-in_ok-execute_under-in-Under-clause-ends g c =
    let inputs = c.args.inputs.now in
    let gives = g.F.Folder.gives inputs.files.now in
    let fails = g.F.Folder.fails inputs.files.now in
    let names = name_texts inputs.names.now in
    let old = g.S.Sink.told c.args.out.now.sink in
    let new = g.S.Sink.told c.execute_under.new.out.sink in
    let (bytes, gave, read) = c.in_ok-sheet-in-Under.ensures.ok in
    let sheet = c.in_ok-sheet-in-Under.sheet in
    let work = work_of c.in-Under.subcommand in
    let later = c.read_sheet.new.self in
    let returned = c.in_ok-execute_under-in-Under.field-0 in
    let p = subst (λ files. Prints (CommandEnds (g.F.Folder.gives files.now) (g.F.Folder.fails files.now) names sheet work) old new (Ok returned)) c.read_sheet.ensures.files
    (subst (λ ns. Prints (CommandEnds (g.F.Folder.gives later.files.now) (g.F.Folder.fails later.files.now) (name_texts ns.now) sheet work) old new (Ok returned)) c.read_sheet.ensures.names c.in_ok-execute_under-in-Under.ensures.ends) in
    subst (λ request. Prints (EndsWith gives fails inputs.bundle.now names None (task_of request)) old new (Ok (Refusals returned))) (sym c.in-Under.is)
    (record { part = p.part; ends = (bytes, gave, sheet, read, p.ends); appended = p.appended })
