use Rattle.std.proofs.Common.{inl, inr, subst}
use Rattle.std.specs.List.{AllZip}
use Rattle.oim_merge.specs.EventLines.{ReadingEventsStops, SaysEvents}
use Rattle.oim_merge.specs.Replay.{IsReplayOf, ReplayStops}
use Rattle.command_line.specs.Faults.{IsOutputError, error_of_events}
use Rattle.command_line.specs.Outputs.{PrintsReplay}
use Rattle.command_line.specs.Page.{Says, Under}
use Rattle.command_line.specs.Why.{IsFirstLost, IsUnread}
use Rattle.command_line.specs.Words.{name_texts, replay}
use Rattle.command_line.proofs.Ends.{failed_first, puts_more}
use Rattle.command_line.proofs.Why.{events_under, lines_under, output_under, unread_under}
use Rattle.command_line.proofs.commands.replay.run.Goals as goal

pub returns-in_err-lines-clause-ends : goal.returns-in_err-lines-clause-ends
returns-in_err-lines-clause-ends g c =
    let inputs = c.args.inputs.now in
    let e = c.in_err-lines.field-0.0 in
    failed_first c.from_residual.result e c.from_residual.ensures.1
    (unread_under (g.F.Folder.gives inputs.files.now) (g.F.Folder.fails inputs.files.now) (name_texts inputs.names.now) c.args.sheet.now (replay c.args.replicas c.args.schedule.now) (λ file lost. inl lost) e c.in_err-lines.ensures.why)

pub returns-in_err-reports-clause-ends : goal.returns-in_err-reports-clause-ends
returns-in_err-reports-clause-ends g c =
    let inputs = c.args.inputs.now in
    let gives = g.F.Folder.gives inputs.files.now in
    let fails = g.F.Folder.fails inputs.files.now in
    let later = c.read.new.self in
    let e = c.in_err-reports.field-0.0 in
    let says = subst (λ bytes. SaysEvents bytes c.in_ok-events.events) c.as_bytes.ensures c.in_ok-events.ensures.ok in
    let of_files = subst (λ files. IsUnread (IsFirstLost (g.F.Folder.gives files.now) (g.F.Folder.fails files.now) (name_texts later.names.now)) e) c.read.ensures.files c.in_err-reports.ensures.why in
    let why = subst (λ ns. IsUnread (IsFirstLost gives fails (name_texts ns.now)) e) c.read.ensures.names of_files in
    failed_first c.from_residual-in_err-reports.result e c.from_residual-in_err-reports.ensures.1
    (unread_under gives fails (name_texts inputs.names.now) c.args.sheet.now (replay c.args.replicas c.args.schedule.now)
    (λ file lost. inr (c.in_ok-lines.lines, c.in_ok-lines.ensures.ok, c.in_ok-events.events, says, lost)) e why)

pub returns-in_err-events-clause-ends : goal.returns-in_err-events-clause-ends
returns-in_err-events-clause-ends g c =
    let inputs = c.args.inputs.now in
    let f = c.in_err-events.field-0.0 in
    failed_first c.from_residual-in_err-events.result (error_of_events f) c.from_residual-in_err-events.ensures.1
    (lines_under (g.F.Folder.gives inputs.files.now) (g.F.Folder.fails inputs.files.now) (name_texts inputs.names.now) c.args.sheet.now c.args.replicas c.args.schedule.now c.in_ok-lines.lines c.in_ok-lines.ensures.ok
    f (subst (λ bytes. ReadingEventsStops bytes f) c.as_bytes.ensures c.in_err-events.ensures.err))

pub returns-in_err-replayed-clause-ends : goal.returns-in_err-replayed-clause-ends
returns-in_err-replayed-clause-ends g c =
    let inputs = c.args.inputs.now in
    let gives = g.F.Folder.gives inputs.files.now in
    let fails = g.F.Folder.fails inputs.files.now in
    let names = name_texts inputs.names.now in
    let later = c.read.new.self in
    let n = c.args.replicas in
    let events = c.in_ok-events.events in
    let reports = c.in_ok-reports.reports.items in
    let f = c.in_err-replayed.field-0.0 in
    let says = subst (λ bytes. SaysEvents bytes events) c.as_bytes.ensures c.in_ok-events.ensures.ok in
    let of_files = subst (λ files. AllZip (g.F.Folder.gives files.now) (name_texts later.names.now) reports) c.read.ensures.files c.in_ok-reports.ensures.ok in
    let read = subst (λ ns. AllZip gives (name_texts ns.now) reports) c.read.ensures.names of_files in
    failed_first c.from_residual-in_err-replayed.result (error_of_events f) c.from_residual-in_err-replayed.ensures.1
    (events_under gives fails names c.args.sheet.now n c.args.schedule.now c.in_ok-lines.lines c.in_ok-lines.ensures.ok events says reports read f
    (subst (λ rs. ReplayStops n rs events f) c.as_slice.ensures.value c.in_err-replayed.ensures.err))

pub returns-clause-ends : goal.returns-clause-ends
returns-clause-ends g c =
    let inputs = c.args.inputs.now in
    let gives = g.F.Folder.gives inputs.files.now in
    let fails = g.F.Folder.fails inputs.files.now in
    let names = name_texts inputs.names.now in
    let later = c.read.new.self in
    let sheet = c.args.sheet.now in
    let work = replay c.args.replicas c.args.schedule.now in
    let events = c.in_ok-events.events in
    let reports = c.in_ok-reports.reports.items in
    let replayed = c.in_ok-replayed.replayed in
    let says = subst (λ bytes. SaysEvents bytes events) c.as_bytes.ensures c.in_ok-events.ensures.ok in
    let of_files = subst (λ files. AllZip (g.F.Folder.gives files.now) (name_texts later.names.now) reports) c.read.ensures.files c.in_ok-reports.ensures.ok in
    let read = subst (λ ns. AllZip gives (name_texts ns.now) reports) c.read.ensures.names of_files in
    let is = subst (λ rs. IsReplayOf sheet c.args.replicas rs events replayed) c.as_slice.ensures.value c.in_ok-replayed.ensures.ok in
    puts_more (PrintsReplay replayed) (Says gives names sheet work) IsOutputError (Under gives fails names sheet work)
    (λ text returned printed. (c.in_ok-lines.lines, c.in_ok-lines.ensures.ok, (reports, read, record { events = events; says = says; replay = replayed; is = is; printed = printed })))
    (output_under gives fails names sheet work) _ _ c.put_replayed.result c.put_replayed.ensures
