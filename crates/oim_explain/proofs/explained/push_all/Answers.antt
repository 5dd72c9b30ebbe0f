use Rattle.std.proofs.Common.{[], ◌∷◌, ◌++◌, replicate, ap, refl, subst, sym, ◌∙◌}
use Rattle.std.proofs.lemmas.Result.{on_ok_weaker}
use Rattle.serde_json.specs.View.{view}
use Rattle.oim_report.proofs.FaultLaws.{accepted_where_free, no_faults}
use Rattle.oim_explain.specs.Explained.{printed_faults}
use Rattle.oim_explain.specs.Lines.{repeated_member}
use Rattle.oim_explain.specs.code.Added.{AddsLines, of_subject}
use Rattle.oim_explain.specs.declared.subject.Subject.TheVariants as subject
use Rattle.oim_explain.proofs.Appended.{found_then_repeated, repeated_in}
use Rattle.oim_explain.proofs.Explaining.{printed_accepted, printed_read, printed_unread}
use Rattle.oim_explain.proofs.explained.push_all.Goals as goal

pub returns-then-branch : goal.returns-then-branch
returns-then-branch c =
    let sheet = c.args.names.now.sheet.now in
    let bytes = c.args.bytes.now in
    let accepted = c.in_ok-is_accepted_in_pieces.ensures c.if-branch.true in
    let none = printed_accepted sheet bytes ((no_faults sheet bytes).1 (accepted.0, (accepted_where_free sheet bytes accepted.0).0 accepted.1)) in
    on_ok_weaker c.push_repeated.result
    (λ some. (some.0, subst (λ found. AddsLines c.args.lines.now c.push_repeated.new.lines (found ++ replicate some.0 repeated_member)) (sym none) some.1, some.2))
    (repeated_in c.push_repeated.result bytes c.args.lines.now c.push_repeated.new.lines c.push_repeated.ensures.adds c.push_repeated.ensures.unique)

pub returns-in_ok-push_faults-in-Ok : goal.returns-in_ok-push_faults-in-Ok
returns-in_ok-push_faults-in-Ok c =
    let old = c.args.lines.now in
    let mid = c.push_faults.new.lines in
    let new = c.push_repeated-in-Ok.new.lines in
    let sheet = c.args.names.now.sheet.now in
    let bytes = c.args.bytes.now in
    let first = subst (AddsLines old mid) (sym (printed_read sheet bytes (view c.in-Ok.tree) c.in-Ok.ensures.ok)) c.in_ok-push_faults-in-Ok.ensures in
    on_ok_weaker c.push_repeated-in-Ok.result (λ some. found_then_repeated bytes old mid new (printed_faults sheet bytes) first some)
    (repeated_in c.push_repeated-in-Ok.result bytes mid new c.push_repeated-in-Ok.ensures.adds c.push_repeated-in-Ok.ensures.unique)

pub returns-in_ok-message-in-Err : goal.returns-in_ok-message-in-Err
returns-in_ok-message-in-Err c =
    let found = c.unread.result in
    let is = ap (of_subject found.reason) c.unread.ensures.subject ∙ ap (λ reason. of_subject reason subject.Report) c.unread.ensures.reason in
    let alone = printed_unread c.args.names.now.sheet.now c.args.bytes.now (c.in-Err.ensures.err c.in_ok-message-in-Err.ensures) ∙ ap (λ p. p ∷ []) (sym is) in
    on_ok_weaker c.push.result (λ adds. (0, subst (AddsLines c.args.lines.now c.push.new.self) (sym (ap (λ ps. ps ++ []) alone)) adds, λ unique. refl)) c.push.ensures
