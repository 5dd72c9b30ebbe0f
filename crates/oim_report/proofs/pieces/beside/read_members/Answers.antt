use Rattle.serde_json.specs.View.{members_view}
use Rattle.oim_report.proofs.BesideFacts.{one_added}
use Rattle.oim_report.proofs.PiecesInTurn.{has_put}
use Rattle.oim_report.proofs.TapedFacts.{begun, one_member, all_read}
use Rattle.oim_report.proofs.pieces.beside.read_members.Goals as goal

pub loop-key-init : goal.loop-key-init
loop-key-init c = λ vs here. begun 125 vs _ _ here ((λ all own h. h), λ e. Prim.cc)

pub loop-key-preserved : goal.loop-key-preserved
loop-key-preserved c = λ vs here.
    let key = c.in-Some.key.now in
    let old = members_view c.args.tree.now.entries in
    let now = members_view c.loop-key.tree.entries in
    let new = members_view c.read_member.new.tree.entries in
    one_member 125 vs _ _ _ _ (key, c.in-Some.member) c.in-Some.ensures.value
    (λ v begins.
    let r = c.in_ok-read_member.ensures v begins in
    record { found = r.found; reads = r.reads; flat = r.flat; puts = λ ms rises is. (one_added key r.found ms old now new rises r.adds is.0, λ e. has_put key r.found ms) })
    (c.loop-key.invariant vs here)

pub returns-else-is_empty : goal.returns-else-is_empty
returns-else-is_empty c = λ vs here.
    let read = all_read 125 vs _ c.next.new.self _ c.in_default.ensures.value (c.loop-key.invariant vs here) in
    record { ms = read.ms; reads = read.reads; some = read.is.1 c.if-is_empty.false; adds = read.is.0; flat = read.flat }
