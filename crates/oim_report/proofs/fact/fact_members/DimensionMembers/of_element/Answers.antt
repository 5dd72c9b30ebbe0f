use Rattle.oim_report.proofs.Shared.{option_map, sym, ap, ◌∙◌, arith, depth, object, of_json}
use Rattle.oim_report.proofs.TapedFacts.{begun, one_member, all_read}
use Rattle.oim_report.proofs.fact.fact_members.DimensionMembers.of_element.Goals as goal

pub loop-key-init : goal.loop-key-init
loop-key-init c = λ vs here. begun 0 vs _ _ here (sym c.new-parts.ensures)

pub loop-key-preserved : goal.loop-key-preserved
loop-key-preserved c = λ vs here. one_member 0 vs _ _ _ _ (c.in-Some-next.key.now, c.in-Some-next.member) c.in-Some-next.ensures.value
    (λ v begins.
    let leaf = c.in_ok-of_element.ensures v begins in
    record { found = leaf.found; reads = leaf.reads; flat = leaf.flat; puts = λ ms rises is. c.in_ok-put.ensures leaf.found ms leaf.is rises is })
    (c.loop-key.invariant vs here)

pub returns : goal.returns
returns c = λ v begins.
    let m = c.in-Some.ensures v begins in
    let read = all_read 0 m.0 _ c.next.new.self _ c.in_default-next.ensures.value (c.loop-key.invariant m.0 m.2) in
    let low = read.flat in
    record { ms = read.ms; reads = ap of_json m.1 ∙ ap (option_map object) read.reads; are = read.is; flat = omega (arith, ap depth m.1, low) }
