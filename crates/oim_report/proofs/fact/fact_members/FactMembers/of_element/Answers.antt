use Rattle.oim_report.proofs.Shared.{Some, option_map, sym, ap, ◌∙◌, arith, depth, object, of_json}
use Rattle.oim_report.proofs.TapedFacts.{begun, one_member, all_read}
use Rattle.oim_report.proofs.fact.fact_members.FactMembers.of_element.Goals as goal

pub loop-key-init : goal.loop-key-init
loop-key-init c = λ vs here. begun 124 vs _ _ here (record { are = sym c.new-parts.ensures.are; shaped = c.new-parts.ensures.shaped; unlinked = c.new-parts.ensures.unlinked })

pub loop-key-preserved : goal.loop-key-preserved
loop-key-preserved c = λ vs here. one_member 124 vs _ _ _ _ (c.in-Some-next.key.now, c.in-Some-next.member) c.in-Some-next.ensures.value
    (λ v begins. let p = c.in_ok-put.ensures v begins in record { found = p.found; reads = p.reads; flat = p.flat; puts = p.puts })
    (c.loop-key.invariant vs here)

pub returns : goal.returns
returns c = λ v begins.
    let m = c.in-Some.ensures v begins in
    let read = all_read 124 m.0 _ c.next.new.self _ c.in_default-next.ensures.value (c.loop-key.invariant m.0 m.2) in
    let low = read.flat in
    record { found = object read.ms; reads = ap of_json m.1 ∙ ap (option_map object) read.reads; are = ap (λ p. Some p) read.is.are; flat = omega (arith, ap depth m.1, low) }
