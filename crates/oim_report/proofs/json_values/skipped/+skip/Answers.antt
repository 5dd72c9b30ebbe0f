use Rattle.oim_report.proofs.Shared.{OnOk, option_map, sym, ap, subst, arith, object, IsRead}
use Rattle.oim_report.proofs.TapedFacts.{begun, one_member, all_read, one_skipped, all_skipped, number_skipped, plain_skipped}
use Rattle.oim_report.proofs.json_values.skipped.+skip.Goals as goal

pub skip_value-returns-in-Some : goal.skip_value-returns-in-Some
skip_value-returns-in-Some t c = λ v begins. number_skipped v c.in-Some.digits.now c.args.levels c.skip_number.result (sym (c.in-Some.ensures v begins)) c.skip_number.ensures

pub skip_value-returns-in-Some-items : goal.skip_value-returns-in-Some-items
skip_value-returns-in-Some-items t c = λ v begins.
    let vs = c.in-Some-items.ensures v begins in
    subst (λ w. OnOk c.skip_items.result (IsRead c.args.levels w)) (sym vs.1) (c.skip_items.ensures vs.0 vs.2)

pub skip_value-returns-in-Some-members : goal.skip_value-returns-in-Some-members
skip_value-returns-in-Some-members t c = λ v begins.
    let vs = c.in-Some-members.ensures v begins in
    subst (λ w. OnOk c.skip_members.result (IsRead c.args.levels w)) (sym vs.1) (c.skip_members.ensures vs.0 vs.2)

pub skip_value-returns-in-None : goal.skip_value-returns-in-None
skip_value-returns-in-None t c = λ v begins. plain_skipped v c.args.levels (sym (c.in_default.ensures v begins)) (c.in_default-items.ensures v begins) (c.in-None.ensures v begins)

pub skip_items-loop-item-init : goal.skip_items-loop-item-init
skip_items-loop-item-init t c = λ vs here. record { left = vs; here = here; whole = λ h. h }

pub skip_items-loop-item-preserved : goal.skip_items-loop-item-preserved
skip_items-loop-item-preserved t c = λ vs here. one_skipped c.args.levels vs _ _ c.in-Some.item (omega arith) c.in-Some.ensures.value (λ v begins. c.in_ok-skip_value.ensures v begins) (c.loop-item.invariant vs here)

pub skip_items-returns : goal.skip_items-returns
skip_items-returns t c = λ vs here. all_skipped c.args.levels vs _ c.next.new.self (omega arith) c.in_default.ensures.value (c.loop-item.invariant vs here)

pub skip_members-loop-key-init : goal.skip_members-loop-key-init
skip_members-loop-key-init t c = λ vs here. begun _ vs _ _ here tt

pub skip_members-loop-key-preserved : goal.skip_members-loop-key-preserved
skip_members-loop-key-preserved t c = λ vs here. one_member _ vs _ _ _ _ (c.in-Some._key.now, c.in-Some.member) c.in-Some.ensures.value
    (λ v begins. let r = c.in_ok-skip_value.ensures v begins in record { found = r.found; reads = r.reads; flat = r.flat; puts = λ ms rises is. tt })
    (c.loop-key.invariant vs here)

pub skip_members-returns : goal.skip_members-returns
skip_members-returns t c = λ vs here.
    let read = all_read _ vs _ c.next.new.self _ c.in_default.ensures.value (c.loop-key.invariant vs here) in
    let low = read.flat in
    record { found = object read.ms; reads = ap (option_map object) read.reads; flat = omega (arith, low) }
