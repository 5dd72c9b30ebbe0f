use Rattle.oim_report.proofs.Shared.{◌+◌, ◌-◌, ◌/◌, ◌<◌, ◌≤◌, length, sym, ap, ◌∙◌, arith, nat_cmp, slice_cmp, QName, name_cmp}
use Rattle.std.specs.FinMap as map
use Rattle.oim_report.proofs.Ranks.{entries_read, entry_at, find_at, go_down, go_up, keys_rise, named, rank_of, search_all, search_none}
use Rattle.oim_report.proofs.sheet.ranked_names.RankedNames.find_in.Goals as goal

pub loop-low-init : goal.loop-low-init
loop-low-init g c = search_all (map.entries c.args.self.now) (record { uri = c.args._uri.now; local_part = c.args.local.now }) c.args.span c.requires

pub loop-low-preserved-in-Less : goal.loop-low-preserved-in-Less
loop-low-preserved-in-Less g c =
    let l = c.loop-low in
    let m = c.args.self.now in
    let q : QName = record { uri = c.args._uri.now; local_part = c.args.local.now } in
    let middle = l.low + (l.high - l.low) / 2 in
    let low : l.low ≤ middle = omega arith in
    let high : middle < l.high = omega (arith, c.loop-low-test.true) in
    let all = entries_read m c.self.inside.names.items _ c.self.invariant.0 c.self.view_is c.as_slice-names.ensures.value in
    let there = entry_at m _ all middle c.index-names-middle.result (omega (arith, high, l.invariant.upto, c.requires.bound)) c.index-names-middle.is in
    go_up (map.entries m) q c.args.span c.requires l.low l.high middle c.index-names-middle.result l.invariant there low high (keys_rise m) (ap (λ v. slice_cmp nat_cmp v q.local_part) (sym c.local.ensures) ∙ sym c.in-Less.ensures)

pub loop-low-preserved : goal.loop-low-preserved
loop-low-preserved g c =
    let l = c.loop-low in
    let m = c.args.self.now in
    let q : QName = record { uri = c.args._uri.now; local_part = c.args.local.now } in
    let middle = l.low + (l.high - l.low) / 2 in
    let low : l.low ≤ middle = omega arith in
    let high : middle < l.high = omega (arith, c.loop-low-test.true) in
    let all = entries_read m c.self.inside.names.items _ c.self.invariant.0 c.self.view_is c.as_slice-names.ensures.value in
    let there = entry_at m _ all middle c.index-names-middle.result (omega (arith, high, l.invariant.upto, c.requires.bound)) c.index-names-middle.is in
    go_down (map.entries m) q c.args.span c.requires l.low l.high middle c.index-names-middle.result l.invariant there low high (keys_rise m) (ap (λ v. slice_cmp nat_cmp v q.local_part) (sym c.local.ensures) ∙ sym c.in-Greater.ensures)

pub returns-in-Equal : goal.returns-in-Equal
returns-in-Equal g c =
    let l = c.loop-low in
    let m = c.args.self.now in
    let q : QName = record { uri = c.args._uri.now; local_part = c.args.local.now } in
    let middle = l.low + (l.high - l.low) / 2 in
    let low : l.low ≤ middle = omega arith in
    let high : middle < l.high = omega (arith, c.loop-low-test.true) in
    let all = entries_read m c.self.inside.names.items _ c.self.invariant.0 c.self.view_is c.as_slice-names.ensures.value in
    let there = entry_at m _ all middle c.index-names-middle.result (omega (arith, high, l.invariant.upto, c.requires.bound)) c.index-names-middle.is in
    let name = named (map.entries m) q c.args.span c.requires l.low l.high middle c.index-names-middle.result l.invariant there low high (ap (λ v. slice_cmp nat_cmp v q.local_part) (sym c.local.ensures) ∙ sym c.in-Equal.ensures) in
    record {
      kind = sym (map.get-entries m q ∙ ap (λ n. map.find name_cmp n (map.entries m)) (sym name) ∙ find_at (map.entries m) middle c.index-names-middle.result (keys_rise m) there);
      name = name;
      rank = rank_of m middle c.index-names-middle.result there;
    }

pub returns : goal.returns
returns g c =
    let l = c.loop-low in
    let m = c.args.self.now in
    let q : QName = record { uri = c.args._uri.now; local_part = c.args.local.now } in
    record {
      kind = sym (map.get-entries m q ∙ search_none (map.entries m) q c.args.span l.low l.high l.invariant (omega (arith, c.loop-low-test.false)));
      name = tt;
      rank = tt;
    }

pub offset_bounds-names-middle : goal.offset_bounds-names-middle
offset_bounds-names-middle g c =
    let l = c.loop-low in
    let long = ap length (entries_read c.args.self.now c.self.inside.names.items _ c.self.invariant.0 c.self.view_is c.as_slice-names.ensures.value) in
    omega (arith, c.loop-low-test.true, l.invariant.upto, c.requires.bound, long)

pub bounds-names-middle : goal.bounds-names-middle
bounds-names-middle g c =
    let l = c.loop-low in
    let long = ap length (entries_read c.args.self.now c.self.inside.names.items _ c.self.invariant.0 c.self.view_is c.as_slice-names.ensures.value) in
    omega (arith, c.loop-low-test.true, l.invariant.upto, c.requires.bound, long)
