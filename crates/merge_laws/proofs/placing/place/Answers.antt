use Rattle.std.proofs.Common.{arith}
use Rattle.merge_laws.proofs.Swaps.{all_moved, as_many, fewer_misplaced, index_within, next_within, none_moved, one_moved, stay_placed}
use Rattle.merge_laws.proofs.placing.place.Goals as goal

pub loop-i-init : goal.loop-i-init
loop-i-init g c = record {
  moved = none_moved c.args.first c.args.items.now.items c.args.order.items;
  indexed = λ k below. absurd (omega (arith, below));
}

pub overflow_add-first : goal.overflow_add-first
overflow_add-first g c =
    let l = c.loop-i in
    omega (arith, as_many c.requires.len c.requires.each_once l.invariant.moved, index_within c.requires.len c.requires.each_once l.invariant.moved l.i c.index-index.result.now (omega arith) c.index-index.ensures)

pub index-requires : goal.index-requires
index-requires g c =
    let l = c.loop-i in
    omega (arith, index_within c.requires.len c.requires.each_once l.invariant.moved l.i c.index-index.result.now (omega arith) c.index-index.ensures)

pub overflow_add-first-else-index-i : goal.overflow_add-first-else-index-i
overflow_add-first-else-index-i g c =
    let l = c.loop-i in
    omega (arith, as_many c.requires.len c.requires.each_once l.invariant.moved, next_within c.requires.len c.requires.each_once l.invariant.moved l.i c.index-index.result.now (omega arith) c.index-index.ensures c.index.result.now c.index.ensures)

pub swap-requires-clause-i_in_bounds : goal.swap-requires-clause-i_in_bounds
swap-requires-clause-i_in_bounds g c =
    let l = c.loop-i in
    omega (arith, as_many c.requires.len c.requires.each_once l.invariant.moved, index_within c.requires.len c.requires.each_once l.invariant.moved l.i c.index-index.result.now (omega arith) c.index-index.ensures)

pub swap-requires-clause-j_in_bounds : goal.swap-requires-clause-j_in_bounds
swap-requires-clause-j_in_bounds g c =
    let l = c.loop-i in
    omega (arith, as_many c.requires.len c.requires.each_once l.invariant.moved, next_within c.requires.len c.requires.each_once l.invariant.moved l.i c.index-index.result.now (omega arith) c.index-index.ensures c.index.result.now c.index.ensures)

pub swap-requires-else-index-i-clause-j_in_bounds : goal.swap-requires-else-index-i-clause-j_in_bounds
swap-requires-else-index-i-clause-j_in_bounds g c =
    let l = c.loop-i in
    omega (arith, index_within c.requires.len c.requires.each_once l.invariant.moved l.i c.index-index.result.now (omega arith) c.index-index.ensures)

pub loop-i-smaller : goal.loop-i-smaller
loop-i-smaller g c =
    let l = c.loop-i in
    let less = fewer_misplaced c.requires.len c.requires.each_once l.invariant.moved l.i c.index-index.result.now (omega arith) c.index-index.ensures c.swap-else-index-i.new.self.items c.if-index-i.false c.swap-else-index-i.ensures.items in
    omega (arith, less)

pub loop-i-preserved : goal.loop-i-preserved
loop-i-preserved g c =
    let l = c.loop-i in
    let indices = c.swap-else-index-i.new.self.items in
    record {
      moved = one_moved c.requires.len c.requires.each_once l.invariant.moved l.i c.index-index.result.now (omega arith) c.index-index.ensures c.index.result.now c.swap.new.self.items indices c.if-index-i.false c.index.ensures c.swap.ensures.items c.swap-else-index-i.ensures.items;
      indexed = stay_placed c.requires.len c.requires.each_once l.invariant.moved l.i c.index-index.result.now (omega arith) c.index-index.ensures indices c.if-index-i.false c.swap-else-index-i.ensures.items l.invariant.indexed;
    }

pub returns : goal.returns
returns g c = all_moved c.requires.len c.requires.each_once c.loop-i.invariant.moved (λ k within. c.loop-i.invariant.indexed k (omega (arith, within)))
