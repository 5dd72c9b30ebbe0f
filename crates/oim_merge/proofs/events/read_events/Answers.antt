use Rattle.oim_merge.proofs.Shared.{◌<◌, ◌∷◌, [], length, sym, ◌∙◌, arith, length-append, nat_tests}
use Rattle.oim_merge.proofs.LinePieces.{fewer_left, has_read_bad, has_read_more}
use Rattle.oim_merge.proofs.events.read_events.Goals as goal

pub returns-in_default-clause-err : goal.returns-in_default-clause-err
returns-in_default-clause-err c =
    let some : 0 < length c.loop-rest.rest.now = (let e = sym c.is_empty.ensures ∙ c.loop-rest-test.true in grind (arith, nat_tests)) in
    let bad = rw c.cut_line.ensures.line at c.in_default.ensures in
    rw c.as_slice.ensures (has_read_bad c.args.bytes.now c.loop-rest.rest.now c.loop-rest.events some c.loop-rest.invariant.read bad)

pub loop-rest-preserved : goal.loop-rest-preserved
loop-rest-preserved c =
    let rest = c.loop-rest.rest.now in
    let some : 0 < length rest = (let e = sym c.is_empty.ensures ∙ c.loop-rest-test.true in grind (arith, nat_tests)) in
    let says = rw c.cut_line.ensures.line at c.in-Some.ensures in
    let fewer = fewer_left rest some in
    record {
      read = rw (c.in_ok-push.ensures.ok, c.cut_line.ensures.rest) (has_read_more c.args.bytes.now rest c.loop-rest.events c.in-Some.event some c.loop-rest.invariant.read says);
      count = rw (c.in_ok-push.ensures.ok, c.cut_line.ensures.rest) (let count = c.loop-rest.invariant.count in omega (arith, length-append c.loop-rest.events (c.in-Some.event ∷ [])));
    }
