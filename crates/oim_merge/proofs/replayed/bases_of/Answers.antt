use Rattle.oim_merge.proofs.Shared.{sym, ◌∙◌, arith, map-id}
use Rattle.std.proofs.lemmas.Iterator.Adapters.{YieldsList-from_vec}
use Rattle.std.proofs.lemmas.Iterator.Consumers.{YieldsList-end}
use Rattle.oim_merge.proofs.replayed.bases_of.Goals as goal

pub returns : goal.returns
returns c =
    let l = c.loop-builder in
    let end = YieldsList-end (YieldsList-from_vec {s = c.into_iter-builder-iterator.result} c.args.builders.items (cc) (omega arith)) l.yielded l.builder-iterator l.yielded_by c.next.result c.next.new.self c.in-None.is c.next.ensures.steps in
    l.invariant ∙ sym (map-id l.yielded) ∙ end.0
