use Rattle.merge_laws.proofs.Shared.{sym, ap, ◌∙◌, with_value}
use Rattle.merge_laws.proofs.Values.{with_more, set_is_value}
use Rattle.merge_laws.proofs.sorted_map.set_values.Goals as goal

pub loop-index-preserved : goal.loop-index-preserved
loop-index-preserved g c = record {
  items = set_is_value c.loop-index.entries.items c.in-Some.index c.in-Some.value c.index_mut.result.now c.index_mut.ensures.value ∙ ap (with_value c.in-Some.index c.in-Some.value) c.loop-index.invariant.items ∙ sym (with_more c.args.entries.now.items c.loop-index.yielded (c.in-Some.index, c.in-Some.value));
  len = c.loop-index.invariant.len;
  storage = c.loop-index.invariant.storage;
}
