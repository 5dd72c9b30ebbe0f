use Rattle.oim_report.proofs.Ranks.{no_spans, none_rise}
use Rattle.oim_report.proofs.sheet.ranked_names.RankedNames.new.Goals as goal

pub invariant_of-result : goal.invariant_of-result
invariant_of-result g c = (none_rise c.new.result.items c.new.ensures.items, no_spans c.new.result.items c.new-2.result c.new.ensures.items c.new-2.ensures.empty)
