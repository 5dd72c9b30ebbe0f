use Rattle.oim_report.proofs.Shared.{ap, name_cmp, grouped_entries}
use Rattle.std.specs.FinMap as map
use Rattle.oim_report.proofs.Grouped.{no_groups}
use Rattle.oim_report.proofs.sheet.name_table.NameTable.new.Goals as goal

pub invariant_of-result : goal.invariant_of-result
invariant_of-result g c = no_groups c.new.result c.new.ensures.empty c.new.ensures.ordered

pub returns : goal.returns
returns g c = ap (λ es. map.from_entries {R = name_cmp} (grouped_entries es)) c.new.ensures.empty
