use Rattle.oim_report.proofs.Shared.{Some, ap, cond, string_bytes, ◌∙◌, bytes_eq, option_map, get_by_text}
use Rattle.std.specs.FinMap as map
use Rattle.oim_report.proofs.Grouped.{are_still, are_with, get_updated, name}
use Rattle.oim_report.proofs.sheet.name_table.NameTable.set.Goals as goal

pub invariant_of-self : goal.invariant_of-self
invariant_of-self g c = are_still c.self.inside.groups c.insert.new.self c.self.invariant c.in_err-insert.ensures.err c.insert.ensures.ordered

pub invariant_of-self-2 : goal.invariant_of-self-2
invariant_of-self-2 g c = are_with c.self.inside.groups c.insert.new.self c.args.uri c.args.group c.self.invariant c.requires c.in_ok-insert.ensures.entries c.insert.ensures.ordered

pub returns-clause-ok : goal.returns-clause-ok
returns-clause-ok g c u l =
    let t = string_bytes c.args.uri in
    let gs = c.self.inside.groups in
    let after = are_with gs c.insert.new.self c.args.uri c.args.group c.self.invariant c.requires c.in_ok-insert.ensures.entries c.insert.ensures.ordered in
    get_updated gs c.insert.new.self t u l (Some c.args.group) c.self.invariant after c.in_ok-insert.ensures.updates
    ∙ ap (λ m. cond (bytes_eq t u) (option_map (λ e. e.1) (get_by_text c.args.group l)) (map.get m (name u l))) c.self.view_is
