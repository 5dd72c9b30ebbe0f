use Rattle.oim_report.proofs.Shared.{None, cond, sym, subst, ap, ◌∙◌, IfSome, bytes_eq, option_map, get_by_text, IsGroup}
use Rattle.std.specs.FinMap as map
use Rattle.oim_report.proofs.Grouped.{are_without, get_grouped, get_updated, in_group, is_group, name, or_empty_kinds, or_empty_named}
use Rattle.oim_report.proofs.sheet.name_table.NameTable.take.Goals as goal

pub invariant_of-self : goal.invariant_of-self
invariant_of-self g c = are_without c.self.inside.groups c.remove.new.self _ c.self.invariant c.remove.ensures.entries c.remove.ensures.ordered

pub returns-clause-names : goal.returns-clause-names
returns-clause-names g c =
    let u = c.args.uri.now in
    subst (IsGroup u) (sym c.unwrap_or.ensures) (or_empty_named c.remove.result c.new.result u c.new.ensures.empty (subst (λ r. IfSome r (IsGroup u)) (sym c.remove.ensures.value) (is_group c.self.inside.groups c.self.invariant u)))

pub returns-clause-kinds : goal.returns-clause-kinds
returns-clause-kinds g c l =
    let u = c.args.uri.now in
    ap (λ n. option_map (λ e. e.1) (get_by_text n l)) c.unwrap_or.ensures
    ∙ or_empty_kinds c.remove.result c.new.result l c.new.ensures.empty
    ∙ ap (λ r. option_map (λ e. e.1) (in_group r l)) c.remove.ensures.value
    ∙ sym (get_grouped c.self.inside.groups c.self.invariant u l)
    ∙ ap (λ m. map.get m (name u l)) c.self.view_is

pub returns-clause-others : goal.returns-clause-others
returns-clause-others g c u l =
    let t = c.args.uri.now in
    let gs = c.self.inside.groups in
    let after = are_without gs c.remove.new.self _ c.self.invariant c.remove.ensures.entries c.remove.ensures.ordered in
    get_updated gs c.remove.new.self t u l None c.self.invariant after c.remove.ensures.updates ∙ ap (λ m. cond (bytes_eq t u) None (map.get m (name u l))) c.self.view_is
