use Rattle.oim_report.proofs.Shared.{sym, ap, ◌∙◌, option_map, string_bytes, find, refuses, view, members_view, names_at, names_in}
use Rattle.oim_report.specs.Shown.{name, seen}
use Rattle.oim_report.proofs.ShownFaults.{found_before}
use Rattle.oim_report.proofs.fact.fact_part.FactInScope.refused_dimension.Goals as goal

pub returns-in-Some-refused_member : goal.returns-in-Some-refused_member
returns-in-Some-refused_member c =
    let sheet = c.args.self.now.sheet.now in
    let bs = c.args.self.now.aliases.now in
    let test = refuses c.args.reason bs in
    let d = view c.in-Some.value.now in
    found_before sheet bs test (string_bytes c.in-Some.key.now) d (members_view c.next.new.self) _ (ap (option_map seen) (sym c.in-Some-refused_member.is) ∙ c.refused_member.ensures ∙ ap (λ k. option_map name (find test (names_at sheet bs (k, d)))) c.as_str.ensures.value)
    ∙ ap (λ es. option_map name (find test (names_in sheet bs (members_view es)))) (sym c.in-Some.ensures.steps)
    ∙ ap (option_map name) c.loop-key.invariant
