use Rattle.oim_report.proofs.Shared.{◌≡◌, false, option_map, sym, ap, subst, ◌∙◌, None, eqb-true, Members, members_view, members, names_refusal}
use Rattle.std.specs.FinMap as map
use Rattle.oim_report.specs.Sheet.{has_bad_kind, key_names, listed}
use Rattle.oim_report.proofs.SheetCounts.{all_good}
use Rattle.oim_report.proofs.sheet.name_table.has_each.Goals as goal

pub returns-in-Some : goal.returns-in-Some
returns-in-Some g c = λ bs is all.
    let kinds = g.K.Kind.kind_named in
    let same = g.K.Kind.same_kind in
    let entries = c.in-Some.members.now.entries in
    let start : members (option_map (λ m. members_view m.now.entries) c.args.object) ≡ members_view entries = ap (λ o. members (option_map (λ m. members_view m.now.entries) o)) c.in-Some.is in
    subst (λ (ms : Members). (names_refusal bs (key_names ms) ≡ None) × (has_bad_kind kinds same bs ms ≡ false)) (sym start)
    (all_good kinds same bs g.met.K.Kind.itself entries (ap map.len (sym (is ∙ ap (listed kinds same bs) start)) ∙ sym c.len.ensures ∙ eqb-true c.len.result c.len-in-Some.result all ∙ c.len-in-Some.ensures.len))
