use Rattle.oim_write.proofs.Shared.{subst, on_ok_weaker, unit_names, Gains}
use Rattle.oim_write.proofs.UriSets.{gains_both}
use Rattle.oim_write.proofs.uri_set.UriSet.add_unit.Goals as goal

pub returns-in_ok-add_measures-in-Some : goal.returns-in_ok-add_measures-in-Some
returns-in_ok-add_measures-in-Some c =
    let above = subst (λ ns. Gains c.args.self.now ns c.add_measures.new.self) c.numerators.ensures c.in_ok-add_measures-in-Some.ensures in
    on_ok_weaker c.add_measures-in-Some.result
    (λ gained.
    let below = subst (λ ns. Gains c.add_measures.new.self ns c.add_measures-in-Some.new.self) c.denominators.ensures gained in
    subst (λ unit. Gains c.args.self.now (unit_names unit) c.add_measures-in-Some.new.self) c.in-Some.ensures (gains_both above below))
    c.add_measures-in-Some.ensures
