use Rattle.oim_write.proofs.Shared.{◌≡◌, ℕ, List, ◌++◌, subst, flat_map, on_ok_weaker, QName, Member, defined_names, Gains}
use Rattle.oim_write.proofs.UriSets.{gains_both}
use Rattle.oim_write.proofs.uri_set.UriSet.add_others.Goals as goal

all_gained : {a b c d e : List (List ℕ)} {es us vs : List QName} {ms ls : List (QName × Member)} → Gains a es b → Gains b us c → ms ≡ ls → Gains c (flat_map defined_names ms) d → Gains d vs e → Gains a ((es ++ (us ++ flat_map defined_names ls)) ++ vs) e
all_gained {c = c} {d = d} first second same third fourth = gains_both (gains_both first (gains_both second (subst (λ ms. Gains c (flat_map defined_names ms) d) same third))) fourth

pub returns : goal.returns
returns c =
    on_ok_weaker c.add_values.result
    (λ values. all_gained c.in_ok-add_entity.ensures c.in_ok-add_unit.ensures c.members.ensures.members c.in_ok-add_members.ensures values)
    c.add_values.ensures
