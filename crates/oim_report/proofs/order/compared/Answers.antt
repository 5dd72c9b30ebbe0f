use Rattle.oim_report.proofs.Shared.{rules, ◌≡◌, ℕ, ◌<◌, ◌≤◌, List, Bor, Option, Some, MatchOption, HoldsAt, IfSome, length, slice_get, option_map, sym, ap, subst, ◌∙◌, Ordering, Less, Equal, Greater, is_gt, is_lt, nat_cmp, false≢true, option_cmp, facts_agree, Fact, fact_cmp, values_agree, exact_name, name_cmp, index_cmp, derived_value}
use Rattle.oim_dims.specs.contracts.fact.FactOrd.TheImpl.{cmp-value as derived}
use Rattle.oim_report.proofs.DimensionRuns.{by_rank, by_value, answers, looked_up}
use Rattle.oim_report.proofs.order.compared.Goals as goal
use Rattle.oim_report.proofs.order.compared.Goals.{In-Some-Some}

agree : (o p : Option Fact) → option_cmp derived.it o p ≡ option_cmp fact_cmp o p
agree o p = λ i. option_cmp (λ x y. facts_agree x y i) o p

seen_at : (facts : List Fact) (i : ℕ) (r : Option (Bor Fact)) (f : Bor Fact) → MatchOption r (length facts ≤ i) (λ x. (i < length facts) × HoldsAt (λ y. x.now ≡ y) facts i) → r ≡ Some f → slice_get facts i ≡ Some f.now
seen_at facts i r f found is = sym (looked_up facts i r found) ∙ ap (option_map (λ (x : Bor Fact). x.now)) is

module _ (c : In-Some-Some) where
  abbrev f : Fact
  f = c.in-Some-Some.one.now

  abbrev g : Fact
  g = c.in-Some-Some.other.now

  first : slice_get c.args.facts.now c.args.i ≡ Some f
  first = seen_at c.args.facts.now c.args.i c.get.result c.in-Some-Some.one c.get.ensures.lookup.3 c.in-Some-Some.is-0

  second : slice_get c.args.facts.now c.args.j ≡ Some g
  second = seen_at c.args.facts.now c.args.j c.get-2.result c.in-Some-Some.other c.get-2.ensures.lookup.3 c.in-Some-Some.is-1

  at_both : fact_cmp f g ≡ index_cmp c.args.facts.now c.args.i c.args.j
  at_both = λ k. option_cmp fact_cmp (sym first k) (sym second k)

  by_values : slice_get c.args.starts.now c.args.i ≡ slice_get c.args.starts.now c.args.j → derived_value.it f.value g.value ≡ index_cmp c.args.facts.now c.args.i c.args.j
  by_values same = values_agree f.value g.value ∙ by_value c.args.facts.now c.args.starts.now c.args.i c.args.j f g c.requires.starts same first second ∙ at_both

  ranked : (found : Option Ordering) (o : Ordering) → IfSome found (λ p. (r s : ℕ) × (slice_get c.args.ranks.now c.args.i ≡ Some r) × (slice_get c.args.ranks.now c.args.j ≡ Some s) × (p ≡ nat_cmp r s)) → found ≡ Some o → o ≡ name_cmp f.dimensions.concept g.dimensions.concept
  ranked found o said is =
      let here = subst (λ x. IfSome x (λ p. (r s : ℕ) × (slice_get c.args.ranks.now c.args.i ≡ Some r) × (slice_get c.args.ranks.now c.args.j ≡ Some s) × (p ≡ nat_cmp r s))) is said in
      here.4 ∙ c.requires.ranks c.args.i c.args.j here.0 here.1 f g here.2 here.3 first second

pub compared_in_concept-requires : goal.compared_in_concept-requires
compared_in_concept-requires c =
    let s = (goal.at.compared_in_concept-requires c).In-Some-Some in
    exact_name (f s).dimensions.concept (g s).dimensions.concept (sym (ranked s c.rank_order.result Equal c.rank_order.ensures (c.in-Some-Equal.is ∙ ap Some c.in-Some-Equal.field-0-is)))

pub returns-in-Some-Equal : goal.returns-in-Some-Equal
returns-in-Some-Equal c = c.cmp.ensures ∙ by_values (goal.at.returns-in-Some-Equal c).In-Some-Some (c.same_at.ensures c.if-same_at.true)

pub returns-in-Some-Equal-2 : goal.returns-in-Some-Equal-2
returns-in-Some-Equal-2 c = c.compared_in_concept.ensures ∙ at_both (goal.at.returns-in-Some-Equal-2 c).In-Some-Some

pub returns-in-Some-Less : goal.returns-in-Some-Less
returns-in-Some-Less c =
    let s = (goal.at.returns-in-Some-Less c).In-Some-Some in
    by_rank (f s) (g s) Less (ranked s c.rank_order.result Less c.rank_order.ensures (c.in-Some-Less.is ∙ ap Some c.in-Some-Less.field-0-is)) (λ e. false≢true (sym (ap is_lt e))) ∙ at_both s

pub returns-in-Some-Greater : goal.returns-in-Some-Greater
returns-in-Some-Greater c =
    let s = (goal.at.returns-in-Some-Greater c).In-Some-Some in
    by_rank (f s) (g s) Greater (ranked s c.rank_order.result Greater c.rank_order.ensures (c.in-Some-Greater.is ∙ ap Some c.in-Some-Greater.field-0-is)) (λ e. false≢true (sym (ap is_gt e))) ∙ at_both s

pub returns-in-None : goal.returns-in-None
returns-in-None c = let same : slice_get c.args.starts.now c.args.i ≡ slice_get c.args.starts.now c.args.j = search rules in c.cmp-in-None.ensures ∙ by_values (goal.at.returns-in-None c).In-Some-Some same

pub returns-in-None-2 : goal.returns-in-None-2
returns-in-None-2 c = let s = (goal.at.returns-in-None-2 c).In-Some-Some in c.cmp-in-None-2.ensures ∙ facts_agree (f s) (g s) ∙ at_both s

pub returns-in_default : goal.returns-in_default
returns-in_default c =
    let r = c.get-in_default.result in
    let s = c.get-in_default-2.result in
    let first = looked_up c.args.facts.now c.args.i r c.get-in_default.ensures.lookup.3 in
    let second = looked_up c.args.facts.now c.args.j s c.get-in_default-2.ensures.lookup.3 in
    c.cmp-in_default.ensures ∙ answers derived.it r s ∙ agree (option_map (λ x. x.now) r) (option_map (λ x. x.now) s) ∙ (λ i. option_cmp fact_cmp (first i) (second i))
