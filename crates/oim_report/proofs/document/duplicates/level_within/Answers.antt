use Rattle.oim_report.proofs.Shared.{◌≡◌, ◌<◌, List, ◌∷◌, get_or, length, sym, subst, ap, ◌∙◌, rules, ord_max, level_cmp, Unique, Fact, both_common, interval_at, level_beside, are_duplicates}
use Rattle.oim_report.proofs.Passed.{Passed, passed_above, passed_all, passed_none, passed_one, unique_is_within}
use Rattle.oim_report.proofs.Indices.{first_within, level_of_none, rest_within}
use Rattle.oim_report.proofs.Runs.{walk, walk-duplicate, walk-other}
use Rattle.oim_report.proofs.Ties.{equal_dimensions_tie, level_max_is, lesser_levels_tie}
use Rattle.oim_report.proofs.document.duplicates.level_within.Goals as goal
use Rattle.oim_report.proofs.document.duplicates.level_within.Goals.{After-lt, then-eq, else-eq}

pub returns-in_default-clause-level : goal.returns-in_default-clause-level
returns-in_default-clause-level c = level_of_none c.args.facts.now c.args.order.now c.requires c.in_default.ensures.cases

pub returns-in_default-clause-within : goal.returns-in_default-clause-within
returns-in_default-clause-within c = unique_is_within c.args.limit

pub bounds-facts-first : goal.bounds-facts-first
bounds-facts-first c = first_within c.args.facts.now c.args.order.now c.in-Some.rest.now c.in-Some.first.now c.requires c.in-Some.ensures.cases.0

pub offset_bounds-facts-first : goal.offset_bounds-facts-first
offset_bounds-facts-first c =
    let within = first_within c.args.facts.now c.args.order.now c.in-Some.rest.now c.in-Some.first.now c.requires c.in-Some.ensures.cases.0 in
    search rules

pub loop-index-init : goal.loop-index-init
loop-index-init c = (
  subst (λ shared. Passed c.args.facts.now c.args.order.now c.in-Some.rest.now 0 c.index-facts-first.result shared Unique) (sym c.interval_at-shared.ensures)
      (passed_none c.args.facts.now c.args.order.now c.in-Some.rest.now c.in-Some.first.now c.index-facts-first.result c.requires c.in-Some.ensures.cases.0 c.index-facts-first.is),
  unique_is_within c.args.limit,
)

pub bounds-facts-index : goal.bounds-facts-index
bounds-facts-index c = rest_within c.args.facts.now c.args.order.now c.in-Some.rest.now c.in-Some.first.now c.loop-index.index-index c.requires c.in-Some.ensures.cases.0 c.loop-index-test.true

pub offset_bounds-facts-index : goal.offset_bounds-facts-index
offset_bounds-facts-index c =
    let within = rest_within c.args.facts.now c.args.order.now c.in-Some.rest.now c.in-Some.first.now c.loop-index.index-index c.requires c.in-Some.ensures.cases.0 c.loop-index-test.true in
    search rules

within : (c : After-lt) → get_or c.in-Some.rest.now c.loop-index.index-index 0 < length c.args.facts.now
within c = rest_within c.args.facts.now c.args.order.now c.in-Some.rest.now c.in-Some.first.now c.loop-index.index-index c.requires c.in-Some.ensures.cases.0 c.loop-index-test.true

step : (c : After-lt) (fs : List Fact) → walk c.loop-index.last.now c.loop-index.shared c.loop-index.level (c.index-facts-index.result ∷ fs) ≡ walk c.index-facts-index.result c.if-eq.shared c.if-eq.level fs
step c =
    let fact : Fact = c.index-facts-index.result in
    let test : c.eq.result ≡ are_duplicates c.loop-index.last.now fact = c.eq.ensures ∙ equal_dimensions_tie c.loop-index.last.now.dimensions fact.dimensions in
    elim c.if-eq.branch [
      | then-eq w ↦
          let shared : c.if-eq.shared ≡ both_common c.loop-index.shared (interval_at fact.value) = w.shared-is ∙ w.both_common-shared.ensures ∙ ap (both_common c.loop-index.shared) c.interval_at-interval.ensures in
          let level : c.if-eq.level ≡ ord_max level_cmp c.loop-index.level (level_beside c.loop-index.last.now.value c.loop-index.shared fact.value) =
          w.level-is ∙ w.max-level.ensures ∙ level_max_is c.loop-index.level w.level_beside.result ∙ ap (ord_max level_cmp c.loop-index.level) w.level_beside.ensures in
          (λ fs. walk-duplicate c.loop-index.last.now fact c.loop-index.shared c.loop-index.level fs (sym test ∙ w.if-eq.true) ∙ (λ k. walk fact (sym shared k) (sym level k) fs))
      | else-eq w ↦
          let shared : c.if-eq.shared ≡ interval_at fact.value = w.shared-is ∙ c.interval_at-interval.ensures in
          (λ fs. walk-other c.loop-index.last.now fact c.loop-index.shared c.loop-index.level fs (sym test ∙ w.if-eq.false) ∙ (λ k. walk fact (sym shared k) (sym w.level-is k) fs))
    ]

pub loop-index-preserved : goal.loop-index-preserved
loop-index-preserved c =
    let after = (goal.at.loop-index-preserved c).After-lt in (
      passed_one c.args.facts.now c.args.order.now c.in-Some.rest.now c.loop-index.index-index c.loop-index.last.now c.index-facts-index.result c.loop-index.shared c.if-eq.shared c.loop-index.level c.if-eq.level c.loop-index-test.true (within after) c.index-facts-index.is (step after) c.loop-index.invariant.0,
      sym (lesser_levels_tie c.args.limit c.if-eq.level) ∙ sym c.lt.ensures ∙ c.if-lt.false,
    )

pub returns-then-lt-clause-above : goal.returns-then-lt-clause-above
returns-then-lt-clause-above c =
    let after = (goal.at.returns-then-lt-clause-above c).After-lt in
    passed_above c.args.facts.now c.args.order.now c.in-Some.rest.now c.in-Some.first.now c.loop-index.index-index c.args.limit c.loop-index.last.now c.index-facts-index.result c.loop-index.shared c.if-eq.shared c.loop-index.level c.if-eq.level c.requires c.in-Some.ensures.cases.0 c.loop-index-test.true (within after) c.index-facts-index.is
    c.loop-index.invariant.1 (sym (lesser_levels_tie c.args.limit c.if-eq.level) ∙ sym c.lt.ensures ∙ c.if-lt.true) c.loop-index.invariant.0 (step after)

pub returns-clause-level : goal.returns-clause-level
returns-clause-level c = passed_all c.args.facts.now c.args.order.now c.in-Some.rest.now c.loop-index.index-index c.loop-index.last.now c.loop-index.shared c.loop-index.level c.requires c.loop-index-test.false c.loop-index.invariant.0

pub returns-clause-within : goal.returns-clause-within
returns-clause-within c = c.loop-index.invariant.1
