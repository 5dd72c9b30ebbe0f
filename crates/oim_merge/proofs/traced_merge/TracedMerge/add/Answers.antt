use Rattle.oim_merge.proofs.Shared.{◌≡◌, ◌+◌, ◌++◌, if◌then◌else◌, sym, ap, subst, ◌∙◌, arith, identifiers, outcome, always_ok, Added, with_report, mentions_of, with_traced}
use Rattle.oim_merge.specs.code.Outcomes.{IsOutcome}
use Rattle.oim_merge.proofs.Traces.{are_traced_more}
use Rattle.oim_merge.proofs.traced_merge.TracedMerge.add.Goals as goal
use Rattle.oim_merge.proofs.traced_merge.TracedMerge.add.Goals.{After-drop-mentions-2}

is_added : (c : After-drop-mentions-2) → c.add_read.new.self ≡ with_report c.self.inside.consolidation c.args.bytes.now
is_added c =
    let bytes = c.args.bytes.now in
    let same = c.read_with_mentions.ensures.same in
    c.in_ok-add_read.ensures.ok bytes (subst (λ (a : Added). IsOutcome a.sheet bytes c.in_ok-read.read) (sym same) c.in_ok-read.ensures.outcome) ∙ ap (λ a. with_report a bytes) same

are_all : (c : After-drop-mentions-2) → c.append.new.self.items ≡ c.self.inside.mentions.items ++ mentions_of (c.self.inside.consolidation.reports + 1) (identifiers c.args.bytes.now) (outcome c.self.inside.consolidation.sheet c.args.bytes.now)
are_all c =
    let done = c.append.ensures.succeeds (omega (arith, c.in_ok-reserve.ensures.ok, c.len.ensures)) in
    let before = c.reserve.new.self.items in
    c.append.ensures.items ∙ ap (λ b. if b then before ++ c.in_ok-read.mentions.items else before) done ∙ (λ i. c.reserve.ensures.items i ++ c.in_ok-read.ensures.mentions i)

pub invariant_of-self-2 : goal.invariant_of-self-2
invariant_of-self-2 c =
    let inside = c.self.inside in
    are_traced_more inside.consolidation c.add_read.new.self inside.mentions.items c.append.new.self.items c.args.bytes.now c.self.invariant (is_added c) (are_all c)

pub returns-clause-ok : goal.returns-clause-ok
returns-clause-ok c = always_ok c.append.result ((λ i. record { added = is_added c i; mentions = are_all c i }) ∙ ap (λ t. with_traced t c.args.bytes.now) c.self.view_is)
