use Rattle.oim_report.proofs.Shared.{rules, arith, ℕ, ◌+◌, ◌≤◌, ◌≡◌, List, [], ◌∷◌, ◌++◌, append_assoc, length, refl, sym, ap, ◌∙◌, Data, view, members_view, ShownFault, listed, members, values, fact_faults, facts_faults}
use Rattle.oim_report.specs.declared.place.Place.TheVariants.{Fact}
use Rattle.oim_report.proofs.fault_list.Faults.add_facts.Goals as goal

one_less : {A : Type 0} (xs ys : List A) (x : A) (n m : ℕ) → xs ≡ x ∷ ys → n + length xs ≤ m → n + 1 + length ys ≤ m
one_less xs ys x n m e h = omega (arith, ap length e)

nothing_more : (rs : List ShownFault) → rs ≡ rs ++ []
nothing_more [] = refl
nothing_more (r ∷ rs) = ap (λ l. r ∷ l) (nothing_more rs)

pub returns-in_default : goal.returns-in_default
returns-in_default c =
    nothing_more (listed c.args.self.now)
    ∙ ap (λ o. listed c.args.self.now ++ facts_faults c.args.sheet.now c.args.aliases.now 1 (values (members o))) c.in_default.ensures

pub loop-identifier-init : goal.loop-identifier-init
loop-identifier-init c =
    let all = c.into_iter-identifier-iterator.result in
    let whole : all ≡ c.in-Some.objects.now.entries = search rules in
    let found : List ShownFault → List Data → List ShownFault = λ fs ds. fs ++ facts_faults c.args.sheet.now c.args.aliases.now 1 ds in (
      ap (λ es. found (listed c.args.self.now) (values (members_view es))) whole
          ∙ ap (λ o. found (listed c.args.self.now) (values (members o))) c.in-Some.ensures,
      omega arith,
    )

pub loop-identifier-preserved : goal.loop-identifier-preserved
loop-identifier-preserved c =
    let sheet = c.args.sheet.now in
    let bs = c.args.aliases.now in
    let l = c.loop-identifier in
    let mine = fact_faults sheet bs (view c.in-Some-2.object.now) (Fact l.number) in
    let made = c.new-fact.result in
    let fact = c.new-fact.ensures in
    let same : fact_faults made.sheet.now made.aliases.now (view made.object.now) (Fact l.number) ≡ mine = λ i. fact_faults (fact.sheet i) (fact.aliases i) (view (fact.object i)) (Fact l.number) in
    let rest = facts_faults sheet bs (l.number + 1) (values (members_view c.next.new.self)) in (
      ap (λ fs. fs ++ rest) (c.in_ok-add_fact.ensures ∙ ap (λ fs. listed l.self ++ fs) same)
          ∙ append_assoc (listed l.self) mine rest
          ∙ ap (λ es. listed l.self ++ facts_faults sheet bs l.number (values (members_view es))) (sym c.in-Some-2.ensures.steps)
          ∙ l.invariant.0,
      one_less _ _ _ _ _ c.in-Some-2.ensures.steps l.invariant.1,
    )

pub returns : goal.returns
returns c =
    let l = c.loop-identifier in
    nothing_more (listed l.self)
    ∙ ap (λ es. listed l.self ++ facts_faults c.args.sheet.now c.args.aliases.now l.number (values (members_view es))) (sym c.in-None.ensures.steps.0)
    ∙ l.invariant.0
