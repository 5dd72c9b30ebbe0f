use Rattle.oim_report.proofs.Shared.{◌≡◌, ℕ, zero, suc, ◌<◌, ◌≤◌, nat_lt, true, length, sym, ap, ◌∙◌, arith, rules, Some, false≢true, dimensions_eq, Fact, dimensions_at}
use Rattle.oim_report.proofs.DimensionRuns.{one_more, own}
use Rattle.oim_report.proofs.Ties.{equal_dimensions}
use Rattle.oim_report.proofs.order.run_starts.Goals as goal
use Rattle.oim_report.proofs.order.run_starts.Goals.{then-i-gt0, else-i-gt0, then-is_alike, else-is_alike}

not_later : (i : ℕ) → i ≤ 0 → nat_lt 0 i ≡ true → ⊥
not_later zero h e = false≢true e
not_later (suc i) h e = absurd (omega (arith, h))

pub loop-i-preserved : goal.loop-i-preserved
loop-i-preserved c =
    let l = c.loop-i in
    let facts = c.args.facts.now in
    let f = c.index-facts-i.result in
    let within : l.i < length facts = omega arith in
    let alike : c.if-i-gt0.is_alike ≡ true → dimensions_at facts l.first ≡ Some f.dimensions = elim c.if-i-gt0.branch [
      | then-i-gt0 v ↦ λ e. own facts l.first _ (omega (arith, l.invariant.within, within)) v.index-facts-first.is
          ∙ ap (λ d. Some d) (equal_dimensions v.index-facts-first.result.dimensions f.dimensions (ap (λ (x : Fact). dimensions_eq.it x.dimensions f.dimensions) v.index-facts-first.is ∙ sym v.eq-is_alike.ensures ∙ sym v.is_alike-is ∙ e))
      | else-i-gt0 v ↦ λ e. absurd (not_later l.i v.if-i-gt0.false (sym v.is_alike-is ∙ e))
    ] in
    let here : dimensions_at facts c.if-is_alike.first ≡ Some f.dimensions = elim c.if-is_alike.branch [
      | then-is_alike w ↦ ap (dimensions_at facts) w.first-is ∙ alike w.if-is_alike.true
      | else-is_alike w ↦ ap (dimensions_at facts) w.first-is ∙ own facts l.i f within c.index-facts-i.is
    ] in
    record {
      within = elim c.if-is_alike.branch [ then-is_alike w ↦ omega (arith, w.first-is, l.invariant.within) | else-is_alike w ↦ omega (arith, w.first-is) ];
      alike = one_more facts l.starts.items c.push.new.self.items l.i c.if-is_alike.first f within c.index-facts-i.is here (search rules) l.invariant.alike;
    }
