use Rattle.oim_report.proofs.Shared.{◌≡◌, ◌++◌, ℕ, List, Ok, length, subst, sym, refl, ap, ◌∙◌, arith, IsPermutation, Vec, Global, range_with_len, IsPermutation-refl}
use Rattle.std.proofs.lemmas.Iterator.{YieldsList-from_range}
use Rattle.std.proofs.lemmas.Iterator.Adapters.{items_from_extend}
use Rattle.oim_report.proofs.order.indices_of.Goals as goal
use Rattle.oim_report.proofs.order.indices_of.Goals.{then-not-is_empty, else-not-is_empty}

pub returns : goal.returns
returns c =
    let n : ℕ = length c.args.facts.now in
    let added = items_from_extend {E = ℕ} (Ok tt) c.in_ok-extend.ensures.ran (YieldsList-from_range 0 n n refl (omega arith)) in
    let items : c.extend.new.self.items ≡ range_with_len 0 n = added.0 ∙ ap (λ is. is ++ range_with_len 0 n) c.in_ok-all.ensures.items in
    let moved : IsPermutation c.extend.new.self.items c.if-not-is_empty.all.items = elim c.if-not-is_empty.branch [
      | then-not-is_empty w ↦ subst (λ (v : Vec ℕ Global). IsPermutation c.extend.new.self.items v.items) (sym w.all-is) w.sort_unstable_by.ensures.permutation
      | else-not-is_empty w ↦ subst (λ (v : Vec ℕ Global). IsPermutation c.extend.new.self.items v.items) (sym w.all-is) (IsPermutation-refl _)
    ] in
    subst (λ (is : List ℕ). IsPermutation is c.if-not-is_empty.all.items) items moved
