use Rattle.fact_base.proofs.Shared.{rules, ◌≡◌, ◌++◌, ℕ, List, Ok, IsPermutation, length, slice_get, subst, refl, ap, ◌∙◌, arith, options_total, range_with_len, option_cmp, is_lt, ranks_by}
use Rattle.std.proofs.lemmas.Fn.{always_returns_same}
use Rattle.std.proofs.lemmas.Iterator.{YieldsList-from_range}
use Rattle.std.proofs.lemmas.Iterator.Adapters.{items_from_extend}
use Rattle.fact_base.proofs.ordering.order_of.Goals as goal

pub returns-clause-each_once : goal.returns-clause-each_once
returns-clause-each_once g c =
    let n : ℕ = length c.args.items.now in
    let added = items_from_extend {E = ℕ} (Ok tt) c.in_ok-extend.ensures.ran (YieldsList-from_range 0 n n refl (omega arith)) in
    let all : c.extend.new.self.items ≡ range_with_len 0 n = added.0 ∙ ap (λ is. is ++ range_with_len 0 n) c.in_ok-order.ensures.items in
    subst (λ (is : List ℕ). IsPermutation is c.sort_by.new.self.items) all c.sort_by.ensures.permutation

pub returns-clause-rising : goal.returns-clause-rising
returns-clause-rising g c =
    let at = slice_get c.args.items.now in
    c.in_ok-sort_by.ensures.sorted (λ i j. is_lt (option_cmp g.T.Ord.cmp (at i) (at j))) (ranks_by (options_total g.met.T.Ord.total) at) (always_returns_same _ _ _ (λ a r f called. (ap is_lt (search rules), search rules)))
