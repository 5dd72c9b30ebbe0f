use Rattle.merge_laws.proofs.Shared.{◌≡◌, ◌-◌, ap, length, subst, sym, ◌∙◌, IsPermutation, arith, reverse, range_with_len, length-range_with_len, length_permutation, picked, inserted}
use Rattle.merge_laws.proofs.Listed.{from_default}
use Rattle.merge_laws.proofs.insertion.insert_all.Goals as goal

pub place-requires-clause-len : goal.place-requires-clause-len
place-requires-clause-len g c =
    let count = length_permutation _ _ c.append.ensures.each_once in
    omega (arith, count, length-range_with_len 0 (length c.append.new.items.items - c.first_of-first.result), ap length c.reverse.ensures.items, c.append.ensures.within)

pub place-requires-clause-each_once : goal.place-requires-clause-each_once
place-requires-clause-each_once g c =
    let order = c.reverse.new.self.items in
    let count = length_permutation _ _ c.append.ensures.each_once in
    let same : length c.append.new.items.items - c.first_of-first.result ≡ length order = omega (arith, count, length-range_with_len 0 (length c.append.new.items.items - c.first_of-first.result), ap length c.reverse.ensures.items) in
    subst (λ ks. IsPermutation (range_with_len 0 (length order)) ks) (sym c.reverse.ensures.items)
    (subst (λ n. IsPermutation (range_with_len 0 n) (reverse c.append.new.order.items)) same c.append.ensures.each_once)

pub returns : goal.returns
returns g c =
    let items = c.append.new.items.items in
    from_default c.place.new.items.items (inserted c.args.items.now.items (reverse c.args.news.items))
    (λ d. c.place.ensures d ∙ ap (picked c.first_of-first.result d items) c.reverse.ensures.items ∙ c.append.ensures.items d)
