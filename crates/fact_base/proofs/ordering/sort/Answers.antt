use Rattle.fact_base.proofs.Shared.{◌≡◌, ℕ, List, IsPermutation, IsSorted, length, slice_get, subst, arith, range_with_len, option_cmp}
use Rattle.fact_base.proofs.Placed.{as_many, each_once, picked_moved, picked_sorted}
use Rattle.fact_base.proofs.ordering.sort.Goals as goal

whole : {E : Type 0} {slice items : List E} {order : List ℕ} → slice ≡ items → IsPermutation (range_with_len 0 (length slice)) order → IsPermutation (range_with_len 0 (length items)) order
whole {order = order} same h = subst (λ es. IsPermutation (range_with_len 0 (length es)) order) same h

pub place-requires-clause-len : goal.place-requires-clause-len
place-requires-clause-len g c = omega (arith, as_many c.args.items.now.items c.in_ok-order.order.items (whole c.as_slice.ensures.value c.in_ok-order.ensures.each_once))

pub place-requires-clause-each_once : goal.place-requires-clause-each_once
place-requires-clause-each_once g c = each_once c.args.items.now.items c.in_ok-order.order.items (whole c.as_slice.ensures.value c.in_ok-order.ensures.each_once)

pub returns-clause-permutation : goal.returns-clause-permutation
returns-clause-permutation g c = picked_moved c.args.items.now.items c.place.new.items.items c.in_ok-order.order.items (whole c.as_slice.ensures.value c.in_ok-order.ensures.each_once) c.place.ensures

pub returns-clause-sorted : goal.returns-clause-sorted
returns-clause-sorted g c =
    picked_sorted c.args.items.now.items c.in_ok-order.order.items (whole c.as_slice.ensures.value c.in_ok-order.ensures.each_once) g.T.Ord.cmp c.place.new.items.items
    (subst (λ es. IsSorted (λ i j. option_cmp g.T.Ord.cmp (slice_get es i) (slice_get es j)) c.in_ok-order.order.items) c.as_slice.ensures.value c.in_ok-order.ensures.rising)
    c.place.ensures
