-- Ascending lists that are built by appending items, for calls of `of_rising`.
use Rattle.merge_laws.proofs.Shared.{◌≡◌, List, [], ◌∷◌, ◌++◌, every_append, Ordering, Less, AllByRecursion, IsRising}
use Rattle.std.specs.List.Sorted.{IsStrictlySortedBy}

module _ {K E : Type 0} (R : K → K → Ordering) (key : E → K) where
  pub none_rise : IsRising R key []
  unfolding IsStrictlySortedBy
  none_rise = tt

  pub one_rises : (x : E) → IsRising R key (x ∷ [])
  unfolding IsStrictlySortedBy
  one_rises x = (tt, tt)

  pub rises_behind : (es : List E) (x : E) → IsRising R key es → AllByRecursion (λ e. R (key e) (key x) ≡ Less) es → IsRising R key (es ++ x ∷ [])
  unfolding IsStrictlySortedBy
  rises_behind [] x h below = (tt, tt)
  rises_behind (e ∷ es) x h below = (every_append (λ f. R (key e) (key f) ≡ Less) es (x ∷ []) h.0 (below.0, tt), rises_behind es x h.1 below.1)
