use Rattle.std.proofs.Common.{nat_cmp, ◌≡◌, ◌∷◌, ◌++◌, [], List, sym, ap, subst, ◌∙◌}
use Rattle.std.specs.Cmp.Lexicographic.{slice_cmp}
use Rattle.std.specs.declared.cmp.Ordering.{Ordering}
use Rattle.merge_laws.specs.Sorted.{IsRising, entry_key}
use Rattle.merge_laws.proofs.Rising.{one_rises}
use Rattle.value_tests.proofs.tests.merges.maps.map_of_one.Goals as goal

first_rises : {K E : Type 0} (R : K → K → Ordering) (key : E → K) (none es : List E) (x : E) → es ≡ none ++ x ∷ [] → none ≡ [] → IsRising R key es
first_rises R key none es x pushed was = subst (IsRising R key) (sym (pushed ∙ ap (λ ds. ds ++ x ∷ []) was)) (one_rises R key x)

pub of_rising-requires : goal.of_rising-requires
of_rising-requires c = first_rises (slice_cmp nat_cmp) entry_key _ _ _ c.push_reserved.ensures.items c.in_ok-entries.ensures.items
