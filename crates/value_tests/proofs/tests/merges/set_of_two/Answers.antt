use Rattle.std.proofs.Common.{◌≡◌, false, nat_cmp, is_ge, ◌∷◌, ◌++◌, [], refl, sym, ap, subst, ◌∙◌, arith}
use Rattle.std.specs.Cmp.Lexicographic.{slice_cmp}
use Rattle.std.specs.declared.cmp.Ordering.{Ordering}
use Rattle.std.specs.declared.cmp.Ordering.TheVariants.{Less, Equal, Greater}
use mathlib.Core.Bool.{true≢false}
use Rattle.merge_laws.specs.Sorted.{IsSet, itself}
use Rattle.merge_laws.proofs.Rising.{none_rise, one_rises, rises_behind}
use Rattle.value_tests.proofs.tests.merges.set_of_two.Goals as goal

lesser : (r : Ordering) → is_ge r ≡ false → r ≡ Less
lesser Less t = refl
lesser Equal t = absurd (true≢false t)
lesser Greater t = absurd (true≢false t)

pub of_rising-requires : goal.of_rising-requires
of_rising-requires c = (omega arith, subst (IsSet (slice_cmp nat_cmp)) (sym c.in_ok-items.ensures.items) (none_rise (slice_cmp nat_cmp) itself))

pub of_rising-requires-2 : goal.of_rising-requires-2
of_rising-requires-2 c =
    let R = slice_cmp nat_cmp in
    let both = c.push_reserved-2.ensures.items ∙ ap (λ es. es ++ c.args.second ∷ []) (c.push_reserved.ensures.items ∙ ap (λ es. es ++ c.args.first ∷ []) c.in_ok-items.ensures.items) in
    (omega arith, subst (IsSet R) (sym both) (rises_behind R itself (c.args.first ∷ []) c.args.second (one_rises R itself c.args.first) (sym c.cmp.ensures ∙ lesser c.cmp.result (sym c.is_ge.ensures ∙ c.if-is_ge.false), tt)))
