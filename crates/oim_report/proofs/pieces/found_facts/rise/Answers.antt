use Rattle.oim_report.proofs.Shared.{◌≡◌, ◌+◌, Some, true, false, drop, slice_get, option_map, sym, ap, ◌∙◌, is_above, rise_after}
use Rattle.oim_report.proofs.FoundInOrder.{at_index, goes_on, stops}
use Rattle.oim_report.proofs.pieces.found_facts.rise.Goals as goal

pub returns-then-not-is_above : goal.returns-then-not-is_above
returns-then-not-is_above c =
    let l = c.loop-index in
    let ids = c.args.identifiers.now in
    let identifier = c.in-Some.identifier.now in
    let last = option_map (λ t. t.now) l.last in
    let here : slice_get ids l.index ≡ Some identifier = sym c.get.ensures ∙ ap (option_map (λ t. t.now)) c.in-Some.is in
    let falls : is_above last identifier ≡ false = sym c.is_above.ensures ∙ c.if-not-is_above.true in
    sym (l.invariant ∙ ap (rise_after last) (at_index ids l.index identifier here) ∙ stops last identifier (drop (l.index + 1) ids) falls)

pub loop-index-preserved : goal.loop-index-preserved
loop-index-preserved c =
    let l = c.loop-index in
    let ids = c.args.identifiers.now in
    let identifier = c.in-Some.identifier.now in
    let last = option_map (λ t. t.now) l.last in
    let here : slice_get ids l.index ≡ Some identifier = sym c.get.ensures ∙ ap (option_map (λ t. t.now)) c.in-Some.is in
    let rises : is_above last identifier ≡ true = sym c.is_above.ensures ∙ c.if-not-is_above.false in
    l.invariant ∙ ap (rise_after last) (at_index ids l.index identifier here) ∙ goes_on last identifier (drop (l.index + 1) ids) rises
