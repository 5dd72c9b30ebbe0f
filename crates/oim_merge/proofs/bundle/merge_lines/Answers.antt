use Rattle.oim_merge.proofs.Shared.{◌≡◌, ◌∷◌, ◌<◌, length, true, false, ◌∙◌, ap, sym, subst, arith, ◌==◌, before_first, nat_tests, Added, is_line_end, filled_pieces}
use Rattle.oim_merge.proofs.LinePieces.{filled_pieces-empty, filled_pieces-filled, fewer_left}
use Rattle.oim_merge.proofs.Reports.{HasAdded, has_added_more}
use Rattle.oim_merge.proofs.bundle.merge_lines.Goals as goal

pub loop-rest-preserved-in_ok-add : goal.loop-rest-preserved-in_ok-add
loop-rest-preserved-in_ok-add c =
    let before = c.loop-rest.invariant in
    let rest = c.loop-rest.rest.now in
    let line = c.cut_line.result.0.now in
    let behind = c.cut_line.result.1.now in
    let filled : (length (before_first is_line_end rest) == 0) ≡ false =
    ap (λ l. length l == 0) (sym c.cut_line.ensures.line) ∙ sym c.is_empty-in-loop-rest.ensures ∙ c.if-not-is_empty.true in
    let first : filled_pieces rest ≡ line ∷ filled_pieces behind = rw (c.cut_line.ensures.line, c.cut_line.ensures.rest) (filled_pieces-filled rest filled) in
    let some : 0 < length rest = (let e = sym c.is_empty.ensures ∙ c.loop-rest-test.true in grind (arith, nat_tests)) in
    let fewer : length behind < length rest = rw c.cut_line.ensures.rest (fewer_left rest some) in
    record {
      added = has_added_more c.args.sheet.now line (filled_pieces behind) (filled_pieces rest) (filled_pieces c.args.lines.now) c.loop-rest.consolidation c.add.new.self first c.in_ok-add.ensures.ok before.added;
      count = (let more = ap (λ (a : Added). a.reports) c.in_ok-add.ensures.ok in let count = before.count in omega arith);
    }

pub loop-rest-preserved : goal.loop-rest-preserved
loop-rest-preserved c =
    let before = c.loop-rest.invariant in
    let rest = c.loop-rest.rest.now in
    let behind = c.cut_line.result.1.now in
    let empty : (length (before_first is_line_end rest) == 0) ≡ true =
    ap (λ l. length l == 0) (sym c.cut_line.ensures.line) ∙ sym c.is_empty-in-loop-rest.ensures ∙ c.if-not-is_empty.false in
    let same : filled_pieces rest ≡ filled_pieces behind = rw c.cut_line.ensures.rest (filled_pieces-empty rest empty) in
    let some : 0 < length rest = (let e = sym c.is_empty.ensures ∙ c.loop-rest-test.true in grind (arith, nat_tests)) in
    let fewer : length behind < length rest = rw c.cut_line.ensures.rest (fewer_left rest some) in
    record {
      added = subst (λ left. HasAdded c.args.sheet.now c.loop-rest.consolidation left (filled_pieces c.args.lines.now)) same before.added;
      count = (let count = before.count in omega arith);
    }
