use Rattle.oim_merge.proofs.Shared.{◌≡◌, ◌∷◌, ◌++◌, false, [], map, sym, ap, subst, ◌∙◌, append_assoc, arith, All-push, All, length-append, length-map, map_push, Row, rows_left, shown, row_is_above, some_above}
use Rattle.oim_merge.proofs.allowed_level.first_above.Goals as goal

pub returns-then-is_above : goal.returns-then-is_above
returns-then-is_above c =
    let l = c.loop-row in
    let done = map shown l.yielded in
    let rest = rows_left c.next.new.self in
    let r : Row = shown c.in-Some.row in
    let all = ap (λ rs. done ++ rs) (sym c.in-Some.ensures.steps) ∙ l.invariant.rows in
    record {
      before = done;
      row = r;
      behind = rest;
      rows = sym all;
      number_is = omega (arith, l.invariant.count, length-map l.yielded shown);
      above = ap (some_above c.args.allow) c.verdict.ensures ∙ sym c.is_above.ensures ∙ c.if-is_above.true;
      earlier = l.invariant.within;
    }

pub loop-row-preserved : goal.loop-row-preserved
loop-row-preserved c =
    let l = c.loop-row in
    let done = map shown l.yielded in
    let rest = rows_left c.next.new.self in
    let r : Row = shown c.in-Some.row in
    let all = ap (λ rs. done ++ rs) (sym c.in-Some.ensures.steps) ∙ l.invariant.rows in
    let with_row : map shown (l.yielded ++ c.in-Some.row ∷ []) ≡ done ++ r ∷ [] = map_push shown l.yielded c.in-Some.row in
    record {
      rows = ap (λ rs. rs ++ rest) with_row ∙ append_assoc done (r ∷ []) rest ∙ all;
      count = omega (arith, l.invariant.count, length-append l.yielded (c.in-Some.row ∷ []));
      within = subst (All (λ q. row_is_above c.args.allow q ≡ false)) (sym with_row) (All-push (λ q. row_is_above c.args.allow q ≡ false) done r l.invariant.within
          (ap (some_above c.args.allow) c.verdict.ensures ∙ sym c.is_above.ensures ∙ c.if-is_above.false));
    }
