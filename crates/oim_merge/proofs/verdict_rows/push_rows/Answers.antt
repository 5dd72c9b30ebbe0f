use Rattle.oim_merge.proofs.Shared.{◌≡◌, ◌+◌, ◌∷◌, ◌++◌, suc, List, [], map, length, refl, sym, ap, subst, ◌∙◌, append_assoc, append-nil, arith, length-append, length-map, map_push, err_from_is_err_and, Row, rows_of, rows_left, shown, rows_facts, Breaks-more, Breaks-trans, Passes-nil, Passes-trans, AreRowsFrom, IsRow}
use Rattle.oim_merge.proofs.RowLists.{count_with_row, left_exist, one_row, indices_within, row_filled, row_is, row_within, rows_both}
use Rattle.oim_merge.proofs.verdict_rows.push_rows.Goals as goal

left_behind : (done rest : List Row) (r : Row) (rows : List Row) → done ++ (r ∷ rest) ≡ rows → (done ++ r ∷ []) ++ rest ≡ rows
left_behind done rest r rows all = append_assoc done (r ∷ []) rest ∙ all

pub loop-row-init : goal.loop-row-init
loop-row-init g c = record {
  rows = ap rows_left c.into_iter-row-iterator.ensures.into_iter_gives ∙ c.rows-row-items.ensures;
  number = refl;
  before = refl;
  count = c.fact_count.ensures;
  passed = record { text = []; are = refl; passed = Passes-nil _ _ };
  failures = refl;
}

pub row-requires : goal.row-requires
row-requires g c =
    let l = c.loop-row in
    let facts = c.args.base.now.body in
    let rises = c.sheet-sheet.ensures.fits.rises.facts in
    let all = ap (λ rs. map shown l.yielded ++ rs) (sym c.in-Some.ensures.steps) ∙ l.invariant.rows in
    let within = row_within l.identifiers.before facts.facts (map shown l.yielded) (shown c.in-Some.row ∷ rows_left c.next.new.self) (rows_left c.next.new.self) (shown c.in-Some.row) all refl l.invariant.before in
    record {
      some = row_filled facts rises (map shown l.yielded) (rows_left c.next.new.self) (shown c.in-Some.row) all;
      room = omega (arith, within, l.invariant.count);
      indices = indices_within c.in-Some.row.values.now c.evidence.result c.evidence.ensures;
    }

pub returns-in-Err-clause-err : goal.returns-in-Err-clause-err
returns-in-Err-clause-err g c =
    let l = c.loop-row in
    let base = c.args.base.now in
    let written = g.F.VerdictFormat.row_text c.args.format.now in
    let done = map shown l.yielded in
    let left = rows_left l.row-iterator in
    let passed = l.invariant.passed in
    let more = left_exist written base.sheet base.body c.sheet-sheet.ensures.fits done left l.invariant.rows (1 + length done) in
    record {
      text = passed.text ++ more.0;
      are = subst (λ rs. AreRowsFrom written base.body.facts 1 rs (passed.text ++ more.0)) l.invariant.rows (rows_both written base.body.facts 1 done left passed.text more.0 passed.are more.1);
      broken = Breaks-trans passed.passed (Breaks-more more.0 c.stop.ensures.broken);
    }

pub returns-in_err-push-clause-err : goal.returns-in_err-push-clause-err
returns-in_err-push-clause-err g c =
    let l = c.loop-row in
    let base = c.args.base.now in
    let written = g.F.VerdictFormat.row_text c.args.format.now in
    let done = map shown l.yielded in
    let rest = rows_left c.next.new.self in
    let r : Row = shown c.in-Some.row in
    let all = ap (λ rs. done ++ rs) (sym c.in-Some.ensures.steps) ∙ l.invariant.rows in
    let bytes = c.as_slice.result.now in
    let number : l.number + 1 ≡ 1 + length done = omega (arith, l.invariant.number, length-map l.yielded shown) in
    let row : IsRow written base.body.facts (1 + length done) r bytes = subst (λ n. IsRow written base.body.facts n r bytes) number
    (row_is base.body c.sheet-sheet.ensures.fits.rises.facts done rest r all written (g.met.F.VerdictFormat.names c.args.format.now) (l.number + 1) l.identifiers.before l.identifiers.count c.evidence.result bytes l.invariant.before l.invariant.count c.evidence.ensures (c.as_slice.ensures.value ∙ c.in-Ok.ensures)) in
    let passed = l.invariant.passed in
    let more = left_exist written base.sheet base.body c.sheet-sheet.ensures.fits (done ++ r ∷ []) rest (left_behind done rest r (rows_of base.body.facts) all) (suc (1 + length done)) in
    let p = err_from_is_err_and c.from_residual.result c.from_residual.ensures.1 in rw (p.1, p.2) (record {
      text = passed.text ++ (bytes ++ more.0);
      are = subst (λ rs. AreRowsFrom written base.body.facts 1 rs (passed.text ++ (bytes ++ more.0))) all
          (rows_both written base.body.facts 1 done (r ∷ rest) passed.text (bytes ++ more.0) passed.are (bytes, more.0, (refl, (row, more.1))));
      broken = Breaks-trans passed.passed (Breaks-more more.0 c.in_err-push.ensures.err);
    })

pub overflow_add-identifiers : goal.overflow_add-identifiers
overflow_add-identifiers g c =
    let l = c.loop-row in
    let within = row_within l.identifiers.before c.args.base.now.body.facts (map shown l.yielded) (rows_left l.row-iterator) (rows_left c.next.new.self) (shown c.in-Some.row) l.invariant.rows c.in-Some.ensures.steps l.invariant.before in
    omega (arith, within, c.fact_count.ensures, c.fact_count.type_inv)

pub loop-row-preserved : goal.loop-row-preserved
loop-row-preserved g c =
    let l = c.loop-row in
    let base = c.args.base.now in
    let written = g.F.VerdictFormat.row_text c.args.format.now in
    let done = map shown l.yielded in
    let rest = rows_left c.next.new.self in
    let r : Row = shown c.in-Some.row in
    let all = ap (λ rs. done ++ rs) (sym c.in-Some.ensures.steps) ∙ l.invariant.rows in
    let bytes = c.as_slice.result.now in
    let number : l.number + 1 ≡ 1 + length done = omega (arith, l.invariant.number, length-map l.yielded shown) in
    let row : IsRow written base.body.facts (1 + length done) r bytes = subst (λ n. IsRow written base.body.facts n r bytes) number
    (row_is base.body c.sheet-sheet.ensures.fits.rises.facts done rest r all written (g.met.F.VerdictFormat.names c.args.format.now) (l.number + 1) l.identifiers.before l.identifiers.count c.evidence.result bytes l.invariant.before l.invariant.count c.evidence.ensures (c.as_slice.ensures.value ∙ c.in-Ok.ensures)) in
    let passed = l.invariant.passed in
    let with_row : map shown (l.yielded ++ c.in-Some.row ∷ []) ≡ done ++ r ∷ [] = map_push shown l.yielded c.in-Some.row in
    record {
      rows = ap (λ rs. rs ++ rest) with_row ∙ left_behind done rest r (rows_of base.body.facts) all;
      number = omega (arith, l.invariant.number, length-append l.yielded (c.in-Some.row ∷ []));
      before = count_with_row l.identifiers.before base.body.facts done (r ∷ rest) rest r all refl l.invariant.before ∙ ap (λ rs. length (rows_facts rs)) (sym with_row);
      count = l.invariant.count;
      passed = record {
        text = passed.text ++ bytes;
        are = subst (λ rs. AreRowsFrom written base.body.facts 1 rs (passed.text ++ bytes)) (sym with_row)
            (rows_both written base.body.facts 1 done (r ∷ []) passed.text bytes passed.are (one_row written base.body.facts (1 + length done) r bytes row));
        passed = Passes-trans passed.passed c.in_ok-push.ensures.ok;
      };
      failures = c.in_ok-push.ensures.failures ∙ l.invariant.failures;
    }

pub returns-clause-ok : goal.returns-clause-ok
returns-clause-ok g c =
    let l = c.loop-row in
    let all = sym (append-nil (map shown l.yielded)) ∙ ap (λ rs. map shown l.yielded ++ rs) (sym c.in-None.ensures.steps.0) ∙ l.invariant.rows in
    record {
      text = l.invariant.passed.text;
      are = subst (λ rs. AreRowsFrom (g.F.VerdictFormat.row_text c.args.format.now) c.args.base.now.body.facts 1 rs l.invariant.passed.text) all l.invariant.passed.are;
      passed = l.invariant.passed.passed;
    }
