use Rattle.oim_merge.proofs.Shared.{◌≡◌, ◌∷◌, ◌++◌, List, [], map, sym, ap, ◌∙◌, append-nil, append_assoc, map_push, flat_map-append, Row, rows_left, shown, row_facts, rows_facts, rows_facts_are}
use Rattle.oim_merge.proofs.fact_list.facts_of.Goals as goal

pub loop-row-preserved : goal.loop-row-preserved
loop-row-preserved c =
    let l = c.loop-row in
    let row : Row = shown c.in-Some.row in
    let done : List Row = map shown l.yielded in
    let rest : List Row = rows_left c.next.new.self in
    let with_row : map shown (l.yielded ++ c.in-Some.row ∷ []) ≡ done ++ row ∷ [] = map_push shown l.yielded c.in-Some.row in
    record {
      rows = ap (λ rs. rs ++ rest) with_row ∙ append_assoc done (row ∷ []) rest ∙ ap (λ rs. done ++ rs) (sym c.in-Some.ensures.steps) ∙ l.invariant.rows;
      facts = c.in_ok-add_row.ensures
          ∙ ap (λ fs. fs ++ row_facts row) l.invariant.facts
          ∙ ap (λ fs. rows_facts done ++ fs) (sym (append-nil (row_facts row)))
          ∙ sym (flat_map-append row_facts done (row ∷ []))
          ∙ ap rows_facts (sym with_row);
    }

pub returns : goal.returns
returns c =
    let l = c.loop-row in
    let all = sym (append-nil (map shown l.yielded)) ∙ ap (λ rs. map shown l.yielded ++ rs) (sym c.in-None.ensures.steps.0) ∙ l.invariant.rows in
    l.invariant.facts ∙ ap rows_facts all ∙ rows_facts_are c.args.base.now.body.facts
