use Rattle.oim_report.proofs.Shared.{◌<◌, ◌≤◌, length, sym, ◌∙◌, inl, inr, ⊎_elim, arith, err_from_is_err_and}
use Rattle.oim_report.proofs.ReadInTurn.{kept_all, kept_stops, ends}
use Rattle.oim_report.proofs.document.references.read_taxonomy.Goals as goal

pub returns-in_err-kept-clause-errors : goal.returns-in_err-kept-clause-errors
returns-in_err-kept-clause-errors c =
    let within : c.loop-item.item-index < length c.deref-item-items.result.now = omega arith in
    let p = err_from_is_err_and c.from_residual.result c.from_residual.ensures.1 in
    rw (p.1, p.2) (⊎_elim inl (λ refused. inr (refused.0, sym (kept_all _ _) ∙ sym c.loop-item.invariant ∙ kept_stops _ _ _ _ c.item-item.result within c.item-item.is refused.1)) c.in_err-kept.ensures.errors)

pub returns-clause-ok : goal.returns-clause-ok
returns-clause-ok c =
    let past : length c.deref-item-items.result.now ≤ c.loop-item.item-index = omega arith in
    sym (kept_all _ _) ∙ sym c.loop-item.invariant ∙ ends _ _ _ _ past
