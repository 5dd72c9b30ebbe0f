use Rattle.oim_merge.proofs.Shared.{[], sym, subst, replicate, AllZip, base_of, IsCurrent, AreReadings}
use Rattle.oim_merge.proofs.StoredTexts.{none_is_current, none_is_kept}
use Rattle.oim_merge.proofs.replicas.Replicas.new.Goals as goal

pub returns-clause-kept : goal.returns-clause-kept
returns-clause-kept c =
    let sheet = c.args.sheet.now in
    let reports = c.args.reports.now in
    let texts = c.new-2.result.texts.items in
    let l = c.loop-made in
    record {
      taken = subst (AreReadings sheet reports) (sym c.in_ok-none_read.ensures) (none_is_kept sheet reports);
      held = c.new-2.ensures.held sheet;
      current = subst (λ bases. AllZip (IsCurrent texts) bases l.current.items) (sym l.invariant.bases)
          (subst (AllZip (IsCurrent texts) (replicate l._made (base_of sheet []))) (sym l.invariant.current) (none_is_current texts l._made (base_of sheet [])));
    }
