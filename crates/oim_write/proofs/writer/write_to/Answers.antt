use Rattle.oim_write.proofs.Shared.{◌≡◌, ℕ, List, append-nil, Option, Result, Ok, Err, refl, subst, ◌∙◌, Appends, IfErr, OnOk, err_from_is_err_and, AppendsFront, written_of, Breaks, Pending, nothing_yet}
use Rattle.oim_write.proofs.PieceTexts.{canonical_of}
use Rattle.oim_write.proofs.Passing.{Breaks-more, Breaks-trans, Passes-trans, Appends-passed, AppendsFront-broken, AppendsFront-flushed}
use Rattle.oim_write.proofs.writer.write_to.Goals as goal

both_ok : {T E P Q S : Type 0} (r : Result T E) → (P → Q → S) → OnOk r P → OnOk r Q → OnOk r S
both_ok (Ok x) gives p q = gives p q
both_ok (Err e) gives p q = tt

broken : {a b : Option (List ℕ)} {p : Pending} {text whole : List ℕ} {written : ℕ} → p ≡ nothing_yet → text ≡ whole → Breaks a b p text written → AppendsFront a b whole written
broken {a} {b} {written = written} new is breaks = subst (λ t. AppendsFront a b t written) is (AppendsFront-broken new breaks)

pub returns-in_err-push-clause-err : goal.returns-in_err-push-clause-err
returns-in_err-push-clause-err g c =
    let p = err_from_is_err_and c.from_residual-in_err-push.result c.from_residual-in_err-push.ensures.1 in rw (p.1, p.2)
    (broken c.in_ok-buffer.ensures (canonical_of _ _ _ _ _ _ c.sheet-sheet.ensures.fits (c.deref.ensures.value ∙ c.in_ok-head.ensures) c.level.ensures.level c.in_ok-table.ensures refl) (Breaks-more _ c.in_err-push.ensures.err))

pub returns-in_err-write_references-clause-err : goal.returns-in_err-write_references-clause-err
returns-in_err-write_references-clause-err g c =
    let p = err_from_is_err_and c.from_residual-in_err-write_references.result c.from_residual-in_err-write_references.ensures.1 in rw (p.1, p.2)
    (broken c.in_ok-buffer.ensures (canonical_of _ _ _ _ _ _ c.sheet-sheet.ensures.fits (c.deref.ensures.value ∙ c.in_ok-head.ensures) c.level.ensures.level c.in_ok-table.ensures c.taxonomy.ensures) (Breaks-trans c.in_ok-push.ensures.ok (Breaks-more _ c.in_err-write_references.ensures.err)))

pub returns-in_err-push-2-clause-err : goal.returns-in_err-push-2-clause-err
returns-in_err-push-2-clause-err g c =
    let p = err_from_is_err_and c.from_residual-in_err-push-2.result c.from_residual-in_err-push-2.ensures.1 in rw (p.1, p.2)
    (broken c.in_ok-buffer.ensures (canonical_of _ _ _ _ _ _ c.sheet-sheet.ensures.fits (c.deref.ensures.value ∙ c.in_ok-head.ensures) c.level.ensures.level c.in_ok-table.ensures c.taxonomy.ensures) (Breaks-trans c.in_ok-push.ensures.ok (Breaks-trans c.in_ok-write_references.ensures.ok (Breaks-more _ c.in_err-push-2.ensures.err))))

pub returns-in_err-write_facts-clause-err : goal.returns-in_err-write_facts-clause-err
returns-in_err-write_facts-clause-err g c =
    let p = err_from_is_err_and c.from_residual-in_err-write_facts.result c.from_residual-in_err-write_facts.ensures.1 in rw (p.1, p.2)
    (broken c.in_ok-buffer.ensures (canonical_of _ _ _ _ _ _ c.sheet-sheet.ensures.fits (c.deref.ensures.value ∙ c.in_ok-head.ensures) c.level.ensures.level c.in_ok-table.ensures c.taxonomy.ensures) (Breaks-trans c.in_ok-push.ensures.ok (Breaks-trans c.in_ok-write_references.ensures.ok (Breaks-trans c.in_ok-push-2.ensures.ok (Breaks-more _ c.in_err-write_facts.ensures.err)))))

pub returns-in_err-push-3-clause-err : goal.returns-in_err-push-3-clause-err
returns-in_err-push-3-clause-err g c =
    let p = err_from_is_err_and c.from_residual-in_err-push-3.result c.from_residual-in_err-push-3.ensures.1 in rw (p.1, p.2)
    (broken c.in_ok-buffer.ensures (canonical_of _ _ _ _ _ _ c.sheet-sheet.ensures.fits (c.deref.ensures.value ∙ c.in_ok-head.ensures) c.level.ensures.level c.in_ok-table.ensures c.taxonomy.ensures) (Breaks-trans c.in_ok-push.ensures.ok (Breaks-trans c.in_ok-write_references.ensures.ok (Breaks-trans c.in_ok-push-2.ensures.ok (Breaks-trans c.in_ok-write_facts.ensures.ok c.in_err-push-3.ensures.err)))))

pub returns-clause-ok : goal.returns-clause-ok
returns-clause-ok g c =
    let told = g.S.Sink.told in
    let pushed = Passes-trans c.in_ok-push.ensures.ok (Passes-trans c.in_ok-write_references.ensures.ok (Passes-trans c.in_ok-push-2.ensures.ok (Passes-trans c.in_ok-write_facts.ensures.ok c.in_ok-push-3.ensures.ok))) in
    both_ok c.flush.result
    (λ flushed none. subst (Appends (told c.args.out.now) (told c.flush.new.sink)) (append-nil _ ∙ canonical_of _ _ _ _ _ _ c.sheet-sheet.ensures.fits (c.deref.ensures.value ∙ c.in_ok-head.ensures) c.level.ensures.level c.in_ok-table.ensures c.taxonomy.ensures)
    (Appends-passed c.in_ok-buffer.ensures (Passes-trans pushed flushed) none))
    c.flush.ensures.ok c.flush.ensures.empty

pub returns-clause-err : goal.returns-clause-err
returns-clause-err g c =
    let told = g.S.Sink.told in
    let pushed = Passes-trans c.in_ok-push.ensures.ok (Passes-trans c.in_ok-write_references.ensures.ok (Passes-trans c.in_ok-push-2.ensures.ok (Passes-trans c.in_ok-write_facts.ensures.ok c.in_ok-push-3.ensures.ok))) in
    subst (λ text. IfErr c.flush.result (λ fault. AppendsFront (told c.args.out.now) (told c.flush.new.sink) text (written_of fault))) (canonical_of _ _ _ _ _ _ c.sheet-sheet.ensures.fits (c.deref.ensures.value ∙ c.in_ok-head.ensures) c.level.ensures.level c.in_ok-table.ensures c.taxonomy.ensures)
    (AppendsFront-flushed (told c.flush.new.sink) c.flush.result c.in_ok-buffer.ensures pushed c.flush.ensures.err)
