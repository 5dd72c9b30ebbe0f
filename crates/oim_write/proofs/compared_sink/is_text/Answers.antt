use Rattle.oim_write.proofs.Shared.{◌≡◌, ◌≤◌, ℕ, not, List, [], ◌++◌, None, take, length, sym, ap, subst, ◌∙◌, append-nil, false≢true, canonical, taken, failures_after_fault}
use Rattle.oim_write.proofs.Compared.{failed_after, none_if, other_text, told_text, whole_if}
use Rattle.oim_write.proofs.compared_sink.is_text.Goals as goal

pub returns-then-is_none : goal.returns-then-is_none
returns-then-is_none c =
    let new = c.write_to.new.out in
    let bytes = c.args.bytes.now in
    let told = told_text new.text.now bytes (canonical c.args.base.now.body) new.equal new.difference c.in-Ok.ensures.ok in
    let none : new.difference ≡ None = none_if new.difference c.is_none.result c.is_none.ensures c.if-is_none.true in
    let front : take new.equal bytes ≡ canonical c.args.base.now.body = sym (ap (take new.equal) told.0) ∙ ap (λ d. taken new.text.now new.equal d) (sym none) ∙ told.1 in
    whole_if bytes (canonical c.args.base.now.body) new.equal (subst (λ (t : List ℕ). new.equal ≤ length t) told.0 new.within) front

pub returns-else-is_none : goal.returns-else-is_none
returns-else-is_none c =
    let new = c.write_to.new.out in
    let told = told_text new.text.now c.args.bytes.now (canonical c.args.base.now.body) new.equal new.difference c.in-Ok.ensures.ok in
    let all = sym told.1 ∙ sym (append-nil (taken new.text.now new.equal new.difference)) in (
      λ h. absurd (false≢true (sym c.if-is_none.false ∙ h)),
      λ same. absurd (other_text new.text.now c.args.bytes.now (canonical c.args.base.now.body) [] new.equal new.difference new.within new.differs (c.is_none.ensures ∙ ap not c.if-is_none.false) told.0 all same),
    )

pub returns-in-Err-Device : goal.returns-in-Err-Device
returns-in-Err-Device c =
    let new = c.write_to.new.out in
    let stopped = c.in-Err-Device.ensures.err in
    let told = told_text new.text.now c.args.bytes.now stopped.front new.equal new.difference stopped.appended in
    let all = stopped.whole ∙ ap (λ (front : List ℕ). front ++ stopped.rest) (sym told.1) in (
      λ h. absurd (false≢true h),
      λ same. absurd (other_text new.text.now c.args.bytes.now (canonical c.args.base.now.body) stopped.rest new.equal new.difference new.within new.differs (failed_after new.difference (c.in-Err-Device.ensures.failures ∙ ap (λ f. failures_after_fault f 0) c.in-Err-Device.field-0-is)) told.0 all same),
    )
