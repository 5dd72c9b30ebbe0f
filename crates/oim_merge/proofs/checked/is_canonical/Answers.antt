use Rattle.oim_merge.proofs.Shared.{◌≡◌, [], ◌∷◌, sym, ap, subst, ◌∙◌, false≢true, ◌↔◌, IfOk, IsTrue, Body, body, union, Contents, body_of_both, canonical}
use Rattle.oim_merge.proofs.Histories.{canonical_rises}
use Rattle.oim_merge.proofs.checked.is_canonical.Goals as goal

pub returns-then-not-rise : goal.returns-then-not-rise
returns-then-not-rise c = (
  λ h. absurd (false≢true h),
  λ is.
      let rises = canonical_rises c.args.sheet.now c.args.bytes.now c.args.report.document c.requires.read is in
      sym c.if-not-rise.true ∙ c.rise.ensures.1 rises,
)

pub returns : goal.returns
returns c =
    let documents = c.args.report.document ∷ [] in
    let taken : union c.new-base.result.body (body documents) ≡ body documents =
    ap (λ (x : Contents). union x.body (body documents)) c.new-base.ensures ∙ sym (body_of_both [] documents) in
    let same = ap (λ (x : Contents). x.body) c.in_ok-absorb_report.ensures.ok ∙ taken in
    subst (λ (b : Body). IfOk c.is_text.result (λ is. IsTrue is ↔ (c.args.bytes.now ≡ canonical b))) same c.is_text.ensures
