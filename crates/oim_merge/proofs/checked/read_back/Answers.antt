use Rattle.oim_merge.proofs.Shared.{◌≡◌, ◌≢◌, [], ◌∷◌, Ok, ⊎_elim, rules, sym, ap, ◌∙◌, Refusal, outcome, body, union, Contents, canonical}
use Rattle.oim_names.specs.declared.reason.Reason.TheVariants.{OutOfMemory}
use Rattle.oim_merge.proofs.Histories.{taken_back}
use Rattle.oim_merge.proofs.ReadsBack.{canonical_reads_back}
use Rattle.oim_merge.proofs.checked.read_back.Goals as goal

pub returns : goal.returns
returns c =
    let base = c.args.base.now in
    let document = c.in-Ok.report.document in
    let new = c.new-back.result in
    let read : outcome base.sheet (canonical base.body) ≡ Ok document = (λ i. outcome (sym c.sheet-sheet.ensures.sheet i) (sym (c.as_bytes.ensures ∙ c.in_ok-text.ensures) i)) ∙ c.in-Ok.ensures.ok in
    let same_sheet : new.sheet ≡ base.sheet = ap (λ (x : Contents). x.sheet) c.new-back.ensures ∙ c.sheet-sheet.ensures.sheet in
    let same_body : union new.body (body (document ∷ [])) ≡ base.body =
    ap (λ (x : Contents). union x.body (body (document ∷ []))) c.new-back.ensures ∙ taken_back base.sheet base.body document c.sheet-sheet.ensures.fits read in
    c.in_ok-take.ensures.ok ∙ (λ i. record { sheet = same_sheet i; body = same_body i })

pub unreachable-requires : goal.unreachable-requires
unreachable-requires c =
    let base = c.args.base.now in
    let accepted = (λ i. outcome (c.sheet-sheet.ensures.sheet i) ((c.as_bytes.ensures ∙ c.in_ok-text.ensures) i)) ∙ canonical_reads_back base.sheet base.body c.sheet-sheet.ensures.fits in
    let other : c.in-Err.refusal.reason ≢ OutOfMemory = search rules in
    ⊎_elim (λ memory. other (ap (λ (r : Refusal). r.reason) memory)) (λ refused. let no = sym accepted ∙ refused in cc) c.in-Err.ensures.errors
