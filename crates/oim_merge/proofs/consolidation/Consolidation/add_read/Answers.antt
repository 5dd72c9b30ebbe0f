use Rattle.oim_merge.proofs.Shared.{◌≡◌, ◌+◌, [], ◌∷◌, Ok, Err, refl, ap, ◌∙◌, outcome, body, union, with_nothing, Added, with_report}
use Rattle.oim_merge.proofs.Reports.{accepted_step, refused_step}
use Rattle.oim_merge.proofs.consolidation.Consolidation.add_read.Goals as goal
use Rattle.oim_merge.proofs.consolidation.Consolidation.add_read.Goals.{in-Ok+in_ok-add-in-Ok, in-Err+in_ok-push-in-Err}

pub returns-clause-ok : goal.returns-clause-ok
returns-clause-ok c = λ bytes is.
    let inside = c.self.inside in
    let old = inside.gathered.body in
    elim c.match-read.branch [
      | in-Ok+in_ok-add-in-Ok w ↦
          let d = w.in-Ok.report.document in
          let read : outcome inside.gathered.sheet bytes ≡ Ok d = ap (λ s. outcome s bytes) (ap (λ (a : Added). a.sheet) c.self.view_is) ∙ (rw w.in-Ok.is at is) in
          let added : w.add.new.self ≡ record { sheet = inside.gathered.sheet; body = union old (body (d ∷ [])) } = w.in_ok-add-in-Ok.ensures.ok in
          rw w.self-inside-is
          ((λ i. record { sheet = (added i).sheet; body = (added i).body; refusals = inside.refusals; reports = inside.reports + 1 })
          ∙ accepted_step inside.gathered.sheet bytes d old (union old (body (d ∷ []))) inside.refusals inside.reports read refl ∙ ap (λ a. with_report a bytes) c.self.view_is)
      | in-Err+in_ok-push-in-Err w ↦
          let read : outcome inside.gathered.sheet bytes ≡ Err w.in-Err.refusal = ap (λ s. outcome s bytes) (ap (λ (a : Added). a.sheet) c.self.view_is) ∙ (rw w.in-Err.is at is) in
          rw w.self-inside-is
          (refused_step inside.gathered.sheet bytes w.in-Err.refusal old inside.refusals w.push.new.self inside.reports read (with_nothing old c.sheet-sheet.ensures.fits.rises) w.in_ok-push-in-Err.ensures.ok ∙ ap (λ a. with_report a bytes) c.self.view_is)
    ]
