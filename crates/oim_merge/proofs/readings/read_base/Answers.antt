use Rattle.oim_merge.proofs.Shared.{◌≡◌, Ok, sym, ap, ◌∙◌, MatchResult-at_ok, outcome, read_as}
use Rattle.oim_merge.proofs.readings.read_base.Goals as goal

pub returns-in-Ok : goal.returns-in-Ok
returns-in-Ok c =
    let sheet = c.args.sheet.now in
    let read = MatchResult-at_ok _ _ _ c.in-Ok.is c.in_ok-report.ensures.read in
    let said : outcome sheet c.args.bytes.now ≡ Ok c.in-Ok.report.document = ap (λ s. outcome s c.args.bytes.now) (sym c.new.ensures) ∙ read.0 in
    ap Ok c.in_ok-base_of-in-Ok.ensures ∙ ap (read_as sheet) (sym said)
