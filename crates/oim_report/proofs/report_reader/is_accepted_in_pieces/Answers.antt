use Rattle.oim_report.proofs.Shared.{rules, ◌≡◌, Ok, ap, sym, ◌∙◌, outcome}
use Rattle.oim_report.proofs.report_reader.is_accepted_in_pieces.Goals as goal

pub returns-in-Ok-Ok : goal.returns-in-Ok-Ok
returns-in-Ok-Ok c _ =
    let said : outcome c.stopping.result c.args.bytes.now ≡ Ok c.in-Ok-Ok._read.0.document = search rules in
    (c.in-Ok-Ok._read.0.document, ap (λ s. outcome s c.args.bytes.now) (sym c.stopping.ensures) ∙ said)
