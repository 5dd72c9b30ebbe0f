use Rattle.fact_base.proofs.Shared.{length, sym, ap, ◌∙◌, rows_of, length-map, Contents, row_of}
use Rattle.fact_base.proofs.base.Base.row_count.Goals as goal
use Rattle.fact_base.proofs.Walks.{rows_stored}

pub returns : goal.returns
returns c =
    let rows = rows_stored c.self.inside.sheet.now c.self.inside.entries c.self.inside.references c.self.invariant in
    c.len.ensures.count ∙ sym (length-map c.self.inside.entries row_of) ∙ ap length (sym rows) ∙ ap (λ (b : Contents). length (rows_of b.body.facts)) c.self.view_is
