use Rattle.row_formats.proofs.Shared.{◌≡◌, ◌≢◌, sym, ap, subst, ◌∙◌, fields_of, WriterBuilder, record_text, rfc_4180}
use Rattle.csv.specs.Writing.{with_terminator}
use Rattle.csv.specs.declared.parser.Terminator.TheVariants as term
use Rattle.csv.specs.declared.writer.QuoteStyle.TheVariants as style
use Rattle.row_formats.proofs.csv_record.text_of_record.Goals as goal

pub returns-in-Ok-into_inner : goal.returns-in-Ok-into_inner
returns-in-Ok-into_inner c =
    let from = c.from_writer-writer.ensures in
    let cfg : c.from_writer-writer.result.cfg ≡ rfc_4180 = from.cfg ∙ c.terminator.ensures ∙ ap (λ b. with_terminator b term.CRLF) c.new.ensures in
    let plain : c.from_writer-writer.result.cfg.style ≢ style.NonNumeric = subst (λ (b : WriterBuilder). b.style ≢ style.NonNumeric) (sym cfg) (λ e. cc e) in
    let h = c.in-Ok.ensures.bytes from.fields from.wrote plain in
    let text = rw (cfg, from.wtr, c.new-2.ensures.items, from.empty) at h in
    c.in-Ok-into_inner.ensures.ok ∙ text ∙ ap (λ r. record_text (fields_of r)) c.as_byte_record.ensures
