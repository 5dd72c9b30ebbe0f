use Rattle.oim_report.proofs.Shared.{◌≡◌, Some, length, string_bytes, slice_get, refl, subst, ap, ◌∙◌, slice_get_read, GetsRange}
use Rattle.oim_report.proofs.TextSpans.{text_got}
use Rattle.oim_report.proofs.pieces.texts.Texts.get.Goals as goal

pub returns : goal.returns
returns c =
    let buffer = string_bytes c.self.inside.buffer in
    let spans = c.self.inside.spans.items in
    let span = c.in_ok-start.field-0.now in
    let found = rw c.deref.ensures.value at c.in_ok-start.ensures.lookup.3 in
    let here : slice_get spans c.args.index ≡ Some span = slice_get_read spans (length spans) c.args.index span refl found.0 (found.1 span) in
    let gets = subst (λ b. GetsRange b span.0 span.1 c.get-2.result) c.as_str.ensures.value c.get-2.ensures.cases in
    text_got buffer spans c.args.index span c.get-2.result c.self.invariant here gets ∙ ap (λ ts. slice_get ts c.args.index) c.self.view_is
