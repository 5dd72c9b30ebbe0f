use Rattle.oim_report.proofs.Shared.{rules, ◌≡◌, ◌++◌, ◌∷◌, [], ℕ, string_bytes, subst, sym, ap, ◌∙◌, AreTextSpans, texts_at}
use Rattle.oim_report.proofs.TextSpans.{spans_push, spans_stay, texts_push}
use Rattle.oim_report.proofs.pieces.texts.Texts.push.Goals as goal

pub invariant_of-self-in_err-push : goal.invariant_of-self-in_err-push
invariant_of-self-in_err-push c =
    let buffer = string_bytes c.self.inside.buffer in
    let spans = c.self.inside.spans.items in
    let bytes : string_bytes c.push_str.new.self ≡ buffer ++ c.args.text.now = (search rules) in
    let same : c.push.new.self.items ≡ spans = (search rules) in
    subst (λ b. AreTextSpans b c.push.new.self.items) (sym bytes) (subst (AreTextSpans (buffer ++ c.args.text.now)) (sym same) (spans_stay buffer c.args.text.now spans c.utf8.text c.self.invariant))

pub invariant_of-self-2 : goal.invariant_of-self-2
invariant_of-self-2 c =
    let buffer = string_bytes c.self.inside.buffer in
    let spans = c.self.inside.spans.items in
    let span : ℕ × ℕ = (c.len-start.result, c.len.result) in
    let bytes : string_bytes c.push_str.new.self ≡ buffer ++ c.args.text.now = (search rules) in
    let pushed : c.push.new.self.items ≡ spans ++ span ∷ [] = (search rules) in
    subst (λ b. AreTextSpans b c.push.new.self.items) (sym bytes) (subst (AreTextSpans (buffer ++ c.args.text.now)) (sym pushed) (spans_push buffer c.args.text.now spans span c.utf8.text c.self.invariant (search rules) (search rules)))

pub returns : goal.returns
returns c =
    let buffer = string_bytes c.self.inside.buffer in
    let spans = c.self.inside.spans.items in
    let span : ℕ × ℕ = (c.len-start.result, c.len.result) in
    let bytes : string_bytes c.push_str.new.self ≡ buffer ++ c.args.text.now = (search rules) in
    let pushed : c.push.new.self.items ≡ spans ++ span ∷ [] = (search rules) in
    (λ i. texts_at (bytes i) (pushed i)) ∙ texts_push buffer c.args.text.now spans span c.utf8.text c.self.invariant (search rules) (search rules) ∙ ap (λ ts. ts ++ c.args.text.now ∷ []) c.self.view_is
