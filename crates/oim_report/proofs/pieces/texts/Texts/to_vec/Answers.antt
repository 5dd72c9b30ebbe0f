use Rattle.std.proofs.Common.{rules, ◌≡◌, ◌<◌, ◌++◌, ◌∷◌, [], Some, None, length, slice_get, option_map, sym, ap, ◌∙◌}
use Rattle.oim_report.proofs.TextSpans.{some_within, take_next}
use Rattle.oim_report.proofs.pieces.texts.Texts.to_vec.Goals.{in-Some+in_ok-new+in_ok-push, in_default}
use Rattle.oim_report.proofs.pieces.texts.Texts.to_vec.Goals as goal

pub loop-index-preserved : goal.loop-index-preserved
loop-index-preserved c =
    let l = c.loop-index in
    let texts = c.args.self.now in
    let within : l.index < length texts = search rules in
    elim c.match-get.branch [
      | in-Some+in_ok-new+in_ok-push w ↦
          let here : slice_get texts l.index ≡ Some w.in-Some.text.now = sym c.get.ensures ∙ ap (option_map (λ t. t.now)) w.in-Some.is in
          let pushed : c.match-get.texts.items ≡ l.texts.items ++ w.in-Some.text.now ∷ [] = search rules in
          pushed ∙ ap (λ ts. ts ++ w.in-Some.text.now ∷ []) l.invariant ∙ sym (take_next texts l.index w.in-Some.text.now here)
      | in_default w ↦
          let none : slice_get texts l.index ≡ None = search rules in
          absurd (some_within texts l.index within none)
    ]
