use Rattle.oim_report.proofs.Shared.{◌≡◌, ◌<◌, ◌++◌, ◌∷◌, [], length, slice_get, Some, take, refl, sym, ap, subst, ◌∙◌, arith, rules, take_all, false≢true, take_more, same_Some, slice_get-get_or, name_cmp}
use Rattle.std.specs.FinMap as map
use Rattle.oim_report.proofs.Ranks.{same_entries}
use Rattle.oim_report.proofs.sheet.ranked_names.RankedNames.same_as.Goals as goal

pub returns-then-names-others : goal.returns-then-names-others
returns-then-names-others g c = (
  λ t. absurd (false≢true t),
  λ same.
      let all = same_entries c.self.inside.names.items c.other.inside.names.items c.args.self.now c.args.other.now c.self.invariant.0 c.other.invariant.0 c.self.view_is c.other.view_is same in
      let long = ap length (c.as_slice-names.ensures.value ∙ all ∙ sym c.as_slice-others.ensures.value) in
      absurd (search (rules, long)),
)

pub returns-then-not-is_same : goal.returns-then-not-is_same
returns-then-not-is_same g c = (
  λ t. absurd (false≢true t),
  λ same.
      let all = same_entries c.self.inside.names.items c.other.inside.names.items c.args.self.now c.args.other.now c.self.invariant.0 c.other.invariant.0 c.self.view_is c.other.view_is same in
      let lists = c.as_slice-names.ensures.value ∙ all ∙ sym c.as_slice-others.ensures.value in
      let xs = c.as_slice-names.result.now in
      let ys = c.as_slice-others.result.now in
      let i = c.loop-i.i in
      let e = c.index-names-i.result in
      let o = c.index-others-i.result in
      let within : i < length xs = omega arith in
      let there : i < length ys = subst (λ l. i < length l) lists within in
      let here : e ≡ o = same_Some e o (ap Some c.index-names-i.is ∙ sym (slice_get-get_or xs i e within) ∙ ap (λ l. slice_get l i) lists ∙ slice_get-get_or ys i o there ∙ ap Some (sym c.index-others-i.is)) in
      let is = c.is_same.ensures.1 here in
      absurd (search (rules, is)),
)

pub loop-i-preserved : goal.loop-i-preserved
loop-i-preserved g c =
    let l = c.loop-i in
    let xs = c.as_slice-names.result.now in
    let ys = c.as_slice-others.result.now in
    let e = c.index-names-i.result in
    let o = c.index-others-i.result in
    let here : e ≡ o = c.is_same.ensures.0 (search rules) in
    let within : l.i < length xs = omega arith in
    let long : length xs ≡ length ys = search rules in
    take_more xs l.i e within ∙ ap (λ x. take l.i xs ++ x ∷ []) (sym c.index-names-i.is) ∙ (λ k. l.invariant k ++ here k ∷ []) ∙ ap (λ x. take l.i ys ++ x ∷ []) c.index-others-i.is ∙ sym (take_more ys l.i o (omega (arith, within, long)))

pub returns : goal.returns
returns g c =
    let l = c.loop-i in
    let xs = c.as_slice-names.result.now in
    let ys = c.as_slice-others.result.now in
    let long : length xs ≡ length ys = search rules in
    let all : xs ≡ ys = sym (take_all l.i xs (omega (arith, c.loop-i-test.false))) ∙ l.invariant ∙ take_all l.i ys (omega (arith, c.loop-i-test.false, long)) in
    (λ _. sym c.self.view_is ∙ ap (map.from_entries {R = name_cmp}) (sym c.as_slice-names.ensures.value ∙ all ∙ c.as_slice-others.ensures.value) ∙ c.other.view_is, λ _. refl)
