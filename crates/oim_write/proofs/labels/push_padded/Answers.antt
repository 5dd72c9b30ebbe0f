use Rattle.oim_write.proofs.Shared.{◌≡◌, ◌+◌, ◌-◌, ◌++◌, ◌∷◌, [], ℕ, List, length, drop, replicate, string_bytes, append_assoc, ap, ◌∙◌, arith, replicate_more, padded}
use Rattle.oim_write.proofs.Padded.{padded_end, padded_is, pushed}
use Rattle.oim_write.proofs.labels.push_padded.Goals as goal

pub loop-preserved : goal.loop-preserved
loop-preserved c =
    let old = string_bytes c.args.text.now in
    let k : ℕ = c.loop.counter - length c.format-decimal.result.now in
    let next : k + 1 ≡ c.loop.counter + 1 - length c.format-decimal.result.now = omega arith in
    let zeros = c.in_ok-push_str.ensures.bytes ∙ ap (λ t. t ++ 48 ∷ []) c.loop.invariant.0
    ∙ append_assoc old (replicate k 48) (48 ∷ []) ∙ ap (λ t. old ++ t) (replicate_more k 48) in
    (zeros ∙ ap (λ n. old ++ replicate n 48) next, λ short. omega (arith, c.loop.invariant.1 short))

pub returns : goal.returns
returns c =
    let old : List ℕ = string_bytes c.args.text.now in
    let ds : List ℕ = c.format-decimal.result.now in
    let cut : List ℕ = c.range_from.result.now in
    let end = padded_end c.loop.counter (length ds) c.args.digits c.loop-test.false c.loop.auto.counter-end c.loop.invariant.1 in
    let last : cut ≡ drop (length ds - c.args.digits) ds = c.range_from.ensures.value ∙ ap (λ k. drop k ds) c.saturating_sub.ensures in
    pushed c.push_str-2.result (string_bytes c.push_str-2.new.self) (string_bytes c.loop.text) cut (old ++ padded c.args.digits c.args.number) c.push_str-2.ensures.bytes
    (ap (λ t. t ++ cut) c.loop.invariant.0
    ∙ append_assoc old (replicate (c.loop.counter - length ds) 48) cut
    ∙ ap (λ t. old ++ t) (padded_is c.args.digits c.args.number c.loop.counter ds cut (omega arith) c.format-decimal.ensures.text end last))
