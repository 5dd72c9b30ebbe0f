use Rattle.std.proofs.Common.{[]}
use Rattle.oim_explain.proofs.Appended.{explained, unrepeated}
use Rattle.oim_explain.proofs.explained.explain_repeated.Goals as goal

pub returns : goal.returns
returns c =
    let added = c.in_ok-push_repeated.ensures.adds in
    let begun = c.new-lines.ensures in
    explained c.args.input c.args.bytes.now _ _ [] added.0 begun.input begun.text begun.faults added.1 (λ unique. unrepeated _ _ added.0 added.1 (c.in_ok-push_repeated.ensures.unique unique))
