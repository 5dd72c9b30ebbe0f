use Rattle.oim_explain.specs.Explained.{printed_faults}
use Rattle.oim_explain.proofs.Appended.{explained}
use Rattle.oim_explain.proofs.explained.explain.Goals as goal

pub returns : goal.returns
returns c =
    let added = c.in_ok-push_all.ensures in
    let begun = c.new-lines.ensures in
    explained c.args.input c.args.bytes.now _ _ (printed_faults c.args.names.now.sheet.now c.args.bytes.now) added.0 begun.input begun.text begun.faults added.1 added.2
