use Rattle.oim_report.proofs.Shared.{◌≡◌, ◌∙◌, rules, result_err, view}
use Rattle.oim_report.proofs.DocumentHolds.{document_least, shape_refusal, shape_same}
use Rattle.oim_report.proofs.document.info.read_info.Goals as goal

pub returns-in_err-references-clause-refused : goal.returns-in_err-references-clause-refused
returns-in_err-references-clause-refused c =
    let shape : result_err c.check_shape.result ≡ shape_refusal (view c.args.tree.now) = c.check_shape.ensures ∙ shape_same (view c.args.tree.now) in
    rw (← document_least (view c.args.tree.now)) (search (rules, shape))

pub returns-in_err-level-clause-refused : goal.returns-in_err-level-clause-refused
returns-in_err-level-clause-refused c =
    let shape : result_err c.check_shape.result ≡ shape_refusal (view c.args.tree.now) = c.check_shape.ensures ∙ shape_same (view c.args.tree.now) in
    rw (← document_least (view c.args.tree.now)) (search (rules, shape))

pub returns-clause-accepted : goal.returns-clause-accepted
returns-clause-accepted c =
    let shape : result_err c.check_shape.result ≡ shape_refusal (view c.args.tree.now) = c.check_shape.ensures ∙ shape_same (view c.args.tree.now) in
    rw (← document_least (view c.args.tree.now)) (search (rules, shape))
