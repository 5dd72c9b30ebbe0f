use Rattle.oim_write.proofs.Shared.{◌≡◌, ◌++◌, string_bytes, sym, ap, ◌∙◌, rows_left, shown, first_holds, others_hold, QName, prefix}
use Rattle.oim_write.proofs.concept_texts.ConceptTexts.find_prefix.Goals as goal

pub returns-then-self-gt0-clause-prefix : goal.returns-then-self-gt0-clause-prefix
returns-then-self-gt0-clause-prefix c =
    let text = string_bytes c.args.self.now.prefix in
    sym (first_holds (λ u. prefix c.args.table.now u ≡ text) c.args.self.now.known (shown c.args.row) (rows_left c.args.rows.now) c.if-self-gt0.true c.requires)

pub returns-then-self-gt0-clause-known : goal.returns-then-self-gt0-clause-known
returns-then-self-gt0-clause-known c =
    let text = string_bytes c.args.self.now.prefix in
    others_hold (λ u. prefix c.args.table.now u ≡ text) c.args.self.now.known (shown c.args.row) (rows_left c.args.rows.now) c.if-self-gt0.true c.requires

pub returns-clause-prefix : goal.returns-clause-prefix
returns-clause-prefix c =
    let us = c.args.table.now in
    c.in_ok-push_prefix.ensures ∙ ap (λ t. t ++ prefix us c.uri-uri.result.now) c.clear.ensures.bytes ∙ ap (prefix us) (c.uri-uri.ensures ∙ ap (λ (n : QName). n.uri) c.concept.ensures)

pub returns-clause-known : goal.returns-clause-known
returns-clause-known c k d within =
    let us = c.args.table.now in
    let spelled = c.in_ok-push_prefix.ensures ∙ ap (λ t. t ++ prefix us c.uri-uri.result.now) c.clear.ensures.bytes in
    ap (prefix us) (c.uri_run-self.ensures.uris k d within) ∙ sym spelled
