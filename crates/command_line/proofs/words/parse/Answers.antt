use Rattle.std.proofs.Common.{◌∙◌, Some, ap, inr, map, rules, subst, sym}
use Rattle.std.specs.Option.{option_map}
use Rattle.clap.specs.Words.{App, HasKind, fault_of, is_simple, is_simple_and_free, subcommand_of}
use Rattle.clap.proofs.TakesLemmas.{passed_up}
use Rattle.command_line.specs.Words.{asked, asked_of}
use Rattle.command_line.proofs.Parsed.{free, helped, none_asked, refused, simple, some_asked}
use Rattle.command_line.proofs.words.parse.Goals as goal

pub returns-in_err-matches-clause-err : goal.returns-in_err-matches-clause-err
returns-in_err-matches-clause-err g c =
    let made = c.in_ok-program.ensures in
    let words = map g.W.AsStr.text c.args.words.now in
    let kinds = c.in_err-matches.ensures.kinds (ap is_simple_and_free made.2.0 ∙ free made.0) in
    passed_up c.from_residual-in_err-matches.result c.in_err-matches.field-0.0 _ (search rules)
    (refused made.0 made.1 words c.in_err-matches.field-0.0 (subst (λ (a : App). HasKind (fault_of a words) c.in_err-matches.field-0.0) made.2.0 kinds))

pub returns-in_err-matches-clause-help : goal.returns-in_err-matches-clause-help
returns-in_err-matches-clause-help g c =
    let made = c.in_ok-program.ensures in
    let words = map g.W.AsStr.text c.args.words.now in
    let kinds = c.in_err-matches.ensures.kinds (ap is_simple_and_free made.2.0 ∙ free made.0) in
    passed_up c.from_residual-in_err-matches.result c.in_err-matches.field-0.0 _ (search rules)
    (helped made.0 made.1 words c.in_err-matches.field-0.0 (subst (λ (a : App). HasKind (fault_of a words) c.in_err-matches.field-0.0) made.2.0 kinds))

pub returns-in-Some-clause-ok : goal.returns-in-Some-clause-ok
returns-in-Some-clause-ok g c =
    let made = c.in_ok-program.ensures in
    let words = map g.W.AsStr.text c.args.words.now in
    let kinds = c.in_ok-matches.ensures.kinds (ap is_simple_and_free made.2.0 ∙ free made.0) in
    let matches = c.in_ok-matches.ensures.matches (ap is_simple made.2.0 ∙ simple made.0) in
    some_asked made.0 made.1 words (asked_of c.in-Some.args) (sym (ap (λ (a : App). fault_of a words) made.2.0) ∙ kinds)
    (ap (option_map asked_of) (sym c.in-Some.is) ∙ c.in_ok-args.ensures ∙ ap asked (matches.1 ∙ ap (λ (a : App). subcommand_of a words) made.2.0))

pub returns-clause-err : goal.returns-clause-err
returns-clause-err g c =
    let made = c.in_ok-program.ensures in
    let words = map g.W.AsStr.text c.args.words.now in
    let kinds = c.in_ok-matches.ensures.kinds (ap is_simple_and_free made.2.0 ∙ free made.0) in
    let matches = c.in_ok-matches.ensures.matches (ap is_simple made.2.0 ∙ simple made.0) in
    inr (inr (none_asked made.0 made.1 words (sym (ap (λ (a : App). fault_of a words) made.2.0) ∙ kinds)
    (ap (option_map asked_of) (sym c.in-None.is) ∙ c.in_ok-args.ensures ∙ ap asked (matches.1 ∙ ap (λ (a : App). subcommand_of a words) made.2.0))))
