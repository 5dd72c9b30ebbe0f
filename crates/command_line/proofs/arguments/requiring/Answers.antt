use Rattle.std.proofs.Common.{◌∙◌, ◌≡◌, ◌&&◌, ◌++◌, ◌∷◌, [], Bool, List, true, false, ap, sym, length, refl}
use Rattle.std.proofs.lemmas.Result.{IfOk-weaker}
use Rattle.std.proofs.Math.Dec.{eqb-suc-zero}
use Rattle.std.specs.Prelude.{not}
use Rattle.clap.specs.Words.{rule_of}
use Rattle.clap.specs.Walk.{is_empty}
use Rattle.command_line.specs.Arguments.{beside}
use Rattle.command_line.proofs.arguments.requiring.Goals as goal

and_false : (b : Bool) → (b && false) ≡ false
and_false true = refl
and_false false = refl

not_empty : {X : Type 0} (xs : List X) (x : X) → is_empty (xs ++ x ∷ []) ≡ false
not_empty [] x = refl
not_empty (y ∷ ys) x = eqb-suc-zero (length (ys ++ x ∷ []))

pub returns-then-is_strict-clause-rule : goal.returns-then-is_strict-clause-rule
returns-then-is_strict-clause-rule c =
    let flag = c.args.flag in
    let rest : Bool = is_empty flag.r_ifs.items && (is_empty flag.r_ifs_all.items && (is_empty flag.r_unless.items && is_empty flag.r_unless_all.items)) in
    IfOk-weaker c.requires_arg.result _ _ (λ r h.
    ap rule_of h.0 ∙ ap (λ b. record (rule_of flag) { is_free = b })
    (ap (λ b. not flag.exclusive && (is_empty flag.conflicts.items && (b && rest))) (ap is_empty h.1 ∙ not_empty _ _)
    ∙ ap (λ b. not flag.exclusive && b) (and_false (is_empty flag.conflicts.items)) ∙ and_false (not flag.exclusive))
    ∙ ap (λ b. beside b (rule_of flag)) (sym c.if-is_strict.true)) c.requires_arg.ensures
