use Rattle.oim_dims.proofs.Shared.{Bor, None, List, ℕ, Bool, ap, sym, ◌∙◌, option_map, find, a_name, refuses, denominator_pieces, numerator_pieces, MatchOption-at_some, MatchOption-at_none}
use Rattle.oim_dims.proofs.FirstFound.{in_first, in_second, some_first, some_second}
use Rattle.oim_dims.proofs.unit_text.refused_piece.Goals as goal

pub returns-in-Some-clause-any : goal.returns-in-Some-clause-any
returns-in-Some-clause-any c =
    let test : List ℕ → Bool = λ p. refuses c.args.reason c.args.aliases.now (a_name p) in
    some_first (λ (p : Bor (List ℕ)). p.now) test (numerator_pieces c.args.text.now) (denominator_pieces c.args.text.now) c.in-Some.piece
    (sym (ap (option_map (λ (p : Bor (List ℕ)). p.now)) c.in-Some.is) ∙ c.refused_on.ensures ∙ ap (find test) c.sides.ensures.numerators)

pub returns-in-Some-clause-first : goal.returns-in-Some-clause-first
returns-in-Some-clause-first c =
    let test : List ℕ → Bool = λ p. refuses c.args.reason c.args.aliases.now (a_name p) in
    in_first (λ (p : Bor (List ℕ)). p.now) test (numerator_pieces c.args.text.now) (denominator_pieces c.args.text.now) c.in-Some.piece
    (sym (ap (option_map (λ (p : Bor (List ℕ)). p.now)) c.in-Some.is) ∙ c.refused_on.ensures ∙ ap (find test) c.sides.ensures.numerators)

pub returns-in-Some-denominator-clause-any : goal.returns-in-Some-denominator-clause-any
returns-in-Some-denominator-clause-any c =
    let test : List ℕ → Bool = λ p. refuses c.args.reason c.args.aliases.now (a_name p) in
    some_second (λ (p : Bor (List ℕ)). p.now) test (numerator_pieces c.args.text.now) (denominator_pieces c.args.text.now) c.refused_on-in-Some-denominator.result
    (sym (ap (option_map (λ (p : Bor (List ℕ)). p.now)) c.in_default.is) ∙ c.refused_on.ensures ∙ ap (find test) c.sides.ensures.numerators)
    (c.refused_on-in-Some-denominator.ensures ∙ ap (find test) (MatchOption-at_some _ _ c.in-Some-denominator.side c.in-Some-denominator.is c.sides.ensures.denominators))

pub returns-in-Some-denominator-clause-first : goal.returns-in-Some-denominator-clause-first
returns-in-Some-denominator-clause-first c =
    let test : List ℕ → Bool = λ p. refuses c.args.reason c.args.aliases.now (a_name p) in
    in_second (λ (p : Bor (List ℕ)). p.now) test (numerator_pieces c.args.text.now) (denominator_pieces c.args.text.now) c.refused_on-in-Some-denominator.result
    (sym (ap (option_map (λ (p : Bor (List ℕ)). p.now)) c.in_default.is) ∙ c.refused_on.ensures ∙ ap (find test) c.sides.ensures.numerators)
    (c.refused_on-in-Some-denominator.ensures ∙ ap (find test) (MatchOption-at_some _ _ c.in-Some-denominator.side c.in-Some-denominator.is c.sides.ensures.denominators))

pub returns-in-None-clause-any : goal.returns-in-None-clause-any
returns-in-None-clause-any c =
    let test : List ℕ → Bool = λ p. refuses c.args.reason c.args.aliases.now (a_name p) in
    some_second (λ (p : Bor (List ℕ)). p.now) test (numerator_pieces c.args.text.now) (denominator_pieces c.args.text.now) None
    (sym (ap (option_map (λ (p : Bor (List ℕ)). p.now)) c.in_default.is) ∙ c.refused_on.ensures ∙ ap (find test) c.sides.ensures.numerators)
    (ap (find test) (sym (MatchOption-at_none _ _ c.in-None.is c.sides.ensures.denominators)))
