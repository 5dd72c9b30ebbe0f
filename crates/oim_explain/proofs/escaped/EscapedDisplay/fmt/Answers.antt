use Rattle.std.proofs.Common.{[], ◌++◌, encode_utf8, sym, ap, ◌∙◌, append-nil, append_assoc, rules}
use Rattle.std.proofs.Output.{has_written_append, has_written_of_eq, writes_in_calls_nil}
use Rattle.std.proofs.lemmas.List.{nil_from_length}
use Rattle.std.proofs.lemmas.Str.{IsUtf8-past_char}
use Rattle.oim_explain.specs.Escaped.{character_escape, escaped}
use Rattle.oim_explain.proofs.EscapedLaws.{as_it_is, escaped_nil, hidden_step, shown_step}
use Rattle.oim_explain.proofs.escaped.EscapedDisplay.fmt.Goals as goal

pub returns-then-are_shown-clause-writes : goal.returns-then-are_shown-clause-writes
returns-then-are_shown-clause-writes g c =
    λ plain ok.
    has_written_of_eq _ _ _ _ _ (sym (as_it_is c.args.self.now.0.now (search rules) (sym c.are_shown.ensures ∙ c.if-are_shown.true))) (c.write_str.ensures.writes plain ok)

pub loop-character-init : goal.loop-character-init
loop-character-init g c = (search rules, λ plain. ([], record { wrote = writes_in_calls_nil _ _; plain = plain }, search rules))

pub loop-character-preserved-in-Continue-1 : goal.loop-character-preserved-in-Continue-1
loop-character-preserved-in-Continue-1 g c =
    let held = c.loop-character.invariant in
    let parts = c.in-Some.ensures.steps.0 in
    let step = shown_step _ _ c.in-Some.character held.0 parts (sym c.is_shown.ensures ∙ c.if-is_shown.true) in (
      IsUtf8-past_char _ _ c.in-Some.character held.0 parts,
      λ plain.
          let now = held.1 plain in (
            now.0 ++ encode_utf8 c.in-Some.character,
            has_written_append _ _ _ _ _ _ now.1 (c.write_char.ensures.writes now.1.plain (search rules)),
            append_assoc now.0 _ _ ∙ ap (λ t. now.0 ++ t) (sym step) ∙ now.2,
          ),
    )

pub loop-character-preserved : goal.loop-character-preserved
loop-character-preserved g c =
    let held = c.loop-character.invariant in
    let parts = c.in-Some.ensures.steps.0 in
    let step = hidden_step _ _ c.in-Some.character held.0 parts (sym c.is_shown.ensures ∙ c.if-is_shown.false) in (
      IsUtf8-past_char _ _ c.in-Some.character held.0 parts,
      λ plain.
          let now = held.1 plain in (
            now.0 ++ character_escape c.in-Some.character,
            has_written_append _ _ _ _ _ _ now.1 (c.write_escape.ensures now.1.plain (search rules)),
            append_assoc now.0 _ _ ∙ ap (λ t. now.0 ++ t) (sym step) ∙ now.2,
          ),
    )

pub returns-clause-writes : goal.returns-clause-writes
returns-clause-writes g c =
    λ plain ok.
    let now = c.loop-character.invariant.1 plain in
    let none = ap escaped (nil_from_length _ c.in-None.ensures.steps.0.0) ∙ escaped_nil in
    has_written_of_eq _ _ _ _ _ (sym (append-nil now.0) ∙ ap (λ t. now.0 ++ t) (sym none) ∙ now.2) now.1
