use Rattle.std.proofs.Common.{[], ◌++◌, chars, sym, ap, ◌∙◌, append-nil, append_assoc, rules}
use Rattle.std.proofs.Output.{has_written_append, has_written_of_eq, writes_in_calls_nil}
use Rattle.std.proofs.lemmas.List.{nil_from_length}
use Rattle.std.proofs.lemmas.Str.{IsUtf8-past_char, chars-nil, chars_past_char}
use Rattle.oim_explain.specs.Escaped.{escaped_name, name_character, name_characters}
use Rattle.oim_explain.proofs.escaped.EscapedNameDisplay.fmt.Goals as goal

pub loop-character-init : goal.loop-character-init
unfolding escaped_name
loop-character-init g c = (search rules, λ plain. ([], record { wrote = writes_in_calls_nil _ _; plain = plain }, search rules))

pub loop-character-preserved : goal.loop-character-preserved
loop-character-preserved g c =
    let held = c.loop-character.invariant in
    let after = c.loop-character.is_after_backslash in
    let parts = c.in-Some.ensures.steps.0 in
    let step = ap (name_characters after) (chars_past_char _ _ c.in-Some.character held.0 parts) in (
      IsUtf8-past_char _ _ c.in-Some.character held.0 parts,
      λ plain.
          let now = held.1 plain in (
            now.0 ++ name_character after c.in-Some.character,
            has_written_append _ _ _ _ _ _ now.1 (c.write_in_name.ensures now.1.plain (search rules)),
            append_assoc now.0 _ _ ∙ ap (λ t. now.0 ++ t) (sym step) ∙ now.2,
          ),
    )

pub returns-clause-writes : goal.returns-clause-writes
returns-clause-writes g c =
    λ plain ok.
    let now = c.loop-character.invariant.1 plain in
    let none = ap (λ rest. name_characters c.loop-character.is_after_backslash (chars rest)) (nil_from_length _ c.in-None.ensures.steps.0.0) ∙ ap (name_characters c.loop-character.is_after_backslash) chars-nil in
    has_written_of_eq _ _ _ _ _ (sym (append-nil now.0) ∙ ap (λ t. now.0 ++ t) (sym none) ∙ now.2) now.1
