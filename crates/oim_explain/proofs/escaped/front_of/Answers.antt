use Rattle.std.proofs.Common.{◌≡◌, ◌-◌, ◌++◌, chars, encode_utf8_all, string_bytes, take, refl, sym, ap, ◌∙◌, append-nil, append_assoc, arith, rules}
use Rattle.std.proofs.lemmas.List.{nil_from_length}
use Rattle.std.proofs.lemmas.Str.{IsUtf8-past_char}
use Rattle.std.specs.Str.Iter.{chars_rest}
use Rattle.oim_explain.specs.Quoted.{front_of}
use Rattle.oim_explain.proofs.Quoting.{front_nil, front_past}
use Rattle.oim_explain.proofs.escaped.front_of.Goals as goal

pub loop-character-init : goal.loop-character-init
unfolding front_of
loop-character-init c =
    let rest : chars_rest c.into_iter-character-iterator.result ≡ c.args.text.now = search rules in
    (search rules, rw (c.new-front.ensures.bytes, rest) refl)

pub loop-character-preserved : goal.loop-character-preserved
loop-character-preserved c =
    let l = c.loop-character in
    let held = l.invariant in
    let parts = c.in-Some.ensures.steps.0 in
    let step = front_past l.left _ _ c.in-Some.character (omega arith) held.0 parts in
    let rest = encode_utf8_all (take (l.left - 1) (chars (chars_rest c.next.new.self))) in (
      IsUtf8-past_char _ _ c.in-Some.character held.0 parts,
      ap (λ t. t ++ rest) c.in_ok-push.ensures.bytes ∙ append_assoc (string_bytes l.front) _ rest ∙ ap (λ t. string_bytes l.front ++ t) (sym step) ∙ held.1,
    )

pub returns : goal.returns
returns c =
    let l = c.loop-character in
    let none = ap (λ rest. encode_utf8_all (take l.left (chars rest))) (nil_from_length _ c.in-None.ensures.steps.0.0) ∙ front_nil l.left in
    sym (append-nil (string_bytes l.front)) ∙ ap (λ t. string_bytes l.front ++ t) (sym none) ∙ l.invariant.1
