use Rattle.std.proofs.Common.{◌≡◌, ℕ, List, ◌++◌, IsUtf8, chars}
use Rattle.std.specs.Fmt.{HasWritten, IsPlainFormatter}
use Rattle.std.specs.Str.Iter.{chars_rest}
use Rattle.oim_explain.specs.Escaped.{escaped_name, name_characters}
use Rattle.oim_explain.proofs.escaped.EscapedNameDisplay.fmt.Given as goal

-- what was written, and then the rest of the name escaped, is the whole name escaped
abbrev pub invariant-loop-character : goal.invariant-loop-character
invariant-loop-character g l =
    IsUtf8 (chars_rest l.character-iterator)
    × (IsPlainFormatter l.initial.f
    → (done : List ℕ) × HasWritten g.W.Write.write_str_gives l.initial.f done l.f
    × (done ++ name_characters l.is_after_backslash (chars (chars_rest l.character-iterator)) ≡ escaped_name l.fn.self.0.now))
