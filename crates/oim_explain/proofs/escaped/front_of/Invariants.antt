use Rattle.std.proofs.Common.{◌≡◌, ◌++◌, IsUtf8, chars, encode_utf8_all, string_bytes, take}
use Rattle.std.specs.Str.Iter.{chars_rest}
use Rattle.oim_explain.specs.Quoted.{front_of}
use Rattle.oim_explain.proofs.escaped.front_of.Given as goal

-- the characters so far, and then as many as are left
abbrev pub invariant-loop-character : goal.invariant-loop-character
invariant-loop-character l =
    IsUtf8 (chars_rest l.character-iterator)
    × (string_bytes l.front ++ encode_utf8_all (take l.left (chars (chars_rest l.character-iterator))) ≡ front_of l.fn.text)
