-- What contracts see of a sink that compares the bytes that it takes with a text (own).
use Rattle.std.specs.Prelude.{ℕ, ◌++◌, List, [], ◌∷◌, Option, None, Some, length, take}

-- the bytes that the sink took: first bytes of the text, and then at most one byte that differs
abbrev pub taken : List ℕ → ℕ → Option (ℕ × ℕ) → List ℕ
taken text equal None = take equal text
taken text equal (Some d) = take equal text ++ d.0 ∷ []

-- The bytes that the sink took, after the text and its length. So what the sink holds determines its text.
abbrev pub held : List ℕ → ℕ → Option (ℕ × ℕ) → List ℕ
held text equal difference = length text ∷ text ++ taken text equal difference

-- how often the sink failed since it took a byte that differs
abbrev pub failures_since : Option (ℕ × ℕ) → ℕ
failures_since None = 0
failures_since (Some d) = d.1
