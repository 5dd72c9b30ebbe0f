-- Parts of an event line (own).
use Rattle.std.specs.Prelude.{◌≡◌, ℕ, List, ◌∷◌, ◌++◌}
use Rattle.std.specs.Fmt.{decimal}
use Rattle.oim_merge.specs.EventLines.{IsNumber}

abbrev pub IsNumberText : List ℕ → ℕ → Type 0
IsNumberText text n = (text ≡ decimal n) × IsNumber n

-- the text of two numbers with a space between them
abbrev pub AreNumbersText : List ℕ → ℕ → ℕ → Type 0
AreNumbersText text m n = (text ≡ decimal m ++ 32 ∷ decimal n) × (IsNumber m × IsNumber n)
