-- How a run or a part of it ended, and what it printed (own).
use Rattle.std.specs.Prelude.{◌≡◌, ◌⊎◌, ℕ, Option, List, [], ◌++◌, Result, Ok, Err}
use Rattle.std.specs.Io.KnownBytes.{Appends}
use Rattle.command_line.specs.Faults.{IsOutputError}
use Rattle.command_line.specs.declared.error.Error.{Error}

-- the part is a beginning of a text that was begun before this error
abbrev pub Begins : (Error → List ℕ → Type 0) → Error → List ℕ → Type 0
Begins Begun e part = (text : List ℕ) × (rest : List ℕ) × Begun e text × (text ≡ part ++ rest)

-- It ended so after this part was printed: the whole text; after an error nothing, or a beginning of a text. `Gives text result`
-- holds if the text and the result may be these, and `Why` of each error.
abbrev pub Ends : {T : Type 0} → (List ℕ → T → Type 0) → (Error → Type 0) → (Error → List ℕ → Type 0) → List ℕ → Result T Error → Type 0
Ends Gives Why Begun part (Ok result) = Gives part result
Ends Gives Why Begun part (Err e) = Why e × ((part ≡ []) ⊎ Begins Begun e part)

-- only if memory was refused or the output failed, a beginning of the text may be there
abbrev pub IsCut : {T : Type 0} → (List ℕ → T → Type 0) → Error → List ℕ → Type 0
IsCut {T} Gives e text = IsOutputError e × (result : T) × Gives text result

abbrev pub Puts : {T : Type 0} → (List ℕ → T → Type 0) → (Error → Type 0) → List ℕ → Result T Error → Type 0
Puts Gives Why = Ends Gives Why (IsCut Gives)

-- this text
abbrev pub Is : List ℕ → List ℕ → Unit {0} → Type 0
Is text part done = part ≡ text

abbrev pub PutsText : List ℕ → List ℕ → Result (Unit {0}) Error → Type 0
PutsText text = Puts (Is text) IsOutputError

-- the output grew by a part, after which it ended so
pub record Prints {T : Type 0} (EndsSo : List ℕ → Result T Error → Type 0) (old new : Option (List ℕ)) (done : Result T Error) : Type 0 where
  pub part : List ℕ
  pub ends : EndsSo part done
  pub appended : Appends old new part
