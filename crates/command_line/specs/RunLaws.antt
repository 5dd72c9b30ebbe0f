-- Runs for one request over the same files (own).
use Rattle.std.specs.Prelude.{◌≡◌, ◌≢◌, ◌<◌, ℕ, List, [], ◌∷◌, ◌++◌, Option, Some, Result, ⊤}
use Rattle.clap.specs.Words.{Text}
use Rattle.oim_explain.specs.Explained.{RepeatsKeys}
use Rattle.oim_explain.specs.Lines.{AreLines, Printed}
use Rattle.oim_explain.specs.declared.lines.Input.{Input}
use Rattle.command_line.specs.Page.{WordsEnd, World}
use Rattle.command_line.specs.Printed.{status_of}
use Rattle.command_line.specs.WordLaws.{Ask}
use Rattle.command_line.specs.Words.{Asked, Mean, Task, explain, help, under}
use Rattle.command_line.specs.declared.error.Error.{Error}
use Rattle.command_line.specs.declared.error.Success.{Success}

-- the words mean this and nothing else
abbrev pub MeanOnly : List Text → Asked → Type 0
MeanOnly words a = (b : Asked) → Mean words b → b ≡ a

-- words that ask for a command mean nothing else
abbrev pub AskedIsMeant : Type 0
AskedIsMeant = (words : List Text) (a : Asked) → words ≢ [] → Ask words a → MeanOnly words a

-- every file has one content
abbrev pub holds : (Text → List ℕ) → Text → List ℕ → Type 0
holds disk name bytes = bytes ≡ disk name

-- for each file the lines of these faults, in this order
abbrev pub ListFaults : List (Input × List Printed) → List ℕ → Type 0
ListFaults [] text = text ≡ []
ListFaults (f ∷ fs) text = (lines : List ℕ) × (rest : List ℕ) × AreLines f.0 f.1 lines × ListFaults fs rest × (text ≡ lines ++ rest)

-- the texts list the same faults, and end with the same line
pub record ListAlike (text other : List ℕ) : Type 0 where
  pub faults : List (Input × List Printed)
  pub lines : List ℕ
  pub others : List ℕ
  pub last : List ℕ
  pub both_list : ListFaults faults lines × ListFaults faults others
  pub texts_are : (text ≡ lines ++ last) × (other ≡ others ++ last)

abbrev pub IsSaid : Task → Type 0
IsSaid help = ⊥
IsSaid task = ⊤

-- the same text and end; for `explain`, if no file repeats a key, the same end and the same faults, so only sentences may differ
abbrev pub Agree : (Text → List ℕ) → Task → List ℕ → List ℕ → Result Success Error → Result Success Error → Type 0
Agree disk (under sheet (explain format)) part other done end = ((name : Text) → ¬ (RepeatsKeys (disk name))) → (done ≡ end) × ListAlike part other
Agree disk task part other done end = (part ≡ other) × (done ≡ end)

-- Two runs for words of one meaning, with the same standard input and files, whose statuses are below 3: they agree, so they have
-- the same status and lines. Nothing is asked of the outputs before the runs.
abbrev pub RunsAreOne : Type 0
RunsAreOne = (disk : Text → List ℕ) (all : List ℕ) (a : Asked) → IsSaid a.task → (words others : List Text) → MeanOnly words a → MeanOnly others a
    → (empty blank : Option (List ℕ)) (old new before after : World) (part other : List ℕ) (done end : Result Success Error)
    → WordsEnd empty (λ name. ⊤) old new (holds disk) (λ name. ⊤) (Some all) words part done → WordsEnd blank (λ name. ⊤) before after (holds disk) (λ name. ⊤) (Some all) others other end
    → status_of done < 3 → status_of end < 3 → Agree disk a.task part other done end
