-- Event lines (own). In bytes, a space is 32.
use Rattle.std.specs.Prelude.{◌≡◌, ℕ, ◌+◌, ◌^◌, ◌<◌, ◌≤◌, ◌==◌, cond, List, [], ◌∷◌, ◌++◌, length, codes}
use Rattle.std.specs.Fmt.{decimal}
use Rattle.std.specs.List.{AllZip}
use Rattle.oim_merge.specs.Bundle.{line_pieces}
use Rattle.oim_merge.specs.declared.event.Event.{Event}
use Rattle.oim_merge.specs.declared.event.Event.TheVariants.{Take, Join, Send, Receive, Restart}
use Rattle.oim_merge.specs.declared.events.ReplayFault.{ReplayFault}
use Rattle.oim_merge.specs.declared.events.ReplayFault.TheVariants.{OutOfMemory, BadEvent}

-- a number that a line can spell
abbrev pub IsNumber : ℕ → Type 0
IsNumber n = (1 ≤ n) × (n < 2 ^ 32)

-- a word followed by one or two numbers, with single spaces and without leading zeros
abbrev pub word_and_one : List ℕ → ℕ → List ℕ
word_and_one word n = word ++ 32 ∷ decimal n

abbrev pub word_and_two : List ℕ → ℕ → ℕ → List ℕ
word_and_two word m n = word ++ 32 ∷ (decimal m ++ 32 ∷ decimal n)

abbrev pub IsEventLine : List ℕ → Event → Type 0
IsEventLine line (Take i r) = (line ≡ word_and_two (codes "take") i r) × (IsNumber i × IsNumber r)
IsEventLine line (Join i j) = (line ≡ word_and_two (codes "join") i j) × (IsNumber i × IsNumber j)
IsEventLine line (Send i) = (line ≡ word_and_one (codes "send") i) × IsNumber i
IsEventLine line (Receive i k) = (line ≡ word_and_two (codes "receive") i k) × (IsNumber i × IsNumber k)
IsEventLine line (Restart i) = (line ≡ word_and_one (codes "restart") i) × IsNumber i

-- the line spells no event
abbrev pub IsBadLine : List ℕ → Type 0
IsBadLine line = (event : Event) → ¬ (IsEventLine line event)

-- a line spells at most one event
abbrev pub LinesSayOneEvent : Type 0
LinesSayOneEvent = (line : List ℕ) (e f : Event) → IsEventLine line e → IsEventLine line f → e ≡ f

-- ---- whole files

-- drops the last piece if it is empty
abbrev pub without_empty_last : List (List ℕ) → List (List ℕ)
without_empty_last [] = []
without_empty_last (line ∷ []) = cond (length line == 0) [] (line ∷ [])
without_empty_last (line ∷ next ∷ lines) = line ∷ without_empty_last (next ∷ lines)

-- the lines of a file; an empty piece after the last line end is not a line
abbrev pub lines_of : List ℕ → List (List ℕ)
lines_of bytes = without_empty_last (line_pieces bytes)

-- each line spells the event at the same index
abbrev pub SaysEvents : List ℕ → List Event → Type 0
SaysEvents bytes events = AllZip IsEventLine (lines_of bytes) events

-- the line with this number, counted from 1, spells no event, and each earlier line spells an event
pub record IsFirstBadLine (bytes : List ℕ) (number : ℕ) : Type 0 where
  pub before : List (List ℕ)
  pub line : List ℕ
  pub behind : List (List ℕ)
  pub lines : lines_of bytes ≡ before ++ line ∷ behind
  pub number_is : number ≡ length before + 1
  pub bad : IsBadLine line
  pub events : List Event
  pub earlier : AllZip IsEventLine before events

-- why a schedule was not read: memory was refused, or a line is bad
abbrev pub ReadingEventsStops : List ℕ → ReplayFault → Type 0
ReadingEventsStops bytes OutOfMemory = Unit {0}
ReadingEventsStops bytes (BadEvent number) = IsFirstBadLine bytes number
