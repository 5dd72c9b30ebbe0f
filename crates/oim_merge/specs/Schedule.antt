-- Schedules of events, for any kind of replica (own). Replicas, reports and sent messages have numbers from 1.
use Rattle.std.specs.Prelude.{◌≡◌, ℕ, zero, suc, ◌+◌, ◌-◌, ◌<◌, Bool, true, false, ◌||◌, Option, Some, None, List, [], ◌∷◌, ◌++◌, length, filter, take, nat_lt, ◌==◌, slice_get, slice_set, replicate}
use Rattle.std.specs.List.{slice_index_or}
use Rattle.oim_merge.specs.declared.event.Event.{Event}
use Rattle.oim_merge.specs.declared.event.Event.TheVariants.{Take, Join, Send, Receive, Restart}

-- the element with this number, counted from 1
abbrev pub numbered : {A : Type 0} → List A → ℕ → Option A
numbered xs zero = None
numbered xs (suc index) = slice_get xs index

-- ---- bad events

-- the number is 0 or above `greatest`
abbrev pub is_outside : ℕ → ℕ → Bool
is_outside greatest number = number == 0 || nat_lt greatest number

-- the event names a replica, a report or a sent message that does not exist
abbrev pub names_none : ℕ → ℕ → ℕ → Event → Bool
names_none replicas reports sent (Take i r) = is_outside replicas i || is_outside reports r
names_none replicas reports sent (Join i j) = is_outside replicas i || is_outside replicas j
names_none replicas reports sent (Send i) = is_outside replicas i
names_none replicas reports sent (Receive i k) = is_outside replicas i || is_outside sent k
names_none replicas reports sent (Restart i) = is_outside replicas i

abbrev pub is_send : Event → Bool
is_send (Send i) = true
is_send event = false

-- the number of messages that these events send
abbrev pub sent_by : List Event → ℕ
sent_by events = length (filter is_send events)

-- the event at an index (from 0) is bad; a message can be received only after it was sent
pub record IsBadAt (replicas reports : ℕ) (events : List Event) (index : ℕ) : Type 0 where
  pub event : Event
  pub there : slice_get events index ≡ Some event
  pub bad : names_none replicas reports (sent_by (take index events)) event ≡ true

abbrev pub NoneIsBad : ℕ → ℕ → List Event → Type 0
NoneIsBad replicas reports events = (index : ℕ) → ¬ (IsBadAt replicas reports events index)

-- the event in this line, counted from 1, is the first bad event
pub record IsFirstBad (replicas reports : ℕ) (events : List Event) (line : ℕ) : Type 0 where
  pub index : ℕ
  pub line_is : line ≡ index + 1
  pub bad : IsBadAt replicas reports events index
  pub earlier : (before : ℕ) → before < index → ¬ (IsBadAt replicas reports events before)

-- ---- a machine that runs schedules

-- S is the type of a replica's state, and M is the type of its messages
pub record Machine (S M : Type 0) : Type 0 where
  -- the state of a new or restarted replica
  pub fresh : S
  -- the state after taking the report with this number
  pub taken : ℕ → S → S
  -- the state after joining another replica
  pub joined : S → S → S
  -- the message that the replica sends, given the number of messages sent before
  pub message : ℕ → S → M
  -- the state after receiving this message
  pub received : M → S → S

pub record World (S M : Type 0) : Type 0 where
  pub replicas : List S
  pub sent : List M

module _ {S M : Type 0} (machine : Machine S M) where
  -- the state of the replica with this number
  abbrev pub kept_by : World S M → ℕ → S
  kept_by world i = slice_index_or world.replicas (i - 1) machine.fresh

  -- the world after the replica with this number changes to this state
  abbrev pub keeps : World S M → ℕ → S → World S M
  keeps world i state = record { replicas = slice_set world.replicas (i - 1) state; sent = world.sent }

  abbrev pub receives : World S M → ℕ → Option M → World S M
  receives world i None = world
  receives world i (Some message) = keeps world i (machine.received message (kept_by world i))

  abbrev pub happens : World S M → Event → World S M
  happens world (Take i r) = keeps world i (machine.taken r (kept_by world i))
  happens world (Join i j) = keeps world i (machine.joined (kept_by world i) (kept_by world j))
  happens world (Send i) = record { replicas = world.replicas; sent = world.sent ++ machine.message (length world.sent) (kept_by world i) ∷ [] }
  happens world (Receive i k) = receives world i (numbered world.sent k)
  happens world (Restart i) = keeps world i machine.fresh

  -- the world after these events, in order
  abbrev pub run : List Event → World S M → World S M
  run [] world = world
  run (event ∷ events) world = run events (happens world event)

  -- n new replicas, and no messages
  abbrev pub start : ℕ → World S M
  start n = record { replicas = replicate n machine.fresh; sent = [] }

  abbrev pub world_after : ℕ → List Event → World S M
  world_after n events = run events (start n)
