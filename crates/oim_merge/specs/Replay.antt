-- The result of running a schedule (own).
use Rattle.std.specs.Prelude.{◌≡◌, ℕ, List, [], map, length, flat_map}
use Rattle.std.specs.List.{slice_index_or}
use Rattle.oim_report.specs.Outcome.{outcome}
use Rattle.oim_report.specs.Sheet.{Sheet}
use Rattle.oim_report.specs.declared.refusal.Refusal.{Refusal}
use Rattle.fact_base.specs.Contents.{Contents}
use Rattle.oim_merge.specs.Replicas.{base_named, reached, report, wire}
use Rattle.oim_merge.specs.Reports.{refusal_in}
use Rattle.oim_merge.specs.Schedule.{IsFirstBad, NoneIsBad, World, world_after}
use Rattle.oim_merge.specs.declared.event.Event.{Event}
use Rattle.oim_merge.specs.declared.event.Event.TheVariants.{Take}
use Rattle.oim_merge.specs.declared.events.ReplayFault.{ReplayFault}
use Rattle.oim_merge.specs.declared.events.ReplayFault.TheVariants.{OutOfMemory, BadEvent}

-- the replicas, the texts that they sent, and the refusals from `Take` events
pub record Replay : Type 0 where
  pub world : World Contents (List ℕ)
  pub refused : List (ℕ × Refusal)

abbrev pub world_of : List Contents → List (List ℕ) → World Contents (List ℕ)
world_of bases sent = record { replicas = bases; sent = sent }

-- the texts at these indices; an index beyond the end gives an empty text
abbrev pub texts_at : List (List ℕ) → List ℕ → List (List ℕ)
texts_at texts indices = map (λ index. slice_index_or texts index []) indices

-- the refusal of the report that an event takes, if the report is refused
abbrev pub refused_by : Sheet → List (List ℕ) → Event → List (ℕ × Refusal)
refused_by sheet reports (Take i r) = refusal_in r (outcome sheet (report reports r))
refused_by sheet reports event = []

-- all refusals from `Take` events, in the order of the events
abbrev pub refused_takes : Sheet → List (List ℕ) → List Event → List (ℕ × Refusal)
refused_takes sheet reports events = flat_map (refused_by sheet reports) events

-- No event is bad. Each of the n replicas has the base of the documents that reached it since its last restart. Bases and sent
-- texts are as in the machine `wire` with the present writer. `refused` lists all refusals from `Take` events.
pub record IsReplayOf (sheet : Sheet) (n : ℕ) (reports : List (List ℕ)) (events : List Event) (replay : Replay) : Type 0 where
  pub good : NoneIsBad n (length reports) events
  pub world : replay.world ≡ world_after (wire sheet [] reports) n events
  pub bases : replay.world.replicas ≡ map (base_named sheet reports) (world_after (reached sheet reports) n events).replicas
  pub count : length replay.world.replicas ≡ n
  pub refusals : replay.refused ≡ refused_takes sheet reports events

-- a fault: memory was refused, or an event is bad
abbrev pub ReplayStops : ℕ → List (List ℕ) → List Event → ReplayFault → Type 0
ReplayStops n reports events OutOfMemory = Unit {0}
ReplayStops n reports events (BadEvent line) = IsFirstBad n (length reports) events line
