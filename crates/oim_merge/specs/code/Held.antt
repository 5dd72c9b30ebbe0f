-- Replicas that store each distinct sent text once, and cache the results of reading texts and reports (own).
use Rattle.std.specs.Prelude.{◌≡◌, ℕ, ◌<◌, List, [], length, Option, None, Some}
use Rattle.std.specs.List.{All, AllZip, slice_index_or}
use Rattle.oim_report.specs.Sheet.{Sheet}
use Rattle.fact_base.specs.Body.{Body}
use Rattle.fact_base.specs.Contents.{Contents}
use Rattle.fact_base.specs.Fits.{Fits}
use Rattle.oim_write.specs.Bytes.{canonical}
use Rattle.oim_merge.specs.code.Readings.{AreReadings}
use Rattle.oim_merge.specs.Replay.{world_of, texts_at}
use Rattle.oim_merge.specs.Schedule.{World}
use Rattle.oim_merge.specs.declared.messages.Messages.{Messages}
use Rattle.oim_merge.specs.declared.replicas.Replicas.{Replicas}

abbrev pub AreWithin : List (List ℕ) → List ℕ → Type 0
AreWithin texts indices = All (λ index. index < length texts) indices

abbrev pub IsTextAt : List (List ℕ) → List ℕ → ℕ → Type 0
IsTextAt texts text index = (index < length texts) × (slice_index_or texts index [] ≡ text)

-- if there is an index, the text at the index is the canonical text of the base
abbrev pub IsCurrent : List (List ℕ) → Contents → Option ℕ → Type 0
IsCurrent texts base None = Unit {0}
IsCurrent texts base (Some index) = IsTextAt texts (canonical base.body) index

-- the second list has each text of the first at the same index
abbrev pub Stay : List (List ℕ) → List (List ℕ) → Type 0
Stay texts more = (text : List ℕ) (index : ℕ) → IsTextAt texts text index → IsTextAt more text index

-- the text of some body that fits the sheet
pub record IsWritten (sheet : Sheet) (text : List ℕ) : Type 0 where
  pub body : Body
  pub fits : Fits sheet body
  pub written : text ≡ canonical body

-- the sent texts in order; a text that was sent again is repeated
abbrev pub sent_texts : Messages → List (List ℕ)
sent_texts messages = texts_at messages.texts.items messages.sent.items

-- each sent text is stored; each stored text is the text of a body that fits the sheet; each cached reading is the result of reading
-- its text
pub record AreHeld (sheet : Sheet) (messages : Messages) : Type 0 where
  pub indices : AreWithin messages.texts.items messages.sent.items
  pub kept : AreReadings sheet messages.texts.items messages.kept.items
  pub written : All (IsWritten sheet) messages.texts.items

-- the bases of the replicas, and the texts that they sent
abbrev pub world_in : Replicas → World Contents (List ℕ)
world_in replicas = world_of replicas.bases.items (sent_texts replicas.messages)

-- each cached reading is the result of reading its report; `AreHeld` holds; each current text is the text of its replica's base
pub record KeepReadings (sheet : Sheet) (reports : List (List ℕ)) (replicas : Replicas) : Type 0 where
  pub taken : AreReadings sheet reports replicas.reports.items
  pub held : AreHeld sheet replicas.messages
  pub current : AllZip (IsCurrent replicas.messages.texts.items) replicas.bases.items replicas.current.items
