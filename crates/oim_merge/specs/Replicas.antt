-- Replicas that keep bases and exchange texts, and the accepted reports that reached each replica since its last restart (own).
use Rattle.std.specs.Prelude.{◌≡◌, ℕ, ◌-◌, List, [], ◌∷◌, ◌++◌, map, length, Some, Result, Ok, Err}
use Rattle.std.specs.List.{AllZip, slice_index_or}
use Rattle.std.specs.Ordering.{nat_cmp}
use Rattle.oim_dims.specs.DimensionSet.{DimensionSet}
use Rattle.oim_report.specs.Document.{Document}
use Rattle.oim_report.specs.Duplicates.{level_of}
use Rattle.oim_report.specs.Outcome.{outcome}
use Rattle.oim_report.specs.Sheet.{Sheet}
use Rattle.oim_report.specs.declared.refusal.Refusal.{Refusal}
use Rattle.fact_base.specs.Body.{Body, body, union}
use Rattle.fact_base.specs.Contents.{Contents}
use Rattle.fact_base.specs.Rows.{values_at}
use Rattle.fact_base.specs.Sets.{set_of}
use Rattle.fact_base.specs.Verdict.{verdict}
use Rattle.oim_write.specs.Bytes.{canonical, earlier as earlier_text}
use Rattle.oim_merge.specs.Bases.{base_of}
use Rattle.oim_merge.specs.History.{IsReadAsBody}
use Rattle.oim_merge.specs.Reports.{accepted}
use Rattle.oim_merge.specs.Schedule.{Machine, NoneIsBad, World, numbered, world_after}
use Rattle.oim_merge.specs.declared.event.Event.{Event}

-- the report with this number, counted from 1
abbrev pub report : List (List ℕ) → ℕ → List ℕ
report reports r = slice_index_or reports (r - 1) []

-- ---- the reports that reached each replica

-- a finite set of report numbers: the ascending list of its members
abbrev pub Numbers : Type 0
Numbers = List ℕ

-- the union of two sets
abbrev pub both : Numbers → Numbers → Numbers
both a b = set_of nat_cmp (a ++ b)

-- the set, with the number added if the report with that number is accepted
abbrev pub with_accepted : Result Document Refusal → ℕ → Numbers → Numbers
with_accepted (Ok d) r numbers = both numbers (r ∷ [])
with_accepted (Err refusal) r numbers = numbers

-- replicas that keep and send the numbers of the accepted reports that reached them since their last restart
abbrev pub reached : Sheet → List (List ℕ) → Machine Numbers Numbers
reached sheet reports = record {
  fresh = [];
  taken = λ r numbers. with_accepted (outcome sheet (report reports r)) r numbers;
  joined = both;
  message = λ sent numbers. numbers;
  received = λ message numbers. both numbers message;
}

-- the documents of the accepted reports with these numbers
abbrev pub documents_named : Sheet → List (List ℕ) → Numbers → List Document
documents_named sheet reports numbers = accepted sheet (map (report reports) numbers)

-- ---- replicas that keep bases and exchange texts

-- a base after it takes the document of an accepted report; a refusal changes nothing
abbrev pub with_outcome : Result Document Refusal → Contents → Contents
with_outcome (Ok d) base = record { sheet = base.sheet; body = union base.body (body (d ∷ [])) }
with_outcome (Err refusal) base = base

abbrev pub joined_with : Contents → Contents → Contents
joined_with base other = record { sheet = base.sheet; body = union base.body other.body }

-- which version wrote a sent text: the present version, or an earlier version whose texts declare no level
pub data Writer : Type 0 where
  present : Writer
  earlier : Writer

abbrev pub text_by : Writer → Body → List ℕ
text_by present b = canonical b
text_by earlier b = earlier_text b

-- the list chooses a writer for each sent text; texts beyond the end of the list have the present writer
abbrev pub text_chosen : List Writer → ℕ → Body → List ℕ
text_chosen writers sent b = text_by (slice_index_or writers sent present) b

-- replicas that keep bases and send texts
abbrev pub wire : Sheet → List Writer → List (List ℕ) → Machine Contents (List ℕ)
wire sheet writers reports = record {
  fresh = base_of sheet [];
  taken = λ r base. with_outcome (outcome sheet (report reports r)) base;
  joined = joined_with;
  message = λ sent base. text_chosen writers sent base.body;
  received = λ bytes base. with_outcome (outcome sheet bytes) base;
}

-- ---- agreement

-- the base that took the documents of the accepted reports with these numbers
abbrev pub base_named : Sheet → List (List ℕ) → Numbers → Contents
base_named sheet reports numbers = base_of sheet (documents_named sheet reports numbers)

-- each replica has the base of the documents that reached it since its last restart; each sent text is read as the body that
-- the sender had when it sent the text
pub record Agree (sheet : Sheet) (reports : List (List ℕ)) (sets : World Numbers Numbers) (bases : World Contents (List ℕ)) : Type 0 where
  pub replicas : bases.replicas ≡ map (base_named sheet reports) sets.replicas
  pub sent : AllZip (λ bytes numbers. IsReadAsBody sheet bytes (body (documents_named sheet reports numbers))) bases.sent sets.sent

-- the agreement holds after every schedule without a bad event, for every choice of writers
abbrev pub WireAgrees : Type 0
WireAgrees =
    (sheet : Sheet) (writers : List Writer) (reports : List (List ℕ)) (n : ℕ) (events : List Event) → NoneIsBad n (length reports) events →
    Agree sheet reports (world_after (reached sheet reports) n events) (world_after (wire sheet writers reports) n events)

-- no schedule changes the number of replicas
abbrev pub ReplicasStay : Type 0
ReplicasStay =
    (sheet : Sheet) (writers : List Writer) (reports : List (List ℕ)) (n : ℕ) (events : List Event) →
    length (world_after (wire sheet writers reports) n events).replicas ≡ n

-- ---- a replica depends only on the set of reports that reached it

-- the base has the text, verdicts, values and level of a new merge of these documents
pub record SaysAsAfresh (docs : List Document) (base : Contents) : Type 0 where
  pub bytes : canonical base.body ≡ canonical (body docs)
  pub verdicts : (d : DimensionSet) → verdict base.body.facts d ≡ verdict (body docs).facts d
  pub values : (d : DimensionSet) → values_at d base.body.facts ≡ values_at d (body docs).facts
  pub level : level_of base.body.facts ≡ level_of (body docs).facts

abbrev pub ReplicasSayAsAfresh : Type 0
ReplicasSayAsAfresh =
    (sheet : Sheet) (writers : List Writer) (reports : List (List ℕ)) (n : ℕ) (events : List Event) → NoneIsBad n (length reports) events →
    (i : ℕ) (numbers : Numbers) (base : Contents) →
    numbered (world_after (reached sheet reports) n events).replicas i ≡ Some numbers →
    numbered (world_after (wire sheet writers reports) n events).replicas i ≡ Some base →
    SaysAsAfresh (documents_named sheet reports numbers) base

-- after every schedule without a bad event, two replicas write the same bytes if the same accepted reports reached both since
-- their last restarts
abbrev pub EqualSetsWriteTheSame : Type 0
EqualSetsWriteTheSame =
    (sheet : Sheet) (writers : List Writer) (reports : List (List ℕ)) (n : ℕ) (events : List Event) → NoneIsBad n (length reports) events →
    (i j : ℕ) (numbers : Numbers) (base other : Contents) →
    numbered (world_after (reached sheet reports) n events).replicas i ≡ Some numbers →
    numbered (world_after (reached sheet reports) n events).replicas j ≡ Some numbers →
    numbered (world_after (wire sheet writers reports) n events).replicas i ≡ Some base →
    numbered (world_after (wire sheet writers reports) n events).replicas j ≡ Some other →
    canonical base.body ≡ canonical other.body
