-- The document that a report's bytes denote, or the first refusal (own).
use Rattle.std.specs.Prelude.{◌≢◌, ℕ, ◌+◌, List, [], ◌∷◌, map, if◌then◌else◌, Option, Some, None, option_and_then, Result, Ok, Err, ◌≡◌, ◌↔◌, false, ◌⊎◌, ◌++◌, length, true}
use Rattle.std.specs.Option.{unwrap_or}
use Rattle.std.specs.Ordering.{is_lt}
use Rattle.std.specs.List.{AllByRecursion}
use Rattle.oim_names.specs.Bindings.{Binding}
use Rattle.oim_names.specs.declared.reason.Reason.{Reason}
use Rattle.oim_names.specs.declared.reason.Reason.TheVariants.{OutOfMemory, NotJson, MemberForm, DisallowedDuplicates}
use Rattle.oim_value.specs.Level.{level_cmp}
use Rattle.oim_value.specs.declared.level.Level.{Level}
use Rattle.oim_value.specs.declared.level.Level.TheVariants.{All as AllLevel}
use Rattle.oim_dims.specs.declared.fact.Fact.{Fact}
use Rattle.serde_json.specs.Data.{Data, Members}
use Rattle.oim_report.specs.declared.place.Place.{Place}
use Rattle.oim_report.specs.declared.place.Place.TheVariants.{Document as AtDocument, Fact as AtFact}
use Rattle.oim_report.specs.declared.refusal.Refusal.{Refusal}
use Rattle.oim_report.specs.Document.{Document, SaysDocument}
use Rattle.oim_report.specs.Duplicates.{level_of}
use Rattle.oim_report.specs.Info.{bindings_of, facts_of, references_said, level_said}
use Rattle.oim_report.specs.Json.{json, values}
use Rattle.oim_report.specs.FactMembers.{fact_parts}
use Rattle.oim_report.specs.Refusal.{map_ok}
use Rattle.oim_report.specs.Said.{said_fact}
use Rattle.oim_report.specs.Sheet.{Sheet}
use Rattle.oim_report.specs.Holds.{document_refusal, holds, document_holds}
use Rattle.oim_report.specs.Least.{least, IsLeast}

abbrev pub at : Place → Reason → Refusal
at place reason = record { reason = reason; place = place }

-- ---- a fact

-- the reason, if a condition applies; otherwise the fact that the object denotes, or `MemberForm` if the object denotes none
abbrev pub fact_or : Option Reason → Option Fact → Result Fact Reason
fact_or None (Some fact) = Ok fact
fact_or None None = Err MemberForm
fact_or (Some reason) fact = Err reason

abbrev pub fact_outcome : Sheet → List Binding → Data → Result Fact Reason
fact_outcome sheet bs d = fact_or (least (holds sheet bs d)) (option_and_then (said_fact sheet bs) (fact_parts d))

-- all facts, or the first refusal; the facts are numbered from n
abbrev pub all_or_first : ℕ → List (Result Fact Reason) → Result (List Fact) Refusal
all_or_first n [] = Ok []
all_or_first n (Ok fact ∷ outcomes) = map_ok (λ facts. fact ∷ facts) (all_or_first (n + 1) outcomes)
all_or_first n (Err reason ∷ outcomes) = Err (at (AtFact n) reason)

-- ---- a document

-- the facts of fact objects in byte order of their identifiers, or the first refusal
abbrev pub facts_said : Sheet → List Binding → Members → Result (List Fact) Refusal
facts_said sheet bs objects = all_or_first 1 (map (fact_outcome sheet bs) (values objects))

-- the document, or its refusal if the level `found` is above the declared one
abbrev pub unless_above : Level → Document → Result Document Refusal
unless_above found d = if is_lt (level_cmp d.level found) then Err (at AtDocument DisallowedDuplicates) else Ok d

abbrev pub allowed : Document → Result Document Refusal
allowed d = unless_above (level_of d.facts) d

abbrev pub document_with : Data → List Fact → Document
document_with tree facts = record { facts = facts; references = unwrap_or (references_said tree) []; level = unwrap_or (level_said tree) AllLevel }

abbrev pub unless_refused : Option Reason → Result Document Refusal → Result Document Refusal
unless_refused None said = said
unless_refused (Some reason) said = Err (at AtDocument reason)

abbrev pub then_allowed : Result Document Refusal → Result Document Refusal
then_allowed (Ok d) = allowed d
then_allowed (Err r) = Err r

abbrev pub tree_outcome : Sheet → Option Data → Result Document Refusal
tree_outcome sheet None = Err (at AtDocument NotJson)
tree_outcome sheet (Some tree) =
    unless_refused (document_refusal tree) (then_allowed (map_ok (document_with tree) (facts_said sheet (bindings_of tree) (facts_of tree))))

-- the document that the bytes denote under the sheet, or the first refusal. The document is tested first, then the facts, then the
-- duplicates.
unfoldable pub outcome : Sheet → List ℕ → Result Document Refusal
outcome sheet bytes = tree_outcome sheet (json bytes)

-- the outcome of a report is never a refusal for lack of memory
abbrev pub OutcomesWantNoMemory : Type 0
OutcomesWantNoMemory = (sheet : Sheet) (bytes : List ℕ) (place : Place) → outcome sheet bytes ≢ Err (at place OutOfMemory)

-- ---- accepted fact objects (own)

-- no condition applies to a fact object
abbrev pub IsFree : Sheet → List Binding → Data → Type 0
IsFree sheet bs d = (r : Reason) → holds sheet bs d r ≡ false

-- a fact object to which no condition applies denotes a fact, so `fact_or None None` never occurs
abbrev pub FactsAreSaid : Type 0
FactsAreSaid = (sheet : Sheet) (bs : List Binding) (d : Data) → IsFree sheet bs d → (f : Fact) × (option_and_then (said_fact sheet bs) (fact_parts d) ≡ Some f)

-- ---- accepted reports, in terms of the conditions instead of `outcome` (own)

-- the bytes are JSON and denote this document; no condition applies to the document or a fact; the level of the facts is not
-- above the declared one
pub record Accepts (sheet : Sheet) (bytes : List ℕ) (d : Document) : Type 0 where
  pub tree : Data
  pub read : json bytes ≡ Some tree
  pub document : (r : Reason) → document_holds tree r ≡ false
  pub facts : AllByRecursion (IsFree sheet (bindings_of tree)) (values (facts_of tree))
  pub said : SaysDocument sheet bytes d
  pub level : is_lt (level_cmp d.level (level_of d.facts)) ≡ false

-- a report is accepted as a document exactly if `Accepts` holds
abbrev pub AcceptedWhereFree : Type 0
AcceptedWhereFree = (sheet : Sheet) (bytes : List ℕ) (d : Document) → (outcome sheet bytes ≡ Ok d) ↔ Accepts sheet bytes d

-- ---- refused reports and their refusals, in terms of the conditions instead of `outcome` (own)

-- the refusal of the first object to which a condition applies; the objects are numbered from `earlier`
pub record RefusesOne (sheet : Sheet) (bs : List Binding) (earlier : ℕ) (objects : List Data) (r : Refusal) : Type 0 where
  pub before : List Data
  pub object : Data
  pub after : List Data
  pub reason : Reason
  pub are : objects ≡ before ++ object ∷ after
  pub free : AllByRecursion (IsFree sheet bs) before
  pub refused : IsLeast (holds sheet bs object) reason
  pub answer : r ≡ at (AtFact (earlier + length before)) reason

-- r is the refusal of a document because the level of its facts is above the declared one
pub record RefusesLevel (sheet : Sheet) (bytes : List ℕ) (r : Refusal) : Type 0 where
  pub document : Document
  pub said : SaysDocument sheet bytes document
  pub above : is_lt (level_cmp document.level (level_of document.facts)) ≡ true
  pub answer : r ≡ at AtDocument DisallowedDuplicates

-- r is the refusal of the first fact to which a condition applies; if there is no such fact, `RefusesLevel` holds
abbrev pub RefusesFacts : Sheet → List ℕ → Data → Refusal → Type 0
RefusesFacts sheet bytes tree r =
    RefusesOne sheet (bindings_of tree) 1 (values (facts_of tree)) r
    ⊎ (AllByRecursion (IsFree sheet (bindings_of tree)) (values (facts_of tree)) × RefusesLevel sheet bytes r)

-- r is the refusal for the lowest-numbered condition that applies to the document; if none applies, `RefusesFacts` holds
abbrev pub RefusesTree : Sheet → List ℕ → Data → Refusal → Type 0
RefusesTree sheet bytes tree r =
    ((reason : Reason) × IsLeast (document_holds tree) reason × (r ≡ at AtDocument reason)) ⊎ (((reason : Reason) → document_holds tree reason ≡ false) × RefusesFacts sheet bytes tree r)

abbrev pub Refuses : Sheet → List ℕ → Refusal → Type 0
Refuses sheet bytes r =
    ((json bytes ≡ None) × (r ≡ at AtDocument NotJson)) ⊎ ((tree : Data) × (json bytes ≡ Some tree) × RefusesTree sheet bytes tree r)

-- a report is refused with r exactly if `Refuses` holds
abbrev pub RefusedWhereHeld : Type 0
RefusedWhereHeld = (sheet : Sheet) (bytes : List ℕ) (r : Refusal) → (outcome sheet bytes ≡ Err r) ↔ Refuses sheet bytes r
