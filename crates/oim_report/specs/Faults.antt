-- The faults of a report, each with its place (own).
use Rattle.std.specs.Prelude.{◌≡◌, ◌↔◌, ◌⊎◌, ℕ, ◌+◌, List, [], ◌∷◌, ◌++◌, map, get_or, slice_get, Bool, if◌then◌else◌, Option, Some, None, option_and_then}
use Rattle.std.specs.Option.{option_map_or, unwrap_or}
use Rattle.std.specs.List.{filter_map}
use Rattle.std.specs.Ordering.{is_lt}
use Rattle.std.specs.Result.{result_err}
use Rattle.oim_names.specs.Bindings.{Binding}
use Rattle.oim_names.specs.declared.reason.Reason.TheVariants.{NotJson, DisallowedDuplicates}
use Rattle.oim_value.specs.Level.{level_cmp}
use Rattle.oim_value.specs.declared.level.Level.TheVariants.{All as AllLevel}
use Rattle.oim_dims.specs.declared.fact.Fact.{Fact}
use Rattle.serde_json.specs.Data.{Data}
use Rattle.oim_report.specs.declared.place.Place.TheVariants.{Document as AtDocument, Fact as AtFact}
use Rattle.oim_report.specs.declared.refusal.Refusal.{Refusal}
use Rattle.oim_report.specs.declared.fault.Fault.{Fault as HeldFault}
use Rattle.oim_report.specs.declared.fault_list.Faults.{Faults as HeldFaults}
use Rattle.oim_report.specs.Apart.{AreFactsApart}
use Rattle.oim_report.specs.Outcome.{Accepts, at, outcome}
use Rattle.oim_report.specs.Document.{Document}
use Rattle.oim_report.specs.Duplicates.{level_of}
use Rattle.oim_report.specs.Info.{bindings_of, facts_of, level_said}
use Rattle.oim_report.specs.Identifiers.{tree_identifiers}
use Rattle.oim_report.specs.Json.{json, values}
use Rattle.oim_report.specs.FactMembers.{fact_parts}
use Rattle.oim_report.specs.Said.{said_fact}
use Rattle.oim_report.specs.Sheet.{Sheet}
use Rattle.oim_report.specs.Holds.{document_holds, holds}
use Rattle.oim_report.specs.Least.{told}
use Rattle.oim_report.specs.Shown.{Shown, document_part, fact_part, seen, two}

-- ---- the facts

-- the faults of several fact objects; the objects are numbered from n
abbrev pub faults_from : Sheet → List Binding → ℕ → List Data → List Refusal
faults_from sheet bs n [] = []
faults_from sheet bs n (d ∷ ds) = map (at (AtFact n)) (told (holds sheet bs d)) ++ faults_from sheet bs (n + 1) ds

-- ---- a report

-- the first list, or the second if the first is empty
abbrev pub or_else : List Refusal → List Refusal → List Refusal
or_else [] later = later
or_else (r ∷ rs) later = r ∷ rs

-- the facts that a report's fact objects denote; an object that denotes no fact is skipped
abbrev pub facts_in : Sheet → Data → List Fact
facts_in sheet tree = filter_map (λ d. option_and_then (said_fact sheet (bindings_of tree)) (fact_parts d)) (values (facts_of tree))

-- the level of the facts is above the declared one; false if the declaration is refused
abbrev pub is_above_level : Sheet → Data → Bool
is_above_level sheet tree = is_lt (level_cmp (unwrap_or (level_said tree) AllLevel) (level_of (facts_in sheet tree)))

abbrev pub level_faults : Sheet → Data → List Refusal
level_faults sheet tree = if is_above_level sheet tree then at AtDocument DisallowedDuplicates ∷ [] else []

-- the faults of the document, or else those of its facts in byte order of their identifiers, or else `level_faults`
abbrev pub tree_faults : Sheet → Data → List Refusal
tree_faults sheet tree =
    or_else (map (at AtDocument) (told (document_holds tree)))
    (or_else (faults_from sheet (bindings_of tree) 1 (values (facts_of tree))) (level_faults sheet tree))

-- the faults of a report; `NotJson` is the only fault of bytes that are not JSON
unfoldable pub faults : Sheet → List ℕ → List Refusal
faults sheet bytes = option_map_or (tree_faults sheet) (json bytes) (at AtDocument NotJson ∷ [])

-- ---- the part of each fault

-- a refusal, and the part that is shown for it
pub record ShownFault : Type 0 where
  pub refusal : Refusal
  pub part : Shown

abbrev pub shown_fault : HeldFault → ShownFault
shown_fault f = record { refusal = f.refusal; part = seen f.part }

abbrev pub listed : HeldFaults → List ShownFault
listed faults = map shown_fault faults.faults.items

abbrev pub refusals_of : List ShownFault → List Refusal
refusals_of faults = map (λ (f : ShownFault). f.refusal) faults

-- a condition on the document, with its part
abbrev pub IsOfDocument : Data → ShownFault → Type 0
IsOfDocument tree f = (f.refusal.place ≡ AtDocument) × (document_part tree f.refusal.reason ≡ Some f.part)

-- a condition on a fact, with its part; facts are numbered from 1
abbrev pub IsOfFact : Sheet → Data → ShownFault → Type 0
IsOfFact sheet tree f =
    (n : ℕ) × (d : Data) × (f.refusal.place ≡ AtFact (n + 1)) × (slice_get (values (facts_of tree)) n ≡ Some d)
    × (fact_part sheet (bindings_of tree) d f.refusal.reason ≡ Some f.part)

-- the refused duplicates, with the identifiers of two facts that the declared level does not allow together
abbrev pub IsOfDuplicates : Sheet → Data → ShownFault → Type 0
IsOfDuplicates sheet tree f =
    (i : ℕ) × (j : ℕ) × AreFactsApart sheet tree i j × (f.refusal ≡ at AtDocument DisallowedDuplicates)
    × (f.part ≡ two (get_or (tree_identifiers tree) i []) (get_or (tree_identifiers tree) j []))

-- the fault has the part that is shown for it
abbrev pub HasPart : Sheet → Data → ShownFault → Type 0
HasPart sheet tree f = IsOfDocument tree f ⊎ (IsOfFact sheet tree f ⊎ IsOfDuplicates sheet tree f)

-- ---- laws

abbrev pub first_of : List Refusal → Option Refusal
first_of [] = None
first_of (r ∷ rs) = Some r

-- a report has no faults exactly if it is accepted
abbrev pub NoFaultsWhereAccepted : Type 0
NoFaultsWhereAccepted = (sheet : Sheet) (bytes : List ℕ) → (faults sheet bytes ≡ []) ↔ ((d : Document) × Accepts sheet bytes d)

-- the first fault is the refusal in the outcome
abbrev pub FirstFaultIsAnswered : Type 0
FirstFaultIsAnswered = (sheet : Sheet) (bytes : List ℕ) → first_of (faults sheet bytes) ≡ result_err (outcome sheet bytes)
