-- The faults of a report as they are printed.
use Rattle.std.proofs.Common.{◌≡◌, ℕ, List, [], ◌∷◌, map, Option, Some, None, refl, ap, ◌∙◌}
use Rattle.std.specs.Option.{option_map, option_map_or, unwrap_or}
use Rattle.serde_json.specs.Data.{Data}
use Rattle.oim_names.specs.declared.reason.Reason.TheVariants.{NotJson}
use Rattle.oim_report.specs.declared.fault.Fault.{Fault}
use Rattle.oim_report.specs.declared.refusal.Refusal.{Refusal}
use Rattle.oim_report.specs.Faults.{faults, refusals_of, shown_fault, tree_faults}
use Rattle.oim_report.specs.Identifiers.{tree_identifiers}
use Rattle.oim_report.specs.Json.{json}
use Rattle.oim_report.specs.Outcome.{at}
use Rattle.oim_report.specs.Sheet.{Sheet}
use Rattle.oim_report.specs.declared.place.Place.TheVariants.{Document}
use Rattle.oim_explain.specs.Explained.{printed_fault, printed_faults}
use Rattle.oim_explain.specs.Lines.{Printed}

abbrev pub refusal_in : Fault → Refusal
refusal_in fault = fault.refusal

pub refusals_in : (found : List Fault) → refusals_of (map shown_fault found) ≡ map refusal_in found
refusals_in [] = refl
refusals_in (f ∷ fs) = ap (λ rs. f.refusal ∷ rs) (refusals_in fs)

module _ (sheet : Sheet) (bytes : List ℕ) where
  abbrev shown : Option Data → List Printed
  shown read = map (printed_fault (unwrap_or (option_map tree_identifiers read) [])) (option_map_or (tree_faults sheet) read (at Document NotJson ∷ []))

  by_read : printed_faults sheet bytes ≡ shown (json bytes)
  unfolding faults
  by_read = refl

  pub printed_unread : json bytes ≡ None → printed_faults sheet bytes ≡ printed_fault [] (at Document NotJson) ∷ []
  printed_unread is = by_read ∙ ap shown is

  pub printed_read : (tree : Data) → json bytes ≡ Some tree → printed_faults sheet bytes ≡ map (printed_fault (tree_identifiers tree)) (tree_faults sheet tree)
  printed_read tree is = by_read ∙ ap shown is

  pub printed_accepted : faults sheet bytes ≡ [] → printed_faults sheet bytes ≡ []
  printed_accepted is = ap (map (printed_fault (unwrap_or (option_map tree_identifiers (json bytes)) []))) is
