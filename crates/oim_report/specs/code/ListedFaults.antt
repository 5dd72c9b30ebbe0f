-- The faults in the order in which they are found, each with its part (own).
use Rattle.std.specs.Prelude.{ℕ, ◌+◌, List, [], ◌∷◌, ◌++◌, map}
use Rattle.oim_names.specs.Bindings.{Binding}
use Rattle.oim_names.specs.declared.reason.Reason.{Reason}
use Rattle.serde_json.specs.Data.{Data}
use Rattle.oim_report.specs.declared.place.Place.{Place}
use Rattle.oim_report.specs.declared.place.Place.TheVariants.{Document as AtDocument, Fact as AtFact}
use Rattle.oim_report.specs.Faults.{ShownFault}
use Rattle.oim_report.specs.Holds.{document_holds, holds}
use Rattle.oim_report.specs.Least.{told}
use Rattle.oim_report.specs.Outcome.{at}
use Rattle.oim_report.specs.Sheet.{Sheet}
use Rattle.oim_report.specs.Shown.{document_shown, fact_shown}

abbrev pub document_fault : Data → Reason → ShownFault
document_fault tree r = record { refusal = at AtDocument r; part = document_shown tree r }

abbrev pub fact_fault : Sheet → List Binding → Data → Place → Reason → ShownFault
fact_fault sheet bs d place r = record { refusal = at place r; part = fact_shown sheet bs d r }

abbrev pub document_faults : Data → List ShownFault
document_faults tree = map (document_fault tree) (told (document_holds tree))

abbrev pub fact_faults : Sheet → List Binding → Data → Place → List ShownFault
fact_faults sheet bs d place = map (fact_fault sheet bs d place) (told (holds sheet bs d))

-- the faults of several fact objects; the objects are numbered from n
abbrev pub facts_faults : Sheet → List Binding → ℕ → List Data → List ShownFault
facts_faults sheet bs n [] = []
facts_faults sheet bs n (d ∷ ds) = fact_faults sheet bs d (AtFact n) ++ facts_faults sheet bs (n + 1) ds
