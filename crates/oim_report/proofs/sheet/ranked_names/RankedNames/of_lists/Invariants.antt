use Rattle.oim_report.proofs.NameLists.{AreSoFar}
use Rattle.oim_report.proofs.sheet.ranked_names.RankedNames.of_lists.Given as goal

abbrev pub invariant-loop-uri : goal.invariant-loop-uri
invariant-loop-uri g l = AreSoFar l.initial.uri-iterator l.uri-iterator l.names.items l.spans
