use Rattle.report_tests.proofs.tests.base.many.+joined_in_pairs.Given as goal

abbrev pub decreases-joined_in_pairs : goal.decreases-joined_in_pairs
decreases-joined_in_pairs l = l.count
