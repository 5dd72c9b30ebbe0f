use Rattle.oim_merge.proofs.Evidenced.{lines_tell_verdicts, words_show_verdicts}
use Rattle.oim_merge.proofs.laws.lines_tell_verdicts.Goals as goal

pub returns-clause-verdict : goal.returns-clause-verdict
returns-clause-verdict c = lines_tell_verdicts

pub returns-clause-word : goal.returns-clause-word
returns-clause-word c = words_show_verdicts
