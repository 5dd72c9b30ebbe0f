use Rattle.fact_base.proofs.RowsOf.{rows_tell_facts}
use Rattle.fact_base.proofs.laws.rows_tell_facts.Goals as goal

pub returns : goal.returns
returns c = rows_tell_facts
