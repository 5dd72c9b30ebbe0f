use Rattle.fact_base.proofs.Bodies.{body_has_what_documents_have}
use Rattle.fact_base.proofs.laws.body_has_what_documents_have.Goals as goal

pub returns : goal.returns
returns c = body_has_what_documents_have
