-- Bases and builders as contracts see them (own).
use Rattle.oim_report.specs.Sheet.{Sheet}
use Rattle.fact_base.specs.Body.{Body}

-- the sheet that a base or a builder borrows, and the body of its facts and references
pub record Contents : Type 0 where
  pub sheet : Sheet
  pub body : Body
