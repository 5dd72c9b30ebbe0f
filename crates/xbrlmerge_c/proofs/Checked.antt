-- Which of the two records a result has, by its status.
use Rattle.std.proofs.Common.{◌≡◌, ◌≢◌, ℕ, List, inl, inr, arith}
use Rattle.oim_report.specs.Sheet.{Sheet}
use Rattle.xbrlmerge_c.specs.Checks.{Accepts, IsResult, Refuses}
use Rattle.xbrlmerge_c.specs.Statuses.{done}
use Rattle.xbrlmerge_c.specs.declared.check.ReportResult.{ReportResult}

module _ (listed : Sheet) (number : ℕ) (report : List ℕ) (r : ReportResult) where
  pub accepts : IsResult listed number report r → r.status ≡ done → Accepts listed report r.checked
  accepts (inl s) is = s.1.0
  accepts (inr s) is = absurd (omega (arith, s.0, is))

  pub refuses : IsResult listed number report r → r.status ≢ done → Refuses listed number report r.refusal
  refuses (inl s) is = absurd (is s.0)
  refuses (inr s) is = s.1.0
