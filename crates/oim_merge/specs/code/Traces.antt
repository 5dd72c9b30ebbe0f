-- The state of a traced merge comes from some list of reports (own).
use Rattle.std.specs.Prelude.{◌≡◌, ℕ, List}
use Rattle.oim_merge.specs.Added.{Added, added}
use Rattle.oim_merge.specs.Sources.{mentions}
use Rattle.oim_merge.specs.declared.mentions.Mention.{Mention}

-- the reports and mentions are those of a list of reports
pub record AreTraced (a : Added) (ms : List Mention) : Type 0 where
  pub reports : List (List ℕ)
  pub added_are : a ≡ added a.sheet reports
  pub mentions_are : ms ≡ mentions a.sheet reports
