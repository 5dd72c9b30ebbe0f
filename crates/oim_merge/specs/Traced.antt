-- Reports that are added one at a time, with the mentions of their facts (own).
use Rattle.std.specs.Prelude.{◌≡◌, ◌+◌, ℕ, List, [], ◌∷◌, ◌++◌}
use Rattle.oim_report.specs.Identifiers.{identifiers}
use Rattle.oim_report.specs.Outcome.{outcome}
use Rattle.oim_report.specs.Sheet.{Sheet}
use Rattle.oim_merge.specs.Added.{Added, added, begun, with_report}
use Rattle.oim_merge.specs.Sources.{mentions, mentions_of}
use Rattle.oim_merge.specs.declared.mentions.Mention.{Mention}

-- the reports that were added, and the mentions in the accepted ones
pub record Traced : Type 0 where
  pub added : Added
  pub mentions : List Mention

abbrev pub untraced : Sheet → Traced
untraced sheet = record { added = begun sheet; mentions = [] }

-- an accepted report adds its mentions; a refused report has none
abbrev pub with_traced : Traced → List ℕ → Traced
with_traced t bytes = record {
  added = with_report t.added bytes;
  mentions = t.mentions ++ mentions_of (t.added.reports + 1) (identifiers bytes) (outcome t.added.sheet bytes);
}

abbrev pub with_all_traced : Traced → List (List ℕ) → Traced
with_all_traced t [] = t
with_all_traced t (bytes ∷ reports) = with_all_traced (with_traced t bytes) reports

-- the state after all reports of a list, computed from the whole list
abbrev pub traced : Sheet → List (List ℕ) → Traced
traced sheet reports = record { added = added sheet reports; mentions = mentions sheet reports }

-- adding reports one at a time gives the state that is computed from the whole list
abbrev pub TracedStepsAreList : Type 0
TracedStepsAreList = (sheet : Sheet) (reports : List (List ℕ)) → with_all_traced (untraced sheet) reports ≡ traced sheet reports
