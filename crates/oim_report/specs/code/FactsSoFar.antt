-- The facts of a report that were read so far (own).
use Rattle.std.specs.Prelude.{◌≡◌, ℕ, List, Result}
use Rattle.oim_report.specs.Refusal.{map_ok}
use Rattle.oim_names.specs.Bindings.{Binding}
use Rattle.oim_names.specs.declared.reason.Reason.{Reason}
use Rattle.oim_dims.specs.declared.fact.Fact.{Fact}
use Rattle.json.specs.Json as json
use Rattle.serde_json.specs.Data.{Members, no_members, member}
use Rattle.oim_report.specs.Outcome.{fact_outcome}
use Rattle.oim_report.specs.Pieces.{put_all}
use Rattle.oim_report.specs.Sheet.{Sheet}
use Rattle.oim_report.specs.code.FoundFacts.{AreFound, append}
use Rattle.oim_report.specs.code.Judged.{AreJudged, IsJudged}
use Rattle.oim_report.specs.code.Ranks.{AreRanks}
use Rattle.oim_report.specs.code.TapeValues.{IsReadWhere}
use Rattle.oim_report.specs.declared.pieces.facts_so_far.FactsSoFar.{FactsSoFar}
use Rattle.oim_report.specs.declared.pieces.facts_so_far.FactsSoFar.TheVariants.{Accepted, Refused}
use Rattle.oim_report.specs.declared.pieces.judgement.Judgement.{Judgement}

-- the members denote these facts, or have these judgements, put one after another
abbrev pub AreSoFar : Sheet → List Binding → Members → FactsSoFar → Type 0
AreSoFar sheet bs ms (Accepted found) = AreFound sheet bs ms found.identifiers found.facts.items × AreRanks sheet.concepts found.facts.items found.ranks.items
AreSoFar sheet bs ms (Refused all) = AreJudged sheet bs (put_all ms no_members) all.by_identifier.entries

-- the members `more` are added to those of `old`
abbrev pub AreMore : Sheet → List Binding → Members → FactsSoFar → FactsSoFar → Type 0
AreMore sheet bs more old new = (ms : Members) → AreSoFar sheet bs ms old → AreSoFar sheet bs (append ms more) new

-- the value is read as data, which is added with the key
abbrev pub IsOneMore : Sheet → List Binding → List ℕ → json.Json → FactsSoFar → FactsSoFar → Type 0
IsOneMore sheet bs key v old new = IsReadWhere v (λ d. AreMore sheet bs (member key d no_members) old new)

-- the value is read as data with this outcome
abbrev pub IsSaid : Sheet → List Binding → json.Json → Result (Fact × ℕ) Reason → Type 0
IsSaid sheet bs v said = IsReadWhere v (λ d. fact_outcome sheet bs d ≡ map_ok (λ f. f.0) said)

-- the value is read as data of which the judgement is true
abbrev pub IsJudgedAt : Sheet → List Binding → json.Json → Judgement → Type 0
IsJudgedAt sheet bs v j = IsReadWhere v (λ d. IsJudged (fact_outcome sheet bs d) j)
