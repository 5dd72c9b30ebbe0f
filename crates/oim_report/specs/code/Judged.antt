-- Judgements of facts that were found in a text (own).
use Rattle.std.specs.Prelude.{◌≡◌, List, Result, Ok, Err, String, string_bytes, map, ⊤}
use Rattle.std.specs.Global.{Global}
use Rattle.oim_names.specs.Bindings.{Binding}
use Rattle.oim_names.specs.declared.reason.Reason.{Reason}
use Rattle.oim_dims.specs.declared.fact.Fact.{Fact}
use Rattle.serde_json.specs.Data.{Members}
use Rattle.oim_report.specs.Outcome.{fact_outcome}
use Rattle.oim_report.specs.Sheet.{Sheet}
use Rattle.oim_report.specs.code.FoundFacts.{AreRelated}
use Rattle.oim_report.specs.declared.pieces.judgement.Judgement.{Judgement}
use Rattle.oim_report.specs.declared.pieces.judgement.Judgement.TheVariants.{Accepted, Refused, Unknown}

-- the judgement is true of an object with this outcome
abbrev pub IsJudged : Result Fact Reason → Judgement → Type 0
IsJudged outcome Accepted = (fact : Fact) × (outcome ≡ Ok fact)
IsJudged outcome (Refused reason) = outcome ≡ Err reason
IsJudged outcome Unknown = ⊤

-- the entries have the keys of the members, each with a judgement of the member's value
abbrev pub AreJudged : Sheet → List Binding → Members → List (String Global × Judgement) → Type 0
AreJudged sheet bs ms es = AreRelated (λ d j. IsJudged (fact_outcome sheet bs d) j) ms (map (λ e. string_bytes e.0) es) (map (λ e. e.1) es)
