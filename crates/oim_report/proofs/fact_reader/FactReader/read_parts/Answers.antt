use Rattle.oim_report.proofs.Shared.{◌≡◌, ◌≢◌, ◌⊎◌, inl, inr, ⊎_elim, ℕ, List, Some, Result, Ok, Err, IfErr, IfOk, Data, Binding, Fact, fact_outcome, DimensionMembers, FactMembers, HasForm, fact_parts, fact_of, Sheet, seen_dimensions, seen_parts, Unread}
use Rattle.oim_report.specs.declared.unread.Unread.TheVariants.{OutOfMemory}
use Rattle.oim_report.proofs.SaidWhereFree.{free_form, outcome_free, said_outcome}
use Rattle.oim_report.proofs.Unsaid.{Stops, fact_unsaid}
use Rattle.oim_report.proofs.fact_reader.FactReader.read_parts.Goals as goal

as_said : (sheet : Sheet) (bs : List Binding) (p : FactMembers) (ds : DimensionMembers) (read : Result (Fact × ℕ) Unread) → HasForm p ds → IfOk read (λ f. fact_of sheet bs p ds ≡ Some f.0)
    → IfOk read (λ f. (d : Data) → fact_parts d ≡ Some p → fact_outcome sheet bs d ≡ Ok f.0)
as_said sheet bs p ds (Ok f) form said = λ d are. said_outcome sheet bs d p ds f.0 are form said
as_said sheet bs p ds (Err r) form said = tt

as_unsaid : (sheet : Sheet) (bs : List Binding) (p : FactMembers) (ds : DimensionMembers) (read : Result (Fact × ℕ) Unread) → HasForm p ds → IfErr read (Stops (fact_of sheet bs p ds))
    → IfErr read (λ e. (e ≡ OutOfMemory) ⊎ ((d : Data) → fact_parts d ≡ Some p → (f : Fact) → fact_outcome sheet bs d ≢ Ok f))
as_unsaid sheet bs p ds (Ok f) form stops = tt
as_unsaid sheet bs p ds (Err r) form stops = ⊎_elim (λ memory. inl memory) (λ none. inr (λ d are f said. fact_unsaid sheet bs d p ds f are form none said)) stops

pub returns-in_default-clause-errors : goal.returns-in_default-clause-errors
returns-in_default-clause-errors c =
    let own = c.args.self.now in
    inr (λ d are f said.
    let formed = free_form own.sheet own.aliases d (seen_parts c.args.parts.now) are (outcome_free own.sheet own.aliases d f said) in
    c.in_default.ensures.none formed.0 formed.1)

pub returns-clause-errors : goal.returns-clause-errors
returns-clause-errors c = as_unsaid c.args.self.now.sheet c.args.self.now.aliases (seen_parts c.args.parts.now) (seen_dimensions c.in-Some.dimensions.now) c.read_content.result c.in-Some.ensures.form c.read_content.ensures.errors

pub returns-clause-ok : goal.returns-clause-ok
returns-clause-ok c = as_said c.args.self.now.sheet c.args.self.now.aliases (seen_parts c.args.parts.now) (seen_dimensions c.in-Some.dimensions.now) c.read_content.result c.in-Some.ensures.form c.read_content.ensures.said
