use Rattle.oim_report.proofs.Shared.{⊎_elim, sym, ap, ◌∙◌, option_map, view, fact_outcome, seen_parts}
use Rattle.oim_report.proofs.fact_reader.FactReader.read.Goals as goal

pub refusal_of-requires-in-Err-NeedsTree : goal.refusal_of-requires-in-Err-NeedsTree
refusal_of-requires-in-Err-NeedsTree c = λ f said.
    let object = view c.args.object.now in
    let are = sym c.in_ok-parts.ensures ∙ ap (option_map seen_parts) c.in-Some.is in
    let here = ap (λ s. fact_outcome s.sheet s.aliases object) (sym c.in-Err-NeedsTree.ensures.same) ∙ said in
    ⊎_elim (λ memory. absurd (cc)) (λ never. never object are f here) c.in-Err-NeedsTree.ensures.errors
