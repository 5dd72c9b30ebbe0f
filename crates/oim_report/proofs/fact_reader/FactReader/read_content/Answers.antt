use Rattle.oim_report.proofs.Shared.{◌≡◌, Some, IfSome, sym, subst, ◌∙◌, same_Some, said_concept, said_dimensions, seen, IsRank, Scope, seen_dimensions}
use Rattle.oim_report.proofs.Accepted.{each_says}
use Rattle.oim_report.proofs.fact_reader.FactReader.read_content.Goals as goal

pub returns-clause-rank : goal.returns-clause-rank
returns-clause-rank c =
    let own = c.args.self.now in
    let ds = seen_dimensions c.args.dimensions.now in
    let d = c.in_ok-dimensions.dimensions in
    let kind = c.in-Some.kind in
    let found = c.in_ok-name.ensures in
    let said = subst (λ (s : Scope). said_dimensions s.sheet s.aliases kind ds ≡ Some d) found.same c.in_ok-dimensions.ensures.said in
    let named = subst (λ o. IfSome o (λ e. said_concept own.aliases (seen c.args.dimensions.now.concept) ≡ Some e.0.now)) c.in-Some.is found.name in
    let rank = subst (λ o. IfSome o (λ e. IsRank own.sheet.concepts e.0.now e.2)) c.in-Some.is found.rank in
    subst (λ q. IsRank own.sheet.concepts q c.in-Some.rank) (same_Some _ _ (sym named ∙ (each_says own.sheet own.aliases kind ds d said).concept)) rank
