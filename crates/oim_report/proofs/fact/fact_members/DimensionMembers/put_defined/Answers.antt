use Rattle.oim_report.proofs.Shared.{◌≡◌, ℕ, List, Bor, sym, ap, ◌∙◌, insert, JsonMember, with_given, seen, seen_defined}
use Rattle.oim_report.proofs.MembersPut.{seen_insert}
use Rattle.oim_report.proofs.fact.fact_members.DimensionMembers.put_defined.Goals as goal

pub returns-in_ok-insert-in-Some-clause-defined : goal.returns-in_ok-insert-in-Some-clause-defined
returns-in_ok-insert-in-Some-clause-defined c =
    let xs = c.args.self.now.defined.items in
    let at = c.in-Some.at in
    let x : Bor (List ℕ) × JsonMember = (c.args.key, c.args.member) in
    let index : with_given c.args.key.now (seen c.args.member) (seen_defined xs) ≡ insert (seen_defined xs) at (c.args.key.now, seen c.args.member) =
    ap (λ l. with_given c.args.key.now (seen c.args.member) (seen_defined l)) (sym c.as_slice.ensures.value) ∙ c.in-Some.ensures.index (seen c.args.member)
    ∙ ap (λ l. insert (seen_defined l) at (c.args.key.now, seen c.args.member)) c.as_slice.ensures.value in
    ap seen_defined c.in_ok-insert-in-Some.ensures.items ∙ seen_insert xs at x ∙ sym index
