use Rattle.fact_base.proofs.Shared.{[], ℕ, List, sym, subst, Entry, facts_of_entries, AreStored}
use Rattle.fact_base.proofs.base.Base.new.Goals as goal
use Rattle.fact_base.specs.Sets.{set_of}
use Rattle.fact_base.proofs.Stored.{nothing_stored}

pub invariant_of-result : goal.invariant_of-result
invariant_of-result c =
    subst (λ (es : List Entry). AreStored c.args.sheet.now es c.new-2.result) (sym c.new.ensures)
    (subst (λ (rs : List (List ℕ)). AreStored c.args.sheet.now [] rs) (sym c.new-2.ensures) (nothing_stored c.args.sheet.now))

pub returns : goal.returns
unfolding set_of
returns c = λ i. record { sheet = c.args.sheet.now; body = record { facts = facts_of_entries (c.new.ensures i); references = c.new-2.ensures i } }
