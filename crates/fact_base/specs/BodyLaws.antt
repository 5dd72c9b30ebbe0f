-- Laws of bodies and unions: their contents, and independence of order and repetition (own).
use Rattle.std.specs.Prelude.{◌≡◌, ◌↔◌, ◌⊎◌, ℕ, List, ◌++◌, Contains}
use Rattle.std.specs.List.{Any}
use Rattle.merge_laws.specs.Members.{SameMembers}
use Rattle.merge_laws.specs.Sorted.{IsSet}
use Rattle.oim_dims.specs.FactOrder.{fact_cmp}
use Rattle.oim_dims.specs.declared.fact.Fact.{Fact}
use Rattle.oim_report.specs.Document.{Document}
use Rattle.fact_base.specs.Body.{Body, body, text_cmp, union}

-- both lists ascend strictly, so no item is repeated
pub record IsBody (b : Body) : Type 0 where
  pub facts : IsSet fact_cmp b.facts
  pub references : IsSet text_cmp b.references

-- the body has exactly the facts and references of the documents, each once and in order
pub record HasWhatDocumentsHave (docs : List Document) (b : Body) : Type 0 where
  pub rises : IsBody b
  pub facts : (f : Fact) → Contains b.facts f ↔ Any (λ d. Contains d.facts f) docs
  pub references : (r : List ℕ) → Contains b.references r ↔ Any (λ d. Contains d.references r) docs

abbrev pub BodyHasWhatDocumentsHave : Type 0
BodyHasWhatDocumentsHave = (docs : List Document) → HasWhatDocumentsHave docs (body docs)

-- `both` has exactly the facts and references of `a` and `b`, each once and in order
pub record HasBoth (a b both : Body) : Type 0 where
  pub rises : IsBody both
  pub facts : (f : Fact) → Contains both.facts f ↔ (Contains a.facts f ⊎ Contains b.facts f)
  pub references : (r : List ℕ) → Contains both.references r ↔ (Contains a.references r ⊎ Contains b.references r)

abbrev pub UnionHasBoth : Type 0
UnionHasBoth = (a b : Body) → HasBoth a b (union a b)

-- the body does not depend on the order or repetition of documents
abbrev pub BodyIgnoresOrder : Type 0
BodyIgnoresOrder = (ds es : List Document) → SameMembers ds es → body ds ≡ body es

-- the body of two concatenated lists of documents is the union of the bodies of the lists
abbrev pub BodyOfBoth : Type 0
BodyOfBoth = (ds es : List Document) → body (ds ++ es) ≡ union (body ds) (body es)
