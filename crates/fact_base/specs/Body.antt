-- The set of facts and the set of references of documents (own).
use Rattle.std.specs.Prelude.{ℕ, List, ◌++◌}
use Rattle.std.specs.List.{flat_map}
use Rattle.std.specs.Ordering.{nat_cmp}
use Rattle.std.specs.declared.cmp.Ordering.{Ordering}
use Rattle.std.specs.Cmp.Lexicographic.{slice_cmp}
use Rattle.oim_dims.specs.FactOrder.{fact_cmp}
use Rattle.oim_dims.specs.declared.fact.Fact.{Fact}
use Rattle.oim_report.specs.Document.{Document}
use Rattle.fact_base.specs.Sets.{set_of}

-- the order of texts by bytes
abbrev pub text_cmp : List ℕ → List ℕ → Ordering
text_cmp = slice_cmp nat_cmp

-- a list of facts and a list of references; `IsBody` states that both are sets
pub record Body : Type 0 where
  pub facts : List Fact
  pub references : List (List ℕ)

-- the facts of all documents, in the order of the documents; the next definition does the same for references
abbrev pub all_facts : List Document → List Fact
all_facts docs = flat_map (λ d. d.facts) docs

abbrev pub all_references : List Document → List (List ℕ)
all_references docs = flat_map (λ d. d.references) docs

-- the body of these facts and references, which may be in any order and repeated
abbrev pub gathered : List Fact → List (List ℕ) → Body
gathered facts references = record { facts = set_of fact_cmp facts; references = set_of text_cmp references }

-- the body of all facts and references of the documents
abbrev pub body : List Document → Body
body docs = gathered (all_facts docs) (all_references docs)

abbrev pub union : Body → Body → Body
union a b = gathered (a.facts ++ b.facts) (a.references ++ b.references)
