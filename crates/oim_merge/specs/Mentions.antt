-- Mentions, each with the index of its fact (own).
use Rattle.std.specs.Prelude.{ℕ, List, Contains, map, count_by}
use Rattle.std.specs.List.{AllByRecursion}
use Rattle.std.specs.Ordering.{is_lt}
use Rattle.oim_dims.specs.FactOrder.{fact_cmp}
use Rattle.oim_dims.specs.declared.fact.Fact.{Fact}
use Rattle.oim_merge.specs.declared.mentions.Mention.{Mention}
use Rattle.oim_merge.specs.declared.mentions.IndexedMention.{IndexedMention}

-- each mentioned fact is in the list
abbrev pub AreOf : List Fact → List Mention → Type 0
AreOf facts ms = AllByRecursion (λ (m : Mention). Contains facts m.fact) ms

-- the number of these facts that are less than a fact
abbrev pub index : List Fact → Fact → ℕ
index facts f = count_by (λ g. is_lt (fact_cmp g f)) facts

-- a mention, with the number of these facts that are less than its fact
abbrev pub indexed : List Fact → Mention → IndexedMention
indexed facts m = record { index = index facts m.fact; report = m.report; identifier = m.identifier }

abbrev pub all_indexed : List Fact → List Mention → List IndexedMention
all_indexed facts ms = map (indexed facts) ms
