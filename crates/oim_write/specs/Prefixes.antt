-- The prefixes of a text (own).
use Rattle.std.specs.Prelude.{ℕ, List, map, Contains}
use Rattle.fact_base.specs.Passed.{SpellsFact}
use Rattle.oim_names.specs.Bindings.{Binding}
use Rattle.oim_dims.specs.declared.fact.Fact.{Fact}
use Rattle.oim_write.specs.Tree.{name_text, prefix}
use Rattle.oim_write.specs.Uris.{uris}

-- one prefix for each URI, in the order of the URIs
abbrev pub bindings_of : List (List ℕ) → List Binding
bindings_of us = map (λ u. record { prefix = prefix us u; uri = u }) us

-- each name of the facts is spelled with a prefix that is bound to the URI of the name
abbrev pub FactsAreSpelled : Type 0
FactsAreSpelled = (facts : List Fact) (f : Fact) → Contains facts f → SpellsFact (bindings_of (uris facts)) (name_text (uris facts)) f
