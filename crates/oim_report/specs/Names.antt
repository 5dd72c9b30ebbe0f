-- The names that texts expand to, and why names are refused (XML Namespaces 1.0, section 4; own where marked).
use Rattle.std.specs.Prelude.{ℕ, List, [], ◌∷◌, Bool, false, ◌||◌, if◌then◌else◌, Option, Some, None, option_and_then}
use Rattle.std.specs.List.{find, list_any}
use Rattle.std.specs.Ordering.{is_eq}
use Rattle.std.specs.Str.{bytes_eq}
use Rattle.oim_names.specs.QName.{QName, is_name, is_entity, local_part, prefix_part}
use Rattle.oim_names.specs.Bindings.{Binding, uri_of}
use Rattle.oim_names.specs.Expansion.{reserved_uri, Spelled, refuses}
use Rattle.oim_names.specs.declared.reason.Reason.{Reason}
use Rattle.oim_names.specs.declared.reason.Reason.TheVariants.{NameForm, UnboundPrefix, ReservedNamespace}
use Rattle.oim_value.specs.ValueOrder.{name_cmp}

abbrev pub refuses_some : Reason → List Binding → List Spelled → Bool
refuses_some reason bs names = list_any (refuses reason bs) names

-- the first reason to refuse any of the names: the form is tested first, then the prefix, then the namespace (own)
abbrev pub names_refusal : List Binding → List Spelled → Option Reason
names_refusal bs names = find (λ r. refuses_some r bs names) (NameForm ∷ UnboundPrefix ∷ ReservedNamespace ∷ [])

abbrev pub in_namespace : List ℕ → List ℕ → Option QName
in_namespace u t = if bytes_eq u reserved_uri then None else Some (record { uri = u; local_part = local_part t })

abbrev pub named_as : (List ℕ → Bool) → List Binding → List ℕ → Option QName
named_as has_form bs t = if has_form t then option_and_then (λ u. in_namespace u t) (uri_of bs (prefix_part t)) else None

-- the name that a text expands to, as in `Expands`
abbrev pub named : List Binding → List ℕ → Option QName
named = named_as is_name

abbrev pub entity_named : List Binding → List ℕ → Option QName
entity_named = named_as is_entity

-- a name is repeated
abbrev pub comes_again : List QName → Bool
comes_again [] = false
comes_again (n ∷ ns) = list_any (λ m. is_eq (name_cmp n m)) ns || comes_again ns
