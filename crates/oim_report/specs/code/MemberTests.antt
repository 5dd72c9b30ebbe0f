-- The tests of `Holds.antt` on single members of `dimensions` and `features` (own).
use Rattle.std.specs.Prelude.{ℕ, List, [], ◌∷◌, map, Bool, ◌&&◌, Option, None, if◌then◌else◌, codes, is_none, option_and_then}
use Rattle.std.specs.Option.{option_map_or, option_to_list}
use Rattle.std.specs.List.{find, flat_map}
use Rattle.std.specs.FinMap as map
use Rattle.std.specs.Result.{result_err}
use Rattle.std.specs.FinMap.{FinMap}
use Rattle.oim_names.specs.QName.{QName}
use Rattle.oim_names.specs.Bindings.{Binding}
use Rattle.serde_json.specs.Data.{Data, Members}
use Rattle.serde_json.specs.Find.{get, get_member}
use Rattle.oim_report.specs.Holds.{as_text, concept, declares_no_level, explicit_text, is_some_and, no_text}
use Rattle.oim_report.specs.Info.{declarations, features_of, info, is_allowed_duplicates, said_level}
use Rattle.oim_report.specs.Json.{entries, members, object_at}
use Rattle.oim_report.specs.Names.{named}
use Rattle.oim_report.specs.FactMembers.{is_defined}
use Rattle.oim_names.specs.Expansion.{Spelled, a_name}
use Rattle.oim_report.specs.Sheet.{Sheet, same_concept_kind}
use Rattle.oim_report.specs.declared.concept_kind.ConceptKind.{ConceptKind}
use Rattle.oim_report.specs.declared.concept_kind.ConceptKind.TheVariants.{Numeric}
use Rattle.oim_report.specs.declared.dimension_kind.DimensionKind.{DimensionKind}
use Rattle.oim_report.specs.declared.dimension_kind.DimensionKind.TheVariants.{Explicit}
use Rattle.oim_names.specs.declared.reason.Reason.{Reason}
use Rattle.oim_value.specs.Number.{number_refusal}
use Rattle.oim_value.specs.ValueOrder.{name_cmp}
use Rattle.oim_dims.specs.Period.{period_of}
use Rattle.oim_report.specs.Shown.{Shown, entry, value_or_nothing, when}

abbrev pub lacks_text : List ℕ → Members → Bool
lacks_text key ms = is_some_and no_text (get_member key ms)

abbrev pub first_defined : (List ℕ → Data → Bool) → Members → Option (List ℕ × Data)
first_defined test ms = find (λ m. is_defined m.0 && test m.0 m.1) (entries ms)

-- the texts that must be names: the key of a taxonomy-defined dimension, and the member if it is a text and the sheet lists the
-- dimension as explicit
abbrev pub names_at : Sheet → List Binding → List ℕ × Data → List Spelled
names_at sheet bs m = if is_defined m.0 then a_name m.0 ∷ map a_name (option_to_list (explicit_text sheet bs m)) else []

abbrev pub names_in : Sheet → List Binding → Members → List Spelled
names_in sheet bs ms = flat_map (names_at sheet bs) (entries ms)

abbrev pub defined_name : List Binding → List ℕ → Option QName
defined_name bs key = if is_defined key then named bs key else None

-- the names, with one more unless it is one of them
abbrev pub names_with : FinMap name_cmp DimensionKind → Option QName → FinMap name_cmp DimensionKind
names_with names name = option_map_or (λ n. if map.contains_key names n then names else map.insert names n Explicit) name names

-- ---- what several conditions on a fact object test

-- the kind of the concept, if the sheet lists the concept
abbrev pub listed_kind : Sheet → List Binding → Data → Option ConceptKind
listed_kind sheet bs d = option_and_then (map.get sheet.concepts) (concept sheet bs d (members (object_at (codes "dimensions") d)))

-- why the period is refused, if it is a text
abbrev pub refused_period : Data → Option Reason
refused_period d = option_and_then (λ t. result_err (period_of t)) (option_and_then as_text (get_member (codes "period") (members (object_at (codes "dimensions") d))))

-- why the value is refused as a number, if it is a text and the concept has the kind `Numeric`
abbrev pub refused_number : Option ConceptKind → Data → Option Reason
refused_number kind d = if is_some_and (same_concept_kind Numeric) kind then option_and_then number_refusal (option_and_then as_text (get (codes "value") d)) else None

-- ---- features

-- the member declares the feature, but no level
abbrev pub is_misdeclared : List Binding → List ℕ × Data → Bool
is_misdeclared bs m = is_allowed_duplicates bs m.0 && declares_no_level m

-- the first member that declares the feature but no level, or else all features
abbrev pub misdeclared_part : List Binding → Data → Shown
misdeclared_part bs tree = option_map_or entry (find (is_misdeclared bs) (entries (features_of tree))) (value_or_nothing (info (codes "features") tree))

abbrev pub misdeclared : List Binding → Data → Option Shown
misdeclared bs tree = when (is_none (said_level (declarations bs (features_of tree)))) (misdeclared_part bs tree)
