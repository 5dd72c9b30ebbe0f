-- The conditions of a document and of a fact object, one clause per condition (OIM 1.0; OIM Common 1.0; xBRL-JSON 1.0; own where
-- marked). If a part is missing, only a condition that requires the part applies.
use Rattle.std.specs.Prelude.{ℕ, ℤ, List, [], ◌∷◌, ◌++◌, map, length, Bool, true, false, not, ◌||◌, ◌&&◌, nat_lt, int_lt, if◌then◌else◌, bytes_eq, codes, Option, Some, None, is_none, is_some, option_and_then}
use Rattle.std.specs.Option.{option_map_or, option_to_list}
use Rattle.std.specs.List.{filter, filter_map, flat_map, list_any}
use Rattle.std.specs.FinMap as map
use Rattle.std.specs.Str.{is_utf8}
use Rattle.oim_names.specs.QName.{QName}
use Rattle.oim_names.specs.Bindings.{Binding}
use Rattle.oim_names.specs.Expansion.{Spelled, a_name, an_entity}
use Rattle.oim_names.specs.declared.reason.Reason.{Reason}
use Rattle.oim_names.specs.declared.reason.Reason.TheVariants.{MemberForm, UnknownMember, DocumentType, Namespace, BaseUrl, TaxonomyUrl, Feature, Links, Notes, DimensionsMissing, NameForm, UnboundPrefix, ReservedNamespace, MissingConcept, UnknownConcept, UnknownDimension, DimensionValue, PeriodForm, PeriodOrder, UnitForm, UnitOnOther, LanguageForm, LanguageOnNumeric, ValueForm, NumberForm, NumberDigits, DecimalsForm, DecimalsRange, DecimalsOnOther}
use Rattle.oim_value.specs.Decimals.{is_finite_decimals}
use Rattle.oim_value.specs.Level.{level_with}
use Rattle.oim_value.specs.Number.{is_number, is_short}
use Rattle.oim_dims.specs.Language.{is_language}
use Rattle.oim_dims.specs.Period.{end_part, start_part}
use Rattle.oim_dims.specs.DateTime.{moment_of}
use Rattle.oim_dims.specs.Unit.{denominator_pieces, is_unit_text, numerator_pieces}
use Rattle.serde_json.specs.Data.{Data, Items, no_items, item, Members}
use Rattle.serde_json.specs.Find.{as_integer, as_null, as_number, as_object, as_str, get, get_member}
use Rattle.url.specs.Parts.{Parts}
use Rattle.oim_report.specs.declared.concept_kind.ConceptKind.{ConceptKind}
use Rattle.oim_report.specs.declared.concept_kind.ConceptKind.TheVariants.{Numeric, Text, Name}
use Rattle.oim_report.specs.declared.dimension_kind.DimensionKind.{DimensionKind}
use Rattle.oim_report.specs.declared.dimension_kind.DimensionKind.TheVariants.{Explicit, Typed}
use Rattle.oim_report.specs.Info.{bindings_of, document_type, features_of, info, info_keys, is_allowed_duplicates, namespaces_of, root_keys, taxonomy_of}
use Rattle.oim_report.specs.Json.{any_in, any_member, entries, has_member, is_no_array, is_no_object, is_object, is_unknown, members, object_at}
use Rattle.oim_report.specs.References.{base_url, is_reference_refused}
use Rattle.oim_report.specs.Least.{least}
use Rattle.oim_report.specs.Names.{comes_again, named, refuses_some}
use Rattle.oim_report.specs.Namespaces.{binds_nothing}
use Rattle.oim_report.specs.FactMembers.{core_keys, defined_members, fact_keys}
use Rattle.oim_report.specs.Sheet.{Sheet, dimension_kind, same_concept_kind, same_dimension_kind}

-- ---- values

abbrev pub is_some_and : {A : Type 0} → (A → Bool) → Option A → Bool
is_some_and test o = option_map_or test o false

-- the text of a UTF-8 string; every string that was read is UTF-8
abbrev pub as_text : Data → Option (List ℕ)
as_text d = option_and_then (λ s. if is_utf8 s then Some s else None) (as_str d)

-- the value, if it is a number that `serde_json` reads as an integer
abbrev pub as_whole : Data → Option ℤ
as_whole d = option_and_then as_integer (as_number d)

abbrev pub no_text : Data → Bool
no_text d = is_none (as_text d)

abbrev pub no_text_or_null : Data → Bool
no_text_or_null d = no_text d && is_none (as_null d)

abbrev pub any_item : (Data → Bool) → Items → Bool
any_item test no_items = false
any_item test (item d ds) = test d || any_item test ds

-- ---- periods and units

abbrev pub lacks_moment : List ℕ → Bool
lacks_moment t = is_none (moment_of (start_part t)) || is_none (moment_of (end_part t))

abbrev pub runs_backward : List ℕ → Bool
runs_backward t = is_some_and (λ start. is_some_and (λ end. int_lt end start) (moment_of (end_part t))) (moment_of (start_part t))

-- the pieces of a unit's text, or none if the text does not have the form of a unit
abbrev pub pieces : List ℕ → List (List ℕ)
pieces t = if is_unit_text t then numerator_pieces t ++ denominator_pieces t else []

-- ---- facts

-- a dimension of this kind cannot have this member (xBRL-JSON 1.0: a typed member is a text or null)
abbrev pub misfits : DimensionKind → Data → Bool
misfits Explicit v = no_text v
misfits Typed v = no_text_or_null v

-- the sheet does not list the dimension that a key spells
abbrev pub is_unlisted : Sheet → List Binding → List ℕ → Bool
is_unlisted sheet bs key = is_some_and (λ n. is_none (map.get sheet.dimensions n)) (named bs key)

abbrev pub is_misfit : Sheet → List Binding → List ℕ → Data → Bool
is_misfit sheet bs key d = is_some_and (λ kind. misfits kind d) (dimension_kind sheet bs key)

-- the member of an explicit dimension, if the member is a text
abbrev pub explicit_text : Sheet → List Binding → List ℕ × Data → Option (List ℕ)
explicit_text sheet bs m = if is_some_and (same_dimension_kind Explicit) (dimension_kind sheet bs m.0) then as_text m.1 else None

-- `dimensions` has the members of the fact's object `dimensions`, or none if there is no such object
module _ (sheet : Sheet) (bs : List Binding) (fact : Data) (dimensions : Members) where
  -- the value at a key of the dimensions, and its text
  abbrev pub at : List ℕ → Option Data
  at key = get_member key dimensions

  abbrev pub text_at : List ℕ → Option (List ℕ)
  text_at key = option_and_then as_text (at key)

  abbrev pub value_text : Option (List ℕ)
  value_text = option_and_then as_text (get (codes "value") fact)

  -- None if the concept is absent, is not a text or does not expand
  abbrev pub concept : Option QName
  concept = option_and_then (named bs) (text_at (codes "concept"))

  -- the sheet lists the concept with this kind
  abbrev pub is_kind : ConceptKind → Bool
  is_kind k = is_some_and (same_concept_kind k) (option_and_then (map.get sheet.concepts) concept)

  -- the texts of the fact that must be names or entities, each with the test of its form
  abbrev pub names : List Spelled
  names =
      map a_name (option_to_list (text_at (codes "concept")))
      ++ (map an_entity (option_to_list (text_at (codes "entity")))
      ++ (flat_map (λ m. a_name m.0 ∷ map a_name (option_to_list (explicit_text sheet bs m))) (defined_members dimensions)
      ++ (map a_name (option_map_or pieces (text_at (codes "unit")) [])
      ++ map a_name (if is_kind Name then option_to_list value_text else []))))

  -- the condition applies (own: links and notes are refused, digits and decimals are limited)
  abbrev pub holds_with : Reason → Bool
  holds_with MemberForm =
      not (is_object fact) || is_none (get (codes "value") fact)
      || is_no_object (get (codes "dimensions") fact) || is_no_object (get (codes "links") fact)
      || is_some_and no_text (at (codes "concept")) || is_some_and no_text (at (codes "entity")) || is_some_and no_text (at (codes "period"))
      || is_some_and no_text (at (codes "unit")) || is_some_and no_text (at (codes "language"))
  holds_with UnknownMember = any_in (is_unknown fact_keys) (as_object fact) || any_member (is_unknown core_keys) dimensions
  holds_with Links = has_member (object_at (codes "links") fact)
  holds_with Notes = is_some (at (codes "noteId"))
  holds_with DimensionsMissing = is_object fact && is_none (get (codes "dimensions") fact)
  holds_with NameForm = refuses_some NameForm bs names
  holds_with UnboundPrefix = refuses_some UnboundPrefix bs names
  holds_with ReservedNamespace = refuses_some ReservedNamespace bs names
  holds_with MissingConcept = is_some (object_at (codes "dimensions") fact) && is_none (at (codes "concept"))
  holds_with UnknownConcept = is_some_and (λ n. is_none (map.get sheet.concepts n)) concept
  holds_with UnknownDimension = list_any (λ m. is_unlisted sheet bs m.0) (defined_members dimensions)
  holds_with DimensionValue =
      list_any (λ m. is_misfit sheet bs m.0 m.1) (defined_members dimensions) || comes_again (filter_map (λ m. named bs m.0) (defined_members dimensions))
  holds_with PeriodForm = is_some_and lacks_moment (text_at (codes "period"))
  holds_with PeriodOrder = is_some_and runs_backward (text_at (codes "period"))
  holds_with UnitForm = is_some_and (λ t. not (is_unit_text t)) (text_at (codes "unit"))
  holds_with UnitOnOther = is_some (at (codes "unit")) && (is_kind Text || is_kind Name)
  holds_with LanguageForm = is_some_and (λ t. not (is_language t)) (text_at (codes "language"))
  holds_with LanguageOnNumeric = is_some (at (codes "language")) && is_kind Numeric
  holds_with ValueForm = is_some_and no_text_or_null (get (codes "value") fact)
  holds_with NumberForm = is_kind Numeric && is_some_and (λ t. not (is_number t)) value_text
  holds_with NumberDigits = is_kind Numeric && is_some_and (λ t. is_number t && not (is_short t)) value_text
  holds_with DecimalsForm = is_some_and (λ v. is_none (as_whole v)) (get (codes "decimals") fact)
  holds_with DecimalsRange = is_some_and (λ n. not (is_finite_decimals n)) (option_and_then as_whole (get (codes "decimals") fact))
  holds_with DecimalsOnOther = is_some (get (codes "decimals") fact) && (is_kind Text || is_kind Name)
  holds_with r = false

unfoldable pub holds : Sheet → List Binding → Data → Reason → Bool
holds sheet bs fact = holds_with sheet bs fact (members (object_at (codes "dimensions") fact))

-- ---- documents

-- an entry of `taxonomy` is not a text, or is refused
abbrev pub is_no_reference : Option Parts → Data → Bool
is_no_reference base d = option_map_or (is_reference_refused base) (as_text d) true

abbrev pub declares_no_level : List ℕ × Data → Bool
declares_no_level m = is_none (option_and_then level_with (as_text m.1))

module _ (tree : Data) where
  -- the URL that relative references are resolved against; None if `baseURL` is absent or refused
  abbrev pub document_base_url : Option Parts
  document_base_url = option_and_then base_url (option_and_then as_text (info (codes "baseURL") tree))

  -- the members whose keys name the feature `xbrl:allowedDuplicates`
  abbrev pub declared : List (List ℕ × Data)
  declared = filter (λ m. is_allowed_duplicates (bindings_of tree) m.0) (entries (features_of tree))

  unfoldable pub document_holds : Reason → Bool
  document_holds MemberForm =
      not (is_object tree) || is_none (object_at (codes "documentInfo") tree)
      || is_no_object (info (codes "namespaces") tree) || is_no_object (info (codes "features") tree) || is_no_object (get (codes "facts") tree)
      || is_no_array (info (codes "taxonomy") tree)
  document_holds UnknownMember = any_in (is_unknown root_keys) (as_object tree) || any_in (is_unknown info_keys) (object_at (codes "documentInfo") tree)
  document_holds DocumentType =
      is_some (object_at (codes "documentInfo") tree)
      && not (is_some_and (λ t. bytes_eq t document_type) (option_and_then as_text (info (codes "documentType") tree)))
  document_holds Namespace = any_in binds_nothing (namespaces_of tree)
  document_holds BaseUrl = is_some_and (λ v. is_none (option_and_then base_url (as_text v))) (info (codes "baseURL") tree)
  document_holds TaxonomyUrl = any_item (is_no_reference document_base_url) (taxonomy_of tree)
  document_holds Feature = nat_lt 1 (length declared) || list_any declares_no_level declared
  document_holds r = false

-- the lowest-numbered condition that applies to the document, or None
abbrev pub document_refusal : Data → Option Reason
document_refusal tree = least (document_holds tree)
