-- A sheet lists the concepts and dimensions that reports may use, each with its kind (own).
use Rattle.std.specs.Prelude.{◌≡◌, ◌≢◌, ◌⊎◌, ◌↔◌, ℕ, List, [], ◌∷◌, ◌++◌, Bool, true, false, not, ◌||◌, codes, bytes_eq, if◌then◌else◌, Option, Some, None, is_some, option_and_then, Result, Err}
use Rattle.std.specs.Option.{option_map_or}
use Rattle.std.specs.List.{list_any}
use Rattle.std.specs.FinMap as map
use Rattle.std.specs.FinMap.{FinMap}
use Rattle.oim_names.specs.QName.{QName}
use Rattle.oim_names.specs.Bindings.{Binding}
use Rattle.oim_names.specs.Expansion.{Spelled, a_name}
use Rattle.oim_names.specs.declared.reason.Reason.{Reason}
use Rattle.oim_names.specs.declared.reason.Reason.TheVariants.{OutOfMemory, NotJson, MemberForm, UnknownMember, Namespace, NameForm, UnboundPrefix, ReservedNamespace, SheetKind}
use Rattle.oim_value.specs.ValueOrder.{name_cmp}
use Rattle.serde_json.specs.Data.{Data, Members, no_members, member}
use Rattle.serde_json.specs.Find.{get, as_object}
use Rattle.oim_report.specs.declared.concept_kind.ConceptKind.{ConceptKind}
use Rattle.oim_report.specs.declared.concept_kind.ConceptKind.TheVariants.{Numeric, Text, Name}
use Rattle.oim_report.specs.declared.dimension_kind.DimensionKind.{DimensionKind}
use Rattle.oim_report.specs.declared.dimension_kind.DimensionKind.TheVariants.{Explicit, Typed}
use Rattle.oim_report.specs.Json.{json, given, text_of, object_at, members, any_in, is_unknown, is_object, is_no_object}
use Rattle.oim_report.specs.Least.{IsLeast, least}
use Rattle.oim_report.specs.Names.{named, refuses_some}
use Rattle.oim_report.specs.Namespaces.{binds_nothing, bindings_in}
use Rattle.oim_report.specs.Refusal.{unless}

-- the concepts and the taxonomy-defined dimensions, each with its kind
pub record Sheet : Type 0 where
  pub concepts : FinMap name_cmp ConceptKind
  pub dimensions : FinMap name_cmp DimensionKind

-- ---- the parts

abbrev pub sheet_namespaces : Data → Option Members
sheet_namespaces tree = object_at (codes "namespaces") tree

abbrev pub sheet_concepts : Data → Members
sheet_concepts tree = members (object_at (codes "concepts") tree)

abbrev pub sheet_dimensions : Data → Members
sheet_dimensions tree = members (object_at (codes "dimensions") tree)

abbrev pub sheet_bindings : Data → List Binding
sheet_bindings tree = bindings_in (members (sheet_namespaces tree))

-- the keys, which must have the form of a name
abbrev pub key_names : Members → List Spelled
key_names no_members = []
key_names (member key d ms) = a_name key ∷ key_names ms

-- ---- kinds

abbrev pub concept_kind_named : List ℕ → Option ConceptKind
concept_kind_named t =
    if bytes_eq t (codes "numeric") then Some Numeric else (if bytes_eq t (codes "text") then Some Text else (if bytes_eq t (codes "name") then Some Name else None))

abbrev pub dimension_kind_named : List ℕ → Option DimensionKind
dimension_kind_named t = if bytes_eq t (codes "explicit") then Some Explicit else (if bytes_eq t (codes "typed") then Some Typed else None)

abbrev pub same_concept_kind : ConceptKind → ConceptKind → Bool
same_concept_kind Numeric Numeric = true
same_concept_kind Text Text = true
same_concept_kind Name Name = true
same_concept_kind k l = false

abbrev pub same_dimension_kind : DimensionKind → DimensionKind → Bool
same_dimension_kind Explicit Explicit = true
same_dimension_kind Typed Typed = true
same_dimension_kind k l = false

module _ {K : Type 0} (kind_named : List ℕ → Option K) (same : K → K → Bool) where
  abbrev pub kind_in : Data → Option K
  kind_in d = option_and_then kind_named (text_of (given d))

  -- an entry, if its key is a name and its value names a kind
  abbrev pub entry : Option QName → Option K → List (QName × K)
  entry (Some n) (Some k) = (n, k) ∷ []
  entry (Some n) None = []
  entry None k = []

  -- the names that keys spell, each with its kind; a key that is not a name, or whose value names no kind, is skipped
  abbrev pub entries_in : List Binding → Members → List (QName × K)
  entries_in bs no_members = []
  entries_in bs (member key d ms) = entry (named bs key) (kind_in d) ++ entries_in bs ms

  abbrev pub listed : List Binding → Members → FinMap name_cmp K
  listed bs ms = map.from_entries (entries_in bs ms)

  abbrev pub names_no_kind : List ℕ → Data → Bool
  names_no_kind key d = not (is_some (kind_in d))

  -- the map does not list the entry's name with the entry's kind
  abbrev pub has_other_kind : FinMap name_cmp K → QName × K → Bool
  has_other_kind m e = not (option_map_or (same e.1) (map.get m e.0) false)

  abbrev pub has_two_kinds : List Binding → Members → Bool
  has_two_kinds bs ms = list_any (has_other_kind (listed bs ms)) (entries_in bs ms)

  abbrev pub has_bad_kind : List Binding → Members → Bool
  has_bad_kind bs ms = any_in names_no_kind (Some ms) || has_two_kinds bs ms

-- the kind of the dimension that a key spells, if the sheet lists it
abbrev pub dimension_kind : Sheet → List Binding → List ℕ → Option DimensionKind
dimension_kind sheet bs key = option_and_then (map.get sheet.dimensions) (named bs key)

-- ---- conditions

abbrev pub sheet_keys : List (List ℕ)
sheet_keys = codes "namespaces" ∷ codes "concepts" ∷ codes "dimensions" ∷ []

abbrev pub sheet_names : Data → List Spelled
sheet_names tree = key_names (sheet_concepts tree) ++ key_names (sheet_dimensions tree)

-- a condition without a clause in `sheet_holds` never applies to a sheet
unfoldable pub sheet_holds : Data → Reason → Bool
sheet_holds tree MemberForm =
    not (is_object tree) || is_no_object (get (codes "namespaces") tree) || is_no_object (get (codes "concepts") tree) || is_no_object (get (codes "dimensions") tree)
sheet_holds tree UnknownMember = any_in (is_unknown sheet_keys) (as_object tree)
sheet_holds tree Namespace = any_in binds_nothing (sheet_namespaces tree)
sheet_holds tree NameForm = refuses_some NameForm (sheet_bindings tree) (sheet_names tree)
sheet_holds tree UnboundPrefix = refuses_some UnboundPrefix (sheet_bindings tree) (sheet_names tree)
sheet_holds tree ReservedNamespace = refuses_some ReservedNamespace (sheet_bindings tree) (sheet_names tree)
sheet_holds tree SheetKind =
    has_bad_kind concept_kind_named same_concept_kind (sheet_bindings tree) (sheet_concepts tree) || has_bad_kind dimension_kind_named same_dimension_kind (sheet_bindings tree) (sheet_dimensions tree)
sheet_holds tree r = false

-- ---- the contents of a sheet

abbrev pub said_sheet : Data → Sheet
said_sheet tree = record {
  concepts = listed concept_kind_named same_concept_kind (sheet_bindings tree) (sheet_concepts tree);
  dimensions = listed dimension_kind_named same_dimension_kind (sheet_bindings tree) (sheet_dimensions tree);
}

abbrev pub sheet_of : Option Data → Result Sheet Reason
sheet_of None = Err NotJson
sheet_of (Some tree) = unless (least (sheet_holds tree)) (said_sheet tree)

-- the sheet that the bytes denote, or the reason to refuse them
unfoldable pub sheet_outcome : List ℕ → Result Sheet Reason
sheet_outcome bytes = sheet_of (json bytes)

-- the outcome of a sheet is never a refusal for lack of memory
abbrev pub SheetOutcomesWantNoMemory : Type 0
SheetOutcomesWantNoMemory = (bytes : List ℕ) → sheet_outcome bytes ≢ Err OutOfMemory

-- a sheet is refused because it is not JSON, or for the lowest-numbered condition that applies
abbrev pub RefusesSheet : List ℕ → Reason → Type 0
RefusesSheet bytes r = ((json bytes ≡ None) × (r ≡ NotJson)) ⊎ ((tree : Data) × (json bytes ≡ Some tree) × IsLeast (sheet_holds tree) r)

abbrev pub SheetRefusedWhereHeld : Type 0
SheetRefusedWhereHeld = (bytes : List ℕ) (r : Reason) → (sheet_outcome bytes ≡ Err r) ↔ RefusesSheet bytes r
