-- The conditions that are shown, each with the part that is shown for it (own).
use Rattle.std.specs.Prelude.{ℕ, List, [], ◌∷◌, map, Bool, true, false, not, if◌then◌else◌, codes, Option, Some, None, is_none, option_and_then, option_map}
use Rattle.std.specs.Option.{option_map_or}
use Rattle.std.specs.List.{find, list_any}
use Rattle.std.specs.FinMap.{FinMap}
use Rattle.std.specs.Ordering.{is_eq}
use Rattle.oim_names.specs.QName.{QName}
use Rattle.oim_names.specs.Bindings.{Binding}
use Rattle.oim_names.specs.Expansion.{Spelled, a_name, an_entity, refuses}
use Rattle.oim_names.specs.declared.reason.Reason.{Reason}
use Rattle.oim_names.specs.declared.reason.Reason.TheVariants.{MemberForm, UnknownMember, DocumentType, Namespace, BaseUrl, TaxonomyUrl, Feature, Links, Notes, NameForm, UnboundPrefix, ReservedNamespace, UnknownConcept, UnknownDimension, DimensionValue, PeriodForm, PeriodOrder, UnitForm, UnitOnOther, LanguageForm, LanguageOnNumeric, ValueForm, NumberForm, NumberDigits, DecimalsForm, DecimalsRange, DecimalsOnOther, SheetKind}
use Rattle.oim_value.specs.ValueOrder.{name_cmp}
use Rattle.serde_json.specs.Data.{Data, Items, no_items, item, Members}
use Rattle.serde_json.specs.Find.{as_object, get, get_member}
use Rattle.serde_json.specs.View.{view}
use Rattle.oim_report.specs.declared.part.Part.{Part}
use Rattle.oim_report.specs.declared.part.Part.TheVariants.{Nothing, Whole, Missing, NoObject, NoArray, NoText, Key, KeyIn, Name, Entity, Value, Member, Two}
use Rattle.oim_report.specs.Holds.{declared, declares_no_level, document_base_url, document_holds, holds, is_misfit, is_no_reference, is_some_and, is_unlisted, names, no_text}
use Rattle.oim_report.specs.Info.{info, info_keys, namespaces_of, root_keys, taxonomy_of}
use Rattle.oim_report.specs.Json.{entries, is_no_array, is_no_object, is_object, is_unknown, members, object_at}
use Rattle.oim_report.specs.Least.{is_shown, least}
use Rattle.oim_report.specs.Names.{named}
use Rattle.oim_report.specs.Namespaces.{binds_nothing}
use Rattle.oim_report.specs.FactMembers.{core_keys, defined_members, fact_keys}
use Rattle.oim_report.specs.Sheet.{Sheet, concept_kind_named, dimension_kind_named, has_other_kind, kind_in, listed, names_no_kind, same_concept_kind, same_dimension_kind, sheet_bindings, sheet_concepts, sheet_dimensions, sheet_holds, sheet_keys, sheet_names, sheet_namespaces}

-- ---- parts

-- the part that is shown for a condition; the comments of `Part` in the code describe each case
pub data Shown : Type 0 where
  nothing : Shown
  whole : Shown
  missing : List ℕ → Shown
  no_object : List ℕ → Shown
  no_array : List ℕ → Shown
  no_string : List ℕ → Shown
  key : List ℕ → Shown
  key_in : List ℕ → List ℕ → Shown
  name : Spelled → Shown
  value : Data → Shown
  entry : List ℕ × Data → Shown
  two : List ℕ → List ℕ → Shown

abbrev pub seen : Part → Shown
seen Nothing = nothing
seen Whole = whole
seen (Missing k) = missing k.now
seen (NoObject k) = no_object k.now
seen (NoArray k) = no_array k.now
seen (NoText k) = no_string k.now
seen (Key k) = key k.now
seen (KeyIn k index) = key_in k.now index.now
seen (Name t) = name (a_name t.now)
seen (Entity t) = name (an_entity t.now)
seen (Value v) = value (view v.now)
seen (Member k v) = entry (k.now, view v.now)
seen (Two k l) = two k.now l.now

-- the part, if `holds` is true
abbrev pub when : Bool → Shown → Option Shown
when holds part = if holds then Some part else None

abbrev pub value_or_nothing : Option Data → Shown
value_or_nothing d = option_map_or value d nothing

-- the first part whose test passes, or `nothing`
abbrev pub first_of : List (Bool × Shown) → Shown
first_of [] = nothing
first_of (t ∷ ts) = if t.0 then t.1 else first_of ts

-- the first unknown member, in byte order of the keys
abbrev pub unknown_in : List (List ℕ) → Option Members → Option (List ℕ × Data)
unknown_in known ms = find (λ m. is_unknown known m.0 m.1) (entries (members ms))

-- the first unknown key of the whole value, or else of the object at the key `outer`
abbrev pub unknown_key : List (List ℕ) → Data → List (List ℕ) → List ℕ → Shown
unknown_key known d inner outer =
    option_map_or (λ m. key m.0) (unknown_in known (as_object d)) (option_map_or (λ m. key_in m.0 outer) (unknown_in inner (object_at outer d)) nothing)

-- the first entry of `namespaces` that binds nothing
abbrev pub unbound_entry : Option Members → Shown
unbound_entry ms = option_map_or entry (find (λ m. binds_nothing m.0 m.1) (entries (members ms))) nothing

abbrev pub spell_same : List Binding → List ℕ → List ℕ → Bool
spell_same bs k l = is_some_and (λ n. is_some_and (λ o. is_eq (name_cmp n o)) (named bs l)) (named bs k)

-- the first key that spells the same name as k, and k
abbrev pub beside_first : List Binding → List (List ℕ × Data) → List ℕ → Shown
beside_first bs ms k = two (option_map_or (λ m. m.0) (find (λ m. spell_same bs k m.0) ms) k) k

-- the first member whose key spells the same name as an earlier key; `before` has the earlier names
abbrev pub repeated : List Binding → List QName → List (List ℕ × Data) → Option (List ℕ × Data)
repeated bs before [] = None
repeated bs before (m ∷ ms) = option_map_or (λ n. if list_any (λ o. is_eq (name_cmp n o)) before then Some m else repeated bs (n ∷ before) ms) (named bs m.0) (repeated bs before ms)

-- ---- facts

-- the first of the concept, entity, period, unit and language that is not a text, or `nothing`
abbrev pub textless : Members → Shown
textless ms = first_of (map (λ k. (is_some_and no_text (get_member k ms), no_string k)) (codes "concept" ∷ codes "entity" ∷ codes "period" ∷ codes "unit" ∷ codes "language" ∷ []))

module _ (sheet : Sheet) (bs : List Binding) (fact : Data) (dimensions : Members) where
  abbrev pub refused_name : Reason → Shown
  refused_name r = option_map_or name (find (refuses r bs) (names sheet bs fact dimensions)) nothing

  -- the value that a condition is about, if there is one
  abbrev pub subject : Reason → Option Data
  subject Links = get (codes "links") fact
  subject Notes = get_member (codes "noteId") dimensions
  subject UnknownConcept = get_member (codes "concept") dimensions
  subject PeriodForm = get_member (codes "period") dimensions
  subject PeriodOrder = get_member (codes "period") dimensions
  subject UnitForm = get_member (codes "unit") dimensions
  subject UnitOnOther = get_member (codes "unit") dimensions
  subject LanguageForm = get_member (codes "language") dimensions
  subject LanguageOnNumeric = get_member (codes "language") dimensions
  subject ValueForm = get (codes "value") fact
  subject NumberForm = get (codes "value") fact
  subject NumberDigits = get (codes "value") fact
  subject DecimalsForm = get (codes "decimals") fact
  subject DecimalsRange = get (codes "decimals") fact
  subject DecimalsOnOther = get (codes "decimals") fact
  subject r = None

  abbrev pub shown_with : Reason → Shown
  shown_with MemberForm = first_of (
      (not (is_object fact), whole)
      ∷ (is_none (get (codes "value") fact), missing (codes "value"))
      ∷ (is_no_object (get (codes "dimensions") fact), no_object (codes "dimensions"))
      ∷ (is_no_object (get (codes "links") fact), no_object (codes "links"))
      ∷ (true, textless dimensions)
      ∷ [])
  shown_with UnknownMember = unknown_key fact_keys fact core_keys (codes "dimensions")
  shown_with NameForm = refused_name NameForm
  shown_with UnboundPrefix = refused_name UnboundPrefix
  shown_with ReservedNamespace = refused_name ReservedNamespace
  shown_with UnknownDimension =
      option_map_or (λ m. name (a_name m.0)) (find (λ m. is_unlisted sheet bs m.0) (defined_members dimensions)) nothing
  shown_with DimensionValue =
      option_map_or entry (find (λ m. is_misfit sheet bs m.0 m.1) (defined_members dimensions))
      (option_map_or (λ m. beside_first bs (entries dimensions) m.0) (repeated bs [] (defined_members dimensions)) nothing)
  shown_with r = value_or_nothing (subject r)

-- the part of a fact object that is shown for a condition
unfoldable pub fact_shown : Sheet → List Binding → Data → Reason → Shown
fact_shown sheet bs fact = shown_with sheet bs fact (members (object_at (codes "dimensions") fact))

-- the part from `fact_shown`, if the condition applies
abbrev pub fact_part : Sheet → List Binding → Data → Reason → Option Shown
fact_part sheet bs fact r = when (holds sheet bs fact r) (fact_shown sheet bs fact r)

-- ---- documents

abbrev pub first_item : (Data → Bool) → Items → Option Data
first_item test no_items = None
first_item test (item d ds) = if test d then Some d else first_item test ds

-- the part of a document that is shown for a condition
unfoldable pub document_shown : Data → Reason → Shown
document_shown tree MemberForm = first_of (
    (not (is_object tree), whole)
    ∷ (is_none (get (codes "documentInfo") tree), missing (codes "documentInfo"))
    ∷ (is_no_object (get (codes "documentInfo") tree), no_object (codes "documentInfo"))
    ∷ (is_no_object (info (codes "namespaces") tree), no_object (codes "namespaces"))
    ∷ (is_no_object (info (codes "features") tree), no_object (codes "features"))
    ∷ (is_no_object (get (codes "facts") tree), no_object (codes "facts"))
    ∷ (is_no_array (info (codes "taxonomy") tree), no_array (codes "taxonomy"))
    ∷ [])
document_shown tree UnknownMember = unknown_key root_keys tree info_keys (codes "documentInfo")
document_shown tree DocumentType = value_or_nothing (info (codes "documentType") tree)
document_shown tree Namespace = unbound_entry (namespaces_of tree)
document_shown tree BaseUrl = value_or_nothing (info (codes "baseURL") tree)
document_shown tree TaxonomyUrl = value_or_nothing (first_item (is_no_reference (document_base_url tree)) (taxonomy_of tree))
document_shown tree Feature = option_map_or entry (find declares_no_level (declared tree)) (value_or_nothing (info (codes "features") tree))
document_shown tree r = nothing

-- the part from `document_shown`, if the condition applies and is not hidden
abbrev pub document_part : Data → Reason → Option Shown
document_part tree r = when (is_shown (document_holds tree) r) (document_shown tree r)

-- ---- sheets

module _ {K : Type 0} (kind_named : List ℕ → Option K) (same : K → K → Bool) where
  -- the first entry whose value names no kind
  abbrev pub kindless : Members → Option (List ℕ × Data)
  kindless ms = find (λ m. names_no_kind kind_named same m.0 m.1) (entries ms)

  -- the name that an entry's key spells, with the kind that the entry's value names
  abbrev pub named_kind : List Binding → List ℕ × Data → Option (QName × K)
  named_kind bs m = option_and_then (λ n. option_map (λ k. (n, k)) (kind_in kind_named same m.1)) (named bs m.0)

  -- the first entry whose name does not have the entry's kind in the map
  abbrev pub of_other_kind : List Binding → FinMap name_cmp K → List (List ℕ × Data) → Option (List ℕ × Data)
  of_other_kind bs kinds ms = find (λ m. option_map_or (has_other_kind kind_named same kinds) (named_kind bs m) false) ms

  -- the first entry that repeats a name with another kind than the first entry with this name
  abbrev pub two_kinds : List Binding → Members → Option Shown
  two_kinds bs ms = option_map (λ m. beside_first bs (entries ms) m.0) (of_other_kind bs (listed kind_named same bs ms) (entries ms))

-- the first part that is present, or nothing
abbrev pub first_shown : List (Option Shown) → Shown
first_shown [] = nothing
first_shown (o ∷ os) = option_map_or (λ part. part) o (first_shown os)

abbrev pub refused_key : Data → Reason → Shown
refused_key tree r = option_map_or name (find (refuses r (sheet_bindings tree)) (sheet_names tree)) nothing

-- the part of a sheet that is shown for a condition
unfoldable pub sheet_shown : Data → Reason → Shown
sheet_shown tree MemberForm = first_of (
    (not (is_object tree), whole)
    ∷ (is_no_object (get (codes "namespaces") tree), no_object (codes "namespaces"))
    ∷ (is_no_object (get (codes "concepts") tree), no_object (codes "concepts"))
    ∷ (is_no_object (get (codes "dimensions") tree), no_object (codes "dimensions"))
    ∷ [])
sheet_shown tree UnknownMember = option_map_or (λ m. key m.0) (unknown_in sheet_keys (as_object tree)) nothing
sheet_shown tree Namespace = unbound_entry (sheet_namespaces tree)
sheet_shown tree SheetKind = first_shown (
    option_map entry (kindless concept_kind_named same_concept_kind (sheet_concepts tree))
    ∷ option_map entry (kindless dimension_kind_named same_dimension_kind (sheet_dimensions tree))
    ∷ two_kinds concept_kind_named same_concept_kind (sheet_bindings tree) (sheet_concepts tree)
    ∷ two_kinds dimension_kind_named same_dimension_kind (sheet_bindings tree) (sheet_dimensions tree)
    ∷ [])
sheet_shown tree NameForm = refused_key tree NameForm
sheet_shown tree UnboundPrefix = refused_key tree UnboundPrefix
sheet_shown tree ReservedNamespace = refused_key tree ReservedNamespace
sheet_shown tree r = nothing

-- the reason to refuse a sheet and the part that is shown for the reason, or None if no condition applies
abbrev pub sheet_part : Data → Option (Reason × Shown)
sheet_part tree = option_map (λ r. (r, sheet_shown tree r)) (least (sheet_holds tree))
