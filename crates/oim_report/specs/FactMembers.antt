-- The parts of a fact object (xBRL-JSON 1.0, section 3.1).
use Rattle.std.specs.Prelude.{◌≡◌, ℕ, List, [], ◌∷◌, Bool, true, false, ◌||◌, ◌&&◌, if◌then◌else◌, codes, Option, Some, option_map, option_and_then}
use Rattle.std.specs.List.{filter}
use Rattle.std.specs.Str.{is_utf8}
use Rattle.serde_json.specs.Data.{Data, Members, no_members, member}
use Rattle.serde_json.specs.Find.{get_member, as_object}
use Rattle.oim_report.specs.Json.{Given, given, given_at, any_member, entries, has_member, has_colon, is_absent, is_unknown, is_no_object}

-- the members of `dimensions`: the core dimensions, and the taxonomy-defined dimensions in the order of the members; `unknown` is
-- true if some other key has no colon
pub record DimensionMembers : Type 0 where
  pub concept : Given
  pub entity : Given
  pub period : Given
  pub unit : Given
  pub language : Given
  pub note : Given
  pub defined : List (List ℕ × Given)
  pub unknown : Bool

abbrev pub core_keys : List (List ℕ)
core_keys = codes "concept" ∷ codes "entity" ∷ codes "period" ∷ codes "unit" ∷ codes "language" ∷ codes "noteId" ∷ []

-- a key of a taxonomy-defined dimension: it is UTF-8 and has a colon
abbrev pub is_defined : List ℕ → Bool
is_defined key = has_colon key && is_utf8 key

-- the taxonomy-defined dimensions
abbrev pub defined_members : Members → List (List ℕ × Data)
defined_members ms = filter (λ m. is_defined m.0) (entries ms)

abbrev pub defined_in : Members → List (List ℕ × Given)
defined_in no_members = []
defined_in (member key d ms) = if is_defined key then (key, given d) ∷ defined_in ms else defined_in ms

abbrev pub dimension_parts : Members → DimensionMembers
dimension_parts ms = record {
  concept = given_at (codes "concept") ms;
  entity = given_at (codes "entity") ms;
  period = given_at (codes "period") ms;
  unit = given_at (codes "unit") ms;
  language = given_at (codes "language") ms;
  note = given_at (codes "noteId") ms;
  defined = defined_in ms;
  unknown = any_member (is_unknown core_keys) ms;
}

-- the members of a fact object: its value, its decimals, and its dimensions if they are an object. `linked` is true if `links`
-- has a member. `misshapen` is true if `dimensions` or `links` exists and is not an object. `unknown` is true if a key other than
-- `fact_keys` has no colon.
pub record FactMembers : Type 0 where
  pub value : Given
  pub decimals : Given
  pub dimensions : Option DimensionMembers
  pub linked : Bool
  pub misshapen : Bool
  pub unknown : Bool

abbrev pub fact_keys : List (List ℕ)
fact_keys = codes "value" ∷ codes "decimals" ∷ codes "dimensions" ∷ codes "links" ∷ []

abbrev pub parts_of : Members → FactMembers
parts_of ms = record {
  value = given_at (codes "value") ms;
  decimals = given_at (codes "decimals") ms;
  dimensions = option_map dimension_parts (option_and_then as_object (get_member (codes "dimensions") ms));
  linked = has_member (option_and_then as_object (get_member (codes "links") ms));
  misshapen = is_no_object (get_member (codes "dimensions") ms) || is_no_object (get_member (codes "links") ms);
  unknown = any_member (is_unknown fact_keys) ms;
}

-- the parts of a JSON value, if it is an object
abbrev pub fact_parts : Data → Option FactMembers
fact_parts d = option_map parts_of (as_object d)

-- `dimensions` is an object, `links` is absent or an object without members, there is no `noteId`, and no key is unknown
pub record HasForm (p : FactMembers) (ds : DimensionMembers) : Type 0 where
  pub there : p.dimensions ≡ Some ds
  pub shaped : p.misshapen ≡ false
  pub known : p.unknown ≡ false
  pub unlinked : p.linked ≡ false
  pub known_inside : ds.unknown ≡ false
  pub unnoted : is_absent ds.note ≡ true
