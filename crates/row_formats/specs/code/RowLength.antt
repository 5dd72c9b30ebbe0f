-- Numbers of bytes that a text has at least. They are computed without making the text.
use Rattle.std.specs.Prelude.{ℕ, ◌+◌, List, [], ◌∷◌, length, Option, Some, None}
use Rattle.serde_json.specs.Data.{Data, null, boolean, number, string, array, object, Items, no_items, item, Members, no_members, member}
use Rattle.oim_names.specs.QName.{QName}
use Rattle.oim_value.specs.declared.value.Value.{Value}
use Rattle.oim_value.specs.declared.value.Value.TheVariants.{Nil, Number, Text as AText, Name as AName}
use Rattle.oim_dims.specs.DimensionSet.{DimensionSet}
use Rattle.oim_dims.specs.Unit.{Measures}
use Rattle.oim_dims.specs.declared.member.Member.{Member}
use Rattle.oim_dims.specs.declared.member.Member.TheVariants.{Nil as NoMember, Text as MemberText, Name as MemberName}
use Rattle.fact_base.specs.Rows.{Row}
use Rattle.row_formats.specs.declared.row_format.RowFormat.{RowFormat}
use Rattle.row_formats.specs.declared.row_format.RowFormat.TheVariants.{Json, Csv, SpreadsheetCsv}

-- the bytes of all strings and keys
abbrev mutual
  pub strings : Data → ℕ
  strings null = 0
  strings (boolean b) = 0
  strings (number n) = 0
  strings (string s) = length s
  strings (array ds) = items_strings ds
  strings (object ms) = members_strings ms

  pub items_strings : Items → ℕ
  items_strings no_items = 0
  items_strings (item d ds) = strings d + items_strings ds

  pub members_strings : Members → ℕ
  members_strings no_members = 0
  members_strings (member k d ms) = length k + (strings d + members_strings ms)

-- the bytes of all fields
abbrev pub field_bytes : List (List ℕ) → ℕ
field_bytes [] = 0
field_bytes (t ∷ ts) = length t + field_bytes ts

-- ---- the bytes of the URIs in names: a report has a URI once, and a row has it with each name

abbrev pub names_bytes : List QName → ℕ
names_bytes [] = 0
names_bytes (n ∷ ns) = length n.uri + names_bytes ns

abbrev pub entity_bytes : Option QName → ℕ
entity_bytes None = 0
entity_bytes (Some n) = length n.uri

abbrev pub unit_bytes : Option Measures → ℕ
unit_bytes None = 0
unit_bytes (Some m) = names_bytes m.numerators + names_bytes m.denominators

abbrev pub member_bytes : Member → ℕ
member_bytes NoMember = 0
member_bytes (MemberText t) = 0
member_bytes (MemberName n) = length n.uri

abbrev pub members_bytes : List (QName × Member) → ℕ
members_bytes [] = 0
members_bytes (e ∷ es) = length e.0.uri + (member_bytes e.1 + members_bytes es)

abbrev pub dimensions_bytes : DimensionSet → ℕ
dimensions_bytes d = length d.concept.uri + (entity_bytes d.entity + (unit_bytes d.unit + members_bytes d.members))

abbrev pub value_bytes : Value → ℕ
value_bytes Nil = 0
value_bytes (Number units places) = 0
value_bytes (AText t) = 0
value_bytes (AName n) = length n.uri

-- the bytes of these facts, of which each has this number of bytes beside its value
abbrev pub facts_bytes : ℕ → List Value → ℕ
facts_bytes each [] = 0
facts_bytes each (v ∷ vs) = each + (value_bytes v + facts_bytes each vs)

-- JSON has the dimensions of a row once, and CSV with each fact
abbrev pub row_bytes : RowFormat → Row → ℕ
row_bytes Json r = dimensions_bytes r.0 + facts_bytes 0 r.1
row_bytes Csv r = facts_bytes (dimensions_bytes r.0) r.1
row_bytes SpreadsheetCsv r = facts_bytes (dimensions_bytes r.0) r.1
