-- A row has at least the bytes of the URIs in it.
use Rattle.row_formats.proofs.Shared.{◌≡◌, ℕ, suc, ◌+◌, ◌<◌, ◌≤◌, ◌==◌, ◌⊎◌, inl, inr, if◌then◌else◌, Bool, true, false, List, [], ◌∷◌, ◌++◌, length, map, codes, Option, Some, None, refl, sym, ap, subst, arith, length-append, Members, object, no_members, compact_text, Value, DimensionSet, period_text, Sheet, member_data, option_spelled, option_unit_text, value_data, Row, rows_of, Evidence, defined_members, ordered_dimensions, text_member, AreRowsFrom, identifier_at, cell, csv_facts, defined_text, dimension_fields, evidence_fields, fact_fields, or_empty, record_text, rfc_4180, value_fields, fact_data, fact_items, json_row, row_data, AreBeyond, header, row_text, braced, dimensions_bytes, entity_bytes, facts_bytes, field_bytes, items_strings, member_bytes, members_bytes, members_strings, names_bytes, row_bytes, strings, unit_bytes, value_bytes, RowFormat, Json, Csv, SpreadsheetCsv}
use Rattle.std.proofs.Math.Dec.{eqb-suc-zero}
use Rattle.std.specs.List.{join_with_byte}
use Rattle.oim_names.specs.QName.{QName}
use Rattle.oim_value.specs.declared.value.Value.TheVariants.{Nil, Number, Text as AText, Name as AName}
use Rattle.oim_dims.specs.Unit.{Measures, product_text, side_text, unit_text}
use Rattle.oim_dims.specs.declared.fact.Fact.{Fact}
use Rattle.oim_dims.specs.declared.member.Member.{Member}
use Rattle.oim_dims.specs.declared.member.Member.TheVariants.{Nil as NoMember, Text as MemberText, Name as MemberName}
use Rattle.fact_base.specs.Body.{Body}
use Rattle.fact_base.specs.Fits.{Fits}
use Rattle.row_formats.proofs.Lengths.{cell_longer, record_longer, strings_within}
use Rattle.row_formats.proofs.RowTexts.{rows_are_one}

-- ---- names, units

braced_longer : (n : QName) → length n.uri ≤ length (braced n)
braced_longer n = omega (arith, length-append n.uri (125 ∷ n.local_part))

product_longer : (ns : List QName) → names_bytes ns ≤ length (product_text braced ns)
product_longer [] = omega arith
product_longer (n ∷ []) = omega (arith, braced_longer n)
product_longer (n ∷ m ∷ ns) =
    omega (arith, braced_longer n, product_longer (m ∷ ns), length-append (braced n) (42 ∷ join_with_byte 42 (map braced (m ∷ ns))))

side_longer : (ns : List QName) → names_bytes ns ≤ length (side_text braced ns)
side_longer ns =
    let inside = product_longer ns in
    let joined = length-append (40 ∷ product_text braced ns) (41 ∷ []) in
    grind arith

no_names : (ns : List QName) → (length ns == 0) ≡ true → names_bytes ns ≡ 0
no_names [] is = refl
no_names (n ∷ ns) is = absurd (let some = eqb-suc-zero (length ns) in cc)

quotient_longer : (alone : Bool) (above below : List QName) → (alone ≡ true → names_bytes below ≡ 0) →
    names_bytes above + names_bytes below ≤ length (if alone then product_text braced above else side_text braced above ++ 47 ∷ side_text braced below)
quotient_longer true above below none = omega (arith, product_longer above, none refl)
quotient_longer false above below none =
    omega (arith, side_longer above, side_longer below, length-append (side_text braced above) (47 ∷ side_text braced below))

unit_is : (m : Measures) → unit_text braced m ≡ (if length m.denominators == 0 then product_text braced m.numerators else side_text braced m.numerators ++ 47 ∷ side_text braced m.denominators)
unit_is m = unfold unit_text in refl

unit_longer : (m : Measures) → names_bytes m.numerators + names_bytes m.denominators ≤ length (unit_text braced m)
unit_longer m =
    omega (arith, quotient_longer (length m.denominators == 0) m.numerators m.denominators (no_names m.denominators), ap (λ (t : List ℕ). length t) (unit_is m))

-- ---- JSON

member_longer : (m : Member) → member_bytes m ≤ strings (member_data braced m)
member_longer NoMember = omega arith
member_longer (MemberText t) = omega arith
member_longer (MemberName n) = braced_longer n

members_longer : (es : List (QName × Member)) (ms : Members) → members_bytes es + members_strings ms ≤ members_strings (defined_members braced es ms)
members_longer [] ms = omega arith
members_longer (e ∷ es) ms = omega (arith, braced_longer e.0, member_longer e.1, members_longer es ms)

entity_longer : (o : Option QName) (ms : Members) → entity_bytes o + members_strings ms ≤ members_strings (text_member (codes "entity") (option_spelled braced o) ms)
entity_longer None ms = omega arith
entity_longer (Some n) ms = let name = braced_longer n in omega (arith, name)

text_longer : (key : List ℕ) (o : Option (List ℕ)) (ms : Members) → members_strings ms ≤ members_strings (text_member key o ms)
text_longer key None ms = omega arith
text_longer key (Some t) ms = omega arith

unit_member_longer : (o : Option Measures) → unit_bytes o ≤ members_strings (text_member (codes "unit") (option_unit_text braced o) no_members)
unit_member_longer None = omega arith
unit_member_longer (Some m) = let unit = unit_longer m in omega (arith, unit)

dimensions_longer : (d : DimensionSet) → dimensions_bytes d ≤ members_strings (ordered_dimensions braced d)
dimensions_longer d =
    let unit = text_member (codes "unit") (option_unit_text braced d.unit) no_members in
    let period = text_member (codes "period") (period_text d.period) unit in
    let defined = defined_members braced d.members period in
    let language = text_member (codes "language") d.language defined in
    omega (
      arith,
      braced_longer d.concept,
      entity_longer d.entity language,
      text_longer (codes "language") d.language defined,
      members_longer d.members period,
      text_longer (codes "period") (period_text d.period) unit,
      unit_member_longer d.unit,
    )

value_longer : (v : Value) → value_bytes v ≤ strings (value_data braced v)
value_longer Nil = omega arith
value_longer (Number units places) = omega arith
value_longer (AText t) = omega arith
value_longer (AName n) = braced_longer n

fact_longer : (identifier : List ℕ) (v : Value) → value_bytes v ≤ strings (fact_data identifier v)
fact_longer identifier v = let value = value_longer v in omega (arith, value)

facts_longer : (name : ℕ → List ℕ) (i : ℕ) (vs : List Value) → facts_bytes 0 vs ≤ items_strings (fact_items name i vs)
facts_longer name i [] = omega arith
facts_longer name i (v ∷ vs) = omega (arith, fact_longer (name i) v, facts_longer name (suc i) vs)

json_longer : (name : ℕ → List ℕ) (n : ℕ) (r : Row) (e : Evidence) → row_bytes Json r ≤ length (json_row name n r e)
json_longer name n r e =
    let dimensions = dimensions_longer r.0 in
    let facts = facts_longer name 0 r.1 in
    let text = strings_within (row_data name n r e) in
    let line = length-append (compact_text (row_data name n r e)) (10 ∷ []) in
    omega (arith, dimensions, facts, text, line)

-- ---- CSV

fields_joined : (xs ys : List (List ℕ)) → field_bytes (xs ++ ys) ≡ field_bytes xs + field_bytes ys
fields_joined [] ys = omega arith
fields_joined (x ∷ xs) ys = omega (arith, fields_joined xs ys)

entity_field_longer : (spreadsheet : Bool) (o : Option QName) → entity_bytes o ≤ length (cell spreadsheet (or_empty (option_spelled braced o)))
entity_field_longer spreadsheet None = omega arith
entity_field_longer spreadsheet (Some n) = omega (arith, braced_longer n, cell_longer spreadsheet (braced n))

unit_field_longer : (spreadsheet : Bool) (o : Option Measures) → unit_bytes o ≤ length (cell spreadsheet (or_empty (option_unit_text braced o)))
unit_field_longer spreadsheet None = omega arith
unit_field_longer spreadsheet (Some m) = omega (arith, unit_longer m, cell_longer spreadsheet (unit_text braced m))

no_members_there : (es : List (QName × Member)) → (length es == 0) ≡ true → members_bytes es ≡ 0
no_members_there [] is = refl
no_members_there (e ∷ es) is = absurd (let some = eqb-suc-zero (length es) in cc)

defined_either : (empty : Bool) (es : List (QName × Member)) → (empty ≡ true → members_bytes es ≡ 0) → members_bytes es ≤ length (if empty then [] else compact_text (object (defined_members braced es no_members)))
defined_either true es none = omega (arith, none refl)
defined_either false es none =
    let members = members_longer es no_members in
    let text = strings_within (object (defined_members braced es no_members)) in
    omega (arith, members, text)

defined_longer : (es : List (QName × Member)) → members_bytes es ≤ length (defined_text es)
defined_longer es = defined_either (length es == 0) es (no_members_there es)

dimension_fields_longer : (spreadsheet : Bool) (d : DimensionSet) → dimensions_bytes d ≤ field_bytes (dimension_fields spreadsheet d)
dimension_fields_longer spreadsheet d =
    omega (
      arith,
      braced_longer d.concept,
      cell_longer spreadsheet (braced d.concept),
      entity_field_longer spreadsheet d.entity,
      unit_field_longer spreadsheet d.unit,
      defined_longer d.members,
      cell_longer spreadsheet (defined_text d.members),
    )

value_fields_longer : (spreadsheet : Bool) (v : Value) → value_bytes v ≤ field_bytes (value_fields spreadsheet v)
value_fields_longer spreadsheet Nil = omega arith
value_fields_longer spreadsheet (Number units places) = omega arith
value_fields_longer spreadsheet (AText t) = omega arith
value_fields_longer spreadsheet (AName n) = omega (arith, braced_longer n, cell_longer spreadsheet (braced n))

fact_fields_longer : (spreadsheet : Bool) (n : ℕ) (d : DimensionSet) (e : Evidence) (shown : List (List ℕ)) (identifier : List ℕ) (v : Value) → dimensions_bytes d + value_bytes v ≤ field_bytes (fact_fields spreadsheet n d e shown identifier v)
fact_fields_longer spreadsheet n d e shown identifier v =
    let dimensions = dimension_fields_longer spreadsheet d in
    let value = value_fields_longer spreadsheet v in
    let last = fields_joined (value_fields spreadsheet v) shown in
    let both = fields_joined (dimension_fields spreadsheet d) (value_fields spreadsheet v ++ shown) in
    omega (arith, dimensions, value, last, both)

csv_longer : (spreadsheet : Bool) (name : ℕ → List ℕ) (n : ℕ) (d : DimensionSet) (e : Evidence) (i : ℕ) (vs : List Value) → facts_bytes (dimensions_bytes d) vs ≤ length (csv_facts spreadsheet name n d e i vs)
csv_longer spreadsheet name n d e i [] = omega arith
csv_longer spreadsheet name n d e i (v ∷ vs) =
    let fields = fact_fields spreadsheet n d e (evidence_fields name e) (name i) v in
    omega (
      arith,
      fact_fields_longer spreadsheet n d e (evidence_fields name e) (name i) v,
      record_longer rfc_4180 fields,
      csv_longer spreadsheet name n d e (suc i) vs,
      length-append (record_text fields) (csv_facts spreadsheet name n d e (suc i) vs),
    )

-- ---- the rows of a body

row_longer : (format : RowFormat) (name : ℕ → List ℕ) (n : ℕ) (r : Row) (e : Evidence) → row_bytes format r ≤ length (row_text format name n r e)
row_longer Json name n r e = json_longer name n r e
row_longer Csv name n r e = csv_longer false name n r.0 e 0 r.1
row_longer SpreadsheetCsv name n r e = csv_longer true name n r.0 e 0 r.1

module _ (format : RowFormat) (facts : List Fact) (r : Row) where
  rows_longer : (n : ℕ) (done rest : List Row) (text : List ℕ) → AreRowsFrom (row_text format) facts n (done ++ (r ∷ rest)) text → row_bytes format r ≤ length text
  rows_longer n [] rest text are =
      let row = are.2.1.0 in
      omega (arith, row_longer format (identifier_at facts r) n r row.evidence, ap (λ (t : List ℕ). length t) row.text, ap (λ (t : List ℕ). length t) are.2.0, length-append are.0 are.1)
  rows_longer n (q ∷ done) rest text are =
      omega (arith, rows_longer (suc n) done rest are.1 are.2.1.1, ap (λ (t : List ℕ). length t) are.2.0, length-append are.0 are.1)

pub beyond : (format : RowFormat) (sheet : Sheet) (b : Body) → Fits sheet b → (done rest : List Row) (r : Row) → done ++ (r ∷ rest) ≡ rows_of b.facts → (bound : ℕ) → bound < row_bytes format r → AreBeyond format b bound
beyond format sheet b fits done rest r all bound more =
    let one = rows_are_one format sheet b fits in
    let are = subst (λ rs. AreRowsFrom (row_text format) b.facts 1 rs one.is.rows) (sym all) one.is.are in
    let long = rows_longer format b.facts r 1 done rest one.is.rows are in
    record {
      text = one.text;
      are = one.is;
      beyond = omega (arith, more, long, ap (λ (t : List ℕ). length t) one.is.whole, length-append (header format) one.is.rows);
    }

-- more bytes beside each value are more bytes
pub facts_more : (fewer more : ℕ) (vs : List Value) → fewer ≤ more → facts_bytes fewer vs ≤ facts_bytes more vs
facts_more fewer more [] within = omega arith
facts_more fewer more (v ∷ vs) within = omega (arith, within, facts_more fewer more vs within)

pub csv_bytes : (format : RowFormat) (r : Row) (n : ℕ) → (format ≡ Csv) ⊎ (format ≡ SpreadsheetCsv) → n ≤ facts_bytes (dimensions_bytes r.0) r.1 → n ≤ row_bytes format r
csv_bytes format r n (inl is) within = subst (λ f. n ≤ row_bytes f r) (sym is) within
csv_bytes format r n (inr is) within = subst (λ f. n ≤ row_bytes f r) (sym is) within
