-- The values that the code's borrowed parts represent (own).
use Rattle.std.specs.Prelude.{List, ℕ, map, option_map}
use Rattle.std.specs.Borrow.{Bor}
use Rattle.oim_report.specs.declared.json_values.json_member.JsonMember.{JsonMember}
use Rattle.oim_report.specs.declared.fact.fact_members.DimensionMembers.{DimensionMembers as LentDimensions}
use Rattle.oim_report.specs.declared.fact.fact_members.FactMembers.{FactMembers as LentFact}
use Rattle.oim_report.specs.code.JsonMember.{seen}
use Rattle.oim_report.specs.Json.{Given}
use Rattle.oim_report.specs.FactMembers.{DimensionMembers, FactMembers}

abbrev pub seen_defined : List (Bor (List ℕ) × JsonMember) → List (List ℕ × Given)
seen_defined = map (λ m. (m.0.now, seen m.1))

abbrev pub seen_dimensions : LentDimensions → DimensionMembers
seen_dimensions d = record {
  concept = seen d.concept;
  entity = seen d.entity;
  period = seen d.period;
  unit = seen d.unit;
  language = seen d.language;
  note = seen d.note;
  defined = seen_defined d.defined.items;
  unknown = d.unknown;
}

abbrev pub seen_parts : LentFact → FactMembers
seen_parts p = record {
  value = seen p.value;
  decimals = seen p.decimals;
  dimensions = option_map seen_dimensions p.dimensions;
  linked = p.linked;
  misshapen = p.misshapen;
  unknown = p.unknown;
}
