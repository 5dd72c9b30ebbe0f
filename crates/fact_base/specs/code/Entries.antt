-- How a base stores and merges its entries (own).
use Rattle.std.specs.Prelude.{◌≡◌, ◌≢◌, ◌↔◌, ℕ, false, List, [], ◌∷◌, Contains}
use Rattle.std.specs.List.{All}
use Rattle.std.specs.Ordering.{is_gt}
use Rattle.merge_laws.specs.Ends.{both_summaries, summary_of, summary_of_all}
use Rattle.merge_laws.specs.Sorted.{IsRising, IsSet, entry_key}
use Rattle.merge_laws.specs.Union.{map_with, set_union}
use Rattle.oim_value.specs.ValueOrder.{value_cmp}
use Rattle.oim_value.specs.declared.value.Value.{Value}
use Rattle.oim_dims.specs.DimensionSet.{DimensionSet}
use Rattle.oim_dims.specs.FactOrder.{dimensions_cmp}
use Rattle.oim_dims.specs.declared.fact.Fact.{Fact}
use Rattle.oim_report.specs.FactFits.{FactFits}
use Rattle.oim_report.specs.References.{IsKeptReference}
use Rattle.oim_report.specs.Sheet.{Sheet}
use Rattle.fact_base.specs.Body.{text_cmp}
use Rattle.fact_base.specs.Entries.{Entry, Summed, facts_of_entries, facts_with}

-- the values and the summary of one dimension set, merged from two bases
abbrev pub summed_of_both : Summed → Summed → Summed
summed_of_both p q = (set_union value_cmp p.0 q.0, both_summaries p.1 q.1)

-- one value with its summary; the next definition adds one value to others
abbrev pub summed : Value → Summed
summed v = (v ∷ [], summary_of v)

abbrev pub with_value : Value → Summed → Summed
with_value v kept = summed_of_both kept (summed v)

-- adds one fact to entries
abbrev pub with_fact : Fact → List Entry → List Entry
with_fact f es = map_with dimensions_cmp summed_of_both f.dimensions (summed f.value) es

-- no entry has greater dimensions than these
abbrev pub NoneAbove : DimensionSet → List Entry → Type 0
NoneAbove s es = All (λ e. is_gt (dimensions_cmp e.0 s) ≡ false) es

-- an entry has one or more values in order and their summary, and its facts fit the sheet
pub record EntryFits (sheet : Sheet) (s : DimensionSet) (kept : Summed) : Type 0 where
  pub some : kept.0 ≢ []
  pub in_order : IsSet value_cmp kept.0
  pub summary : kept.1 ≡ summary_of_all kept.0
  pub facts : All (FactFits sheet) (facts_with s kept.0)

-- the invariant of a base: entries and references ascend strictly, entries fit the sheet, and references are kept texts
pub record AreStored (sheet : Sheet) (es : List Entry) (texts : List (List ℕ)) : Type 0 where
  pub rise : IsRising dimensions_cmp entry_key es
  pub entries : All (λ e. EntryFits sheet e.0 e.1) es
  pub in_order : IsSet text_cmp texts
  pub references : All IsKeptReference texts

-- ascending entries with exactly these facts; the entries fit each sheet that all these facts fit
pub record AreEntriesOf (facts : List Fact) (entries : List Entry) : Type 0 where
  pub rise : IsRising dimensions_cmp entry_key entries
  pub in_order : All (λ e. IsSet value_cmp e.1.0) entries
  pub members : (f : Fact) → Contains (facts_of_entries entries) f ↔ Contains facts f
  pub fit : (sheet : Sheet) → All (FactFits sheet) facts → All (λ e. EntryFits sheet e.0 e.1) entries
