-- The names that several proofs of this crate cite, passed on from one place. Declares nothing.
pub use Rattle.std.proofs.Common.{◌≡◌, ℕ, suc, ◌+◌, List, [], ◌∷◌, ◌++◌, length, append_assoc, append-nil, false, Result, Ok, Err, codes, refl, sym, ap, ◌∙◌, arith, OnOk, ◌≤◌, ◌&&◌, if◌then◌else◌, Bool, true, length-append, ◌<◌, ◌==◌, ◌⊎◌, inl, inr, map, Option, Some, None, subst, decimal, drop, ◌≢◌, rules, take, length-take-le, take_all, option_copied, IfOk, reverse}
pub use Rattle.std.proofs.lemmas.List.{take_more}
pub use Rattle.std.proofs.lemmas.Result.{on_ok_weaker, IfOk-weaker}
pub use Rattle.csv.specs.Records.{fields_of}
pub use Rattle.csv.specs.declared.writer.WriterBuilder.{WriterBuilder}
pub use Rattle.fact_base.specs.Passed.{Sheet, member_data, option_spelled, option_unit_text, value_data}
pub use Rattle.fact_base.specs.Rows.{Row, rows_of}
pub use Rattle.fact_base.specs.Shown.{shown, rows_left}
pub use Rattle.fact_base.specs.declared.evidence.Evidence.{Evidence}
pub use Rattle.json.specs.Token.{begin_array, begin_object, end_array, end_object, key, Token}
pub use Rattle.oim_dims.specs.DimensionSet.{DimensionSet}
pub use Rattle.oim_dims.specs.Period.{period_text}
pub use Rattle.oim_merge.specs.Identifiers.{named}
pub use Rattle.oim_merge.specs.Judged.{names_of}
pub use Rattle.oim_merge.specs.Lines.{AreRowsFrom, identifier_at, line_text, verdict_shown, verdict_word}
pub use Rattle.oim_value.specs.declared.value.Value.{Value}
pub use Rattle.oim_write.proofs.Tokens.{Adds-is, Adds-none, Adds-one, Adds-trans, closed_object, then_member, whole_object}
pub use Rattle.oim_write.specs.Ordered.{defined_members, ordered_dimensions, text_member, decimals_member}
pub use Rattle.oim_write.specs.Tokens.{Adds, AddsMembers, AddsValue}
pub use Rattle.serde_json.specs.Data.{Data, array, object, Items, no_items, item, no_members, member, null, boolean, number, string, Members, unsigned}
pub use Rattle.serde_json.specs.Written.{compact_text, items_outline, outline, comma_if, items_text, members_text}
pub use Rattle.row_formats.specs.CsvCells.{begins_formula, cell, guarded_inside, is_separator, marked, AreMarked, FormulasAreMarked, IsMarked, is_sign, is_skipped}
pub use Rattle.row_formats.specs.CsvRows.{csv_facts, evidence_fields, fact_fields, record_text, defined_text, dimension_fields, or_empty, rfc_4180, value_fields, columns}
pub use Rattle.row_formats.specs.JsonRows.{evidence_member, fact_data, fact_items, json_row, row_data, evidence_members, row_object, apart_data, common_data}
pub use Rattle.row_formats.specs.Rows.{AreBeyond, header, row_text, HasField, LineShows, RecordsShow, RowsAreOne, RowsTellVerdicts, Shows}
pub use Rattle.row_formats.specs.SourceRows.{file_data, source_data}
pub use Rattle.row_formats.specs.Spelled.{braced}
pub use Rattle.row_formats.specs.code.Items.{item_tokens}
pub use Rattle.row_formats.specs.code.RowLength.{field_bytes, items_strings, members_strings, strings, dimensions_bytes, entity_bytes, facts_bytes, member_bytes, members_bytes, names_bytes, row_bytes, unit_bytes, value_bytes}
pub use Rattle.row_formats.specs.declared.row_format.RowFormat.{RowFormat}
pub use Rattle.row_formats.specs.declared.row_format.RowFormat.TheVariants.{Json, Csv, SpreadsheetCsv}
