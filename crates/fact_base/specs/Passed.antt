-- Re-exports definitions of lower crates for crates that use bases.
pub use Rattle.merge_laws.specs.Members.{SameMembers}
pub use Rattle.merge_laws.specs.Sorted.{IsSet}
pub use Rattle.oim_report.specs.Document.{Document}
pub use Rattle.oim_report.specs.Duplicates.{level_of}
pub use Rattle.oim_report.specs.FactFits.{DimensionFits, EntityFits, FactFits, FitsName, IsNamespace, MemberFits, UnitFits, ValueFits}
pub use Rattle.oim_report.specs.FactObject.{fact_object, member_data, option_spelled, option_unit_text, put_text, value_data, with_decimals, with_defined, dimension_members}
pub use Rattle.oim_report.specs.References.{IsKeptReference}
pub use Rattle.oim_report.specs.PlainJson.{HasUtf8, IsBefore, IsPlain, IsPlainJson, ItemsArePlain, ItemsHaveUtf8, MembersArePlain, MembersHaveUtf8}
pub use Rattle.oim_report.specs.ReadBack.{SpellsDimension, SpellsFact, SpellsMeasures, SpellsName, SpellsValue}
pub use Rattle.oim_report.specs.Sheet.{Sheet}
pub use Rattle.oim_report.specs.declared.concept_kind.ConceptKind.{ConceptKind}
pub use Rattle.oim_report.specs.declared.concept_kind.ConceptKind.TheVariants.{Name}
pub use Rattle.oim_report.specs.declared.dimension_kind.DimensionKind.{DimensionKind}
pub use Rattle.oim_report.specs.declared.dimension_kind.DimensionKind.TheVariants.{Explicit, Typed}
