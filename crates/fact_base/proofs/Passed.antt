-- Re-exports lemmas of lower crates for crates that use bases.
pub use Rattle.merge_laws.proofs.Both.{set_with_has_item}
pub use Rattle.merge_laws.proofs.Members.{set_is_its_members, all_by_index, all_in_turn}
pub use Rattle.merge_laws.proofs.Rising.{none_rise}
pub use Rattle.oim_report.proofs.PlainFact.{AreKept, fact_plain, kept_more, none_kept, object_kept, text_kept}
pub use Rattle.oim_report.proofs.PutMembers.{ascends_put, before_all, before_put, put_first}
