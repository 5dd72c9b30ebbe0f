-- The names that several proofs of this crate cite, passed on from one place. Declares nothing.
pub use Rattle.std.proofs.Common.{◌≡◌, ◌≢◌, ℕ, List, true, false, refl, sym, ◌∙◌, bytes_eq, zero, suc, [], ◌∷◌, ◌++◌, cond, Some, None, ap, arith, option_map, option_copied, find, BTreeMap, All, AllPairs, IfSome, Option, String, ◌<◌, length, get_or, Bool, not, ◌&&◌, is_none, if◌then◌else◌, ◌↔◌, IsTrue, ◌+◌, take, drop, ◌==◌, subst, string_bytes}
pub use Rattle.std.proofs.lemmas.Bool.Decides.{nat_tests, Decides-and}
pub use Rattle.std.proofs.lemmas.Map.Text.{is_eq-slice_cmp, btree_map_updates_text}
pub use Rattle.std.proofs.lemmas.Slice.Eq.{bytes_eq-Decides, slice_eq-Decides}
pub use Rattle.std.specs.BTreeMap.{get_by_text}
pub use Rattle.std.specs.List.{list_all, position_or_len}
pub use Rattle.std.specs.Option.{option_eq, option_map_or}
pub use mathlib.Core.Bool.{false≢true}
pub use Rattle.oim_names.specs.Bindings.{Binding, AreBindings, uri_of, uri_at}
pub use Rattle.oim_names.specs.Expansion.{prefix_refusal, refusal_as, refuses, reserved_uri, Spelled, ExpandsAs, NamesUnlessRefused, NamesOne, FormIsTested, PrefixIsTested, NamespaceIsTested, Expands, ExpandsEntity, SpelledNamesExpandBack, SpelledEntitiesExpandBack}
pub use Rattle.oim_names.specs.QName.{is_part, prefix_part, QName, local_part, is_name_byte, is_colon, is_name, is_entity}
pub use Rattle.oim_names.specs.declared.reason.Reason.{Reason}
pub use Rattle.oim_names.specs.declared.reason.Reason.TheVariants.{NameForm, UnboundPrefix, ReservedNamespace}
