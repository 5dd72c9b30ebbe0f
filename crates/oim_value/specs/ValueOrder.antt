-- The order of values (own).
use Rattle.std.specs.Prelude.{ℕ, ℤ, Option, Some, None}
use Rattle.std.specs.declared.cmp.Ordering.{Ordering}
use Rattle.std.specs.declared.cmp.Ordering.TheVariants.{Less, Equal, Greater}
use Rattle.std.specs.Ordering.{nat_cmp, int_cmp, ordering_then}
use Rattle.std.specs.Cmp.Lexicographic.{slice_cmp}
pub use Rattle.oim_names.specs.QName.{name_cmp}
use Rattle.oim_value.specs.declared.value.Value.{Value}
use Rattle.oim_value.specs.declared.value.Value.TheVariants.{Nil, Number, Text as AText, Name as AName}

-- finite decimals are ordered by number; infinite decimals are last
abbrev pub decimals_cmp : Option ℤ → Option ℤ → Ordering
decimals_cmp (Some d) (Some e) = int_cmp d e
decimals_cmp (Some d) None = Less
decimals_cmp None (Some e) = Greater
decimals_cmp None None = Equal

-- the kinds in order: nil, numbers, texts, names
abbrev pub kind_order : Value → ℕ
kind_order Nil = 0
kind_order (Number m d) = 1
kind_order (AText t) = 2
kind_order (AName n) = 3

-- values are ordered by kind; then numbers by units and decimals, texts by bytes, names by URI and local part
abbrev pub value_cmp : Value → Value → Ordering
value_cmp (Number m d) (Number n e) = ordering_then (int_cmp m n) (decimals_cmp d e)
value_cmp (AText s) (AText t) = slice_cmp nat_cmp s t
value_cmp (AName m) (AName n) = name_cmp m n
value_cmp x y = nat_cmp (kind_order x) (kind_order y)
