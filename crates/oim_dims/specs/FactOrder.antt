-- The order of dimension sets and facts (own).
use Rattle.std.specs.Prelude.{ℕ}
use Rattle.std.specs.declared.cmp.Ordering.{Ordering}
use Rattle.std.specs.Ordering.{nat_cmp, int_cmp, ordering_then}
use Rattle.std.specs.Option.{option_cmp}
use Rattle.std.specs.Cmp.Lexicographic.{slice_cmp}
use Rattle.oim_names.specs.QName.{QName}
use Rattle.oim_value.specs.ValueOrder.{name_cmp, value_cmp}
use Rattle.oim_dims.specs.declared.fact.Fact.{Fact}
use Rattle.oim_dims.specs.declared.member.Member.{Member}
use Rattle.oim_dims.specs.declared.member.Member.TheVariants.{Nil, Text as AText, Name as AName}
use Rattle.oim_dims.specs.declared.period.Period.{Period}
use Rattle.oim_dims.specs.declared.period.Period.TheVariants.{Forever, Instant, Duration}
use Rattle.oim_dims.specs.Unit.{Measures}
use Rattle.oim_dims.specs.DimensionSet.{DimensionSet}

-- the kinds in order: forever, instants, durations
abbrev pub kind_of_period : Period → ℕ
kind_of_period Forever = 0
kind_of_period (Instant m) = 1
kind_of_period (Duration start end) = 2

-- periods are ordered by kind; then instants by second, durations by start and then end
abbrev pub period_cmp : Period → Period → Ordering
period_cmp (Instant m) (Instant n) = int_cmp m n
period_cmp (Duration s e) (Duration t f) = ordering_then (int_cmp s t) (int_cmp e f)
period_cmp p q = nat_cmp (kind_of_period p) (kind_of_period q)

-- units are ordered by numerators, then by denominators, item by item; a list is less than a longer one that begins with it
abbrev pub unit_cmp : Measures → Measures → Ordering
unit_cmp m n = ordering_then (slice_cmp name_cmp m.numerators n.numerators) (slice_cmp name_cmp m.denominators n.denominators)

-- the kinds in order: nil, texts, names
abbrev pub kind_of_member : Member → ℕ
kind_of_member Nil = 0
kind_of_member (AText t) = 1
kind_of_member (AName n) = 2

-- members are ordered by kind; then texts by bytes, names by URI and local part
abbrev pub member_cmp : Member → Member → Ordering
member_cmp (AText s) (AText t) = slice_cmp nat_cmp s t
member_cmp (AName m) (AName n) = name_cmp m n
member_cmp x y = nat_cmp (kind_of_member x) (kind_of_member y)

-- dimensions with their members are ordered by name, then by member
abbrev pub item_cmp : QName × Member → QName × Member → Ordering
item_cmp x y = ordering_then (name_cmp x.0 y.0) (member_cmp x.1 y.1)

-- dimension sets are ordered by concept, entity, period, unit, language and members; an absent value is less than a present one
abbrev pub dimensions_cmp : DimensionSet → DimensionSet → Ordering
dimensions_cmp x y =
    ordering_then (name_cmp x.concept y.concept)
    (ordering_then (option_cmp name_cmp x.entity y.entity)
    (ordering_then (period_cmp x.period y.period)
    (ordering_then (option_cmp unit_cmp x.unit y.unit)
    (ordering_then (option_cmp (slice_cmp nat_cmp) x.language y.language)
    (slice_cmp item_cmp x.members y.members)))))

-- facts are ordered by dimensions, then by value
abbrev pub fact_cmp : Fact → Fact → Ordering
fact_cmp x y = ordering_then (dimensions_cmp x.dimensions y.dimensions) (value_cmp x.value y.value)
