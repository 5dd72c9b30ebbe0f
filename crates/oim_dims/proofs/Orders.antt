-- The derived orders of periods, members, dimension sets and facts equal the orders in the specifications.
use Rattle.oim_dims.proofs.Shared.{◌≡◌, refl, subst, ◌∙◌, nat_cmp, ordering_then, option_cmp, IsTotalOrder, Equal, QName, name_cmp, Member, Period, Forever, Instant, Duration, DimensionSet}
use Rattle.std.specs.Cmp.Lexicographic.{slice_cmp}
use Rattle.oim_dims.specs.contracts.dimensions.DimensionsOrd.TheImpl.Laws.{total-law as dimensions_total}
use Rattle.oim_dims.specs.contracts.dimensions.DimensionsKey.TheImpl.Laws.{exact-law as exact_dimensions}
use Rattle.oim_dims.specs.contracts.fact.FactOrd.TheImpl.Laws.{total-law as facts_total}
use Rattle.oim_dims.specs.contracts.fact.FactKey.TheImpl.Laws.{exact-law as exact_fact}
use Rattle.oim_value.proofs.ValueOrders.{values_agree}
use Rattle.oim_dims.specs.contracts.fact.FactOrd.TheImpl.{cmp-value as derived_fact}
use Rattle.oim_dims.specs.declared.fact.Fact.{Fact}
use Rattle.oim_dims.specs.contracts.dimensions.DimensionsOrd.TheImpl.{cmp-value as derived_dimensions}
use Rattle.oim_dims.specs.contracts.member.MemberOrd.TheImpl.{cmp-value as derived_member}
use Rattle.oim_dims.specs.contracts.period.PeriodOrd.TheImpl.{cmp-value as derived_period}
use Rattle.oim_dims.specs.declared.member.Member.TheVariants.{Nil, Text as AText, Name as AName}
use Rattle.oim_dims.specs.FactOrder.{period_cmp, unit_cmp, member_cmp, dimensions_cmp, fact_cmp}

periods_agree : (p q : Period) → derived_period.it p q ≡ period_cmp p q
periods_agree = elim [
  | Forever ↦ elim [ Forever ↦ refl | Instant n ↦ refl | Duration t f ↦ refl ]
  | Instant m ↦ elim [ Forever ↦ refl | Instant n ↦ refl | Duration t f ↦ refl ]
  | Duration s e ↦ elim [ Forever ↦ refl | Instant n ↦ refl | Duration t f ↦ refl ]
]

members_agree : (x y : Member) → derived_member.it x y ≡ member_cmp x y
members_agree = elim [
  | Nil ↦ elim [ Nil ↦ refl | AText t ↦ refl | AName n ↦ refl ]
  | AText s ↦ elim [ Nil ↦ refl | AText t ↦ refl | AName n ↦ refl ]
  | AName m ↦ elim [ Nil ↦ refl | AText t ↦ refl | AName n ↦ refl ]
]

pub dimensions_agree : (x y : DimensionSet) → derived_dimensions.it x y ≡ dimensions_cmp x y
dimensions_agree x y = λ i.
    ordering_then (name_cmp x.concept y.concept)
    (ordering_then (option_cmp name_cmp x.entity y.entity)
    (ordering_then (periods_agree x.period y.period i)
    (ordering_then (option_cmp unit_cmp x.unit y.unit)
    (ordering_then (option_cmp (slice_cmp nat_cmp) x.language y.language)
    (slice_cmp (λ (e f : QName × Member). ordering_then (name_cmp e.0 f.0) (members_agree e.1 f.1 i)) x.members y.members)))))

pub facts_agree : (x y : Fact) → derived_fact.it x y ≡ fact_cmp x y
facts_agree x y = λ i. ordering_then (dimensions_agree x.dimensions y.dimensions i) (values_agree x.value y.value i)

-- the orders of dimension sets and of facts are total; only equal sets and equal facts compare as equal
pub dimensions_cmp_total : IsTotalOrder dimensions_cmp
dimensions_cmp_total = subst IsTotalOrder (λ i x y. dimensions_agree x y i) dimensions_total

pub dimensions_cmp_exact : (x y : DimensionSet) → dimensions_cmp x y ≡ Equal → x ≡ y
dimensions_cmp_exact x y h = exact_dimensions x y (dimensions_agree x y ∙ h)

pub fact_cmp_total : IsTotalOrder fact_cmp
fact_cmp_total = subst IsTotalOrder (λ i x y. facts_agree x y i) facts_total

pub fact_cmp_exact : (x y : Fact) → fact_cmp x y ≡ Equal → x ≡ y
fact_cmp_exact x y h = exact_fact x y (facts_agree x y ∙ h)
