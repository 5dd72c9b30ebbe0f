-- `same_concept_kind` and `same_dimension_kind` are true exactly for equal kinds.
use Rattle.std.specs.Prelude.{◌≡◌, true, refl}
use mathlib.Core.Bool.{false≢true}
use Rattle.oim_report.specs.declared.concept_kind.ConceptKind.{ConceptKind}
use Rattle.oim_report.specs.declared.concept_kind.ConceptKind.TheVariants.{Numeric, Text, Name}
use Rattle.oim_report.specs.declared.dimension_kind.DimensionKind.{DimensionKind}
use Rattle.oim_report.specs.declared.dimension_kind.DimensionKind.TheVariants.{Explicit, Typed}
use Rattle.oim_report.specs.Sheet.{same_concept_kind, same_dimension_kind}

pub same_concept_kind_is : (k l : ConceptKind) → same_concept_kind k l ≡ true → k ≡ l
same_concept_kind_is Numeric Numeric h = refl
same_concept_kind_is Text Text h = refl
same_concept_kind_is Name Name h = refl
same_concept_kind_is Numeric Text h = absurd (false≢true h)
same_concept_kind_is Numeric Name h = absurd (false≢true h)
same_concept_kind_is Text Numeric h = absurd (false≢true h)
same_concept_kind_is Text Name h = absurd (false≢true h)
same_concept_kind_is Name Numeric h = absurd (false≢true h)
same_concept_kind_is Name Text h = absurd (false≢true h)

pub same_concept_kind-itself : (k : ConceptKind) → same_concept_kind k k ≡ true
same_concept_kind-itself Numeric = refl
same_concept_kind-itself Text = refl
same_concept_kind-itself Name = refl

pub same_dimension_kind_is : (k l : DimensionKind) → same_dimension_kind k l ≡ true → k ≡ l
same_dimension_kind_is Explicit Explicit h = refl
same_dimension_kind_is Typed Typed h = refl
same_dimension_kind_is Explicit Typed h = absurd (false≢true h)
same_dimension_kind_is Typed Explicit h = absurd (false≢true h)

pub same_dimension_kind-itself : (k : DimensionKind) → same_dimension_kind k k ≡ true
same_dimension_kind-itself Explicit = refl
same_dimension_kind-itself Typed = refl
