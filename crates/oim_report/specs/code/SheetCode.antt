-- Injective encodings of a sheet and of its names (own).
use Rattle.std.specs.Prelude.{◌≡◌, ℕ, zero, suc, List, refl}
use Rattle.std.specs.Coded.{Coded, code_by, coded×, coded_ℕ, coded_list}
use Rattle.std.specs.FinMap as map
use Rattle.std.specs.FinMap.{FinMap}
use Rattle.oim_names.specs.QName.{QName}
use Rattle.oim_value.specs.ValueOrder.{name_cmp}
use Rattle.oim_report.specs.declared.concept_kind.ConceptKind.{ConceptKind}
use Rattle.oim_report.specs.declared.concept_kind.ConceptKind.TheVariants.{Numeric, Text, Name}
use Rattle.oim_report.specs.declared.dimension_kind.DimensionKind.{DimensionKind}
use Rattle.oim_report.specs.declared.dimension_kind.DimensionKind.TheVariants.{Explicit, Typed}
use Rattle.oim_report.specs.Sheet.{Sheet}

abbrev concept_number : ConceptKind → ℕ
concept_number Numeric = 0
concept_number Text = 1
concept_number Name = 2

abbrev concept_of_number : ℕ → ConceptKind
concept_of_number zero = Numeric
concept_of_number (suc zero) = Text
concept_of_number (suc (suc n)) = Name

pub concept_back : (k : ConceptKind) → concept_of_number (concept_number k) ≡ k
concept_back Numeric = refl
concept_back Text = refl
concept_back Name = refl

abbrev dimension_number : DimensionKind → ℕ
dimension_number Explicit = 0
dimension_number Typed = 1

abbrev dimension_of_number : ℕ → DimensionKind
dimension_of_number zero = Explicit
dimension_of_number (suc n) = Typed

pub dimension_back : (k : DimensionKind) → dimension_of_number (dimension_number k) ≡ k
dimension_back Explicit = refl
dimension_back Typed = refl

abbrev pub name_table_code : {K : Type 0} → Coded K → Coded (FinMap name_cmp K)
name_table_code kinds = map.code (code_by (List ℕ × List ℕ) (coded× (coded_list coded_ℕ) (coded_list coded_ℕ)) (λ (n : QName). (n.uri, n.local_part)) (λ p. record { uri = p.0; local_part = p.1 }) (λ _. refl)) kinds

abbrev pub sheet_code : Coded Sheet
sheet_code =
    code_by (FinMap name_cmp ConceptKind × FinMap name_cmp DimensionKind)
    (coded× (name_table_code (code_by ℕ coded_ℕ concept_number concept_of_number concept_back)) (name_table_code (code_by ℕ coded_ℕ dimension_number dimension_of_number dimension_back)))
    (λ s. (s.concepts, s.dimensions)) (λ m. record { concepts = m.0; dimensions = m.1 }) (λ _. refl)
