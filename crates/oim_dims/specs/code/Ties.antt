use Rattle.std.specs.Prelude.{◌≡◌}
use Rattle.std.specs.Ordering.{ordering_then}
use Rattle.std.specs.declared.cmp.Ordering.TheVariants.{Equal}
use Rattle.std.specs.Cmp.Lexicographic.{slice_cmp}
use Rattle.std.specs.FinMap.{slice_cmp-IsAntisymmetric}
use Rattle.oim_names.specs.QName.{exact_name}
use Rattle.oim_value.specs.code.Ties.{both_tie}
use Rattle.oim_value.specs.ValueOrder.{name_cmp}
use Rattle.oim_dims.specs.Unit.{Measures}

-- units whose lists of measures compare as equal are equal
pub exact_measures : (x y : Measures) → ordering_then (slice_cmp name_cmp x.numerators y.numerators) (slice_cmp name_cmp x.denominators y.denominators) ≡ Equal → x ≡ y
exact_measures x y h =
    let e = both_tie _ _ h in
    λ i. record { numerators = slice_cmp-IsAntisymmetric exact_name x.numerators y.numerators e.0 i; denominators = slice_cmp-IsAntisymmetric exact_name x.denominators y.denominators e.1 i }
