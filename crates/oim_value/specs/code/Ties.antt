use Rattle.std.specs.Prelude.{◌≡◌, refl}
use Rattle.std.specs.declared.cmp.Ordering.{Ordering}
use Rattle.std.specs.declared.cmp.Ordering.TheVariants.{Less, Equal, Greater}
use Rattle.std.specs.Ordering.{ordering_then}

-- a chain of two comparisons returns Equal only if both do
pub both_tie : (a b : Ordering) → ordering_then a b ≡ Equal → (a ≡ Equal) × (b ≡ Equal)
both_tie Less b h = cc
both_tie Equal b h = (refl, h)
both_tie Greater b h = cc
