-- Meeting is reflexive and symmetric.
use Rattle.oim_value.proofs.Shared.{refl, sym, Nil, Number, AText, AName, interval, MeetsIsReflexive, MeetsIsSymmetric}
use Rattle.oim_value.proofs.Intervals.{meet_is, meet_from, interval_has_points}

pub meets_is_reflexive : MeetsIsReflexive
meets_is_reflexive Nil = tt
meets_is_reflexive (Number m d) = let points = interval_has_points m d in meet_from (interval m d) (interval m d) points points
meets_is_reflexive v = refl

pub meets_is_symmetric : MeetsIsSymmetric
meets_is_symmetric Nil Nil h = h
meets_is_symmetric (Number m d) (Number n e) h = let both = meet_is (interval m d) (interval n e) h in meet_from (interval n e) (interval m d) both.1 both.0
meets_is_symmetric (AText s) (AText t) h = sym h
meets_is_symmetric (AName m) (AName n) h = sym h
meets_is_symmetric v w h = absurd h
