-- The first condition that applies.
use Rattle.oim_report.proofs.Shared.{◌≡◌, List, [], ◌∷◌, Bool, true, false, refl, Option, Some, None, if◌then◌else◌, Reason}

-- the first reason whose test passes
abbrev pub first_holding : List (Bool × Reason) → Option Reason
first_holding [] = None
first_holding (c ∷ cs) = if c.0 then Some c.1 else first_holding cs

abbrev pub or_refusal : Option Reason → Option Reason → Option Reason
or_refusal None later = later
or_refusal (Some reason) later = Some reason

abbrev pub first_refusal : List (Option Reason) → Option Reason
first_refusal [] = None
first_refusal (r ∷ rs) = or_refusal r (first_refusal rs)

pub none_of : (r s : Option Reason) → or_refusal r s ≡ None → (r ≡ None) × (s ≡ None)
none_of None s e = (refl, e)
none_of (Some r) s e = absurd (cc)

pub behind_test : (b : Bool) (r : Reason) (s t : Option Reason) → (b ≡ false → s ≡ t) → (if b then Some r else s) ≡ (if b then Some r else t)
behind_test true r s t same = refl
behind_test false r s t same = same refl
