-- Which values of duplicate facts are consistent (XBRL working group note on duplicate facts; nil, texts and names are own).
use Rattle.std.specs.Prelude.{◌≡◌, IsTrue}
use Rattle.oim_value.specs.declared.value.Value.{Value}
use Rattle.oim_value.specs.declared.value.Value.TheVariants.{Nil, Number, Text as AText, Name as AName}
use Rattle.oim_value.specs.Interval.{interval, intervals_meet}

-- both values are nil, or are numbers whose intervals meet, or are equal texts or equal names
abbrev pub Meets : Value → Value → Type 0
Meets Nil Nil = Unit {0}
Meets (Number m d) (Number n e) = IsTrue (intervals_meet (interval m d) (interval n e))
Meets (AText s) (AText t) = s ≡ t
Meets (AName m) (AName n) = m ≡ n
Meets x y = ⊥

abbrev pub MeetsIsReflexive : Type 0
MeetsIsReflexive = (x : Value) → Meets x x

abbrev pub MeetsIsSymmetric : Type 0
MeetsIsSymmetric = (x y : Value) → Meets x y → Meets y x
