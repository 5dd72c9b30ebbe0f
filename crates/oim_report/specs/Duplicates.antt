-- Which duplicates a level allows (XBRL working group note on duplicate facts; OIM Common 1.0, `xbrl:allowedDuplicates`).
use Rattle.std.specs.Prelude.{◌≡◌, ◌↔◌, List, [], ◌∷◌, Bool, true, false, not, ◌&&◌, ◌||◌, bytes_eq, if◌then◌else◌, IsTrue, AllPairs, IsPermutation}
use Rattle.std.specs.List.{list_all}
use Rattle.std.specs.Ordering.{is_eq, is_le}
use Rattle.oim_value.specs.Interval.{interval, intervals_meet}
use Rattle.oim_value.specs.Level.{level_cmp}
use Rattle.oim_value.specs.Meets.{Meets}
use Rattle.oim_value.specs.ValueOrder.{name_cmp, value_cmp}
use Rattle.oim_value.specs.declared.level.Level.{Level}
use Rattle.oim_value.specs.declared.level.Level.TheVariants.{Unique, Complete, Consistent, All}
use Rattle.oim_value.specs.declared.value.Value.{Value}
use Rattle.oim_value.specs.declared.value.Value.TheVariants.{Nil, Number, Text as AText, Name as AName}
use Rattle.oim_dims.specs.FactOrder.{dimensions_cmp}
use Rattle.oim_dims.specs.declared.fact.Fact.{Fact}

-- whether two values meet, as `Meets` defines
abbrev pub values_meet : Value → Value → Bool
values_meet Nil Nil = true
values_meet (Number m d) (Number n e) = intervals_meet (interval m d) (interval n e)
values_meet (AText s) (AText t) = bytes_eq s t
values_meet (AName m) (AName n) = is_eq (name_cmp m n)
values_meet x y = false

-- whether two facts are duplicates: they have the same dimensions
abbrev pub are_duplicates : Fact → Fact → Bool
are_duplicates f g = is_eq (dimensions_cmp f.dimensions g.dimensions)

-- whether a level allows two facts with the same dimensions and these values
abbrev pub allows_values : Level → Value → Value → Bool
allows_values Unique v w = false
allows_values Complete v w = is_eq (value_cmp v w)
allows_values Consistent v w = values_meet v w
allows_values All v w = true

-- whether a level allows two facts; every level allows facts with different dimensions
abbrev pub allows : Level → Fact → Fact → Bool
allows l f g = not (are_duplicates f g) || allows_values l f.value g.value

abbrev pub allows_each : Level → List Fact → Bool
allows_each l [] = true
allows_each l (f ∷ fs) = list_all (allows l f) fs && allows_each l fs

-- the strictest level that allows each pair of facts in a list, repeats included
unfoldable pub level_of : List Fact → Level
level_of fs =
    if allows_each Unique fs then Unique else (if allows_each Complete fs then Complete else (if allows_each Consistent fs then Consistent else All))

-- `values_meet` decides `Meets`
abbrev pub ValuesMeetIsMeets : Type 0
ValuesMeetIsMeets = (v w : Value) → IsTrue (values_meet v w) ↔ Meets v w

-- a level allows each pair of facts in a list exactly if it is not stricter than the level of the list
abbrev pub LevelIsStrictest : Type 0
LevelIsStrictest = (l : Level) (fs : List Fact) → AllPairs (λ f g. IsTrue (allows l f g)) fs ↔ IsTrue (is_le (level_cmp (level_of fs) l))

-- the level of a list does not depend on its order
abbrev pub LevelIgnoresOrder : Type 0
LevelIgnoresOrder = (fs gs : List Fact) → IsPermutation fs gs → level_of fs ≡ level_of gs
