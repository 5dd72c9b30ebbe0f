-- The dimensions of a fact (OIM 1.0, dimensions; xBRL-JSON 1.0, the core dimensions).
use Rattle.std.specs.Prelude.{◌≡◌, ◌⊎◌, ◌↔◌, ℕ, Bool, true, false, ◌&&◌, ◌||◌, if◌then◌else◌, List, [], ◌∷◌, Option, Contains, IsTrue, IfSome}
use Rattle.std.specs.List.{list_any}
use Rattle.std.specs.Ordering.{is_lt, is_eq}
use Rattle.oim_names.specs.QName.{QName}
use Rattle.oim_dims.specs.declared.member.Member.{Member}
use Rattle.oim_dims.specs.declared.period.Period.{Period}
use Rattle.oim_value.specs.ValueOrder.{name_cmp}
use Rattle.oim_dims.specs.Period.{HasMoments}
use Rattle.oim_dims.specs.Unit.{Measures, IsUnit}

-- the name is below all names of the members
abbrev pub is_below : QName → List (QName × Member) → Bool
is_below n [] = true
is_below n (e ∷ es) = is_lt (name_cmp n e.0) && is_below n es

-- the names ascend strictly, so no name is repeated
abbrev pub rises : List (QName × Member) → Bool
rises [] = true
rises (e ∷ es) = is_below e.0 es && rises es

abbrev pub has_name : QName → List (QName × Member) → Bool
has_name n es = list_any (λ e. is_eq (name_cmp n e.0)) es

abbrev pub repeats : List (QName × Member) → Bool
repeats [] = false
repeats (e ∷ es) = has_name e.0 es || repeats es

-- inserts a member in the order of names, after members with the same name
abbrev pub with_member : QName → Member → List (QName × Member) → List (QName × Member)
with_member n m [] = (n, m) ∷ []
with_member n m (e ∷ es) = if is_lt (name_cmp n e.0) then (n, m) ∷ e ∷ es else e ∷ with_member n m es

-- the core dimensions, and the taxonomy-defined dimensions with their members
pub record DimensionSet : Type 0 where
  pub concept : QName
  pub entity : Option QName
  pub period : Period
  pub unit : Option Measures
  pub language : Option (List ℕ)
  pub members : List (QName × Member)

-- the names of the members ascend strictly; the unit, if there is one, satisfies IsUnit; the moments of the period are in range
pub record IsDimensionSet (d : DimensionSet) : Type 0 where
  pub members : IsTrue (rises d.members)
  pub unit : IfSome d.unit IsUnit
  pub period : HasMoments d.period

-- `has_name` is true exactly if the list has a member with that name
abbrev pub NamesAreThere : Type 0
NamesAreThere = (n : QName) (es : List (QName × Member)) → IsTrue (has_name n es) ↔ ((m : Member) × Contains es (n, m))

-- the names of the new list ascend strictly, and the list has exactly the old members and e
pub record IsOneMore (old new : List (QName × Member)) (e : QName × Member) : Type 0 where
  pub rises : IsTrue (rises new)
  pub members : (f : QName × Member) → Contains new f ↔ (Contains old f ⊎ (f ≡ e))

-- if the names ascend, inserting a member with a new name adds exactly that member and keeps the order
abbrev pub MembersGrow : Type 0
MembersGrow = (n : QName) (m : Member) (es : List (QName × Member)) → IsTrue (rises es) → ¬ (IsTrue (has_name n es)) → IsOneMore es (with_member n m es) (n, m)
