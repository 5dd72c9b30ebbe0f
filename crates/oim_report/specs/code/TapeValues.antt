-- The JSON values on a tape, with the data and the parts of a fact that they denote (own).
use Rattle.std.specs.Prelude.{◌≡◌, ℕ, ◌≤◌, List, false, Option, Some, ⊤}
use Rattle.json.specs.Json as json
use Rattle.json.specs.Tree.{depth, members_depth}
use Rattle.serde_json.specs.Data.{Data, object, Members, no_members, member, put}
use Rattle.serde_json.specs.Read.{of_json, of_members}
use Rattle.oim_report.specs.Json.{Given, given}
use Rattle.oim_report.specs.FactMembers.{DimensionMembers, FactMembers, dimension_parts, parts_of, fact_parts}
use Rattle.oim_report.specs.Pieces.{HasMember}
use Rattle.oim_report.specs.PlainJson.{IsBefore}
use Rattle.oim_report.specs.code.Pieces.{Adds, IsLike}

-- the keys ascend in byte order
abbrev pub Ascends : Members → Type 0
Ascends no_members = ⊤
Ascends (member k d ms) = IsBefore k ms × Ascends ms

-- the value is neither an array nor an object, and is read as data that `given` maps to g
pub record IsLeaf (v : json.Json) (g : Given) : Type 0 where
  pub found : Data
  pub reads : of_json v ≡ Some found
  pub is : given found ≡ g
  pub flat : depth v ≤ 0

-- the value is an object whose values are leaves, and is read as members with these parts
pub record AreDimensions (v : json.Json) (parts : DimensionMembers) : Type 0 where
  pub ms : Members
  pub reads : of_json v ≡ Some (object ms)
  pub are : dimension_parts ms ≡ parts
  pub flat : depth v ≤ 1

-- the members have these parts; `dimensions` and `links` are absent or objects, and `links` has no member
pub record IsSoFar (ms : Members) (parts : FactMembers) : Type 0 where
  pub are : parts_of ms ≡ parts
  pub shaped : parts.misshapen ≡ false
  pub unlinked : parts.linked ≡ false

-- the value is read as data and has n levels at most
pub record IsRead (n : ℕ) (v : json.Json) : Type 0 where
  pub found : Data
  pub reads : of_json v ≡ Some found
  pub flat : depth v ≤ n

-- the value has 124 levels at most; if ascending members have the parts `old`, they have the parts `new` after the value is put
-- at the key
pub record IsPut (key : List ℕ) (v : json.Json) (old new : FactMembers) : Type 0 where
  pub found : Data
  pub reads : of_json v ≡ Some found
  pub flat : depth v ≤ 124
  pub puts : (ms : Members) → Ascends ms → IsSoFar ms old → IsSoFar (put key found ms) new

-- the value is an object of 125 levels at most, and is read as a fact object with these parts
pub record IsFactObject (v : json.Json) (parts : FactMembers) : Type 0 where
  pub found : Data
  pub reads : of_json v ≡ Some found
  pub are : fact_parts found ≡ Some parts
  pub flat : depth v ≤ 125

-- the value is read as this data and has n levels at most
pub record IsReadAs (n : ℕ) (v : json.Json) (found : Data) : Type 0 where
  pub reads : of_json v ≡ Some found
  pub flat : depth v ≤ n

-- the value has 125 levels at most, and is read as data of which `Is` is true
pub record IsReadWhere (v : json.Json) (Is : Data → Type 0) : Type 0 where
  pub found : Data
  pub reads : of_json v ≡ Some found
  pub flat : depth v ≤ 125
  pub is : Is found

-- the value has 125 levels at most; members that are like `old` are like `new` after the value is put at the key
pub record IsAdded (key : List ℕ) (v : json.Json) (old new : Members) : Type 0 where
  pub found : Data
  pub reads : of_json v ≡ Some found
  pub flat : depth v ≤ 125
  pub adds : (all : Members) (own : Option Data) → IsLike all old own → IsLike (put key found all) new own

-- there is at least one member, and each value has 125 levels at most; members that are like `old` are like `new` with these
-- members
pub record AreAdded (vs : json.Members) (old new : Members) : Type 0 where
  pub ms : Members
  pub reads : of_members vs no_members ≡ Some ms
  pub some : HasMember ms
  pub adds : Adds ms old new
  pub flat : members_depth vs ≤ 125

-- an array with one object
abbrev pub one : json.Members → json.Json
one ms = json.array (json.item (json.object ms) json.no_items)

-- the keys are equal, one by one, and each value has 125 levels at most and is read as the data with the same index
abbrev pub AreData : json.Members → Members → Type 0
AreData json.no_members no_members = ⊤
AreData json.no_members (member k d ms) = ⊥
AreData (json.member k v vs) no_members = ⊥
AreData (json.member k v vs) (member l d ms) = (k ≡ l) × (of_json v ≡ Some d) × (depth v ≤ 125) × AreData vs ms
