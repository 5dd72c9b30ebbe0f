-- The canonical text, part by part as it is written (own).
use Rattle.std.specs.Prelude.{ℕ, ◌+◌, nat_lt, List, [], ◌∷◌, ◌++◌, length, codes, Bool, true, false}
use Rattle.json.specs.Print.{quoted}
use Rattle.serde_json.specs.Data.{Data, string, Members, no_members, member}
use Rattle.serde_json.specs.Written.{comma_if, compact_text}
use Rattle.oim_value.specs.Level.{level_entry}
use Rattle.oim_value.specs.declared.level.Level.{Level}
use Rattle.oim_dims.specs.declared.fact.Fact.{Fact}
use Rattle.oim_write.specs.Ordered.{ordered_fact}
use Rattle.oim_write.specs.Rank.{padded, width}
use Rattle.oim_write.specs.Tree.{members_by, name_text, prefix}

-- one member of an object, after a comma unless it is the first
abbrev pub part : Bool → List ℕ → Data → List ℕ
part later name d = comma_if later ++ (quoted name ++ 58 ∷ compact_text d)

-- the members of an object, without its braces
abbrev pub parts : Bool → Members → List ℕ
parts later no_members = []
parts later (member name d ms) = part later name d ++ parts true ms

-- true if the list is not empty
abbrev pub has_some : List (List ℕ) → Bool
has_some [] = false
has_some (u ∷ us) = true

abbrev pub namespace_members : List (List ℕ) → List (List ℕ) → Members
namespace_members us some = members_by (prefix us) string some

-- the items of an array of texts, without its brackets
abbrev pub text_parts : Bool → List (List ℕ) → List ℕ
text_parts later [] = []
text_parts later (t ∷ ts) = (comma_if later ++ quoted t) ++ text_parts true ts

-- the text before the first reference
abbrev pub head_text : Level → List (List ℕ) → List ℕ
head_text level us =
    codes "{\"documentInfo\":{\"documentType\":\"https://xbrl.org/2021/xbrl-json\",\"features\":{\"xbrl:allowedDuplicates\":\""
    ++ ((level_entry level).text
    ++ (codes "\"},\"namespaces\":{"
    ++ (parts false (namespace_members us us)
    ++ (comma_if (has_some us)
    ++ codes "\"xbrl\":\"https://xbrl.org/2021\"},\"taxonomy\":["))))

-- facts as members; their identifiers have `digits` digits and are numbered from `before` + 1
abbrev pub numbered_members : List (List ℕ) → ℕ → ℕ → List Fact → Members
numbered_members us digits before [] = no_members
numbered_members us digits before (f ∷ fs) = member (102 ∷ padded digits (before + 1)) (ordered_fact (name_text us) f) (numbered_members us digits (before + 1) fs)

abbrev pub numbered_text : List (List ℕ) → ℕ → ℕ → List Fact → List ℕ
numbered_text us digits before fs = parts (nat_lt 0 before) (numbered_members us digits before fs)

-- the members of the object `facts`, without the braces
abbrev pub facts_text : List (List ℕ) → List Fact → List ℕ
facts_text us facts = numbered_text us (width (length facts)) 0 facts
