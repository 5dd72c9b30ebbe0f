-- The text of an object's members, in pieces. Each piece is read as the members of the only object of an array (own).
use Rattle.std.specs.Prelude.{◌≡◌, ℕ, List, [], ◌∷◌, ◌++◌, Some, ⊤}
use Rattle.serde_json.specs.Data.{Data, array, object, no_items, item, Members, no_members, member, put}
use Rattle.serde_json.specs.Read.{read}

-- the text of an array with one object, which has the members in `piece`
abbrev pub alone : List ℕ → List ℕ
alone piece = 91 ∷ 123 ∷ (piece ++ 125 ∷ 93 ∷ [])

abbrev pub one_data : Members → Data
one_data found = array (item (object found) no_items)

abbrev pub HasMember : Members → Type 0
HasMember no_members = ⊥
HasMember (member k d ms) = ⊤

-- the piece is the text of these members; there is at least one member
pub record IsPiece (piece : List ℕ) (found : Members) : Type 0 where
  pub some : HasMember found
  pub reads : read (alone piece) ≡ Some (one_data found)

-- ---- the members of several pieces

-- puts the members into `onto` one after another; the last value of a repeated key is kept, as in `serde_json` (RFC 8259, section
-- 4)
abbrev pub put_all : Members → Members → Members
put_all no_members onto = onto
put_all (member k d ms) onto = put_all ms (put k d onto)

-- two pieces with a comma between them are a piece with the members of both, joined as in `put_all`
abbrev pub PiecesAreTheWhole : Type 0
PiecesAreTheWhole = (a b : List ℕ) (found more : Members) → IsPiece a found → IsPiece b more → IsPiece (a ++ 44 ∷ b) (put_all more found)
