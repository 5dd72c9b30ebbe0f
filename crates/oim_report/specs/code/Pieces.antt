-- How the members of `facts` are cut into pieces, and how a document is split around `facts` (own).
use Rattle.std.specs.Prelude.{◌≡◌, ℕ, codes, List, [], ◌∷◌, ◌++◌, true, false, Option, Some, None, ⊤}
use Rattle.json.specs.Word.{is_space}
use Rattle.serde_json.specs.Data.{Data, object, Members, no_members, member}
use Rattle.serde_json.specs.Find.{get_member}
use Rattle.serde_json.specs.Read.{read}
use Rattle.oim_report.specs.Info.{root_keys}
use Rattle.oim_report.specs.Json.{any_member, is_unknown}
use Rattle.oim_report.specs.Pieces.{IsPiece, put_all}

-- a piece, followed by a comma and the rest if there is a rest
abbrev pub with_rest : List ℕ → Option (List ℕ) → List ℕ
with_rest piece None = piece
with_rest piece (Some rest) = piece ++ 44 ∷ rest

-- `left` follows a piece and a comma, and the piece has these members, put one after another; without members, `left` is the text
abbrev pub IsUpTo : List ℕ → List ℕ → Members → Type 0
IsUpTo text left no_members = left ≡ text
IsUpTo text left (member k d ms) = (done : List ℕ) × (text ≡ done ++ 44 ∷ left) × IsPiece done (put_all (member k d ms) no_members)

-- white space (RFC 8259)
abbrev pub AreSpaces : List ℕ → Type 0
AreSpaces [] = ⊤
AreSpaces (x ∷ xs) = (is_space x ≡ true) × AreSpaces xs

-- `"facts"`
abbrev pub facts_key : List ℕ
facts_key = 34 ∷ 102 ∷ 97 ∷ 99 ∷ 116 ∷ 115 ∷ 34 ∷ []

-- `text` is white space followed by `rest`
pub record AfterSpaces (text rest : List ℕ) : Type 0 where
  pub spaces : List ℕ
  pub are : AreSpaces spaces
  pub splits : text ≡ spaces ++ rest

-- `text` is `front` followed by white space
pub record BeforeSpaces (text front : List ℕ) : Type 0 where
  pub spaces : List ℕ
  pub are : AreSpaces spaces
  pub splits : text ≡ front ++ spaces

-- if `before` exists, it precedes `rest`, with white space and a comma between them
abbrev pub with_before : Option (List ℕ) → List ℕ → List ℕ → List ℕ
with_before None spaces rest = rest
with_before (Some before) spaces rest = before ++ (spaces ++ 44 ∷ rest)

-- if `behind` exists, it follows `front`, with white space and a comma between them
abbrev pub with_behind : List ℕ → List ℕ → Option (List ℕ) → List ℕ
with_behind front spaces None = front
with_behind front spaces (Some behind) = front ++ (spaces ++ 44 ∷ behind)

-- the text before the key `facts`
pub record IsHead (text : List ℕ) (before : Option (List ℕ)) : Type 0 where
  pub s0 : List ℕ
  pub s1 : List ℕ
  pub s2 : List ℕ
  pub are : AreSpaces s0 × AreSpaces s1 × AreSpaces s2
  pub splits : text ≡ s0 ++ 123 ∷ with_before before s1 s2

-- the text after the closing brace of `facts`
pub record IsEnd (text : List ℕ) (behind : Option (List ℕ)) : Type 0 where
  pub s6 : List ℕ
  pub s7 : List ℕ
  pub s8 : List ℕ
  pub are : AreSpaces s6 × AreSpaces s7 × AreSpaces s8
  pub splits : text ≡ with_behind [] s6 behind ++ (s7 ++ 125 ∷ s8)

-- the text after the key `facts`
pub record IsTail (text facts : List ℕ) (behind : Option (List ℕ)) : Type 0 where
  pub s3 : List ℕ
  pub s4 : List ℕ
  pub s5 : List ℕ
  pub rest : List ℕ
  pub are : AreSpaces s3 × AreSpaces s4 × AreSpaces s5
  pub splits : text ≡ s3 ++ 58 ∷ (s4 ++ 123 ∷ (facts ++ (s5 ++ 125 ∷ rest)))
  pub ends : IsEnd rest behind

-- `before`, `facts` and `behind` are the texts of a document's members before, in and after its member `facts`
pub record IsSplit (text : List ℕ) (before : Option (List ℕ)) (facts : List ℕ) (behind : Option (List ℕ)) : Type 0 where
  pub head : List ℕ
  pub tail : List ℕ
  pub splits : text ≡ head ++ (facts_key ++ tail)
  pub head_is : IsHead head before
  pub tail_is : IsTail tail facts behind

-- the members before or after `facts`, if there are any
abbrev pub IsBeside : Option (List ℕ) → Members → Type 0
IsBeside None ms = ms ≡ no_members
IsBeside (Some text) ms = IsPiece text ms

-- the members `all` have no unknown key, the same `documentInfo` as `kept`, and `own` at the key `facts`
pub record IsLike (all kept : Members) (own : Option Data) : Type 0 where
  pub known : any_member (is_unknown root_keys) all ≡ false
  pub info : get_member (codes "documentInfo") all ≡ get_member (codes "documentInfo") kept
  pub facts : get_member (codes "facts") all ≡ own

-- members that are like `old` are like `new` with the members `ms`
abbrev pub Adds : Members → Members → Members → Type 0
Adds ms old new = (all : Members) (own : Option Data) → IsLike all old own → IsLike (put_all ms all) new own

-- if `facts` is a piece, `text` is read as an object that is like `tree` and has the members of this piece as its facts
abbrev pub IsOutline : List ℕ → Data → List ℕ → Type 0
IsOutline text tree facts = (kept : Members) × (tree ≡ object kept) × ((found : Members) → IsPiece facts found → (all : Members) × (read text ≡ Some (object all)) × IsLike all kept (Some (object found)))
