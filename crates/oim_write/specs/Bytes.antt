-- The bytes of a body's text, in the canonical and in the earlier form (own).
use Rattle.std.specs.Prelude.{◌≡◌, ℕ, List, Option}
use Rattle.fact_base.specs.Passed.{SameMembers}
use Rattle.serde_json.specs.Written.{compact_text}
use Rattle.oim_value.specs.declared.level.Level.{Level}
use Rattle.fact_base.specs.Passed.{Document}
use Rattle.fact_base.specs.Passed.{IsPlainJson}
use Rattle.fact_base.specs.Passed.{Sheet}
use Rattle.fact_base.specs.Body.{Body, body}
use Rattle.fact_base.specs.Fits.{Fits}
use Rattle.oim_write.specs.Tree.{earlier_tree, tree, tree_declaring}

-- the JSON text of the body's tree, without white space between tokens
unfoldable pub canonical : Body → List ℕ
canonical b = compact_text (tree b)

-- the earlier form, which declares no level of duplicates
unfoldable pub earlier : Body → List ℕ
earlier b = compact_text (earlier_tree b)

-- the order and the repetition of documents do not change the canonical text of their body
abbrev pub BytesIgnoreOrder : Type 0
BytesIgnoreOrder = (ds es : List Document) → SameMembers ds es → canonical (body ds) ≡ canonical (body es)

-- The tree of a body that fits a sheet, with any declared level or none, has UTF-8 texts and no float. The tree is at most four
-- levels deep, and the keys of its objects are distinct and in byte order.
abbrev pub TreesArePlain : Type 0
TreesArePlain = (sheet : Sheet) (b : Body) (declared : Option Level) → Fits sheet b → IsPlainJson (tree_declaring declared b) 4
