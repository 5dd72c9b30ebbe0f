-- The items of a JSON array, as tokens.
use Rattle.std.specs.Prelude.{List, [], ◌++◌}
use Rattle.json.specs.Token.{Token}
use Rattle.json.specs.Tree.{json_tokens}
use Rattle.serde_json.specs.Data.{Items, no_items, item}
use Rattle.serde_json.specs.Written.{outline}

-- the tokens of the items only, without the brackets of the array
abbrev pub item_tokens : Items → List Token
item_tokens no_items = []
item_tokens (item d ds) = json_tokens (outline d) ++ item_tokens ds
