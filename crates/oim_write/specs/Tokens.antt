-- The tokens that a JSON writer appends for a value, or for members of an object (own).
use Rattle.std.specs.Prelude.{◌≡◌, List, [], ◌∷◌, ◌++◌}
use Rattle.json.specs.Token.{Token, key}
use Rattle.json.specs.Tree.{json_tokens}
use Rattle.json.specs.Written.{Written}
use Rattle.serde_json.specs.Data.{Data, Members, no_members, member}
use Rattle.serde_json.specs.Written.{outline}

-- these tokens were appended; the bytes before the first token did not change
pub record Adds (old new : Written) (further : List Token) : Type 0 where
  pub tokens : new.tokens ≡ old.tokens ++ further
  pub before : new.before ≡ old.before

abbrev pub AddsValue : Written → Written → Data → Type 0
AddsValue old new d = Adds old new (json_tokens (outline d))

-- the tokens of the members only, without the braces of the object
abbrev pub members_tokens : Members → List Token
members_tokens no_members = []
members_tokens (member k d ms) = key k ∷ (json_tokens (outline d) ++ members_tokens ms)

abbrev pub AddsMembers : Written → Written → Members → Type 0
AddsMembers old new ms = Adds old new (members_tokens ms)
