-- The JSON value of a file's bytes (RFC 8259), and access to its parts.
use Rattle.std.specs.Prelude.{ℕ, ℤ, List, [], ◌∷◌, take, drop, Bool, true, false, not, ◌||◌, ◌&&◌, if◌then◌else◌, bytes_eq, Option, Some, None, is_some, option_and_then}
use Rattle.std.specs.Option.{unwrap_or, option_map_or}
use Rattle.std.specs.List.{list_any}
use Rattle.std.specs.Str.{is_utf8}
use Rattle.oim_names.specs.QName.{is_colon}
use Rattle.serde_json.specs.Data.{Data, null, boolean, number, string, array, object, Members, no_members, member}
use Rattle.serde_json.specs.Find.{get, get_member, as_array, as_integer, as_object}
use Rattle.serde_json.specs.Read.{read}

-- the bytes, without the byte order mark if they begin with one
abbrev pub without_mark : List ℕ → List ℕ
without_mark bytes = if bytes_eq (take 3 bytes) (0xef ∷ 0xbb ∷ 0xbf ∷ []) then drop 3 bytes else bytes

-- the value of a text, or None if the text is not UTF-8 or not JSON
abbrev pub json_text : List ℕ → Option Data
json_text text = if is_utf8 text then read text else None

-- the JSON value of a file's bytes, or None if the bytes are not JSON in UTF-8
abbrev pub json : List ℕ → Option Data
json bytes = json_text (without_mark bytes)

-- ---- the value at a key

-- a JSON value that may be absent: `nil` is null, `text` is a UTF-8 string, `whole` is a number that `serde_json` reads as an
-- integer, and `other` is any other value. A string that was read is never `other`, because it is UTF-8.

pub data Given : Type 0 where
  absent : Given
  nil : Given
  text : List ℕ → Given
  whole : ℤ → Given
  other : Given

abbrev pub given : Data → Given
given null = nil
given (boolean b) = other
given (number n) = option_map_or whole (as_integer n) other
given (string s) = if is_utf8 s then text s else other
given (array ds) = other
given (object ms) = other

abbrev pub given_of : Option Data → Given
given_of None = absent
given_of (Some d) = given d

abbrev pub is_absent : Given → Bool
is_absent absent = true
is_absent nil = false
is_absent (text t) = false
is_absent (whole n) = false
is_absent other = false

-- there is a value that is not a text
abbrev pub is_no_text : Given → Bool
is_no_text absent = false
is_no_text nil = true
is_no_text (text t) = false
is_no_text (whole n) = true
is_no_text other = true

abbrev pub text_of : Given → Option (List ℕ)
text_of absent = None
text_of nil = None
text_of (text t) = Some t
text_of (whole n) = None
text_of other = None

-- ---- members

abbrev pub given_at : List ℕ → Members → Given
given_at key ms = given_of (get_member key ms)

-- None if there is no value at the key, or if the value is not an object
abbrev pub object_at : List ℕ → Data → Option Members
object_at key d = option_and_then as_object (get key d)

-- the value at `key` in the object at the key `outer`
abbrev pub within : List ℕ → List ℕ → Data → Option Data
within outer key d = option_and_then (get key) (get outer d)

-- the members, or none if there is no object
abbrev pub members : Option Members → Members
members ms = unwrap_or ms no_members

-- each key with its value, in the order of the members; members that were read are in byte order of their keys
abbrev pub entries : Members → List (List ℕ × Data)
entries no_members = []
entries (member key d ms) = (key, d) ∷ entries ms

-- the values of members, in the same order
abbrev pub values : Members → List Data
values no_members = []
values (member key d ms) = d ∷ values ms

abbrev pub any_member : (List ℕ → Data → Bool) → Members → Bool
any_member test no_members = false
any_member test (member key d ms) = test key d || any_member test ms

-- there is an object with a member that passes the test
abbrev pub any_in : (List ℕ → Data → Bool) → Option Members → Bool
any_in test ms = option_map_or (any_member test) ms false

abbrev pub has_member : Option Members → Bool
has_member ms = any_in (λ key d. true) ms

-- ---- keys

-- a key has a colon. A key with a colon names a taxonomy-defined dimension in `dimensions`, and belongs to an extension in other
-- objects with known keys (own).
abbrev pub has_colon : List ℕ → Bool
has_colon key = list_any is_colon key

abbrev pub is_unknown : List (List ℕ) → List ℕ → Data → Bool
is_unknown known key d = not (has_colon key) && not (list_any (λ k. bytes_eq k key) known)

-- ---- kinds of values

abbrev pub is_object : Data → Bool
is_object d = is_some (as_object d)

-- there is a value that is not an object
abbrev pub is_no_object : Option Data → Bool
is_no_object d = option_map_or (λ v. not (is_object v)) d false

-- there is a value that is not an array
abbrev pub is_no_array : Option Data → Bool
is_no_array d = option_map_or (λ v. not (is_some (as_array v))) d false
