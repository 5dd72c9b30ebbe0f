-- The text under which a taxonomy reference is kept (xBRL-JSON 1.0, `taxonomy` and `baseURL` of a report; the kept form is own).
use Rattle.std.specs.Prelude.{◌≡◌, ℕ, ◌&&◌, ◌||◌, Bool, true, false, not, nat_le, if◌then◌else◌, List, length, codes, bytes_eq, Option, Some, None, Ok, Err}
use Rattle.std.specs.Option.{option_map_or}
use Rattle.std.specs.Str.{is_utf8}
use Rattle.url.specs.Parser.{Parsed, parse_url}
use Rattle.url.specs.Parts.{Parts, serialize}
use Rattle.oim_report.specs.declared.limits.TheConstants.{MOST_REFERENCE_BYTES}

abbrev pub is_web : Parts → Bool
is_web url = bytes_eq url.scheme (codes "http") || bytes_eq url.scheme (codes "https")

-- the parsed URL, if it is an http or https URL
abbrev pub web_url : Parsed Parts → Option Parts
web_url (Ok url) = if is_web url then Some url else None
web_url (Err e) = None

-- the text is UTF-8, parses as an http or https URL, and is the serialization of that URL (URL Standard, sections 4.4 and 4.5).
-- The serialization of every http or https URL passes this test, so no code performs the test.
abbrev pub is_web_text : List ℕ → Bool
is_web_text text = is_utf8 text && option_map_or (λ url. bytes_eq (serialize url) text) (web_url (parse_url None text)) false

-- the serialization of an http or https URL (URL Standard, section 4.5)
abbrev pub web_text : Option Parts → Option (List ℕ)
web_text None = None
web_text (Some url) = if is_web_text (serialize url) then Some (serialize url) else None

-- the kept text of a reference: an http or https URL is kept as its serialization, and another URL as it is spelled. A reference
-- that is not a URL is kept as it is spelled if there is no base URL. If there is a base URL, the reference is resolved, and the
-- serialization of the resulting http or https URL is kept.
abbrev pub kept_by : Parsed Parts → Option Parts → List ℕ → Option (List ℕ)
kept_by (Ok url) base reference = if is_web url then web_text (Some url) else Some reference
kept_by (Err e) None reference = Some reference
kept_by (Err e) (Some base) reference = web_text (web_url (parse_url (Some base) reference))

-- the kept text of a reference, or None if a relative reference does not resolve against the base URL to an http or https URL
abbrev pub kept : Option Parts → List ℕ → Option (List ℕ)
kept base reference = kept_by (parse_url None reference) base reference

-- the length of a base URL, a reference or a kept text is within the limit (own)
abbrev pub is_within_limit : List ℕ → Bool
is_within_limit text = nat_le (length text) MOST_REFERENCE_BYTES

-- the URL that relative references are resolved against, if the text is within the limit and parses as an http or https URL (own:
-- other URLs are refused)
abbrev pub base_url : List ℕ → Option Parts
base_url text = if is_within_limit text then web_url (parse_url None text) else None

-- there is a text, and it is within the limit
abbrev pub is_text_within_limit : Option (List ℕ) → Bool
is_text_within_limit text = option_map_or is_within_limit text false

-- a reference is too long, has no kept text, or has a kept text that is too long (own)
abbrev pub is_reference_refused : Option Parts → List ℕ → Bool
is_reference_refused base reference = not (is_within_limit reference && is_text_within_limit (kept base reference))

-- a kept text stays the same if it is kept again without a base URL
abbrev pub KeptIsKept : Type 0
KeptIsKept = (base : Option Parts) (reference text : List ℕ) → kept base reference ≡ Some text → kept None text ≡ Some text

-- the kept text of an accepted reference is accepted without a base URL
abbrev pub KeptIsAccepted : Type 0
KeptIsAccepted =
    (base : Option Parts) (reference text : List ℕ) → is_reference_refused base reference ≡ false → kept base reference ≡ Some text →
    is_reference_refused None text ≡ false

-- the kept text of a UTF-8 reference is UTF-8
abbrev pub KeptIsUtf8 : Type 0
KeptIsUtf8 =
    (base : Option Parts) (reference text : List ℕ) → is_utf8 reference ≡ true → kept base reference ≡ Some text →
    is_utf8 text ≡ true

-- a kept reference is UTF-8, is within the limit, and stays the same if it is kept again without a base URL
pub record IsKeptReference (text : List ℕ) : Type 0 where
  pub kept : kept None text ≡ Some text
  pub short : is_within_limit text ≡ true
  pub utf8 : is_utf8 text ≡ true
