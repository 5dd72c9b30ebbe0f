-- The parts of a report, and the contents of all parts except the facts (xBRL-JSON 1.0, section 2; own where marked).
use Rattle.std.specs.Prelude.{ℕ, List, [], ◌∷◌, Bool, ◌&&◌, bytes_eq, codes, if◌then◌else◌, Option, Some, None, option_map, option_and_then}
use Rattle.std.specs.Option.{unwrap_or}
use Rattle.oim_names.specs.Bindings.{Binding}
use Rattle.oim_names.specs.Expansion.{is_reserved}
use Rattle.oim_names.specs.QName.{local_part}
use Rattle.oim_value.specs.Level.{level_with}
use Rattle.oim_value.specs.declared.level.Level.{Level}
use Rattle.oim_value.specs.declared.level.Level.TheVariants.{All}
use Rattle.serde_json.specs.Data.{Data, Items, no_items, item, Members, no_members, member}
use Rattle.serde_json.specs.Find.{as_array, as_object}
use Rattle.oim_report.specs.Json.{Given, absent, nil, text, whole, other, given, given_of, text_of, object_at, within, members}
use Rattle.url.specs.Parts.{Parts}
use Rattle.oim_report.specs.References.{base_url, is_reference_refused, kept}
use Rattle.oim_report.specs.Namespaces.{bindings_in}

-- ---- the parts

abbrev pub info : List ℕ → Data → Option Data
info key tree = within (codes "documentInfo") key tree

abbrev pub namespaces_of : Data → Option Members
namespaces_of tree = option_and_then as_object (info (codes "namespaces") tree)

abbrev pub bindings_of : Data → List Binding
bindings_of tree = bindings_in (members (namespaces_of tree))

abbrev pub taxonomy_of : Data → Items
taxonomy_of tree = unwrap_or (option_and_then as_array (info (codes "taxonomy") tree)) no_items

abbrev pub features_of : Data → Members
features_of tree = members (option_and_then as_object (info (codes "features") tree))

abbrev pub facts_of : Data → Members
facts_of tree = members (object_at (codes "facts") tree)

-- ---- the contents of the parts; a refused part is None

-- the http or https URL that relative references are resolved against; `Some None` if there is no `baseURL`
abbrev pub said_base_url : Given → Option (Option Parts)
said_base_url absent = Some None
said_base_url (text t) = option_map Some (base_url t)
said_base_url nil = None
said_base_url (whole n) = None
said_base_url other = None

-- the kept text of a reference, if the reference is accepted
abbrev pub accepted_reference : Option Parts → List ℕ → Option (List ℕ)
accepted_reference base t = if is_reference_refused base t then None else kept base t

abbrev pub said_reference : Option Parts → Data → Option (List ℕ)
said_reference base d = option_and_then (accepted_reference base) (text_of (given d))

abbrev pub said_references : Option Parts → Items → Option (List (List ℕ))
said_references base no_items = Some []
said_references base (item d ds) = option_and_then (λ t. option_map (λ ts. t ∷ ts) (said_references base ds)) (said_reference base d)

-- a key of `features` names the feature `xbrl:allowedDuplicates`, with any prefix that is bound to the reserved URI
abbrev pub is_allowed_duplicates : List Binding → List ℕ → Bool
is_allowed_duplicates bs key = is_reserved bs key && bytes_eq (local_part key) (codes "allowedDuplicates")

-- the values of all members that declare the feature
abbrev pub declarations : List Binding → Members → List Given
declarations bs no_members = []
declarations bs (member key d ms) = if is_allowed_duplicates bs key then given d ∷ declarations bs ms else declarations bs ms

-- the level in the only declaration; `All` without a declaration (own); None if there are several or the value is not a level
abbrev pub said_level : List Given → Option Level
said_level [] = Some All
said_level (g ∷ []) = option_and_then level_with (text_of g)
said_level (g ∷ h ∷ gs) = None

abbrev pub base_url_said : Data → Option (Option Parts)
base_url_said tree = said_base_url (given_of (info (codes "baseURL") tree))

abbrev pub references_said : Data → Option (List (List ℕ))
references_said tree = option_and_then (λ base. said_references base (taxonomy_of tree)) (base_url_said tree)

abbrev pub level_said : Data → Option Level
level_said tree = said_level (declarations (bindings_of tree) (features_of tree))

-- ---- the keys that the root and `documentInfo` may have besides keys with a colon, and the type of a document

abbrev pub root_keys : List (List ℕ)
root_keys = codes "documentInfo" ∷ codes "facts" ∷ []

abbrev pub info_keys : List (List ℕ)
info_keys = codes "documentType" ∷ codes "namespaces" ∷ codes "taxonomy" ∷ codes "baseURL" ∷ codes "features" ∷ codes "linkTypes" ∷ codes "linkGroups" ∷ []

abbrev pub document_type : List ℕ
document_type = codes "https://xbrl.org/2021/xbrl-json"
