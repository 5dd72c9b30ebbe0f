-- The prefixes that an object binds (xBRL-JSON 1.0, section 2.1; XML Namespaces 1.0, sections 2.2 and 3).
use Rattle.std.specs.Prelude.{ℕ, List, [], ◌∷◌, Bool, true, not, ◌||◌}
use Rattle.std.specs.Option.{unwrap_or, option_map_or}
use Rattle.std.specs.Str.{bytes_eq}
use Rattle.oim_names.specs.QName.{is_part}
use Rattle.oim_names.specs.Bindings.{Binding}
use Rattle.serde_json.specs.Data.{Data, Members, no_members, member}
use Rattle.oim_report.specs.Json.{given, text_of}

-- an entry of `namespaces` binds nothing if its key is not a prefix, or its value is empty or not a text
abbrev pub binds_nothing : List ℕ → Data → Bool
binds_nothing key d = not (is_part key) || option_map_or (λ u. bytes_eq u []) (text_of (given d)) true

-- the bindings of all entries; a value that is not a text becomes an empty URI, and the condition `Namespace` then applies
abbrev pub bindings_in : Members → List Binding
bindings_in no_members = []
bindings_in (member key d ms) = (record { prefix = key; uri = unwrap_or (text_of (given d)) [] }) ∷ bindings_in ms
