-- Conditions on texts and base URLs (own).
use Rattle.std.specs.Prelude.{ℕ, List, Bool, false, bytes_eq, is_none}
use Rattle.std.specs.Option.{option_map_or}
use Rattle.oim_report.specs.Json.{Given, text_of}
use Rattle.oim_report.specs.References.{base_url}

abbrev pub is_text : List ℕ → Given → Bool
is_text t g = option_map_or (λ u. bytes_eq u t) (text_of g) false

abbrev pub is_base_refused : List ℕ → Bool
is_base_refused text = is_none (base_url text)
