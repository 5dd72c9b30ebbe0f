-- How the code stores bindings (own).
use Rattle.std.specs.Prelude.{◌≡◌, ℕ, List, Some, String}
use Rattle.std.specs.BTreeMap.{BTreeMap, get_by_text}
use Rattle.std.specs.Map.{update}
use Rattle.std.specs.Str.{bytes_eq}
use Rattle.oim_names.specs.Bindings.{AreBindings, Binding, uri_of}

-- the bindings are well-formed, and the map lists each bound prefix with its URI, and no other prefix
pub record AreIndexed {Y : Type 0} (bs : List Binding) (kept : BTreeMap (String Y) (List ℕ)) : Type 0 where
  pub bindings : AreBindings bs
  pub uris : (p : List ℕ) → get_by_text kept p ≡ uri_of bs p

-- the new map lists the prefix with this URI, and each other prefix as the old map does
abbrev pub IsBound : {Y : Type 0} → BTreeMap (String Y) (List ℕ) → List ℕ → List ℕ → BTreeMap (String Y) (List ℕ) → Type 0
IsBound old prefix uri new = (p : List ℕ) → get_by_text new p ≡ update bytes_eq (get_by_text old) prefix (Some uri) p
