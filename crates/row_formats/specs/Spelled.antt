-- Names that need no prefix (own). In bytes, `{` is 123 and `}` is 125.
use Rattle.std.specs.Prelude.{ℕ, List, ◌∷◌, ◌++◌}
use Rattle.oim_names.specs.QName.{QName}

-- a name as `{URI}local`
abbrev pub braced : QName → List ℕ
braced n = 123 ∷ (n.uri ++ 125 ∷ n.local_part)
