use Rattle.oim_dims.proofs.Shared.{◌≡◌, ◌∷◌, ◌++◌, take, string_bytes, QName, product_text}
use Rattle.oim_dims.proofs.spelling.push_product.Given as goal

-- the measures so far are written
abbrev pub invariant-loop-name : goal.invariant-loop-name
invariant-loop-name g l = (m : QName) → l.names ≡ m ∷ l.others → string_bytes l.text ≡ string_bytes l.fn.text ++ product_text (g.S.Spelling.spelled l.spelling) (m ∷ take l.name-index l.others)
