-- The code's test for objects that are not empty agrees with `has_member`.
use Rattle.oim_report.proofs.Shared.{◌≡◌, not, Bool, true, false, List, [], ◌∷◌, length, Some, refl, rules, arith, IsTrue, members_view, Entry, has_member}

pub filled_members : (es : List Entry) (empty : Bool) → (IsTrue empty → length es ≡ 0) → (length es ≡ 0 → IsTrue empty) → not empty ≡ has_member (Some (members_view es))
filled_members [] false p q = absurd (let t = q refl in search rules)
filled_members (e ∷ es) true p q = absurd (let t : length (e ∷ es) ≡ 0 = p (search rules) in omega arith)
filled_members es empty p q = refl
