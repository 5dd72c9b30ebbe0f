-- The test `is_utf8` in `json_text` agrees with `IsUtf8`.
use Rattle.oim_report.proofs.Shared.{◌≡◌, ℕ, List, Bool, true, false, cond, Option, None, refl, ap, IsUtf8, is_utf8, IsUtf8-from_is_utf8, is_utf8-from_IsUtf8}

pub passes : {A : Type 0} (text : List ℕ) (found : Option A) → IsUtf8 text → cond (is_utf8 text) found None ≡ found
passes text found utf8 = ap (λ b. cond b found None) (is_utf8-from_IsUtf8 text utf8)

by_test : {A : Type 0} (b : Bool) (found : Option A) → (b ≡ true → found ≡ None) → cond b found None ≡ None
by_test true found h = h refl
by_test false found h = refl

pub fails : {A : Type 0} (text : List ℕ) (found : Option A) → (IsUtf8 text → found ≡ None) → cond (is_utf8 text) found None ≡ None
fails text found h = by_test (is_utf8 text) found (λ t. h (IsUtf8-from_is_utf8 text t))
