-- `given` returns a text for a UTF-8 string.
use Rattle.oim_report.proofs.Shared.{◌≡◌, ℕ, List, String, Global, string_bytes, ap, sym, ◌∙◌, cond, rules, IsUtf8, is_utf8-from_IsUtf8, string, view, text, other, given}
use Rattle.serde_json.specs.declared.value.Value.{Value, the_lemmas}

pub given_text : (s : List ℕ) → IsUtf8 s → given (string s) ≡ text s
given_text s h = ap (λ b. cond b (text s) other) (is_utf8-from_IsUtf8 s h)

view-String : (s : String Global) → view (Value.String s) ≡ string (string_bytes s)
view-String s = search (rules, the_lemmas)

pub string_gives : (v : Value) (s : String Global) (t : List ℕ) → v ≡ Value.String s → t ≡ string_bytes s → IsUtf8 t → text t ≡ given (view v)
string_gives v s t is bytes utf8 = sym (ap given (ap view is ∙ view-String s ∙ ap string (sym bytes)) ∙ given_text t utf8)
