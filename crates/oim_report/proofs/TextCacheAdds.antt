-- The meanings in a cache after a text was added.
use Rattle.oim_report.proofs.Shared.{◌≡◌, ◌⊎◌, inl, inr, ℕ, List, Bool, true, false, cond, bytes_eq, String, string_bytes, Result, Ok, Err, refl, sym, ap, subst, ◌∙◌, Option, Some, None, OnOk, OnErr, string_eq, bytes_decides, lookup, update, hash_map_updates_text}
use Rattle.std.specs.HashMap.{HashMap, Updates, IsUnchanged, get_by_text}
use Rattle.oim_report.specs.declared.fact_reader.text_cache.TextCache.{TextCache}
use Rattle.oim_report.specs.code.TextCache.{Adds, IsTextCache, meaning}

either : {A : Type 0} (R : List ℕ → A → Type 0) (g : TextCache A) (t u : List ℕ) (a b : A) → IsTextCache R g → R t a → (c : Bool) → bytes_eq t u ≡ c → cond c (Some a) (meaning g u) ≡ Some b → R u b
either R g t u a b is says true same found =
    let value : a ≡ b = cc in
    subst (λ x. R x b) ((bytes_decides t u).0 same) (subst (λ x. R t x) value says)
either R g t u a b is says false other found = is.each u b found

pub still : {A : Type 0} (R : List ℕ → A → Type 0) (g h : TextCache A) (t : List ℕ) (a : A) → IsTextCache R g → R t a → Adds g t a h → IsTextCache R h
still R g h t a is says (inl same) = record { each = λ u b found. is.each u b (sym (same u) ∙ found) }
still R g h t a is says (inr new) = record { each = λ u b found. either R g t u a b is says (bytes_eq t u) refl (sym (new u) ∙ found) }

pub none_wrong : {A : Type 0} (R : List ℕ → A → Type 0) (g : TextCache A) → ((t : List ℕ) → meaning g t ≡ None) → IsTextCache R g
none_wrong R g empty = record { each = λ t a found. let none = sym (empty t) ∙ found in cc }

pub after_insert : {A S E Y : Type 0} (m n : HashMap (String Y) A S) (t : List ℕ) (k : String Y) (a : A) (r : Result (Option A) E) → string_bytes k ≡ t
    → OnOk r (Updates string_eq m n k (Some a)) → OnErr r (IsUnchanged m n)
    → ((u : List ℕ) → get_by_text n u ≡ get_by_text m u) ⊎ ((u : List ℕ) → get_by_text n u ≡ update bytes_eq (get_by_text m) t (Some a) u)
after_insert m n t k a (Ok old) same put err = inr (λ u. subst (λ x. get_by_text n u ≡ update bytes_eq (get_by_text m) x (Some a) u) same (hash_map_updates_text (string_bytes k) m n (Some a) put u))
after_insert m n t k a (Err e) same put err = inl (λ u. ap (lookup (λ l. bytes_eq u (string_bytes l))) err)
