-- The changes that `put` makes to a map.
use Rattle.merge_laws.proofs.Shared.{◌≡◌, ℕ, ◌<◌, List, length, get_or, set, Result, Ok, Err, OnOk, OnErr, refl, sym, ap, subst, ◌∙◌, Ordering, IsTotalOrder, set-get_or, found_at, index_of, IsRising, IsMap, has_key, entry_key, map_with, merged_entries, rises_with, all_with}
use Rattle.merge_laws.proofs.Edits.{replaced, tells_ok}

module _ {K V : Type 0} {R : K → K → Ordering} (o : IsTotalOrder R) (P : V → Type 0) (merged : V → V → V) where
  -- if the map has the key, `put` merges the new value into the value at the key
  pub put_there : (es : List (K × V)) (k : K) (v m : V) (i : ℕ) (x : K × V) → IsRising R entry_key es → Ok i ≡ found_at R entry_key k es → x ≡ get_or es i x → m ≡ merged x.1 v → set es i (x.0, m) ≡ map_with R merged k v es
  put_there es k v m i x h at read made =
      let told = tells_ok (has_key R entry_key k es) (index_of R entry_key k es) i at in
      (λ n. set es i ((read n).0, (made ∙ ap (λ e. merged e.1 v) read) n))
      ∙ (λ n. set es (sym told.1 n) ((get_or es (sym told.1 n) x).0, merged (get_or es (sym told.1 n) x).1 v))
      ∙ replaced entry_key o (merged_entries merged) (k, v) es x h told.0

  pub put_map : ((v w : V) → P v → P w → P (merged v w)) → (es : List (K × V)) (k : K) (v : V) → IsMap R P es → P v → IsMap R P (map_with R merged k v es)
  put_map closed es k v m p = record {
    rises = rises_with entry_key o (merged_entries merged) (λ _ _. refl) (k, v) es m.rises;
    values = all_with entry_key o (merged_entries merged) (λ _ _. refl) (λ e. P e.1) (λ e f. closed e.1 f.1) (k, v) es p m.values;
  }

  pub put_back : (es : List (K × V)) (m : V) (i : ℕ) (x : K × V) → i < length es → x ≡ get_or es i x → m ≡ x.1 → set es i (x.0, m) ≡ es
  put_back es m i x within read same = (λ n. set es i (x.0, same n)) ∙ ap (set es i) read ∙ set-get_or es i x

  pub merged_there : {A B : Type 0} (r : Result A B) (es : List (K × V)) (k : K) (v m : V) (i : ℕ) (x : K × V) → ((v w : V) → P v → P w → P (merged v w)) → IsMap R P es → P v → Ok i ≡ found_at R entry_key k es → i < length es → x ≡ get_or es i x → OnOk r (m ≡ merged x.1 v) → OnErr r (m ≡ x.1) → IsMap R P (set es i (x.0, m))
  merged_there (Ok a) es k v m i x closed h p at within read made kept = subst (IsMap R P) (sym (put_there es k v m i x h.rises at read made)) (put_map closed es k v h p)
  merged_there (Err e) es k v m i x closed h p at within read made kept = subst (IsMap R P) (sym (put_back es m i x within read kept)) h
