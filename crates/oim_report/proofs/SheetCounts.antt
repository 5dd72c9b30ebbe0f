-- An object in which no entry is refused, and no name is repeated, has as many entries as names.
use Rattle.oim_report.proofs.Shared.{◌≡◌, ◌≤◌, ◌+◌, ℕ, suc, List, [], ◌∷◌, ◌++◌, Bool, true, false, cond, not, ◌||◌, Option, Some, None, is_some, length, refl, sym, ap, ◌∙◌, option_map, option_and_then, string_bytes, arith, FinMap, get-insert, len-empty, len-insert, AllByRecursion, list_any, option_map_or, eq_by_cmp, some_found, Binding, a_name, QName, is_name, name_cmp, named_kept, Data, Members, no_members, member, view, members_view, Entry, any_member, entries, named, names_refusal, named_kind, of_other_kind}
use Rattle.std.specs.FinMap as map
use Rattle.oim_report.specs.Sheet.{entries_in, entry, has_bad_kind, has_other_kind, key_names, kind_in, listed, names_no_kind}
use Rattle.oim_report.proofs.Naming.{stands}
use Rattle.oim_report.proofs.SheetEntries.{get-put, name_more, name_total, tied}

module _ {K : Type 0} where
  fewer : (es : List (QName × K)) → map.len (map.from_entries {R = name_cmp} es) ≤ length es
  fewer [] = let none = len-empty name_cmp K in omega (arith, none)
  fewer (e ∷ es) =
      let m = map.from_entries {R = name_cmp} es in
      let less = fewer es in
      elim (map.contains_key m e.0) as (λ b. map.len (map.insert m e.0 e.1) ≡ cond b (map.len m) (map.len m + 1) → map.len (map.insert m e.0 e.1) ≤ suc (length es)) [
        | true ↦ λ is. omega (arith, is, less)
        | false ↦ λ is. omega (arith, is, less)
      ] (len-insert name_total m e.0 e.1)

  is_none : (o : Option K) → is_some o ≡ false → o ≡ None
  is_none None h = refl
  is_none (Some k) h = absurd (Prim.cc)

  abbrev HasEach : FinMap name_cmp K → List (QName × K) → Type 0
  HasEach m es = AllByRecursion (λ e. map.get m e.0 ≡ Some e.1) es

  -- a new name changes no other name's kind
  still : (m : FinMap name_cmp K) (n : QName) (k : K) (es : List (QName × K)) → map.get m n ≡ None → HasEach m es → HasEach (map.insert m n k) es
  still m n k [] new h = tt
  still m n k (e ∷ es) new h = (
    get-insert name_total m n k e.0
        ∙ elim (eq_by_cmp name_cmp e.0 n) as (λ b. eq_by_cmp name_cmp e.0 n ≡ b → cond b (Some k) (map.get m e.0) ≡ Some e.1) [
          | true ↦ λ t. let no : None ≡ Some e.1 = sym new ∙ ap (map.get m) (sym (tied true e.0 n t refl)) ∙ h.0 in absurd (Prim.cc)
          | false ↦ λ _. h.0
        ] refl,
    still m n k es new h.1,
  )

  each_once : (es : List (QName × K)) → map.len (map.from_entries {R = name_cmp} es) ≡ length es → HasEach (map.from_entries es) es
  each_once [] h = tt
  each_once (e ∷ es) h =
      let m = map.from_entries {R = name_cmp} es in
      let less = fewer es in
      elim (map.contains_key m e.0) as (λ b. map.contains_key m e.0 ≡ b → map.len (map.insert m e.0 e.1) ≡ cond b (map.len m) (map.len m + 1) → HasEach (map.insert m e.0 e.1) (e ∷ es)) [
        | true ↦ λ _ is. absurd (omega (arith, is, less, h))
        | false ↦ λ new is. (get-put m e.0 e.1, still m e.0 e.1 es (is_none (map.get m e.0) new) (each_once es (omega (arith, is, h))))
      ] refl (len-insert name_total m e.0 e.1)

module _ {K : Type 0} (kind_named : List ℕ → Option K) (same : K → K → Bool) where
  no_other_kind : ((k : K) → same k k ≡ true) → (m : FinMap name_cmp K) (es : List (QName × K)) → HasEach m es → list_any (has_other_kind kind_named same m) es ≡ false
  no_other_kind itself m [] h = refl
  no_other_kind itself m (e ∷ es) h = (λ i. not (option_map_or (same e.1) (h.0 i) false) || no_other_kind itself m es h.1 i) ∙ ap (λ b. not b || false) (itself e.1)

  -- each entry of the object has a name and a kind
  pub record AreGood (bs : List Binding) (ms : Members) : Type 0 where
    pub names : names_refusal bs (key_names ms) ≡ None
    pub kinds : any_member (names_no_kind kind_named same) ms ≡ false

  module _ (bs : List Binding) where
    one_more : (o : Option QName) (p : Option K) (rest : List (QName × K)) (n : ℕ) → length rest ≤ n → length (entry kind_named same o p ++ rest) ≤ suc n
    one_more (Some q) (Some k) rest n h = omega (arith, h)
    one_more (Some q) None rest n h = omega (arith, h)
    one_more None (Some k) rest n h = omega (arith, h)
    one_more None None rest n h = omega (arith, h)

    at_most : (es : List Entry) → length (entries_in kind_named same bs (members_view es)) ≤ length es
    at_most [] = omega arith
    at_most (e ∷ es) = one_more (named bs (string_bytes e.0)) (kind_in kind_named same (view e.1)) (entries_in kind_named same bs (members_view es)) (length es) (at_most es)

    by_parts : (key : List ℕ) (d : Data) (ms : Members) (n : ℕ) (o : Option QName) (p : Option K) → named bs key ≡ o → kind_in kind_named same d ≡ p → length (entries_in kind_named same bs ms) ≤ n
        → (length (entries_in kind_named same bs ms) ≡ n → AreGood bs ms) → length (entry kind_named same o p ++ entries_in kind_named same bs ms) ≡ suc n → AreGood bs (member key d ms)
    by_parts key d ms n (Some q) (Some k) is kind most later h =
        let good = later (omega (arith, h)) in
        record { names = name_more bs (a_name key) (key_names ms) (named_kept is_name bs key q (stands is_name bs key q is)) good.names; kinds = λ i. not (is_some (kind i)) || good.kinds i }
    by_parts key d ms n (Some q) None is kind most later h = absurd (omega (arith, h, most))
    by_parts key d ms n None (Some k) is kind most later h = absurd (omega (arith, h, most))
    by_parts key d ms n None None is kind most later h = absurd (omega (arith, h, most))

    are_good : (es : List Entry) → length (entries_in kind_named same bs (members_view es)) ≡ length es → AreGood bs (members_view es)
    are_good [] h = record { names = refl; kinds = refl }
    are_good (e ∷ es) h =
        by_parts (string_bytes e.0) (view e.1) (members_view es) (length es) (named bs (string_bytes e.0)) (kind_in kind_named same (view e.1)) refl refl (at_most es) (are_good es) h

    pub all_good : ((k : K) → same k k ≡ true) → (es : List Entry) → map.len (listed kind_named same bs (members_view es)) ≡ length es → (names_refusal bs (key_names (members_view es)) ≡ None) × (has_bad_kind kind_named same bs (members_view es) ≡ false)
    all_good itself es h =
        let all = entries_in kind_named same bs (members_view es) in
        let good = are_good es (omega (arith, h, fewer all, at_most es)) in
        (good.names, λ i. good.kinds i || no_other_kind itself (map.from_entries all) all (each_once all (omega (arith, h, fewer all, at_most es))) i)

    -- ---- the first entry with another kind

    module _ (m : FinMap name_cmp K) where
      abbrev pub differs : List ℕ × Data → Bool
      differs e = option_map_or (has_other_kind kind_named same m) (named_kind kind_named same bs e) false

      by_entry : (o : Option QName) (p : Option K) (later : Bool) (es : List (QName × K)) → later ≡ list_any (has_other_kind kind_named same m) es
          → (option_map_or (has_other_kind kind_named same m) (option_and_then (λ n. option_map (λ k. (n, k)) p) o) false || later) ≡ list_any (has_other_kind kind_named same m) (entry kind_named same o p ++ es)
      by_entry (Some n) (Some k) later es h = ap (λ b. has_other_kind kind_named same m (n, k) || b) h
      by_entry (Some n) None later es h = h
      by_entry None (Some k) later es h = h
      by_entry None None later es h = h

      any_differs : (ms : Members) → list_any differs (entries ms) ≡ list_any (has_other_kind kind_named same m) (entries_in kind_named same bs ms)
      any_differs no_members = refl
      any_differs (member key d ms) = by_entry (named bs key) (kind_in kind_named same d) (list_any differs (entries ms)) (entries_in kind_named same bs ms) (any_differs ms)

      pub some_differs : (ms : Members) → is_some (of_other_kind kind_named same bs m (entries ms)) ≡ list_any (has_other_kind kind_named same m) (entries_in kind_named same bs ms)
      some_differs ms = some_found differs (entries ms) ∙ any_differs ms

      at_kind : (n : QName) (found : Option K) (p : Option K) → found ≡ map.get m n → option_map_or (λ k. not (option_map_or (same k) found false)) p false ≡ option_map_or (has_other_kind kind_named same m) (option_map (λ k. (n, k)) p) false
      at_kind n found None is = refl
      at_kind n found (Some k) is = ap (λ o. not (option_map_or (same k) o false)) is

      pub differs_as : (key : List ℕ) (d : Data) (n : QName) (found : Option K) → named bs key ≡ Some n → found ≡ map.get m n → option_map_or (λ k. not (option_map_or (same k) found false)) (kind_in kind_named same d) false ≡ differs (key, d)
      differs_as key d n found name is =
          at_kind n found (kind_in kind_named same d) is
          ∙ ap (λ o. option_map_or (has_other_kind kind_named same m) (option_and_then (λ q. option_map (λ k. (q, k)) (kind_in kind_named same d)) o) false) (sym name)

      pub no_name : (key : List ℕ) (d : Data) → named bs key ≡ None → differs (key, d) ≡ false
      no_name key d name = ap (λ o. option_map_or (has_other_kind kind_named same m) (option_and_then (λ q. option_map (λ k. (q, k)) (kind_in kind_named same d)) o) false) name

      pub first_differs : (key : List ℕ) (d : Data) (rest : Members) (b : Bool) → differs (key, d) ≡ b → of_other_kind kind_named same bs m (entries (member key d rest)) ≡ cond b (Some (key, d)) (of_other_kind kind_named same bs m (entries rest))
      first_differs key d rest b is = ap (λ t. cond t (Some (key, d)) (of_other_kind kind_named same bs m (entries rest))) is
