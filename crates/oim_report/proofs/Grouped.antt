-- A map of names has the same entries as its groups. Each group has the names of one namespace.
use Rattle.oim_report.proofs.Shared.{◌≡◌, ℕ, List, [], ◌∷◌, ◌++◌, Bool, true, false, cond, Option, Some, None, String, string_bytes, refl, sym, ap, subst, ◌∙◌, ◌≢◌, IfSome, OnOk, OnErr, Result, Ok, Err, option_map, option_and_then, bytes_eq, is_some, unwrap_or, Less, Equal, Greater, string_cmp, AllByRecursion, IsStrictlySortedBy, keys_of, values_of, lookup, remove_entry, update, is_eq, match_ordering, nat_cmp, ordering_then, eq_by_cmp, Equal-is, tied_itself, eq_by_cmp_equiv, slice_cmp, false≢true, nat_list_cmp_total, sorted_head, sorted_tail, exact_bytes, btree_map_updates_text, is_eq-slice_cmp, same_Some, QName, name_cmp, exact_name, same_bytes, bytes_eq-refl, bytes_not_eq, other_bytes, AreGroups, IsGroup, grouped_entries}
use Rattle.std.specs.BTreeMap.{BTreeMap, IsOrdered, Updates, UpdatesBy, IsUnchanged, get_by_text, insert_entry, is_at, values}
use Rattle.std.specs.FinMap.{FinMap, find, get-from_entries, entries, get-empty, get-entries, get-insert, same_map}
use Rattle.std.specs.FinMap as map
use Rattle.oim_report.proofs.SheetEntries.{name_total, first_of, first_of-none}

abbrev pub name : List ℕ → List ℕ → QName
name u l = record { uri = u; local_part = l }

pub tied_bytes : (s t : List ℕ) → is_eq (slice_cmp nat_cmp s t) ≡ true → s ≡ t
tied_bytes s t h = exact_bytes s t ((Equal-is (slice_cmp nat_cmp s t)).0 h)

abbrev pub in_group : {K Y : Type 0} → Option (BTreeMap (String Y) (QName × K)) → List ℕ → Option (QName × K)
in_group group l = option_and_then (λ g. get_by_text g l) group

-- ---- the order of names

pub same_uri : (u l k : List ℕ) → is_eq (name_cmp (name u l) (name u k)) ≡ is_eq (slice_cmp nat_cmp l k)
same_uri u l k = ap (λ r. is_eq (ordering_then r (slice_cmp nat_cmp l k))) (tied_itself nat_list_cmp_total u)

pub other_uri : (u l v k : List ℕ) → is_eq (slice_cmp nat_cmp u v) ≡ false → is_eq (name_cmp (name u l) (name v k)) ≡ false
other_uri u l v k h = elim (slice_cmp nat_cmp u v) as (λ r. is_eq r ≡ false → is_eq (ordering_then r (slice_cmp nat_cmp l k)) ≡ false) [
  | Less ↦ λ _. refl
  | Equal ↦ λ e. absurd (false≢true (sym e))
  | Greater ↦ λ _. refl
] h

abbrev pub Group : Type 0 → Type 0 → Type 0
Group K Y = BTreeMap (String Y) (QName × K)

abbrev pub at_text : {X Y : Type 0} → List ℕ → List (String Y × X) → Option X
at_text t es = lookup (is_at (λ k. slice_cmp nat_cmp t (string_bytes k))) es

pub find_append : {K : Type 0} (q : QName) (xs ys : List (QName × K)) → find name_cmp q (xs ++ ys) ≡ first_of (find name_cmp q xs) (find name_cmp q ys)
find_append q [] ys = refl
find_append q (x ∷ xs) ys = elim (is_eq (name_cmp q x.0)) as (λ b. cond b (Some x.1) (find name_cmp q (xs ++ ys)) ≡ first_of (cond b (Some x.1) (find name_cmp q xs)) (find name_cmp q ys)) [
  | true ↦ refl
  | false ↦ find_append q xs ys
]

module _ {K Y : Type 0} where
  abbrev pub AreNamed : List ℕ → List (String Y × (QName × K)) → Type 0
  AreNamed u es = AllByRecursion (λ e. e.1.0 ≡ name u (string_bytes e.0)) es

  abbrev pub AreNamedGroups : List (String Y × Group K Y) → Type 0
  AreNamedGroups es = AllByRecursion (λ e. IsGroup (string_bytes e.0) e.1) es

  -- ---- one group

  pub find_here : (u l : List ℕ) (es : List (String Y × (QName × K))) → AreNamed u es → find name_cmp (name u l) (values_of es) ≡ option_map (λ e. e.1) (at_text l es)
  find_here u l [] h = refl
  find_here u l (e ∷ es) h =
      ap (λ b. cond b (Some e.1.1) (find name_cmp (name u l) (values_of es))) (ap (λ n. is_eq (name_cmp (name u l) n)) h.0 ∙ same_uri u l (string_bytes e.0))
      ∙ elim (is_eq (slice_cmp nat_cmp l (string_bytes e.0))) as (λ b. cond b (Some e.1.1) (find name_cmp (name u l) (values_of es)) ≡ option_map (λ f. f.1) (cond b (Some e.1) (at_text l es))) [
        | true ↦ refl
        | false ↦ find_here u l es h.1
      ]

  pub find_elsewhere : (u l v : List ℕ) (es : List (String Y × (QName × K))) → AreNamed v es → is_eq (slice_cmp nat_cmp u v) ≡ false → find name_cmp (name u l) (values_of es) ≡ None
  find_elsewhere u l v [] h apart = refl
  find_elsewhere u l v (e ∷ es) h apart =
      ap (λ b. cond b (Some e.1.1) (find name_cmp (name u l) (values_of es))) (ap (λ n. is_eq (name_cmp (name u l) n)) h.0 ∙ other_uri u l v (string_bytes e.0) apart)
      ∙ find_elsewhere u l v es h.1 apart

  -- ---- several groups

  none_behind : (u l : List ℕ) (k : String Y) (es : List (String Y × Group K Y)) → is_eq (slice_cmp nat_cmp u (string_bytes k)) ≡ true → AllByRecursion (λ y. string_cmp k y ≡ Less) (keys_of es) → AreNamedGroups es → find name_cmp (name u l) (grouped_entries es) ≡ None
  none_behind u l k [] t below h = refl
  none_behind u l k (e ∷ es) t below h =
      let apart : is_eq (slice_cmp nat_cmp u (string_bytes e.0)) ≡ false = ap (λ v. is_eq (slice_cmp nat_cmp v (string_bytes e.0))) (tied_bytes u (string_bytes k) t) ∙ ap is_eq below.0 in
      find_append (name u l) (values e.1) (grouped_entries es)
      ∙ ap (λ o. first_of o (find name_cmp (name u l) (grouped_entries es))) (find_elsewhere u l (string_bytes e.0) e.1.entries h.0 apart)
      ∙ none_behind u l k es t below.1 h.1

  find_grouped : (u l : List ℕ) (es : List (String Y × Group K Y)) → IsStrictlySortedBy string_cmp (keys_of es) → AreNamedGroups es → find name_cmp (name u l) (grouped_entries es) ≡ option_map (λ e. e.1) (in_group (at_text u es) l)
  find_grouped u l [] rise h = refl
  find_grouped u l (e ∷ es) rise h =
      let later = find name_cmp (name u l) (grouped_entries es) in
      find_append (name u l) (values e.1) (grouped_entries es)
      ∙ elim (is_eq (slice_cmp nat_cmp u (string_bytes e.0))) as (λ b. is_eq (slice_cmp nat_cmp u (string_bytes e.0)) ≡ b → first_of (find name_cmp (name u l) (values e.1)) later ≡ option_map (λ f. f.1) (in_group (cond b (Some e.1) (at_text u es)) l)) [
        | true ↦ λ t.
            ap (first_of (find name_cmp (name u l) (values e.1))) (none_behind u l e.0 es t (sorted_head string_cmp e.0 (keys_of es) rise) h.1)
            ∙ first_of-none (find name_cmp (name u l) (values e.1))
            ∙ find_here u l e.1.entries (subst (λ v. AreNamed v e.1.entries) (sym (tied_bytes u (string_bytes e.0) t)) h.0)
        | false ↦ λ f.
            ap (λ o. first_of o later) (find_elsewhere u l (string_bytes e.0) e.1.entries h.0 f)
            ∙ find_grouped u l es (sorted_tail string_cmp e.0 (keys_of es) rise) h.1
      ] refl

  group_named : (u : List ℕ) (es : List (String Y × Group K Y)) → AreNamedGroups es → IfSome (at_text u es) (IsGroup u)
  group_named u [] h = tt
  group_named u (e ∷ es) h =
      elim (is_eq (slice_cmp nat_cmp u (string_bytes e.0))) as (λ b. is_eq (slice_cmp nat_cmp u (string_bytes e.0)) ≡ b → IfSome (cond b (Some e.1) (at_text u es)) (IsGroup u)) [
        | true ↦ λ t. subst (λ v. AreNamed v e.1.entries) (sym (tied_bytes u (string_bytes e.0) t)) h.0
        | false ↦ λ _. group_named u es h.1
      ] refl

  abbrev pub map_of : BTreeMap (String Y) (Group K Y) → FinMap name_cmp K
  map_of m = map.from_entries (grouped_entries m.entries)

  module _ (m : BTreeMap (String Y) (Group K Y)) (are : AreGroups m) where
    pub get_grouped : (u l : List ℕ) → map.get (map_of m) (name u l) ≡ option_map (λ e. e.1) (in_group (get_by_text m u) l)
    get_grouped u l = get-from_entries name_total (grouped_entries m.entries) (name u l) ∙ find_grouped u l m.entries are.ordered are.each

    pub is_group : (u : List ℕ) → IfSome (get_by_text m u) (IsGroup u)
    is_group u = group_named u m.entries are.each

  -- ---- a group is removed, or set

  pub or_empty_named : (o : Option (Group K Y)) (e : Group K Y) (u : List ℕ) → e.entries ≡ [] → IfSome o (IsGroup u) → IsGroup u (unwrap_or o e)
  or_empty_named None e u none h = subst (AreNamed u) (sym none) tt
  or_empty_named (Some g) e u none h = h

  pub or_empty_kinds : (o : Option (Group K Y)) (e : Group K Y) (l : List ℕ) → e.entries ≡ [] → option_map (λ f. f.1) (get_by_text (unwrap_or o e) l) ≡ option_map (λ f. f.1) (in_group o l)
  or_empty_kinds None e l none = ap (λ es. option_map (λ f. f.1) (at_text l es)) none
  or_empty_kinds (Some g) e l none = refl

  without : (test : String Y → Bool) (es : List (String Y × Group K Y)) → AreNamedGroups es → AreNamedGroups (remove_entry test es)
  without test [] h = tt
  without test (e ∷ es) h = elim (test e.0) as (λ b. AreNamedGroups (cond b es (e ∷ remove_entry test es))) [
    | true ↦ h.1
    | false ↦ (h.0, without test es h.1)
  ]

  beside : (k : String Y) (g : Group K Y) (es : List (String Y × Group K Y)) → IsGroup (string_bytes k) g → AreNamedGroups es → AreNamedGroups (insert_entry string_cmp es k g)
  beside k g [] is h = (is, tt)
  beside k g (e ∷ es) is h =
      elim (string_cmp k e.0) as (λ r. string_cmp k e.0 ≡ r → AreNamedGroups (match_ordering r ((k, g) ∷ e ∷ es) ((e.0, g) ∷ es) (e ∷ insert_entry string_cmp es k g))) [
        | Less ↦ λ _. (is, h)
        | Equal ↦ λ t. (subst (λ v. AreNamed v g.entries) (exact_bytes (string_bytes k) (string_bytes e.0) t) is, h.1)
        | Greater ↦ λ _. (h.0, beside k g es is h.1)
      ] refl

  pub no_groups : (m : BTreeMap (String Y) (Group K Y)) → m.entries ≡ [] → IsOrdered string_cmp m → AreGroups m
  no_groups m es ordered = record { ordered = ordered; each = subst AreNamedGroups (sym es) tt }

  pub are_still : (m n : BTreeMap (String Y) (Group K Y)) → AreGroups m → n.entries ≡ m.entries → IsOrdered string_cmp n → AreGroups n
  are_still m n are es ordered = record { ordered = ordered; each = subst AreNamedGroups (sym es) are.each }

  pub are_without : (m n : BTreeMap (String Y) (Group K Y)) (test : String Y → Bool) → AreGroups m → n.entries ≡ remove_entry test m.entries → IsOrdered string_cmp n → AreGroups n
  are_without m n test are es ordered = record { ordered = ordered; each = subst AreNamedGroups (sym es) (without test m.entries are.each) }

  pub are_with : (m n : BTreeMap (String Y) (Group K Y)) (k : String Y) (g : Group K Y) → AreGroups m → IsGroup (string_bytes k) g → n.entries ≡ insert_entry string_cmp m.entries k g → IsOrdered string_cmp n → AreGroups n
  are_with m n k g are is es ordered = record { ordered = ordered; each = subst AreNamedGroups (sym es) (beside k g m.entries is are.each) }

  pub get_updated : (m n : BTreeMap (String Y) (Group K Y)) (t u l : List ℕ) (o : Option (Group K Y)) → AreGroups m → AreGroups n → UpdatesBy string_cmp (λ k. slice_cmp nat_cmp t (string_bytes k)) m n o
      → map.get (map_of n) (name u l) ≡ cond (bytes_eq t u) (option_map (λ e. e.1) (in_group o l)) (map.get (map_of m) (name u l))
  get_updated m n t u l o are_m are_n updates =
      get_grouped n are_n u l
      ∙ ap (λ h. option_map (λ e. e.1) (in_group h l)) (btree_map_updates_text t m n o updates u)
      ∙ elim (bytes_eq t u) as (λ b. option_map (λ e. e.1) (in_group (cond b o (get_by_text m u)) l) ≡ cond b (option_map (λ e. e.1) (in_group o l)) (option_map (λ e. e.1) (in_group (get_by_text m u) l))) [
        | true ↦ refl
        | false ↦ refl
      ]
      ∙ ap (cond (bytes_eq t u) (option_map (λ e. e.1) (in_group o l))) (sym (get_grouped m are_m u l))

pub each_after : {X Y E : Type 0} (P : List ℕ → X → Type 0) (m n : BTreeMap (String Y) X) (p : List ℕ) (k : String Y) (x : X) (r : Result (Option X) E) → OnOk r (Updates string_cmp m n k (Some x)) → OnErr r (IsUnchanged m n) → string_bytes k ≡ p
    → ((q : List ℕ) (y : X) → get_by_text m q ≡ Some y → P q y) → P p x → (q : List ℕ) (y : X) → get_by_text n q ≡ Some y → P q y
each_after P m n p k x (Err e) put same is each here q y found = each q y (ap (at_text q) (sym same) ∙ found)
each_after P m n p k x (Ok o) put same is each here q y found =
    elim (bytes_eq (string_bytes k) q) as (λ b. bytes_eq (string_bytes k) q ≡ b → cond b (Some x) (get_by_text m q) ≡ Some y → P q y) [
      | true ↦ λ t e. subst (P q) (same_Some x y e) (subst (λ v. P v x) (sym is ∙ same_bytes (string_bytes k) q t) here)
      | false ↦ λ _ e. each q y e
    ] refl (sym (btree_map_updates_text (string_bytes k) m n (Some x) put q) ∙ found)

-- ---- a name is added to its group

apart_bytes : (u v : List ℕ) → bytes_eq u v ≡ false → bytes_eq v u ≡ false
apart_bytes u v f = bytes_not_eq v u (λ e. other_bytes u v f (sym e))

module _ {K Y : Type 0} where
  abbrev pub kind_at : Group K Y → List ℕ → Option K
  kind_at g l = option_map (λ e. e.1) (get_by_text g l)

  still_named : (u : List ℕ) (k : String Y) (e : QName × K) (es : List (String Y × (QName × K))) → e.0 ≡ name u (string_bytes k) → AreNamed u es → AreNamed u (insert_entry string_cmp es k e)
  still_named u k e [] is h = (is, tt)
  still_named u k e (f ∷ es) is h =
      elim (string_cmp k f.0) as (λ r. string_cmp k f.0 ≡ r → AreNamed u (match_ordering r ((k, e) ∷ f ∷ es) ((f.0, e) ∷ es) (f ∷ insert_entry string_cmp es k e))) [
        | Less ↦ λ _. (is, h)
        | Equal ↦ λ t. (is ∙ ap (name u) (exact_bytes (string_bytes k) (string_bytes f.0) t), h.1)
        | Greater ↦ λ _. (h.0, still_named u k e es is h.1)
      ] refl

  pub named_after : (u : List ℕ) (k : String Y) (e : QName × K) (g n : Group K Y) → e.0 ≡ name u (string_bytes k) → IsGroup u g → n.entries ≡ insert_entry string_cmp g.entries k e → IsGroup u n
  named_after u k e g n is h es = subst (AreNamed u) (sym es) (still_named u k e g.entries is h)

  -- the group of the namespace k is taken from the map m, and a group is set in its place
  module _ (g : Group K Y) (m m1 m2 : FinMap name_cmp K) (k : List ℕ) (kinds : (l : List ℕ) → kind_at g l ≡ map.get m (name k l)) (taken : (v l : List ℕ) → map.get m1 (name v l) ≡ cond (bytes_eq k v) None (map.get m (name v l))) where
    pub put_back : ((v l : List ℕ) → map.get m2 (name v l) ≡ cond (bytes_eq k v) (kind_at g l) (map.get m1 (name v l))) → m2 ≡ m
    put_back set = same_map name_total exact_name m2 m (λ q.
        let v = q.uri in
        let l = q.local_part in
        set v l
        ∙ ap (cond (bytes_eq k v) (kind_at g l)) (taken v l)
        ∙ elim (bytes_eq k v) as (λ b. bytes_eq k v ≡ b → cond b (kind_at g l) (cond b None (map.get m (name v l))) ≡ map.get m (name v l)) [
          | true ↦ λ t. kinds l ∙ ap (λ w. map.get m (name w l)) (same_bytes k v t)
          | false ↦ λ _. refl
        ] refl)

    pub put_with : (h : Group K Y) (j : List ℕ) (e : QName × K) → ((l : List ℕ) → get_by_text h l ≡ update bytes_eq (get_by_text g) j (Some e) l) → ((v l : List ℕ) → map.get m2 (name v l) ≡ cond (bytes_eq k v) (kind_at h l) (map.get m1 (name v l))) → m2 ≡ map.insert m (name k j) e.1
    put_with h j e updates set = same_map name_total exact_name m2 (map.insert m (name k j) e.1) (λ q.
        let v = q.uri in
        let l = q.local_part in
        let old = map.get m (name v l) in
        set v l
        ∙ (λ i. cond (bytes_eq k v) (option_map (λ f. f.1) (updates l i)) (taken v l i))
        ∙ elim (bytes_eq k v) as (λ b. bytes_eq k v ≡ b → cond b (option_map (λ f. f.1) (cond (bytes_eq j l) (Some e) (get_by_text g l))) (cond b None old) ≡ cond (eq_by_cmp name_cmp (name v l) (name k j)) (Some e.1) old) [
          | true ↦ λ t.
              let same : eq_by_cmp name_cmp (name v l) (name k j) ≡ bytes_eq j l = ap (λ w. eq_by_cmp name_cmp (name w l) (name k j)) (sym (same_bytes k v t)) ∙ same_uri k l j ∙ (eq_by_cmp_equiv nat_list_cmp_total).symm l j ∙ is_eq-slice_cmp j l in
              elim (bytes_eq j l) as (λ b. option_map (λ f. f.1) (cond b (Some e) (get_by_text g l)) ≡ cond b (Some e.1) (kind_at g l)) [
                | true ↦ refl
                | false ↦ refl
              ]
              ∙ (λ i. cond (sym same i) (Some e.1) ((kinds l ∙ ap (λ w. map.get m (name w l)) (same_bytes k v t)) i))
          | false ↦ λ f. sym (ap (λ b. cond b (Some e.1) old) (other_uri v l k j (is_eq-slice_cmp v k ∙ apart_bytes k v f)))
        ] refl
        ∙ sym (get-insert name_total m (name k j) e.1 (name v l)))

pub is_some_kind : {K : Type 0} (o : Option (QName × K)) → is_some (option_map (λ e. e.1) o) ≡ is_some o
is_some_kind None = refl
is_some_kind (Some e) = refl
