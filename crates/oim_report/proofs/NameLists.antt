-- The names of an object, read into one list per namespace, make the same map as the entries of the object.
use Rattle.oim_report.proofs.Shared.{◌≡◌, ℕ, List, [], ◌∷◌, ◌++◌, Bool, true, false, cond, not, ◌&&◌, Some, None, Option, String, Vec, bytes_eq, string_bytes, filter, length, refl, sym, ap, subst, ◌∙◌, IsPermutation, Ordering, Less, Equal, Greater, string_cmp, append_assoc, append-nil, option_and_then, option_map, option_to_list, arith, BTreeMap, IsEmpty, IsOrdered, Updates, UpdatesBy, get_by_text, insert_entry, IsTotalOrder, on_total, tied_itself, slice_cmp, AllByRecursion, dedup, dedup_from, keys_of, remove_entry, option_map_or, is_eq, is_lt, match_ordering, nat_cmp, ordering_reverse, ordering_then, nat_list_cmp_total, map-append, All-from_recursion, filter-append, recursion_from_All, IsStrictlySortedBy-dedup, All-permutation, length_permutation, sorted_head, sorted_tail, exact_bytes, same_Some, btree_map_updates_text, is_eq-slice_cmp, Binding, QName, exact_name, name_cmp, bytes_eq-refl, bytes_not_eq, other_bytes, same_bytes, Data, Members, member, named, named_kind, AreSpans}
use Rattle.std.specs.FinMap as map
use Rattle.std.specs.FinMap.{find, get-from_entries, same_map}
use Rattle.std.specs.List.Sorted.{IsSorted, IsStableBy, IsStrictlySortedBy, ties}
use Rattle.std.proofs.lemmas.List.Filters.{All-dedup}
use Rattle.oim_report.specs.Sheet.{entries_in, entry, kind_in}
use Rattle.oim_report.specs.code.NameLists.{AreLists, IsInOrder, SharesUri, has_uri, list_at, names_in}
use Rattle.oim_report.proofs.Grouped.{at_text, find_append, name, tied_bytes}
use Rattle.oim_report.proofs.Ranks.{IsBelow, Rises, all_append, less_apart, next_spans, no_spans, none_rise, rising_append}
use Rattle.oim_report.proofs.SheetEntries.{first_of, name_total}

-- ---- names of one namespace, in order of their local parts

is_tie : (r : Ordering) → (not (is_lt r) && not (is_lt (ordering_reverse r))) ≡ is_eq r
is_tie Less = refl
is_tie Equal = refl
is_tie Greater = refl

twice : {A : Type 0} (b : Bool) (x y z : Option A) → cond b x z ≡ cond b x (cond b y z)
twice true x y z = refl
twice false x y z = refl

apart : (u v l k : List ℕ) → is_eq (slice_cmp nat_cmp u v) ≡ false → is_eq (name_cmp (name u l) (name v k)) ≡ false
apart u v l k h = elim (slice_cmp nat_cmp u v) as (λ r. is_eq r ≡ false → is_eq (ordering_then r (slice_cmp nat_cmp l k)) ≡ false) [
  | Less ↦ λ _. refl
  | Equal ↦ λ e. absurd (Prim.cc)
  | Greater ↦ λ _. refl
] h

module _ {K : Type 0} where
  abbrev pub local_cmp : QName × K → QName × K → Ordering
  local_cmp x y = slice_cmp nat_cmp x.0.local_part y.0.local_part

  abbrev pub is_before : QName × K → QName × K → Bool
  is_before x y = is_lt (local_cmp x y)

  abbrev pub same_local : QName × K → QName × K → Bool
  same_local x y = bytes_eq x.0.local_part y.0.local_part

  local_total : IsTotalOrder local_cmp
  local_total = on_total (λ (e : QName × K). e.0.local_part) nat_list_cmp_total

  abbrev first_kind : List (QName × K) → Option K
  first_kind [] = None
  first_kind (e ∷ es) = Some e.1

  found_here : (u l : List ℕ) (k : K) (es : List (QName × K)) → SharesUri u es → find name_cmp (name u l) es ≡ first_kind (filter (ties is_before (name u l, k)) es)
  found_here u l k [] h = refl
  found_here u l k (e ∷ es) h =
      let test = ties is_before (name u l, k) in
      let here : is_eq (name_cmp (name u l) e.0) ≡ test e =
      ap (λ v. is_eq (ordering_then (slice_cmp nat_cmp u v) (slice_cmp nat_cmp l e.0.local_part))) h.0
      ∙ ap (λ r. is_eq (ordering_then r (slice_cmp nat_cmp l e.0.local_part))) (tied_itself nat_list_cmp_total u)
      ∙ sym (ap (λ r. not (is_lt (slice_cmp nat_cmp l e.0.local_part)) && not (is_lt r)) (nat_list_cmp_total.antisymm e.0.local_part l) ∙ is_tie (slice_cmp nat_cmp l e.0.local_part)) in
      ap (λ b. cond b (Some e.1) (find name_cmp (name u l) es)) here
      ∙ elim (test e) as (λ b. cond b (Some e.1) (find name_cmp (name u l) es) ≡ first_kind (cond b (e ∷ filter test es) (filter test es))) [
        | true ↦ refl
        | false ↦ found_here u l k es h.1
      ]

  not_found : (q : QName) (v : List ℕ) (es : List (QName × K)) → SharesUri v es → is_eq (slice_cmp nat_cmp q.uri v) ≡ false → find name_cmp q es ≡ None
  not_found q v [] h other = refl
  not_found q v (e ∷ es) h other =
      ap (λ b. cond b (Some e.1) (find name_cmp q es)) (apart q.uri e.0.uri q.local_part e.0.local_part (ap (λ u. is_eq (slice_cmp nat_cmp q.uri u)) h.0 ∙ other)) ∙ not_found q v es h.1 other

  no_items : (es : List (QName × K)) → length es ≡ 0 → es ≡ []
  no_items [] h = refl
  no_items (e ∷ es) h = absurd (omega (arith, h))

  -- a stable sort keeps the first entry of each name first
  sorted_same : (u : List ℕ) (es fs : List (QName × K)) → SharesUri u es → SharesUri u fs → IsPermutation es fs → IsStableBy is_before es fs → (q : QName) → find name_cmp q fs ≡ find name_cmp q es
  sorted_same u [] fs a b moved stable q = ap (find name_cmp q) (no_items fs (length_permutation [] fs moved))
  sorted_same u (e ∷ es) fs a b moved stable q = elim (is_eq (slice_cmp nat_cmp q.uri u)) as (λ t. is_eq (slice_cmp nat_cmp q.uri u) ≡ t → find name_cmp q fs ≡ find name_cmp q (e ∷ es)) [
    | true ↦ λ t.
        let same : u ≡ q.uri = sym (tied_bytes q.uri u t) in
        found_here q.uri q.local_part e.1 fs (subst (λ v. SharesUri v fs) same b)
        ∙ ap first_kind (stable (q, e.1))
        ∙ sym (found_here q.uri q.local_part e.1 (e ∷ es) (subst (λ v. SharesUri v (e ∷ es)) same a))
    | false ↦ λ f. not_found q u fs b f ∙ sym (not_found q u (e ∷ es) a f)
  ] refl

  -- of equal names the first is kept
  kept_from : (u : List ℕ) (e : QName × K) (es : List (QName × K)) → SharesUri u (e ∷ es) → (q : QName) → find name_cmp q (dedup_from same_local e es) ≡ find name_cmp q (e ∷ es)
  kept_from u e [] h q = refl
  kept_from u e (f ∷ es) h q = elim (same_local f e) as (λ b. same_local f e ≡ b → find name_cmp q (cond b (dedup_from same_local e es) (e ∷ dedup_from same_local f es)) ≡ find name_cmp q (e ∷ f ∷ es)) [
    | true ↦ λ t.
        let test = is_eq (name_cmp q e.0) in
        let one : e.0 ≡ f.0 = λ i. record { uri = (h.0 ∙ sym h.1.0) i; local_part = sym (same_bytes f.0.local_part e.0.local_part t) i } in
        kept_from u e es (h.0, h.1.1) q
        ∙ twice test (Some e.1) (Some f.1) (find name_cmp q es)
        ∙ ap (λ n. cond test (Some e.1) (cond (is_eq (name_cmp q n)) (Some f.1) (find name_cmp q es))) one
    | false ↦ λ _. ap (cond (is_eq (name_cmp q e.0)) (Some e.1)) (kept_from u f es h.1 q)
  ] refl

  kept_same : (u : List ℕ) (es : List (QName × K)) → SharesUri u es → (q : QName) → find name_cmp q (dedup same_local es) ≡ find name_cmp q es
  kept_same u [] h q = refl
  kept_same u (e ∷ es) h q = kept_from u e es h q

  below_each : (u : List ℕ) (e : QName × K) (es : List (QName × K)) → e.0.uri ≡ u → SharesUri u es → AllByRecursion (λ f. local_cmp e f ≡ Less) es → IsBelow e.0 (keys_of es)
  below_each u e [] is h less = tt
  below_each u e (f ∷ es) is h less =
      let tied : slice_cmp nat_cmp e.0.uri f.0.uri ≡ Equal = ap (slice_cmp nat_cmp e.0.uri) (h.0 ∙ sym is) ∙ tied_itself nat_list_cmp_total e.0.uri in
      (ap (λ r. ordering_then r (local_cmp e f)) tied ∙ less.0, below_each u e es is h.1 less.1)

  names_rise : (u : List ℕ) (es : List (QName × K)) → SharesUri u es → IsStrictlySortedBy local_cmp es → Rises es
  unfolding IsStrictlySortedBy
  names_rise u [] h rise = tt
  names_rise u (e ∷ es) h rise = (below_each u e es h.0 h.1 rise.0, names_rise u es h.1 rise.1)

  pub in_order : (es fs gs : List (QName × K)) → IsPermutation es fs → IsSorted local_cmp fs → IsStableBy is_before es fs → gs ≡ dedup same_local fs → (u : List ℕ) → SharesUri u es → IsInOrder u es gs
  in_order es fs gs moved rise stable kept u h =
      let P : QName × K → Type 0 = λ e. e.0.uri ≡ u in
      let moved_share = All-permutation P es fs moved (All-from_recursion P es h) in
      let share : SharesUri u fs = recursion_from_All P fs moved_share in
      let left : SharesUri u (dedup same_local fs) = recursion_from_All P (dedup same_local fs) (All-dedup same_local P fs moved_share) in
      subst (IsInOrder u es) (sym kept) (record {
        shared = left;
        rises = names_rise u (dedup same_local fs) left (IsStrictlySortedBy-dedup local_total (λ x y. sym (is_eq-slice_cmp x.0.local_part y.0.local_part)) fs rise);
        same = λ q. kept_same u fs share q ∙ sorted_same u es fs h share moved stable q;
      })

-- ---- the entries with one URI

module _ {K : Type 0} where
  all_here : (u : List ℕ) (es : List (QName × K)) → SharesUri u es → filter (has_uri u) es ≡ es
  all_here u [] h = refl
  all_here u (e ∷ es) h = ap (λ b. cond b (e ∷ filter (has_uri u) es) (filter (has_uri u) es)) (ap (bytes_eq u) h.0 ∙ bytes_eq-refl u) ∙ ap (λ fs. e ∷ fs) (all_here u es h.1)

  none_here : (u v : List ℕ) (es : List (QName × K)) → SharesUri v es → bytes_eq u v ≡ false → filter (has_uri u) es ≡ []
  none_here u v [] h other = refl
  none_here u v (e ∷ es) h other = ap (λ b. cond b (e ∷ filter (has_uri u) es) (filter (has_uri u) es)) (ap (bytes_eq u) h.0 ∙ other) ∙ none_here u v es h.1 other

  found_among : (q : QName) (es : List (QName × K)) → find name_cmp q (filter (has_uri q.uri) es) ≡ find name_cmp q es
  found_among q [] = refl
  found_among q (e ∷ es) = elim (bytes_eq q.uri e.0.uri) as (λ b. bytes_eq q.uri e.0.uri ≡ b → find name_cmp q (cond b (e ∷ filter (has_uri q.uri) es) (filter (has_uri q.uri) es)) ≡ find name_cmp q (e ∷ es)) [
    | true ↦ λ _. ap (cond (is_eq (name_cmp q e.0)) (Some e.1)) (found_among q es)
    | false ↦ λ f. found_among q es ∙ sym (ap (λ b. cond b (Some e.1) (find name_cmp q es)) (apart q.uri e.0.uri q.local_part e.0.local_part (is_eq-slice_cmp q.uri e.0.uri ∙ f)))
  ] refl

  -- entries with the same lists make the same map
  same_lists : (es fs : List (QName × K)) → ((u : List ℕ) → filter (has_uri u) es ≡ filter (has_uri u) fs) → map.from_entries {R = name_cmp} es ≡ map.from_entries fs
  same_lists es fs same = same_map name_total exact_name (map.from_entries es) (map.from_entries fs) (λ q.
      get-from_entries name_total es q ∙ sym (found_among q es) ∙ ap (find name_cmp q) (same q.uri) ∙ found_among q fs ∙ sym (get-from_entries name_total fs q))

  -- the run after its next entry, if the prefix is the same or the run begins
  pub shared_more : (same : Bool) (u v : List ℕ) (run old : List (QName × K)) (e : QName × K) → run ≡ cond same old [] → (same ≡ true → u ≡ v) → SharesUri u old → e.0.uri ≡ v → SharesUri v (run ++ e ∷ [])
  shared_more true u v run old e is one shared here =
      all_append (λ x. x.0.uri ≡ v) run (e ∷ []) (subst (SharesUri v) (sym is) (subst (λ w. SharesUri w old) (one refl) shared)) (here, tt)
  shared_more false u v run old e is one shared here = subst (λ xs. SharesUri v (xs ++ e ∷ [])) (sym is) (here, tt)

  -- entries move from those that are left to the run
  pub moved : (u : List ℕ) (before run es left : List (QName × K)) → (before ++ filter (has_uri u) (run ++ es)) ++ filter (has_uri u) left ≡ (before ++ filter (has_uri u) run) ++ filter (has_uri u) (es ++ left)
  moved u before run es left =
      let p : List (QName × K) → List (QName × K) = filter (has_uri u) in
      ap (λ xs. (before ++ xs) ++ p left) (filter-append (has_uri u) run es)
      ∙ ap (λ xs. xs ++ p left) (sym (append_assoc before (p run) (p es)))
      ∙ append_assoc (before ++ p run) (p es) (p left)
      ∙ ap (λ xs. (before ++ p run) ++ xs) (sym (filter-append (has_uri u) es left))

pub entry_name : {K : Type 0} (o : Option QName) (p : Option K) (e : QName × K) → Some e ≡ option_and_then (λ n. option_map (λ k. (n, k)) p) o → o ≡ Some e.0
entry_name {K} (Some n) (Some k) e is = ap Some (ap (λ (x : QName × K). x.0) (sym (same_Some e (n, k) is)))
entry_name (Some n) None e is = absurd (Prim.cc)
entry_name None p e is = absurd (Prim.cc)

-- an entry of the object is one of the entries, or is skipped
module _ {K : Type 0} (kind_named : List ℕ → Option K) (same : K → K → Bool) where
  entry_list : (o : Option QName) (p : Option K) → entry kind_named same o p ≡ option_to_list (option_and_then (λ n. option_map (λ k. (n, k)) p) o)
  entry_list (Some n) (Some k) = refl
  entry_list (Some n) None = refl
  entry_list None (Some k) = refl
  entry_list None None = refl

  pub next_entries : (bs : List Binding) (key : List ℕ) (d : Data) (ms : Members) (o : Option (QName × K)) → o ≡ named_kind kind_named same bs (key, d) → entries_in kind_named same bs (member key d ms) ≡ option_to_list o ++ entries_in kind_named same bs ms
  next_entries bs key d ms o is = ap (λ es. es ++ entries_in kind_named same bs ms) (entry_list (named bs key) (kind_in kind_named same d) ∙ ap option_to_list (sym is))

each : {X : Type 0} {P Q : X → Type 0} → ((x : X) → P x → Q x) → (xs : List X) → AllByRecursion P xs → AllByRecursion Q xs
each f [] h = tt
each f (x ∷ xs) h = (f x h.0, each f xs h.1)

module _ {K : Type 0} where
  replaced : (q : QName) (ns xs ys left : List (QName × K)) → find name_cmp q ys ≡ find name_cmp q xs → find name_cmp q ((ns ++ ys) ++ left) ≡ find name_cmp q (ns ++ (xs ++ left))
  replaced q ns xs ys left same =
      ap (find name_cmp q) (append_assoc ns ys left)
      ∙ find_append q ns (ys ++ left)
      ∙ ap (first_of (find name_cmp q ns)) (find_append q ys left ∙ ap (λ o. first_of o (find name_cmp q left)) same ∙ sym (find_append q xs left))
      ∙ sym (find_append q ns (xs ++ left))

  below_names : (q : QName) (u : List ℕ) (ys : List (QName × K)) → slice_cmp nat_cmp q.uri u ≡ Less → SharesUri u ys → IsBelow q (keys_of ys)
  below_names q u [] less h = tt
  below_names q u (y ∷ ys) less h = (ap (λ r. ordering_then r (slice_cmp nat_cmp q.local_part y.0.local_part)) (ap (slice_cmp nat_cmp q.uri) h.0 ∙ less), below_names q u ys less h.1)

  all_below : (u : List ℕ) (ns ys : List (QName × K)) → AllByRecursion (λ n. slice_cmp nat_cmp n.0.uri u ≡ Less) ns → SharesUri u ys → AllByRecursion (λ q. IsBelow q (keys_of ys)) (keys_of ns)
  all_below u [] ys less h = tt
  all_below u (n ∷ ns) ys less h = (below_names n.0 u ys less.0 h, all_below u ns ys less.1 h)

abbrev pub Lists : Type 0 → Type 0 → Type 0
Lists K Y = BTreeMap (String Y) (Vec (QName × K) Y)

abbrev pub Entries : Type 0 → Type 0 → Type 0
Entries K Y = List (String Y × Vec (QName × K) Y)

module _ {K Y : Type 0} where
  abbrev pub AreNamed : Entries K Y → Type 0
  AreNamed es = AllByRecursion (λ e. SharesUri (string_bytes e.0) e.1.items) es

  abbrev items_or : Option (Vec (QName × K) Y) → List (QName × K)
  items_or o = option_map_or (λ l. l.items) o []

  none_behind : (u : List ℕ) (k : String Y) (es : Entries K Y) → u ≡ string_bytes k → AllByRecursion (λ y. string_cmp k y ≡ Less) (keys_of es) → AreNamed es → filter (has_uri u) (names_in es) ≡ []
  none_behind u k [] is below h = refl
  none_behind u k (e ∷ es) is below h =
      let other : bytes_eq u (string_bytes e.0) ≡ false = ap (λ v. bytes_eq v (string_bytes e.0)) is ∙ sym (is_eq-slice_cmp (string_bytes k) (string_bytes e.0)) ∙ ap is_eq below.0 in
      filter-append (has_uri u) e.1.items (names_in es) ∙ (λ i. none_here u (string_bytes e.0) e.1.items h.0 other i ++ none_behind u k es is below.1 h.1 i)

  listed_at : (u : List ℕ) (es : Entries K Y) → IsStrictlySortedBy string_cmp (keys_of es) → AreNamed es → filter (has_uri u) (names_in es) ≡ items_or (at_text u es)
  listed_at u [] rise h = refl
  listed_at u (e ∷ es) rise h =
      let key = string_bytes e.0 in
      filter-append (has_uri u) e.1.items (names_in es)
      ∙ elim (is_eq (slice_cmp nat_cmp u key)) as (λ b. is_eq (slice_cmp nat_cmp u key) ≡ b → filter (has_uri u) e.1.items ++ filter (has_uri u) (names_in es) ≡ items_or (cond b (Some e.1) (at_text u es))) [
        | true ↦ λ t.
            let is = tied_bytes u key t in
            (λ i. all_here u e.1.items (subst (λ v. SharesUri v e.1.items) (sym is) h.0) i ++ none_behind u e.0 es is (sorted_head string_cmp e.0 (keys_of es) rise) h.1 i) ∙ append-nil e.1.items
        | false ↦ λ f.
            ap (λ xs. xs ++ filter (has_uri u) (names_in es)) (none_here u key e.1.items h.0 (sym (is_eq-slice_cmp u key) ∙ f)) ∙ listed_at u es (sorted_tail string_cmp e.0 (keys_of es) rise) h.1
      ] refl

  pub no_lists : (m : Lists K Y) → IsEmpty m → IsOrdered string_cmp m → AreLists m
  no_lists m empty ordered = record { ordered = ordered; each = subst AreNamed (sym empty) tt }

  pub none_at : (m : Lists K Y) (u : List ℕ) → IsEmpty m → list_at m u ≡ []
  none_at m u empty = ap (λ es. items_or (at_text u es)) empty

  -- the lists have the entries
  pub lists_make : (m : Lists K Y) (es : List (QName × K)) → AreLists m → ((u : List ℕ) → list_at m u ≡ filter (has_uri u) es) → map.from_entries {R = name_cmp} (names_in m.entries) ≡ map.from_entries es
  lists_make m es are same = same_lists (names_in m.entries) es (λ u. listed_at u m.entries are.ordered are.each ∙ same u)

  -- ---- a run is added to its list

  without : (test : String Y → Bool) (es : Entries K Y) → AreNamed es → AreNamed (remove_entry test es)
  without test [] h = tt
  without test (e ∷ es) h = elim (test e.0) as (λ b. AreNamed (cond b es (e ∷ remove_entry test es))) [
    | true ↦ h.1
    | false ↦ (h.0, without test es h.1)
  ]

  beside : (k : String Y) (l : Vec (QName × K) Y) (es : Entries K Y) → SharesUri (string_bytes k) l.items → AreNamed es → AreNamed (insert_entry string_cmp es k l)
  beside k l [] is h = (is, tt)
  beside k l (e ∷ es) is h =
      elim (string_cmp k e.0) as (λ r. string_cmp k e.0 ≡ r → AreNamed (match_ordering r ((k, l) ∷ e ∷ es) ((e.0, l) ∷ es) (e ∷ insert_entry string_cmp es k l))) [
        | Less ↦ λ _. (is, h)
        | Equal ↦ λ t. (subst (λ v. SharesUri v l.items) (exact_bytes (string_bytes k) (string_bytes e.0) t) is, h.1)
        | Greater ↦ λ _. (h.0, beside k l es is h.1)
      ] refl

  shared_at : (u : List ℕ) (es : Entries K Y) → AreNamed es → SharesUri u (items_or (at_text u es))
  shared_at u [] h = tt
  shared_at u (e ∷ es) h =
      elim (is_eq (slice_cmp nat_cmp u (string_bytes e.0))) as (λ b. is_eq (slice_cmp nat_cmp u (string_bytes e.0)) ≡ b → SharesUri u (items_or (cond b (Some e.1) (at_text u es)))) [
        | true ↦ λ t. subst (λ v. SharesUri v e.1.items) (sym (tied_bytes u (string_bytes e.0) t)) h.0
        | false ↦ λ _. shared_at u es h.1
      ] refl

  module _ (m n o : Lists K Y) (run : List (QName × K)) (k : String Y) (l : Vec (QName × K) Y) (test : String Y → Bool) (are : AreLists m) (shared : SharesUri (string_bytes k) run)
      (taken : UpdatesBy string_cmp (λ k'. slice_cmp nat_cmp (string_bytes k) (string_bytes k')) m n None)
      (left : n.entries ≡ remove_entry test m.entries)
      (all : l.items ≡ list_at m (string_bytes k) ++ run)
      (put : Updates string_cmp n o k (Some l))
      (entries : o.entries ≡ insert_entry string_cmp n.entries k l) where
    pub run_is_added : (u : List ℕ) → list_at o u ≡ list_at m u ++ filter (has_uri u) run
    run_is_added u =
        let key = string_bytes k in
        ap items_or (btree_map_updates_text key n o (Some l) put u ∙ ap (cond (bytes_eq key u) (Some l)) (btree_map_updates_text key m n None taken u))
        ∙ elim (bytes_eq key u) as (λ b. bytes_eq key u ≡ b → items_or (cond b (Some l) (cond b None (get_by_text m u))) ≡ list_at m u ++ filter (has_uri u) run) [
          | true ↦ λ t.
              let is = same_bytes key u t in
              all ∙ (λ i. list_at m (is i) ++ sym (all_here u run (subst (λ v. SharesUri v run) is shared)) i)
          | false ↦ λ f.
              sym (append-nil (list_at m u)) ∙ ap (λ xs. list_at m u ++ xs) (sym (none_here u key run shared (bytes_not_eq u key (λ e. other_bytes key u f (sym e)))))
        ] refl

    pub are_added : IsOrdered string_cmp o → AreLists o
    are_added ordered = record {
      ordered = ordered;
      each =
          subst AreNamed (sym entries)
          (beside k l n.entries (subst (SharesUri (string_bytes k)) (sym all) (all_append (λ e. e.0.uri ≡ string_bytes k) (list_at m (string_bytes k)) run (shared_at (string_bytes k) m.entries are.each) shared))
          (subst AreNamed (sym left) (without test m.entries are.each)));
    }

  -- ---- the lists in turn

  -- the URI of each name is less than each key
  abbrev AreBefore : Entries K Y → List (QName × K) → Type 0
  AreBefore es ns = AllByRecursion (λ n. AllByRecursion (λ e. slice_cmp nat_cmp n.0.uri (string_bytes e.0) ≡ Less) es) ns

  -- the names so far, the lists that are left, and the lists of all
  pub record AreSoFar (all left : Entries K Y) (ns : List (QName × K)) (m : BTreeMap (String Y) (ℕ × ℕ)) : Type 0 where
    pub found : (q : QName) → find name_cmp q (ns ++ names_in left) ≡ find name_cmp q (names_in all)
    pub rises : Rises ns
    pub before : AreBefore left ns
    pub ordered : IsStrictlySortedBy string_cmp (keys_of left)
    pub named : AreNamed left
    pub spans : AreSpans ns m

  pub begun : (all es : Entries K Y) (ns : List (QName × K)) (spans : BTreeMap (String Y) (ℕ × ℕ)) → all ≡ es → ns ≡ [] → IsEmpty spans → IsStrictlySortedBy string_cmp (keys_of es) → AreNamed es → AreSoFar all all ns spans
  begun all es ns spans is none empty ordered named = record {
    found = λ q. ap (λ xs. find name_cmp q (xs ++ names_in all)) none;
    rises = none_rise ns none;
    before = subst (AreBefore all) (sym none) tt;
    ordered = subst (λ xs. IsStrictlySortedBy string_cmp (keys_of xs)) (sym is) ordered;
    named = subst AreNamed (sym is) named;
    spans = no_spans ns spans none empty;
  }

  pub all_found : (all left : Entries K Y) (ns : List (QName × K)) (spans : BTreeMap (String Y) (ℕ × ℕ)) → AreSoFar all left ns spans → left ≡ [] → map.from_entries {R = name_cmp} ns ≡ map.from_entries (names_in all)
  all_found all left ns spans s none = same_map name_total exact_name (map.from_entries ns) (map.from_entries (names_in all)) (λ q.
      get-from_entries name_total ns q
      ∙ ap (find name_cmp q) (sym (append-nil ns) ∙ ap (λ xs. ns ++ names_in xs) (sym none))
      ∙ s.found q
      ∙ sym (get-from_entries name_total (names_in all) q))

  before_keys : (k : String Y) (es : Entries K Y) → AllByRecursion (λ y. string_cmp k y ≡ Less) (keys_of es) → AllByRecursion (λ e. slice_cmp nat_cmp (string_bytes k) (string_bytes e.0) ≡ Less) es
  before_keys k [] h = tt
  before_keys k (e ∷ es) h = (h.0, before_keys k es h.1)

  pub so_far : (all left : Entries K Y) (e : String Y × Vec (QName × K) Y) (ns ys : List (QName × K)) (m n : BTreeMap (String Y) (ℕ × ℕ)) → AreSoFar all (e ∷ left) ns m → IsInOrder (string_bytes e.0) e.1.items ys → Updates string_cmp m n e.0 (Some (length ns, length (ns ++ ys))) → AreSoFar all left (ns ++ ys) n
  so_far all left e ns ys m n s is new =
      let key = string_bytes e.0 in
      let less : AllByRecursion (λ (x : QName × K). slice_cmp nat_cmp x.0.uri key ≡ Less) ns = each (λ x h. h.0) ns s.before in
      let below = before_keys e.0 left (sorted_head string_cmp e.0 (keys_of left) s.ordered) in
      record {
        found = λ q. replaced q ns e.1.items ys (names_in left) (is.same q) ∙ s.found q;
        rises = subst (IsStrictlySortedBy name_cmp) (sym (map-append (λ (x : QName × K). x.0) ns ys)) (rising_append (keys_of ns) (keys_of ys) s.rises is.rises (all_below key ns ys less is.shared));
        before =
            all_append (λ x. AllByRecursion (λ f. slice_cmp nat_cmp x.0.uri (string_bytes f.0) ≡ Less) left) ns ys (each (λ x h. h.1) ns s.before)
            (each (λ x same. subst (λ u. AllByRecursion (λ f. slice_cmp nat_cmp u (string_bytes f.0) ≡ Less) left) (sym same) below) ys is.shared);
        ordered = sorted_tail string_cmp e.0 (keys_of left) s.ordered;
        named = s.named.1;
        spans = next_spans ns ys m n e.0 s.spans (each (λ x h. less_apart x.0.uri key h) ns less) is.shared new;
      }
