-- The names of a sheet in ascending order, and their ranks.
use Rattle.oim_report.proofs.Shared.{◌≡◌, ◌≢◌, inl, inr, ℕ, zero, suc, ◌<◌, ◌≤◌, ◌+◌, ◌-◌, List, [], ◌∷◌, ◌++◌, Bool, true, false, cond, Some, None, option_map, unwrap_or, bytes_eq, String, string_bytes, length, get_or, slice_get, refl, sym, ap, subst, ◌∙◌, arith, ◌&&◌, T, Ordering, Less, Equal, Greater, string_cmp, is_lt, AllByRecursion, AllWithin, keys_of, BTreeMap, IsEmpty, Updates, get_by_text, is_eq, nat_cmp, ordering_reverse, ordering_then, tied_itself, nat_cmp_total, slice_cmp, cases_lt, cases_order, cond_below, nat_list_cmp_total, get_or_append_left, get_or-append_right, get_or-map, length-append, length-map, sorted_head, sorted_tail, Less-from_sorted, btree_map_updates_text, same_Some, slice_get-get_or, slice_get-map, slice_get_within, get_or_from_slice_get, other_bytes, same_bytes, QName, exact_name, name_cmp, Fact, SharesUri, AreRanks, AreSpans, IsRank, IsSpan, OrderConcepts}
use Rattle.std.specs.List.Sorted.{IsStrictlySortedBy}
use Rattle.std.specs.FinMap as map
use Rattle.std.specs.FinMap.{FinMap, find, is_sorted, entries_sorted, entries-insert, len-entries, len-empty}
use Rattle.std.specs.FinMap.Entries.{below_all, by_order, put}
use Rattle.oim_report.proofs.Grouped.{at_text}
use Rattle.oim_report.proofs.SheetEntries.{name_total}

-- ---- two ascending lists

pub all_append : {X : Type 0} (P : X → Type 0) (xs ys : List X) → AllByRecursion P xs → AllByRecursion P ys → AllByRecursion P (xs ++ ys)
all_append P [] ys a b = b
all_append P (x ∷ xs) ys a b = (a.0, all_append P xs ys a.1 b)

abbrev pub IsBelow : QName → List QName → Type 0
IsBelow q = AllByRecursion (λ p. name_cmp q p ≡ Less)

pub rising_append : (xs ys : List QName) → IsStrictlySortedBy name_cmp xs → IsStrictlySortedBy name_cmp ys → AllByRecursion (λ x. IsBelow x ys) xs → IsStrictlySortedBy name_cmp (xs ++ ys)
unfolding IsStrictlySortedBy
rising_append [] ys a b c = b
rising_append (x ∷ xs) ys a b c = (all_append (λ p. name_cmp x p ≡ Less) xs ys a.0 c.0, rising_append xs ys a.1 b c.1)

-- ---- the entries of a map are an ascending list that it is made of

and_both : (a b : Bool) → T (a && b) → T a × T b
and_both true b h = (tt, h)
and_both false b h = absurd h

is_less : (r : Ordering) → T (is_lt r) → r ≡ Less
is_less Less h = refl
is_less Equal h = absurd h
is_less Greater h = absurd h

module _ {K : Type 0} where
  abbrev pub Rises : List (QName × K) → Type 0
  Rises es = IsStrictlySortedBy name_cmp (keys_of es)

  pub none_rise : (es : List (QName × K)) → es ≡ [] → Rises es
  unfolding IsStrictlySortedBy
  none_rise es none = subst Rises (sym none) tt

  all_below : (q : QName) (es : List (QName × K)) → T (below_all name_cmp q es) → IsBelow q (keys_of es)
  all_below q [] h = tt
  all_below q (e ∷ es) h = let both = and_both (is_lt (name_cmp q e.0)) (below_all name_cmp q es) h in (is_less (name_cmp q e.0) both.0, all_below q es both.1)

  rises : (es : List (QName × K)) → T (is_sorted name_cmp es) → Rises es
  unfolding IsStrictlySortedBy
  rises [] h = tt
  rises (e ∷ es) h = let both = and_both (below_all name_cmp e.0 es) (is_sorted name_cmp es) h in (all_below e.0 es both.0, rises es both.1)

  pub keys_rise : (m : FinMap name_cmp K) → Rises (map.entries m)
  keys_rise m = rises (map.entries m) (entries_sorted m)

  put_first : (e : QName × K) (es : List (QName × K)) → IsBelow e.0 (keys_of es) → put name_cmp e.0 e.1 es ≡ e ∷ es
  put_first e [] below = refl
  put_first e (f ∷ es) below = ap (λ r. by_order r (e ∷ f ∷ es) ((f.0, e.1) ∷ es) (f ∷ put name_cmp e.0 e.1 es)) below.0

  no_length : (es : List (QName × K)) → length es ≡ 0 → es ≡ []
  no_length [] h = refl
  no_length (e ∷ es) h = absurd (omega (arith, h))

  pub entries_rising : (es : List (QName × K)) → Rises es → map.entries (map.from_entries {R = name_cmp} es) ≡ es
  entries_rising [] h = no_length (map.entries map.empty) (sym (len-entries map.empty) ∙ len-empty name_cmp K)
  entries_rising (e ∷ es) h =
      entries-insert name_total (map.from_entries es) e.0 e.1 ∙ ap (put name_cmp e.0 e.1) (entries_rising es (sorted_tail name_cmp e.0 (keys_of es) h)) ∙ put_first e es (sorted_head name_cmp e.0 (keys_of es) h)

  pub same_entries : (es fs : List (QName × K)) (m n : FinMap name_cmp K) → Rises es → Rises fs → map.from_entries es ≡ m → map.from_entries fs ≡ n → m ≡ n → es ≡ fs
  same_entries es fs m n rise rises is are same = sym (entries_rising es rise) ∙ ap map.entries (is ∙ same ∙ sym are) ∙ entries_rising fs rises

  -- ---- a name at an index of an ascending list

  below_at : (q : QName) (es : List (QName × K)) (i : ℕ) (e : QName × K) → IsBelow q (keys_of es) → slice_get es i ≡ Some e → name_cmp q e.0 ≡ Less
  below_at q (x ∷ es) zero e h at = subst (λ (y : QName × K). name_cmp q y.0 ≡ Less) (same_Some x e at) h.0
  below_at q (x ∷ es) (suc i) e h at = below_at q es i e h.1 at
  below_at q [] i e h at = absurd (Prim.cc)

  pub find_at : (es : List (QName × K)) (i : ℕ) (e : QName × K) → Rises es → slice_get es i ≡ Some e → find name_cmp e.0 es ≡ Some e.1
  find_at (x ∷ es) zero e h at = subst (λ (y : QName × K). find name_cmp y.0 (x ∷ es) ≡ Some y.1) (same_Some x e at) (ap (λ r. cond (is_eq r) (Some x.1) (find name_cmp x.0 es)) (tied_itself name_total x.0))
  find_at (x ∷ es) (suc i) e h at =
      let above : name_cmp e.0 x.0 ≡ Greater = name_total.antisymm e.0 x.0 ∙ ap ordering_reverse (below_at x.0 es i e (sorted_head name_cmp x.0 (keys_of es) h) at) in
      ap (λ r. cond (is_eq r) (Some x.1) (find name_cmp e.0 es)) above ∙ find_at es i e (sorted_tail name_cmp x.0 (keys_of es) h) at
  find_at [] i e h at = absurd (Prim.cc)

  pub missing : (q : QName) (es : List (QName × K)) → ((i : ℕ) (d : QName × K) → i < length es → is_eq (name_cmp q (get_or es i d).0) ≡ false) → find name_cmp q es ≡ None
  missing q [] h = refl
  missing q (e ∷ es) h = ap (λ b. cond b (Some e.1) (find name_cmp q es)) (h zero e (omega arith)) ∙ missing q es (λ i d within. h (suc i) d (omega (arith, within)))

  names_rise : (es : List (QName × K)) (i j : ℕ) (d : QName × K) → Rises es → i < j → j < length es → name_cmp (get_or es i d).0 (get_or es j d).0 ≡ Less
  names_rise es i j d rise less within =
      let at : (k : ℕ) → k < length es → (get_or es k d).0 ≡ get_or (keys_of es) k d.0 = λ k here. sym (get_or-map (λ (e : QName × K). e.0) es k d d.0 here) in
      let long : j < length (keys_of es) = subst (λ n. j < n) (sym (length-map es (λ (e : QName × K). e.0))) within in
      (λ k. name_cmp (at i (omega (arith, less, within)) k) (at j within k)) ∙ Less-from_sorted name_cmp (keys_of es) i j d.0 rise less long

-- ---- the span of a namespace

within : {X : Type 0} (P : X → Type 0) (xs : List X) → AllByRecursion P xs → AllWithin P xs 0 (length xs)
within P (x ∷ xs) h zero d low high = h.0
within P (x ∷ xs) h (suc k) d low high = within P xs h.1 k d (omega arith) (omega (arith, high))
within P [] h k d low high = absurd (omega (arith, high))

other_uri : {K : Type 0} (u v : List ℕ) (es : List (QName × K)) → SharesUri u es → u ≢ v → AllByRecursion (λ n. n.0.uri ≢ v) es
other_uri u v [] h apart = tt
other_uri u v (e ∷ es) h apart = ((λ same. apart (sym h.0 ∙ same)), other_uri u v es h.1 apart)

pub less_apart : (s t : List ℕ) → slice_cmp nat_cmp s t ≡ Less → s ≢ t
less_apart s t less same = let tied = sym less ∙ ap (λ v. slice_cmp nat_cmp v t) same ∙ tied_itself nat_list_cmp_total t in absurd (Prim.cc)

module _ {K : Type 0} (es vs : List (QName × K)) (u : List ℕ) where
  left : (P : QName × K → Type 0) (low high : ℕ) → high ≤ length es → AllWithin P es low high → AllWithin P (es ++ vs) low high
  left P low high upto h k d from before = subst P (sym (get_or_append_left es vs d k (omega (arith, before, upto)))) (h k d from before)

  right : (P : QName × K → Type 0) → AllByRecursion P vs → AllWithin P (es ++ vs) (length es) (length (es ++ vs))
  right P h k d from before =
      let long : length (es ++ vs) ≡ length es + length vs = length-append es vs in
      subst P (sym (get_or-append_right es vs (length es) k d refl from)) (within P vs h (k - length es) d (omega arith) (omega (arith, from, before, long)))

  span_kept : (span : ℕ × ℕ) → IsSpan es u span → AllByRecursion (λ n. n.0.uri ≢ u) vs → IsSpan (es ++ vs) u span
  span_kept span is others =
      let long : length (es ++ vs) ≡ length es + length vs = length-append es vs in
      record {
        rises = is.rises;
        bound = omega (arith, is.bound, long);
        before = left (λ e. e.0.uri ≢ u) 0 span.0 (omega (arith, is.rises, is.bound)) is.before;
        here = left (λ e. e.0.uri ≡ u) span.0 span.1 is.bound is.here;
        behind = λ k d low high. elim (cases_lt k (length es)) [
          | inl inside ↦ left (λ e. e.0.uri ≢ u) span.1 (length es) (omega arith) is.behind k d low inside
          | inr outside ↦ right (λ e. e.0.uri ≢ u) others k d outside high
        ];
      }

  span_new : AllByRecursion (λ n. n.0.uri ≢ u) es → AllByRecursion (λ n. n.0.uri ≡ u) vs → IsSpan (es ++ vs) u (length es, length (es ++ vs))
  span_new others these = record {
    rises = let long : length (es ++ vs) ≡ length es + length vs = length-append es vs in omega (arith, long);
    bound = omega arith;
    before = left (λ e. e.0.uri ≢ u) 0 (length es) (omega arith) (within (λ e. e.0.uri ≢ u) es others);
    here = right (λ e. e.0.uri ≡ u) these;
    behind = λ k d low high. absurd (omega (arith, low, high));
  }

pub no_spans : {K Y : Type 0} (es : List (QName × K)) (m : BTreeMap (String Y) (ℕ × ℕ)) → es ≡ [] → IsEmpty m → AreSpans es m
no_spans es m none empty u = subst (λ r. IsSpan es u (unwrap_or r (0, 0))) (sym (ap (at_text u) empty)) (record {
  rises = omega arith;
  bound = omega arith;
  before = λ k d low high. absurd (omega (arith, high));
  here = λ k d low high. absurd (omega (arith, high));
  behind = λ k d low high. let long : length es ≡ 0 = ap length none in absurd (omega (arith, high, long));
})

-- the spans after the names of one more namespace
pub next_spans : {K Y : Type 0} (es vs : List (QName × K)) (m n : BTreeMap (String Y) (ℕ × ℕ)) (k : String Y) → AreSpans es m → AllByRecursion (λ q. q.0.uri ≢ string_bytes k) es → SharesUri (string_bytes k) vs → Updates string_cmp m n k (Some (length es, length (es ++ vs))) → AreSpans (es ++ vs) n
next_spans es vs m n k are others shared new u =
    let key = string_bytes k in
    let span : ℕ × ℕ = (length es, length (es ++ vs)) in
    elim (bytes_eq key u) as (λ b. bytes_eq key u ≡ b → get_by_text n u ≡ cond b (Some span) (get_by_text m u) → IsSpan (es ++ vs) u (unwrap_or (get_by_text n u) (0, 0))) [
      | true ↦ λ same is. subst (λ r. IsSpan (es ++ vs) u (unwrap_or r (0, 0))) (sym is) (subst (λ v. IsSpan (es ++ vs) v span) (same_bytes key u same) (span_new es vs key others shared))
      | false ↦ λ other is. subst (λ r. IsSpan (es ++ vs) u (unwrap_or r (0, 0))) (sym is) (span_kept es vs u _ (are u) (other_uri key u vs shared (other_bytes key u other)))
    ] refl (btree_map_updates_text key m n (Some span) new u)

-- ---- a search by halving

below_apart : (p q : QName) → name_cmp p q ≡ Less → p ≢ q
below_apart p q less same = let tied = sym less ∙ ap (λ n. name_cmp n q) same ∙ tied_itself name_total q in absurd (Prim.cc)

not_tied : (q p : QName) → p ≢ q → is_eq (name_cmp q p) ≡ false
not_tied q p apart = elim (name_cmp q p) as (λ r. name_cmp q p ≡ r → is_eq r ≡ false) [
  | Less ↦ λ _. refl
  | Equal ↦ λ same. absurd (apart (sym (exact_name q p same)))
  | Greater ↦ λ _. refl
] refl

module _ {K : Type 0} (es : List (QName × K)) (q : QName) (span : ℕ × ℕ) where
  -- the name can only be between the two indices
  pub record IsSearched (low high : ℕ) : Type 0 where
    pub from : span.0 ≤ low
    pub upto : high ≤ span.1
    pub below : AllWithin (λ e. e.0 ≢ q) es 0 low
    pub above : AllWithin (λ e. e.0 ≢ q) es high (length es)

  module _ (is : IsSpan es q.uri span) where
    pub search_all : IsSearched span.0 span.1
    search_all = record {
      from = omega arith;
      upto = omega arith;
      below = λ k d low high same. is.before k d low high (ap (λ n. n.uri) same);
      above = λ k d low high same. is.behind k d low high (ap (λ n. n.uri) same);
    }

    module _ (low high middle : ℕ) (e : QName × K) (s : IsSearched low high) (there : slice_get es middle ≡ Some e) (from : low ≤ middle) (upto : middle < high) where
      in_list : middle < length es
      in_list = slice_get_within es middle e there

      uri_is : e.0.uri ≡ q.uri
      uri_is = sym (ap (λ (x : QName × K). x.0.uri) (get_or_from_slice_get es middle e e there)) ∙ is.here middle e (omega (arith, from, s.from)) (omega (arith, upto, s.upto))

      pub by_local : name_cmp e.0 q ≡ slice_cmp nat_cmp e.0.local_part q.local_part
      by_local = ap (λ r. ordering_then r (slice_cmp nat_cmp e.0.local_part q.local_part)) (ap (λ v. slice_cmp nat_cmp v q.uri) uri_is ∙ tied_itself nat_list_cmp_total q.uri)

      is_it : (d : QName × K) → (get_or es middle d).0 ≡ e.0
      is_it d = ap (λ (x : QName × K). x.0) (get_or_from_slice_get es middle e d there)

      pub named : slice_cmp nat_cmp e.0.local_part q.local_part ≡ Equal → e.0 ≡ q
      named same = exact_name e.0 q (by_local ∙ same)

      module _ (rise : Rises es) where
        pub go_up : slice_cmp nat_cmp e.0.local_part q.local_part ≡ Less → IsSearched (middle + 1) high
        go_up less = record {
          from = omega (arith, from, s.from);
          upto = s.upto;
          below = λ k d first last. elim (cases_order k middle) [
            | inl same ↦ subst (λ n. (get_or es n d).0 ≢ q) (sym same) (below_apart (get_or es middle d).0 q (ap (λ n. name_cmp n q) (is_it d) ∙ by_local ∙ less))
            | inr (inl before) ↦ below_apart (get_or es k d).0 q (name_total.trans (get_or es k d).0 (get_or es middle d).0 q (names_rise es k middle d rise before in_list) (ap (λ n. name_cmp n q) (is_it d) ∙ by_local ∙ less))
            | inr (inr behind) ↦ absurd (omega (arith, last, behind))
          ];
          above = s.above;
        }

        pub go_down : slice_cmp nat_cmp e.0.local_part q.local_part ≡ Greater → IsSearched low middle
        go_down more = record {
          from = s.from;
          upto = omega (arith, upto, s.upto);
          below = s.below;
          above = λ k d first last.
              let here : name_cmp q (get_or es middle d).0 ≡ Less = name_total.antisymm q (get_or es middle d).0 ∙ ap ordering_reverse (ap (λ n. name_cmp n q) (is_it d) ∙ by_local ∙ more) in
              let less : name_cmp q (get_or es k d).0 ≡ Less = elim (cases_order k middle) [
                | inl same ↦ subst (λ n. name_cmp q (get_or es n d).0 ≡ Less) (sym same) here
                | inr (inl before) ↦ absurd (omega (arith, first, before))
                | inr (inr behind) ↦ name_total.trans q (get_or es middle d).0 (get_or es k d).0 here (names_rise es middle k d rise behind last)
              ] in
              λ same. below_apart q (get_or es k d).0 less (sym same);
        }

  pub search_none : (low high : ℕ) → IsSearched low high → high ≤ low → find name_cmp q es ≡ None
  search_none low high s met = missing q es (λ i d within. elim (cases_lt i low) [
    | inl before ↦ not_tied q (get_or es i d).0 (s.below i d (omega arith) before)
    | inr behind ↦ not_tied q (get_or es i d).0 (s.above i d (omega (arith, behind, met)) within)
  ])

module _ {K : Type 0} (m : FinMap name_cmp K) where
  pub entries_read : (es read : List (QName × K)) → Rises es → map.from_entries es ≡ m → read ≡ es → map.entries m ≡ read
  entries_read es read rise is same = sym (ap map.entries is) ∙ entries_rising es rise ∙ sym same

  pub entry_at : (read : List (QName × K)) → map.entries m ≡ read → (i : ℕ) (e : QName × K) → i < length (map.entries m) → e ≡ get_or read i e → slice_get (map.entries m) i ≡ Some e
  entry_at read all i e within at =
      ap (λ xs. slice_get xs i) all ∙ slice_get-get_or read i e (subst (λ xs. i < length xs) all within) ∙ ap Some (sym at)

  pub rank_of : (i : ℕ) (e : QName × K) → slice_get (map.entries m) i ≡ Some e → IsRank m e.0 i
  rank_of i e there = slice_get-map (λ (x : QName × K). x.0) (map.entries m) i ∙ ap (option_map (λ (x : QName × K). x.0)) there

-- ---- ranks are ordered as names are

rising_at : (names : List QName) (r s : ℕ) (p q : QName) → IsStrictlySortedBy name_cmp names → r < s → slice_get names r ≡ Some p → slice_get names s ≡ Some q → name_cmp p q ≡ Less
rising_at names r s p q rise less first second =
    (λ i. name_cmp (sym (get_or_from_slice_get names r p p first) i) (sym (get_or_from_slice_get names s q p second) i)) ∙ Less-from_sorted name_cmp names r s p rise less (slice_get_within names s q second)

in_order : (names : List QName) (r s : ℕ) (p q : QName) → IsStrictlySortedBy name_cmp names → slice_get names r ≡ Some p → slice_get names s ≡ Some q → nat_cmp r s ≡ name_cmp p q
in_order names r s p q rise first second = elim (cases_order r s) [
  | inl same ↦
      let is : p ≡ q = same_Some p q (sym first ∙ ap (slice_get names) same ∙ second) in
      ap (nat_cmp r) (sym same) ∙ tied_itself nat_cmp_total r ∙ sym (ap (name_cmp p) (sym is) ∙ tied_itself name_total p)
  | inr (inl less) ↦ sym (cond_below r s Less _ less) ∙ sym (rising_at names r s p q rise less first second)
  | inr (inr more) ↦
      nat_cmp_total.antisymm r s ∙ ap ordering_reverse (sym (cond_below s r Less _ more) ∙ sym (rising_at names s r q p rise more second first)) ∙ sym (name_total.antisymm p q)
]

module _ {K : Type 0} (m : FinMap name_cmp K) where
  rank_at : (fs : List Fact) (rs : List ℕ) (i r : ℕ) (f : Fact) → AreRanks m fs rs → slice_get rs i ≡ Some r → slice_get fs i ≡ Some f → IsRank m f.dimensions.concept r
  rank_at (g ∷ fs) (s ∷ rs) zero r f h rank fact = subst (λ (x : Fact). IsRank m x.dimensions.concept r) (same_Some g f fact) (subst (IsRank m g.dimensions.concept) (same_Some s r rank) h.0)
  rank_at (g ∷ fs) (s ∷ rs) (suc i) r f h rank fact = rank_at fs rs i r f h.1 rank fact
  rank_at fs rs i r f h rank fact = absurd (Prim.cc)

  pub order_concepts : (fs : List Fact) (rs : List ℕ) → AreRanks m fs rs → OrderConcepts rs fs
  order_concepts fs rs h i j r s f g first second here there =
      in_order (map.keys m) r s f.dimensions.concept g.dimensions.concept (keys_rise m) (rank_at fs rs i r f h first here) (rank_at fs rs j s g h second there)
