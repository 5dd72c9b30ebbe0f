-- Loops over entries.
use Rattle.fact_base.proofs.Shared.{◌≡◌, ◌≢◌, ℕ, suc, ◌<◌, ◌≤◌, ◌+◌, length, get_or, Bool, true, false, List, [], ◌∷◌, ◌++◌, map, take, drop, Option, Some, None, refl, sym, ap, ◌∙◌, ⊎_elim, arith, ◌*◌, ◌-◌, subst, true≢false, slice_get, IfSome, IsTrue, ◌↔◌, All, flat_map, HoldsAt, bytes_eq, bytes_decides, option_map, unwrap_or, Equal-is, tied_itself, is_eq, ord_max, is_gt, append_assoc, drop_all, drop_more, length-append, length-map, take_all, take_more, get_or-drop, get_or-map, get_or-take, length-drop, length-take-le, All-contains, All-more, get_or_from_slice_get, slice_get-get_or, slice_get-map, slice_get_cases, slice_get_within, unwrap_or-slice_get, pointwise, IsRising, IsSet, entry_key, value_at, map_tells_entry, all_in_turn, level_cmp, value_cmp, Level, Value, value_cmp_exact, value_cmp_self, DimensionSet, dimensions_cmp, Fact, dimensions_cmp_exact, dimensions_cmp_total, level_of, Sheet, equal_dimensions_tie, equal_values_tie, Entry, Summed, facts_of_entries, facts_of_entry, facts_with, AreStored, EntryFits, AreSummarised, Row, rows_of, values_at, row_of, HoldForUris, cases_lt, summary_of_all, first_up, up_cases, text_cmp}
use Rattle.std.specs.Bool.{Decides, OnTrue}
use Rattle.std.proofs.lemmas.Slice.Eq.{slice_eq-Decides}
use Rattle.oim_value.specs.contracts.value.ValuePartialEq.TheImpl.{eq-value as value_eq}
use Rattle.oim_dims.specs.contracts.dimensions.DimensionsPartialEq.TheImpl.{eq-value as dimensions_eq}
use Rattle.oim_value.specs.declared.level.Level.TheVariants.{Unique}
use Rattle.fact_base.proofs.Fitting.{entry_summarised}
use Rattle.fact_base.proofs.Levels.{highest, highest_is, level_of_values}
use Rattle.fact_base.proofs.RowsOf.{rows_of_entries, values_at_entries, values_in}
use Rattle.std.proofs.lemmas.Map.Keys.{Less-from_sorted}
use Rattle.oim_names.proofs.Bytes.{same_bytes}
use Rattle.fact_base.proofs.TextOrder.{text_cmp_exact, text_cmp_total}

-- ---- one step

pub next_drop : {A : Type 0} (xs : List A) (i : ℕ) (x : A) → slice_get xs i ≡ Some x → drop i xs ≡ x ∷ drop (i + 1) xs
next_drop xs i x is = drop_more xs i x (slice_get_within xs i x is) ∙ ap (λ y. y ∷ drop (i + 1) xs) (get_or_from_slice_get xs i x x is)

-- ---- facts

pub facts_further : (es : List Entry) (i : ℕ) (e : Entry) (facts more all : List Fact) → slice_get es i ≡ Some e → more ≡ facts ++ facts_of_entry e → facts ++ facts_of_entries (drop i es) ≡ all → more ++ facts_of_entries (drop (i + 1) es) ≡ all
facts_further es i e facts more all at put known =
    let rest = facts_of_entries (drop (i + 1) es) in
    ap (λ fs. fs ++ rest) put ∙ append_assoc facts (facts_of_entry e) rest ∙ ap (λ ds. facts ++ facts_of_entries ds) (sym (next_drop es i e at)) ∙ known

-- ---- levels

pub starts : (es : List Entry) → IsRising dimensions_cmp entry_key es → All (λ e. AreSummarised e.1.0 e.1.1) es → highest Unique es ≡ level_of (facts_of_entries es)
starts es rise summed = highest_is Unique es rise (all_in_turn (λ e. IsSet value_cmp e.1.0) es (λ k d within. (summed k d within).in_order)) ∙ unique_first (level_of (facts_of_entries es))
  where
    unique_first : (l : Level) → ord_max level_cmp Unique l ≡ l
    unique_first Unique = refl
    unique_first l = refl

pub level_further : (es : List Entry) (i : ℕ) (e : Entry) (level more : Level) (n : Level) → slice_get es i ≡ Some e → more ≡ ord_max level_cmp level (level_of_values e.1.0) → highest level (drop i es) ≡ n → highest more (drop (i + 1) es) ≡ n
level_further es i e level more n at put known = ap (λ l. highest l (drop (i + 1) es)) put ∙ sym (ap (highest level) (next_drop es i e at)) ∙ known

pub level_ends : (es : List Entry) (i : ℕ) (level n : Level) → length es ≤ i → highest level (drop i es) ≡ n → level ≡ n
level_ends es i level n past known = sym (ap (highest level) (drop_all i es past)) ∙ known

-- ---- counts

count_with : (s : DimensionSet) (vs : List Value) → length (facts_with s vs) ≡ length vs
count_with s [] = refl
count_with s (v ∷ vs) = ap suc (count_with s vs)

pub count_further : (es : List Entry) (i : ℕ) (e : Entry) (count more n : ℕ) → slice_get es i ≡ Some e → more ≡ count + length e.1.0 → count + length (facts_of_entries (drop i es)) ≡ n → more + length (facts_of_entries (drop (i + 1) es)) ≡ n
count_further es i e count more n at put known =
    let rest : List Fact = facts_of_entries (drop (i + 1) es) in
    let long : length (facts_of_entry e ++ rest) ≡ length (facts_of_entry e) + length rest = length-append (facts_of_entry e) rest in
    let here = count_with e.0 e.1.0 in
    let before : count + length (facts_of_entry e ++ rest) ≡ n = sym (ap (λ ds. count + length (facts_of_entries ds)) (next_drop es i e at)) ∙ known in
    omega (arith, long, here, before, put)

pub count_ends : (es : List Entry) (i count n : ℕ) → length es ≤ i → count + length (facts_of_entries (drop i es)) ≡ n → count ≡ n
count_ends es i count n past known = omega (arith, sym (ap (λ ds. count + length (facts_of_entries ds)) (drop_all i es past)) ∙ known)

-- ---- the values of a dimension set

pub found_entry : (sheet : Sheet) (es : List Entry) (texts : List (List ℕ)) (s : DimensionSet) (kept : Summed) → AreStored sheet es texts → value_at dimensions_cmp s es ≡ Some kept → AreSummarised kept.0 kept.1
found_entry sheet es texts s kept stored is =
    entry_summarised sheet s kept
    (All-contains (λ e. EntryFits sheet e.0 e.1) es (s, kept) stored.entries ((map_tells_entry dimensions_cmp_total dimensions_cmp_exact (λ p q. p) es s kept stored.rise).0 is))

pub values_found : (sheet : Sheet) (es : List Entry) (texts : List (List ℕ)) (s : DimensionSet) (a : Option Summed) → AreStored sheet es texts → value_at dimensions_cmp s es ≡ a → values_at s (facts_of_entries es) ≡ values_in a
values_found sheet es texts s a stored is = values_at_entries s es stored.rise ∙ ap values_in is

pub all_summarised : (sheet : Sheet) (es : List Entry) (texts : List (List ℕ)) → AreStored sheet es texts → All (λ e. AreSummarised e.1.0 e.1.1) es
all_summarised sheet es texts stored k d within = let fits = stored.entries k d within in entry_summarised sheet (get_or es k d).0 (get_or es k d).1 fits

pub rows_stored : (sheet : Sheet) (es : List Entry) (texts : List (List ℕ)) → AreStored sheet es texts → rows_of (facts_of_entries es) ≡ map row_of es
rows_stored sheet es texts stored = rows_of_entries es stored.rise (all_in_turn (λ e. e.1.0 ≢ []) es (λ k d within. (stored.entries k d within).some))

-- ---- the same rows

index_within : {A : Type 0} (xs : List A) (i : ℕ) → i < length xs → A
index_within xs i within = ⊎_elim (λ there. there.0) (λ past. absurd (omega (arith, past.0, within))) (slice_get_cases xs i).1

pub no_entry : {A P : Type 0} (xs : List A) (i : ℕ) → i < length xs → slice_get xs i ≡ None → P
no_entry xs i within none = let some = slice_get-get_or xs i (index_within xs i within) within in absurd (cc)

pub row_passed : (P : Entry → Type 0) (es : List Entry) (i : ℕ) → i < length es → IfSome (slice_get es i) P → All P (take i es) → All P (take (i + 1) es)
row_passed P es i within here before =
    let d = index_within es i within in
    All-more P es i d within before (subst (λ o. IfSome o P) (slice_get-get_or es i d within) here)

taken_further : {A : Type 0} (xs ys : List A) (i : ℕ) → length xs ≡ length ys → i < length xs → slice_get xs i ≡ slice_get ys i → take i xs ≡ take i ys → take (i + 1) xs ≡ take (i + 1) ys
taken_further xs ys i same within is known =
    let some = index_within xs i within in
    take_more xs i some within
    ∙ (λ k. known k ++ (sym (unwrap_or-slice_get xs i some) ∙ ap (λ o. unwrap_or o some) is ∙ unwrap_or-slice_get ys i some) k ∷ [])
    ∙ sym (take_more ys i some (omega (arith, same, within)))

abbrev derived_equal : List Value → List Value → Bool
derived_equal = pointwise value_eq.it

equal_values : (vs ws : List Value) → Decides (derived_equal vs ws) (vs ≡ ws)
equal_values vs ws = slice_eq-Decides (λ v w. (
  λ h. value_cmp_exact v w ((Equal-is (value_cmp v w)).0 (sym (equal_values_tie v w) ∙ h)),
  λ same. equal_values_tie v w ∙ ap is_eq (ap (value_cmp v) (sym same) ∙ value_cmp_self v),
)) vs ws (derived_equal vs ws) refl

pub dimensions_equal : (s : DimensionSet) → dimensions_eq.it s s ≡ true
dimensions_equal s = equal_dimensions_tie s s ∙ ap is_eq (tied_itself dimensions_cmp_total s)

-- ---- the row at an index

abbrev at_index : List Entry → ℕ → Option Row
at_index es i = option_map row_of (slice_get es i)

pub rows_alike : (es ds : List Entry) (i : ℕ) (e d : Entry) (vs ws : List Value) (b : Bool) → slice_get es i ≡ Some e → slice_get ds i ≡ Some d → vs ≡ e.1.0 → ws ≡ d.1.0 → b ≡ derived_equal vs ws → e.0 ≡ d.0 → IsTrue b ↔ (at_index es i ≡ at_index ds i)
rows_alike es ds i e d vs ws b first second values others told same = (
  λ h.
      let alike : e.1.0 ≡ d.1.0 = sym values ∙ (equal_values vs ws).0 (sym told ∙ h) ∙ others in
      ap (option_map row_of) first ∙ (λ k. Some (same k, alike k)) ∙ ap (option_map row_of) (sym second),
  λ h.
      let rows : row_of e ≡ row_of d = ap (λ o. unwrap_or o (row_of e)) (sym (ap (option_map row_of) first) ∙ h ∙ ap (option_map row_of) second) in
      let alike : vs ≡ ws = values ∙ ap (λ (r : Row). r.1) rows ∙ sym others in
      told ∙ ap (λ xs. derived_equal xs ws) alike ∙ (equal_values ws ws).1 refl,
)

pub rows_unlike : (es ds : List Entry) (i : ℕ) (e d : Entry) (b : Bool) → slice_get es i ≡ Some e → slice_get ds i ≡ Some d → b ≡ dimensions_eq.it e.0 d.0 → b ≡ false → IsTrue b ↔ (at_index es i ≡ at_index ds i)
rows_unlike es ds i e d b first second told other = (
  λ h. absurd (true≢false (sym h ∙ other)),
  λ h.
      let rows : row_of e ≡ row_of d = ap (λ o. unwrap_or o (row_of e)) (sym (ap (option_map row_of) first) ∙ h ∙ ap (option_map row_of) second) in
      told ∙ ap (λ s. dimensions_eq.it s d.0) (ap (λ (r : Row). r.0) rows) ∙ dimensions_equal d.0,
)

pub rows_further : (es ds : List Entry) (i : ℕ) → length es ≡ length ds → i < length es → at_index es i ≡ at_index ds i → take i (map row_of es) ≡ take i (map row_of ds) → take (i + 1) (map row_of es) ≡ take (i + 1) (map row_of ds)
rows_further es ds i same within here known =
    let long = length-map es row_of in
    let more = length-map ds row_of in
    taken_further (map row_of es) (map row_of ds) i (omega (arith, long, more, same)) (omega (arith, long, within))
    (slice_get-map row_of es i ∙ here ∙ sym (slice_get-map row_of ds i)) known

pub rows_all : (es ds : List Entry) (i : ℕ) → length es ≡ length ds → length es ≤ i → take i (map row_of es) ≡ take i (map row_of ds) → map row_of es ≡ map row_of ds
rows_all es ds i same past known =
    let long = length-map es row_of in
    let more = length-map ds row_of in
    sym (take_all i (map row_of es) (omega (arith, long, past))) ∙ known ∙ take_all i (map row_of ds) (omega (arith, more, same, past))

pub row_differs : (es ds : List Entry) (i : ℕ) → ¬ (at_index es i ≡ at_index ds i) → ¬ (map row_of es ≡ map row_of ds)
row_differs es ds i other same = other (sym (slice_get-map row_of es i) ∙ ap (λ rs. slice_get rs i) same ∙ slice_get-map row_of ds i)

-- ---- the same facts

facts_of_rows : List Row → List Fact
facts_of_rows rs = flat_map (λ r. facts_with r.0 r.1) rs

facts_by_rows : (es : List Entry) → facts_of_entries es ≡ facts_of_rows (map row_of es)
unfolding facts_of_rows
facts_by_rows [] = refl
facts_by_rows (e ∷ es) = ap (λ fs. facts_of_entry e ++ fs) (facts_by_rows es)

pub same_facts : (es ds : List Entry) → map row_of es ≡ map row_of ds → facts_of_entries es ≡ facts_of_entries ds
same_facts es ds same = facts_by_rows es ∙ ap facts_of_rows same ∙ sym (facts_by_rows ds)

pub equal_texts : (xs ys : List (List ℕ)) → Decides (pointwise bytes_eq xs ys) (xs ≡ ys)
equal_texts xs ys = slice_eq-Decides bytes_decides xs ys (pointwise bytes_eq xs ys) refl

-- ---- rows whose concepts have the same URI are adjacent

abbrev uri_of : Entry → List ℕ
uri_of e = e.0.concept.uri

-- only an equal text is neither below nor above
same_text : (x y : List ℕ) → is_gt (text_cmp x y) ≡ false → is_gt (text_cmp y x) ≡ false → x ≡ y
same_text x y up down = up_cases (text_cmp x y) up (λ less. let other = text_cmp_total.antisymm y x in cc) (text_cmp_exact x y)

module _ (es : List Entry) (rises : IsRising dimensions_cmp entry_key es) where
  ascend : (i j : ℕ) (d : Entry) → i ≤ j → j < length es → is_gt (text_cmp (uri_of (get_or es i d)) (uri_of (get_or es j d))) ≡ false
  ascend i j d order within = ⊎_elim
      (λ before. first_up _ _ (first_up _ _ (ap is_gt (Less-from_sorted (λ e f. dimensions_cmp e.0 f.0) es i j d rises before within))))
      (λ after.
      let same : i ≡ j = omega (arith, order, after) in
      ap (λ k. is_gt (text_cmp (uri_of (get_or es k d)) (uri_of (get_or es j d)))) same ∙ ap is_gt (tied_itself text_cmp_total (uri_of (get_or es j d))))
      (cases_lt i j)

  between : (i k j : ℕ) (d : Entry) (uri : List ℕ) → i ≤ k → k ≤ j → j < length es → uri_of (get_or es i d) ≡ uri → uri_of (get_or es j d) ≡ uri → uri_of (get_or es k d) ≡ uri
  between i k j d uri low high within first last =
      same_text (uri_of (get_or es k d)) uri
      (ap (λ u. is_gt (text_cmp (uri_of (get_or es k d)) u)) (sym last) ∙ ascend k j d high within)
      (ap (λ u. is_gt (text_cmp u (uri_of (get_or es k d)))) (sym first) ∙ ascend i k d low (omega arith))

abbrev rows_from : List Entry → ℕ → List Row
rows_from es next = map row_of (drop next es)

entry_of : Row → Entry
entry_of r = (r.0, (r.1, summary_of_all r.1))

row_at : (es : List Entry) (next k : ℕ) (d : Row) (e : Entry) → next + k < length es → get_or (rows_from es next) k d ≡ row_of (get_or es (next + k) e)
row_at es next k d e within =
    get_or-map row_of (drop next es) k e d (omega (arith, length-drop next es))
    ∙ ap row_of (get_or-drop next es k e)

pub told_uri : (es : List Entry) (index : ℕ) (e : Entry) (known uri : List ℕ) (told : Bool) → told ≡ bytes_eq known uri → known ≡ uri_of e → slice_get es index ≡ Some e → OnTrue told (HoldsAt (λ f. f.0.concept.uri ≡ uri) es index)
told_uri es index e known uri true is own at = λ d. ap uri_of (get_or_from_slice_get es index e d at) ∙ sym own ∙ same_bytes known uri (sym is)
told_uri es index e known uri false is own at = tt

-- the first rows have the URI, and a later row has it, so all rows between have it
pub run_further : (es : List Entry) (next left count : ℕ) (uri : List ℕ) → IsRising dimensions_cmp entry_key es → left ≡ length es - next → 2 * count < left
    → HoldForUris (λ u. u ≡ uri) count (rows_from es next) → HoldsAt (λ e. e.0.concept.uri ≡ uri) es (next + 2 * count) → HoldForUris (λ u. u ≡ uri) (2 * count + 1) (rows_from es next)
run_further es next left count uri rises within more known last k d behind =
    let rows = rows_from es next in
    let e = entry_of d in
    let long : length rows ≡ length (drop next es) = length-map (drop next es) row_of in
    let taken = length-take-le (2 * count + 1) rows (omega (arith, long, length-drop next es)) in
    let here : k < 2 * count + 1 = omega (arith, taken, behind) in
    let uri_at : (i : ℕ) → next + i < length es → (get_or rows i d).0.concept.uri ≡ uri_of (get_or es (next + i) e) = λ i h. ap (λ (r : Row). r.0.concept.uri) (row_at es next i d e h) in
    let first : uri_of (get_or es (next + 0) e) ≡ uri = ⊎_elim
    (λ one.
    sym (uri_at 0 (omega arith)) ∙ ap (λ (r : Row). r.0.concept.uri) (sym (get_or-take count rows 0 d one)) ∙ known 0 d (omega (arith, one, length-take-le count rows (omega (arith, long, length-drop next es)))))
    (λ none. let same : next + 0 ≡ next + 2 * count = omega (arith, none) in ap (λ i. uri_of (get_or es i e)) same ∙ last e)
    (cases_lt 0 count) in
    ap (λ (r : Row). r.0.concept.uri) (get_or-take (2 * count + 1) rows k d here)
    ∙ uri_at k (omega arith)
    ∙ between es rises (next + 0) (next + k) (next + 2 * count) e uri (omega arith) (omega arith) (omega arith) first (last e)

-- ---- the first of some rows, and the others

module _ (P : List ℕ → Type 0) (n : ℕ) (r : Row) (rs : List Row) (some : 0 < n) (hold : HoldForUris P n (r ∷ rs)) where
  with_first : HoldForUris P (suc (n - 1)) (r ∷ rs)
  with_first = let more : n ≡ suc (n - 1) = omega (arith, some) in subst (λ k. HoldForUris P k (r ∷ rs)) more hold

  pub first_holds : P r.0.concept.uri
  first_holds = with_first 0 r (omega arith)

  pub others_hold : HoldForUris P (n - 1) rs
  others_hold k d within = with_first (suc k) d (omega (arith, within))
