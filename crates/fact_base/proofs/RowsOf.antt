-- The rows of facts have exactly these facts.
use Rattle.fact_base.proofs.Shared.{◌≡◌, ◌≢◌, Bool, true, false, cond, List, [], ◌∷◌, ◌++◌, append-nil, map, Option, Some, None, refl, sym, ap, ◌∙◌, subst, AllByRecursion, tied_itself, Equal-is, is_eq, ordering_then, Less, Equal, Greater, IsRising, entry_key, item_at, value_at, IsSet, Value, DimensionSet, dimensions_cmp, fact_cmp, Fact, dimensions_cmp_total, dimensions_cmp_exact, Entry, Summed, facts_with, facts_of_entries, facts_of_entry, row_of, true≢false, Contains, Ordering, summary_of_all, map_tells_entry, value_cmp}
use Rattle.std.specs.List.Sorted.{IsStrictlySortedBy}
use Rattle.fact_base.specs.Rows.{Row, before_rows, rows_of, values_at, RowsTellFacts}
use Rattle.fact_base.proofs.EntryFacts.{from_facts_with, in_facts_with}
use Rattle.fact_base.proofs.Members.{each_by_there, each_in_turn, first_there, from_map, in_flat_map, in_map, some_there, some_value, turn_there}

-- ---- the rows of entries, and the values at a dimension set

abbrev eq : DimensionSet → DimensionSet → Bool
eq s t = is_eq (dimensions_cmp s t)

eq_itself : (s : DimensionSet) → eq s s ≡ true
eq_itself s = ap is_eq (tied_itself dimensions_cmp_total s)

-- ---- rows

abbrev Apart : DimensionSet → List Row → Type 0
Apart s [] = Unit {0}
Apart s (r ∷ rs) = eq s r.0 ≡ false

alone_before : (s : DimensionSet) (v : Value) (rs : List Row) → Apart s rs → before_rows (record { dimensions = s; value = v }) rs ≡ (s, v ∷ []) ∷ rs
alone_before s v [] apart = refl
alone_before s v (r ∷ rs) apart = ap (λ (b : Bool). cond b ((r.0, v ∷ r.1) ∷ rs) ((s, v ∷ []) ∷ r ∷ rs)) apart

joins_first : (s : DimensionSet) (v : Value) (vs : List Value) (rs : List Row) → before_rows (record { dimensions = s; value = v }) ((s, vs) ∷ rs) ≡ (s, v ∷ vs) ∷ rs
joins_first s v vs rs = ap (λ (b : Bool). cond b ((s, v ∷ vs) ∷ rs) ((s, v ∷ []) ∷ (s, vs) ∷ rs)) (eq_itself s)

row_before : (s : DimensionSet) (v : Value) (vs : List Value) (fs : List Fact) (rs : List Row) → rows_of fs ≡ rs → Apart s rs → rows_of (facts_with s (v ∷ vs) ++ fs) ≡ (s, v ∷ vs) ∷ rs
unfolding rows_of
row_before s v [] fs rs is apart = ap (before_rows (record { dimensions = s; value = v })) is ∙ alone_before s v rs apart
row_before s v (w ∷ vs) fs rs is apart = ap (before_rows (record { dimensions = s; value = v })) (row_before s w vs fs rs is apart) ∙ joins_first s v (w ∷ vs) rs

abbrev pub AreFilled : List Entry → Type 0
AreFilled = AllByRecursion (λ e. e.1.0 ≢ [])

pub rows_of_entries : (es : List Entry) → IsRising dimensions_cmp entry_key es → AreFilled es → rows_of (facts_of_entries es) ≡ map row_of es
unfolding IsStrictlySortedBy rows_of
rows_of_entries [] rise filled = refl
rows_of_entries (e ∷ es) rise filled = by_values (rows_of_entries es rise.1 filled.1) e.1.0 refl
  where
    apart : (ds : List Entry) → AllByRecursion (λ d. dimensions_cmp e.0 d.0 ≡ Less) ds → Apart e.0 (map row_of ds)
    apart [] below = tt
    apart (d ∷ ds) below = ap is_eq below.0

    by_values : rows_of (facts_of_entries es) ≡ map row_of es → (vs : List Value) → e.1.0 ≡ vs → rows_of (facts_of_entries (e ∷ es)) ≡ map row_of (e ∷ es)
    by_values rest [] is = absurd (filled.0 is)
    by_values rest (v ∷ vs) is =
        ap (λ ws. rows_of (facts_with e.0 ws ++ facts_of_entries es)) is
        ∙ row_before e.0 v vs (facts_of_entries es) (map row_of es) rest (apart es rise.0)
        ∙ ap (λ ws. (e.0, ws) ∷ map row_of es) (sym is)

-- ---- values

values_at-append : (s : DimensionSet) (fs gs : List Fact) → values_at s (fs ++ gs) ≡ values_at s fs ++ values_at s gs
values_at-append s [] gs = refl
values_at-append s (f ∷ fs) gs = elim (eq s f.dimensions) as (λ b. cond b (f.value ∷ values_at s (fs ++ gs)) (values_at s (fs ++ gs)) ≡ cond b (f.value ∷ values_at s fs) (values_at s fs) ++ values_at s gs) [
  | true ↦ ap (λ vs. f.value ∷ vs) (values_at-append s fs gs)
  | false ↦ values_at-append s fs gs
]

values_here : (s t : DimensionSet) (vs : List Value) → values_at s (facts_with t vs) ≡ cond (eq s t) vs []
values_here s t [] = elim (eq s t) as (λ b. ◌≡◌ {A = List Value} [] (cond b [] [])) [ true ↦ refl | false ↦ refl ]
values_here s t (v ∷ vs) = ap (λ ws. cond (eq s t) (v ∷ ws) ws) (values_here s t vs) ∙ elim (eq s t) as (λ b. cond b (v ∷ cond b vs []) (cond b vs []) ≡ cond b (v ∷ vs) []) [ true ↦ refl | false ↦ refl ]

abbrev pub values_in : Option Summed → List Value
values_in None = []
values_in (Some kept) = kept.0

none_above : (s : DimensionSet) (es : List Entry) → AllByRecursion (λ d. dimensions_cmp s d.0 ≡ Less) es → values_at s (facts_of_entries es) ≡ []
none_above s [] below = refl
none_above s (e ∷ es) below =
    values_at-append s (facts_of_entry e) (facts_of_entries es)
    ∙ (λ i. values_here s e.0 e.1.0 i ++ none_above s es below.1 i)
    ∙ ap (λ (b : Bool). cond b e.1.0 [] ++ []) (ap is_eq below.0)

tied_above : (s t : DimensionSet) (es : List Entry) → dimensions_cmp s t ≡ Equal → AllByRecursion (λ d. dimensions_cmp t d.0 ≡ Less) es → AllByRecursion (λ d. dimensions_cmp s d.0 ≡ Less) es
tied_above s t [] tied below = tt
tied_above s t (d ∷ ds) tied below = (dimensions_cmp_total.congr s t d.0 tied ∙ below.0, tied_above s t ds tied below.1)

pub values_at_entries : (s : DimensionSet) (es : List Entry) → IsRising dimensions_cmp entry_key es → values_at s (facts_of_entries es) ≡ values_in (value_at dimensions_cmp s es)
unfolding IsStrictlySortedBy
values_at_entries s [] rise = refl
values_at_entries s (e ∷ es) rise =
    values_at-append s (facts_of_entry e) (facts_of_entries es)
    ∙ ap (λ vs. vs ++ values_at s (facts_of_entries es)) (values_here s e.0 e.1.0)
    ∙ elim (eq s e.0) as (λ b. eq s e.0 ≡ b → cond b e.1.0 [] ++ values_at s (facts_of_entries es) ≡ values_in (Rattle.std.specs.Option.option_map (λ (d : Entry). d.1) (cond b (Some e) (item_at dimensions_cmp entry_key s es)))) [
      | true ↦ λ t. ap (λ vs. e.1.0 ++ vs) (none_above s es (tied_above s e.0 es ((Equal-is (dimensions_cmp s e.0)).0 t) rise.0)) ∙ append-nil e.1.0
      | false ↦ λ t. values_at_entries s es rise.1
    ] refl

-- ---- the facts of rows

abbrev entry_of : Row → Entry
entry_of r = (r.0, (r.1, summary_of_all r.1))

abbrev entries_of : List Row → List Entry
entries_of rs = map entry_of rs

abbrev facts_of_rows : List Row → List Fact
facts_of_rows rs = facts_of_entries (entries_of rs)

facts_before : (f : Fact) (rs : List Row) → facts_of_rows (before_rows f rs) ≡ f ∷ facts_of_rows rs
facts_before f [] = refl
facts_before f (r ∷ rs) = elim (is_eq (dimensions_cmp f.dimensions r.0)) as (λ b. is_eq (dimensions_cmp f.dimensions r.0) ≡ b → facts_of_rows (cond b ((r.0, f.value ∷ r.1) ∷ rs) ((f.dimensions, f.value ∷ []) ∷ r ∷ rs)) ≡ f ∷ facts_of_rows (r ∷ rs)) [
  | true ↦ λ t. ap (λ (s : DimensionSet). let first : Fact = record { dimensions = s; value = f.value } in first ∷ facts_of_rows (r ∷ rs)) (sym (dimensions_cmp_exact f.dimensions r.0 ((Equal-is (dimensions_cmp f.dimensions r.0)).0 t)))
  | false ↦ λ t. refl
] refl

pub facts_are : (fs : List Fact) → facts_of_rows (rows_of fs) ≡ fs
unfolding rows_of
facts_are [] = refl
facts_are (f ∷ fs) = facts_before f (rows_of fs) ∙ ap (λ gs. f ∷ gs) (facts_are fs)

-- ---- order

record IsRow (r : Row) : Type 0 where
  some : r.1 ≢ []
  in_order : IsSet value_cmp r.1

lesser_dimensions : (f g : Fact) → fact_cmp f g ≡ Less → is_eq (dimensions_cmp f.dimensions g.dimensions) ≡ false → dimensions_cmp f.dimensions g.dimensions ≡ Less
lesser_dimensions f g less other = by_order (dimensions_cmp f.dimensions g.dimensions) refl
  where
    by_order : (o : Ordering) → dimensions_cmp f.dimensions g.dimensions ≡ o → dimensions_cmp f.dimensions g.dimensions ≡ Less
    by_order Less is = is
    by_order Equal is = absurd (true≢false (sym (ap is_eq is) ∙ other))
    by_order Greater is = let never : Greater ≡ Less = sym (ap (λ o. ordering_then o (value_cmp f.value g.value)) is) ∙ less in cc

lesser_values : (f g : Fact) → fact_cmp f g ≡ Less → dimensions_cmp f.dimensions g.dimensions ≡ Equal → value_cmp f.value g.value ≡ Less
lesser_values f g less same = sym (ap (λ o. ordering_then o (value_cmp f.value g.value)) same) ∙ less

in_row : (rs : List Row) (r : Row) (v : Value) → Contains rs r → Contains r.1 v → Contains (facts_of_rows rs) (record { dimensions = r.0; value = v })
in_row rs r v at held =
    (in_flat_map facts_of_entry (entries_of rs) (record { dimensions = r.0; value = v })).1
    (some_there (λ e. Contains (facts_of_entry e) (record { dimensions = r.0; value = v })) (entries_of rs) (entry_of r) (in_map entry_of rs r at) (in_facts_with r.0 r.1 v held))

abbrev Rising : List Row → Type 0
Rising rs = IsRising dimensions_cmp entry_key rs

module _ (f : Fact) where
  abbrev IsBelow : List Row → Type 0
  IsBelow rs = (g : Fact) → Contains (facts_of_rows rs) g → fact_cmp f g ≡ Less

  below_rows : (r : Row) (rs : List Row) → dimensions_cmp f.dimensions r.0 ≡ Less → AllByRecursion (λ q. dimensions_cmp r.0 q.0 ≡ Less) rs → AllByRecursion (λ q. dimensions_cmp f.dimensions q.0 ≡ Less) (r ∷ rs)
  below_rows r rs less rest = (less, chained rs rest)
    where
      chained : (qs : List Row) → AllByRecursion (λ q. dimensions_cmp r.0 q.0 ≡ Less) qs → AllByRecursion (λ q. dimensions_cmp f.dimensions q.0 ≡ Less) qs
      chained [] h = tt
      chained (q ∷ qs) h = (dimensions_cmp_total.trans f.dimensions r.0 q.0 less h.0, chained qs h.1)

  rise_before : (rs : List Row) → Rising rs → AllByRecursion IsRow rs → IsBelow rs → Rising (before_rows f rs)
  unfolding IsStrictlySortedBy
  rise_before [] rise rows below = (tt, tt)
  rise_before (r ∷ rs) rise rows below = elim (is_eq (dimensions_cmp f.dimensions r.0)) as (λ b. is_eq (dimensions_cmp f.dimensions r.0) ≡ b → Rising (cond b ((r.0, f.value ∷ r.1) ∷ rs) ((f.dimensions, f.value ∷ []) ∷ r ∷ rs))) [
    | true ↦ λ t. rise
    | false ↦ λ t.
        let one = some_value r.1 rows.0.some in
        let less : dimensions_cmp f.dimensions r.0 ≡ Less = lesser_dimensions f (record { dimensions = r.0; value = one.0 }) (below (record { dimensions = r.0; value = one.0 }) (in_row (r ∷ rs) r one.0 (first_there r rs) one.1)) t in
        (below_rows r rs less rise.0, rise)
  ] refl

  rows_before : (rs : List Row) → AllByRecursion IsRow rs → IsBelow rs → AllByRecursion IsRow (before_rows f rs)
  unfolding IsStrictlySortedBy
  rows_before [] rows below = (record { some = λ nothing. cc; in_order = (tt, tt) }, tt)
  rows_before (r ∷ rs) rows below = elim (is_eq (dimensions_cmp f.dimensions r.0)) as (λ b. is_eq (dimensions_cmp f.dimensions r.0) ≡ b → AllByRecursion IsRow (cond b ((r.0, f.value ∷ r.1) ∷ rs) ((f.dimensions, f.value ∷ []) ∷ r ∷ rs))) [
    | true ↦ λ t.
        let same = (Equal-is (dimensions_cmp f.dimensions r.0)).0 t in (
          record {
            some = λ nothing. cc;
            in_order = (each_in_turn (λ w. value_cmp f.value w ≡ Less) r.1 (λ w at. lesser_values f (record { dimensions = r.0; value = w }) (below (record { dimensions = r.0; value = w }) (in_row (r ∷ rs) r w (first_there r rs) at)) same), rows.0.in_order);
          },
          rows.1,
        )
    | false ↦ λ t. (record { some = λ nothing. cc; in_order = (tt, tt) }, rows)
  ] refl

record AreRising (fs : List Fact) : Type 0 where
  rise : Rising (rows_of fs)
  rows : AllByRecursion IsRow (rows_of fs)

are_rising : (fs : List Fact) → IsSet fact_cmp fs → AreRising fs
unfolding IsStrictlySortedBy rows_of
are_rising [] h = record { rise = tt; rows = tt }
are_rising (f ∷ fs) h =
    let rest = are_rising fs h.1 in
    let below : (g : Fact) → Contains (facts_of_rows (rows_of fs)) g → fact_cmp f g ≡ Less = λ g at. turn_there (λ x. fact_cmp f x ≡ Less) fs g h.0 (subst (λ gs. Contains gs g) (facts_are fs) at) in
    record { rise = rise_before f (rows_of fs) rest.rise rest.rows below; rows = rows_before f (rows_of fs) rest.rows below }

entries_rise : (rs : List Row) → Rising rs → IsRising dimensions_cmp entry_key (entries_of rs)
unfolding IsStrictlySortedBy
entries_rise [] h = tt
entries_rise (r ∷ rs) h = (keys rs h.0, entries_rise rs h.1)
  where
    keys : (qs : List Row) → AllByRecursion (λ q. dimensions_cmp r.0 q.0 ≡ Less) qs → AllByRecursion (λ e. dimensions_cmp r.0 e.0 ≡ Less) (entries_of qs)
    keys [] g = tt
    keys (q ∷ qs) g = (g.0, keys qs g.1)

values_are : (fs : List Fact) (rise : Rising (rows_of fs)) (r : Row) → Contains (rows_of fs) r → r.1 ≡ values_at r.0 fs
values_are fs rise r at =
    let entries = entries_rise (rows_of fs) rise in
    let told : value_at dimensions_cmp r.0 (entries_of (rows_of fs)) ≡ Some (r.1, summary_of_all r.1) = (map_tells_entry dimensions_cmp_total dimensions_cmp_exact (λ p q. p) (entries_of (rows_of fs)) r.0 (r.1, summary_of_all r.1) entries).1 (in_map entry_of (rows_of fs) r at) in
    sym (ap (values_at r.0) (sym (facts_are fs)) ∙ values_at_entries r.0 (entries_of (rows_of fs)) entries ∙ ap values_in told)

pub rows_tell_facts : RowsTellFacts
rows_tell_facts fs h =
    let are = are_rising fs h in
    record {
      rise = are.rise;
      values = each_by_there (λ r. r.1 ≡ values_at r.0 fs) (rows_of fs) (values_are fs are.rise);
      some = each_by_there (λ r. r.1 ≢ []) (rows_of fs) (λ r at. (turn_there IsRow (rows_of fs) r are.rows at).some);
      in_order = each_by_there (λ r. IsSet value_cmp r.1) (rows_of fs) (λ r at. (turn_there IsRow (rows_of fs) r are.rows at).in_order);
      each = each_by_there (λ f. Contains (map entry_key (rows_of fs)) f.dimensions) fs (λ f at.
          let some = (in_flat_map facts_of_entry (entries_of (rows_of fs)) f).0 (subst (λ gs. Contains gs f) (sym (facts_are fs)) at) in
          let found = from_facts_with some.1.0 some.1.1.0 f some.4 in
          let row = from_map entry_of (rows_of fs) some.1 (some.0, some.2, some.3) in
          subst (Contains (map entry_key (rows_of fs))) (ap (λ (e : Entry). e.0) row.1.1 ∙ found.0) (in_map entry_key (rows_of fs) row.0 row.1.0));
    }
