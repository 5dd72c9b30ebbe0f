-- The facts that entries contain.
use Rattle.fact_base.proofs.Shared.{◌≡◌, List, [], ◌∷◌, ◌++◌, Option, Some, None, refl, sym, ap, subst, ◌∙◌, inl, inr, ⊎_elim, ◌↔◌, Contains, ◌⊎◌, AllByRecursion, Any, All, tied_itself, ordering_then, Ordering, Less, IsRising, IsSet, entry_key, value_at, map_tells_entry, map_union_has_both, set_union_has_both, value_cmp, Value, DimensionSet, dimensions_cmp, fact_cmp, Fact, dimensions_cmp_exact, dimensions_cmp_total, fact_cmp_exact, fact_cmp_total, Entry, Summed, facts_with, facts_of_entries, facts_of_entry, All-contains, both_summaries, either_or_both, map_union, set_union, all_in_turn, all_of_union, summary_of_union, value_cmp_exact, value_cmp_total, FactFits, Sheet, EntryFits, summed_of_both, set_of}
use Rattle.std.specs.List.Sorted.{IsStrictlySortedBy}
use Rattle.fact_base.proofs.Members.{each_in_turn, from_map, in_flat_map, in_map, some_there, turn_there, each_by_there, in_one_of_both, none_there, some_value}
use Rattle.fact_base.proofs.Sets.{is_set_of}

-- ---- order

rise_both : {A : Type 0} (R : A → A → Ordering) (xs ys : List A) → IsStrictlySortedBy R xs → IsStrictlySortedBy R ys → AllByRecursion (λ x. AllByRecursion (λ y. R x y ≡ Less) ys) xs → IsStrictlySortedBy R (xs ++ ys)
unfolding IsStrictlySortedBy
rise_both R [] ys h g below = g
rise_both {A = A} R (x ∷ xs) ys h g below = (behind xs h.0 below.0, rise_both R xs ys h.1 g below.1)
  where
    behind : (zs : List A) → AllByRecursion (λ y. R x y ≡ Less) zs → AllByRecursion (λ y. R x y ≡ Less) ys → AllByRecursion (λ y. R x y ≡ Less) (zs ++ ys)
    behind [] a b = b
    behind (z ∷ zs) a b = (a.0, behind zs a.1 b)

pub less_by_dimensions : (f g : Fact) → dimensions_cmp f.dimensions g.dimensions ≡ Less → fact_cmp f g ≡ Less
less_by_dimensions f g h = ap (λ o. ordering_then o (value_cmp f.value g.value)) h

pub less_by_values : (s : DimensionSet) (v w : Value) → value_cmp v w ≡ Less → fact_cmp (record { dimensions = s; value = v }) (record { dimensions = s; value = w }) ≡ Less
less_by_values s v w h = ap (λ o. ordering_then o (value_cmp v w)) (tied_itself dimensions_cmp_total s) ∙ h

pub facts_with_rise : (s : DimensionSet) (vs : List Value) → IsSet value_cmp vs → IsSet fact_cmp (facts_with s vs)
unfolding IsStrictlySortedBy
facts_with_rise s [] h = tt
facts_with_rise s (v ∷ vs) h = (below vs h.0, facts_with_rise s vs h.1)
  where
    below : (ws : List Value) → AllByRecursion (λ w. value_cmp v w ≡ Less) ws → AllByRecursion (λ f. fact_cmp (record { dimensions = s; value = v }) f ≡ Less) (facts_with s ws)
    below [] a = tt
    below (w ∷ ws) a = (less_by_values s v w a.0, below ws a.1)

-- ---- members

pub in_facts_with : (s : DimensionSet) (vs : List Value) (v : Value) → Contains vs v → Contains (facts_with s vs) (record { dimensions = s; value = v })
in_facts_with s vs v h = in_map (λ (w : Value). let f : Fact = record { dimensions = s; value = w } in f) vs v h

pub from_facts_with : (s : DimensionSet) (vs : List Value) (f : Fact) → Contains (facts_with s vs) f → (s ≡ f.dimensions) × Contains vs f.value
from_facts_with s vs f h =
    let found = from_map (λ (w : Value). let g : Fact = record { dimensions = s; value = w } in g) vs f h in
    (ap (λ (g : Fact). g.dimensions) found.1.1, subst (Contains vs) (ap (λ (g : Fact). g.value) found.1.1) found.1.0)

abbrev pub Holds : Option Summed → Value → Type 0
Holds None v = ⊥
Holds (Some kept) v = Contains kept.0 v

pub tells_fact : (es : List Entry) (f : Fact) → IsRising dimensions_cmp entry_key es → Contains (facts_of_entries es) f ↔ Holds (value_at dimensions_cmp f.dimensions es) f.value
tells_fact es f rise =
    let some = in_flat_map facts_of_entry es f in (
      λ h.
          let one = some.0 h in
          let found = from_facts_with one.1.0 one.1.1.0 f one.4 in
          let at : Contains es (f.dimensions, one.1.1) = subst (λ s. Contains es (s, one.1.1)) found.0 (one.0, one.2, one.3) in
          subst (λ a. Holds a f.value) (sym ((map_tells_entry dimensions_cmp_total dimensions_cmp_exact (λ p q. p) es f.dimensions one.1.1 rise).1 at)) found.1,
      λ h. some.1 (held (value_at dimensions_cmp f.dimensions es) refl h),
    )
  where
    held : (a : Option Summed) → value_at dimensions_cmp f.dimensions es ≡ a → Holds a f.value → Any (λ e. Contains (facts_of_entry e) f) es
    held None is h = absurd h
    held (Some kept) is h =
        some_there (λ e. Contains (facts_of_entry e) f) es (f.dimensions, kept)
        ((map_tells_entry dimensions_cmp_total dimensions_cmp_exact (λ p q. p) es f.dimensions kept rise).0 is)
        (in_facts_with f.dimensions kept.0 f.value h)

-- ---- entries that have all facts of others

abbrev pub HasRow : List Entry → Entry → Type 0
HasRow es e = All (Contains (facts_of_entries es)) (facts_of_entry e)

pub row_there : (es : List Entry) (e : Entry) (kept : Summed) → IsRising dimensions_cmp entry_key es → value_at dimensions_cmp e.0 es ≡ Some kept → All (Contains kept.0) e.1.0 → HasRow es e
row_there es e kept rise is all = each_by_there (Contains (facts_of_entries es)) (facts_of_entry e) (λ f at.
    let found = from_facts_with e.0 e.1.0 f at in
    (tells_fact es f rise).1 (subst (λ a. Holds a f.value) (sym is ∙ ap (λ s. value_at dimensions_cmp s es) found.0) (All-contains (Contains kept.0) e.1.0 f.value all found.1)))

pub rows_there : (es ds : List Entry) → All (HasRow es) ds → All (Contains (facts_of_entries es)) (facts_of_entries ds)
rows_there es ds each = each_by_there (Contains (facts_of_entries es)) (facts_of_entries ds) (λ f at.
    let some = (in_flat_map facts_of_entry ds f).0 at in
    All-contains (Contains (facts_of_entries es)) (facts_of_entry some.1) f (All-contains (HasRow es) ds some.1 each (some.0, some.2, some.3)) some.4)

-- ---- the facts of ascending entries ascend

pub less_than_later : (e : Entry) (es : List Entry) → AllByRecursion (λ d. dimensions_cmp e.0 d.0 ≡ Less) es → (f g : Fact) → Contains (facts_of_entry e) f → Contains (facts_of_entries es) g → dimensions_cmp f.dimensions g.dimensions ≡ Less
less_than_later e es below f g at later =
    let some = (in_flat_map facts_of_entry es g).0 later in
    let here = from_facts_with e.0 e.1.0 f at in
    let there = from_facts_with some.1.0 some.1.1.0 g some.4 in
    (λ i. dimensions_cmp (sym here.0 i) (sym there.0 i)) ∙ turn_there (λ d. dimensions_cmp e.0 d.0 ≡ Less) es some.1 below (some.0, some.2, some.3)

pub facts_rise : (es : List Entry) → IsRising dimensions_cmp entry_key es → AllByRecursion (λ e. IsSet value_cmp e.1.0) es → IsSet fact_cmp (facts_of_entries es)
unfolding IsStrictlySortedBy
facts_rise [] rise sets = tt
facts_rise (e ∷ es) rise sets =
    rise_both fact_cmp (facts_of_entry e) (facts_of_entries es) (facts_with_rise e.0 e.1.0 sets.0) (facts_rise es rise.1 sets.1)
    (each_in_turn (λ f. AllByRecursion (λ g. fact_cmp f g ≡ Less) (facts_of_entries es)) (facts_of_entry e) (λ f at.
    each_in_turn (λ g. fact_cmp f g ≡ Less) (facts_of_entries es) (λ g later. less_by_dimensions f g (less_than_later e es rise.0 f g at later))))

-- ---- merging the entries of two bases

pub in_values_of_both : (vs ws : List Value) → IsSet value_cmp vs → IsSet value_cmp ws → (v : Value) → Contains (set_union value_cmp vs ws) v ↔ (Contains vs v ⊎ Contains ws v)
in_values_of_both vs ws h g v = (set_union_has_both value_cmp_total value_cmp_exact vs ws h g).members v

-- ---- merged entries fit if both fit

pub fits_together : (sheet : Sheet) (s : DimensionSet) (p q : Summed) → EntryFits sheet s p → EntryFits sheet s q → EntryFits sheet s (summed_of_both p q)
fits_together sheet s p q h g =
    let both = set_union_has_both value_cmp_total value_cmp_exact p.0 q.0 h.in_order g.in_order in
    record {
      some = λ nothing.
          let one = some_value p.0 h.some in
          none_there one.0 (subst (λ vs. Contains vs one.0) nothing ((both.members one.0).1 (inl one.1)));
      in_order = both.rises;
      summary = (λ i. both_summaries (h.summary i) (g.summary i)) ∙ sym (summary_of_union value_cmp value_cmp_exact p.0 q.0);
      facts = each_by_there (FactFits sheet) (facts_with s (set_union value_cmp p.0 q.0)) (λ f at.
          let found = from_facts_with s (set_union value_cmp p.0 q.0) f at in
          ⊎_elim
          (λ l. All-contains (FactFits sheet) (facts_with s p.0) f h.facts (subst (λ d. Contains (facts_with s p.0) (record { dimensions = d; value = f.value })) found.0 (in_facts_with s p.0 f.value l)))
          (λ r. All-contains (FactFits sheet) (facts_with s q.0) f g.facts (subst (λ d. Contains (facts_with s q.0) (record { dimensions = d; value = f.value })) found.0 (in_facts_with s q.0 f.value r)))
          ((both.members f.value).0 found.1));
    }

abbrev pub Fit : Sheet → List Entry → Type 0
Fit sheet = All (λ e. EntryFits sheet e.0 e.1)

pub all_fit_together : (sheet : Sheet) (es fs : List Entry) → Fit sheet es → Fit sheet fs → Fit sheet (map_union dimensions_cmp summed_of_both es fs)
all_fit_together sheet = all_of_union dimensions_cmp_exact summed_of_both (EntryFits sheet) (fits_together sheet)

-- ---- merged entries have the facts of both

abbrev pub InOrder : List Entry → Type 0
InOrder = All (λ e. IsSet value_cmp e.1.0)

pub fit_in_order : (sheet : Sheet) (es : List Entry) → Fit sheet es → InOrder es
fit_in_order sheet es fit k d within = (fit k d within).in_order

pub rises : (es : List Entry) → IsRising dimensions_cmp entry_key es → InOrder es → IsSet fact_cmp (facts_of_entries es)
rises es rise sets = facts_rise es rise (all_in_turn (λ e. IsSet value_cmp e.1.0) es sets)

abbrev Ordered : Option Summed → Type 0
Ordered None = Unit {0}
Ordered (Some kept) = IsSet value_cmp kept.0

ordered_at : (es : List Entry) (s : DimensionSet) → IsRising dimensions_cmp entry_key es → InOrder es → Ordered (value_at dimensions_cmp s es)
ordered_at es s rise sets = at (value_at dimensions_cmp s es) refl
  where
    at : (a : Option Summed) → value_at dimensions_cmp s es ≡ a → Ordered a
    at None is = tt
    at (Some kept) is = All-contains (λ (e : Entry). IsSet value_cmp e.1.0) es (s, kept) sets ((map_tells_entry dimensions_cmp_total dimensions_cmp_exact (λ p q. p) es s kept rise).0 is)

holds_of_both : (a b : Option Summed) → Ordered a → Ordered b → (v : Value) → Holds (either_or_both summed_of_both a b) v ↔ (Holds a v ⊎ Holds b v)
holds_of_both None None g h v = (λ x. absurd x, ⊎_elim (λ x. x) (λ x. x))
holds_of_both None (Some q) g h v = (inr, ⊎_elim (λ x. absurd x) (λ x. x))
holds_of_both (Some p) None g h v = (inl, ⊎_elim (λ x. x) (λ x. absurd x))
holds_of_both (Some p) (Some q) g h v = in_values_of_both p.0 q.0 g h v

pub facts_of_both : (es fs : List Entry) → IsRising dimensions_cmp entry_key es → IsRising dimensions_cmp entry_key fs → InOrder es → InOrder fs → (f : Fact) → Contains (facts_of_entries (map_union dimensions_cmp summed_of_both es fs)) f ↔ (Contains (facts_of_entries es) f ⊎ Contains (facts_of_entries fs) f)
facts_of_both es fs rise more sets others f =
    let both = map_union_has_both dimensions_cmp_total summed_of_both es fs rise more in
    let told = tells_fact (map_union dimensions_cmp summed_of_both es fs) f both.rises in
    let first = tells_fact es f rise in
    let second = tells_fact fs f more in
    let held = holds_of_both (value_at dimensions_cmp f.dimensions es) (value_at dimensions_cmp f.dimensions fs) (ordered_at es f.dimensions rise sets) (ordered_at fs f.dimensions more others) f.value in (
      λ h. ⊎_elim (λ l. inl (first.1 l)) (λ r. inr (second.1 r)) (held.0 (subst (λ a. Holds a f.value) (both.values f.dimensions) (told.0 h))),
      λ h. told.1 (subst (λ a. Holds a f.value) (sym (both.values f.dimensions)) (held.1 (⊎_elim (λ l. inl (first.0 l)) (λ r. inr (second.0 r)) h))),
    )

pub union_facts : (sheet : Sheet) (es fs : List Entry) → IsRising dimensions_cmp entry_key es → IsRising dimensions_cmp entry_key fs → Fit sheet es → Fit sheet fs → facts_of_entries (map_union dimensions_cmp summed_of_both es fs) ≡ set_of fact_cmp (facts_of_entries es ++ facts_of_entries fs)
union_facts sheet es fs rise more fit others =
    let both = map_union_has_both dimensions_cmp_total summed_of_both es fs rise more in
    is_set_of fact_cmp_total fact_cmp_exact (facts_of_entries (map_union dimensions_cmp summed_of_both es fs)) (facts_of_entries es ++ facts_of_entries fs)
    (rises (map_union dimensions_cmp summed_of_both es fs) both.rises (fit_in_order sheet _ (all_fit_together sheet es fs fit others)))
    (λ f.
    let of_both = facts_of_both es fs rise more (fit_in_order sheet es fit) (fit_in_order sheet fs others) f in
    let one = in_one_of_both (facts_of_entries es) (facts_of_entries fs) f in
    (λ h. one.1 (of_both.0 h), λ h. of_both.1 (one.0 h)))
