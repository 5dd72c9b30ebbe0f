-- The entries and references of a base after an addition.
use Rattle.fact_base.proofs.Shared.{◌≡◌, ℕ, zero, suc, ◌<◌, ◌+◌, length, get_or, set, false, List, [], ◌∷◌, ◌++◌, refl, sym, ap, subst, ◌∙◌, arith, inl, inr, ⊎_elim, append-nil, Result, Ok, Err, All, AllByRecursion, HoldsAt, tied_itself, upto, is_eq, is_gt, is_lt, match_ordering, ordering_reverse, Ordering, Less, Equal, Greater, get_or_default, append_assoc, get_or_at, length-append, reverse-append, IsRising, entry_key, IsSet, itself, value_at, merged_entries, map_union, set_union, all_of_union, summary_of_one, DimensionSet, value_cmp, dimensions_cmp, fact_cmp, Fact, dimensions_cmp_exact, dimensions_cmp_total, fact_cmp_total, fact_cmp_exact, dimensions_agree, Entry, Summed, facts_of_entries, facts_of_entry, NoneAbove, summed, summed_of_both, with_fact, with_value, AreEntriesOf, EntryFits, AreStored, first_up, less_from, reverse, IsPermutation, Contains, IfOk, All-contains, All-tail, All-permutation, Contains-permutation, IsPermutation-sym, summary_of, both_summaries, SameMembers, map_union_has_both, set_union_has_both, none_rise, one_rises, value_cmp_exact, value_cmp_total, values_agree, FactFits, true≢false, Document, IsKeptReference, Sheet, Body, body, text_cmp, union, Fits, set_of, Value}
use Rattle.std.specs.List.Sorted.{IsSorted, IsStrictlySortedBy, IsSearchInRange}
use Rattle.fact_base.proofs.Members.{turn_there, each_by_there, in_one_of_both, in_flat_map}
use Rattle.oim_report.proofs.Indices.{turned as turned_up}
use Rattle.fact_base.proofs.EntryFacts.{all_fit_together, facts_of_both, Fit, fit_in_order, rises, union_facts}
use Rattle.std.specs.Result.{is_err}
use Rattle.fact_base.proofs.Bodies.{same_bodies}
use Rattle.fact_base.proofs.Sets.{is_set_of, set_of-both, set_of_is_set}
use Rattle.fact_base.proofs.TextOrder.{text_cmp_exact, text_cmp_total}
use Rattle.oim_value.specs.contracts.value.ValueOrd.TheImpl.{cmp-value as derived_values}
use Rattle.oim_dims.specs.contracts.dimensions.DimensionsOrd.TheImpl.{cmp-value as derived_dimensions}

-- ---- orders

turned : (r s : DimensionSet) → dimensions_cmp r s ≡ Less → dimensions_cmp s r ≡ Greater
turned r s less = dimensions_cmp_total.antisymm s r ∙ ap ordering_reverse less

-- ---- a fact with greater dimensions than all entries is added after them

abbrev pub AllBelow : DimensionSet → List Entry → Type 0
AllBelow s = AllByRecursion (λ e. dimensions_cmp e.0 s ≡ Less)

pub all_below : (es : List Entry) (s : DimensionSet) (n : ℕ) (x : Entry) → IsRising dimensions_cmp entry_key es → NoneAbove s es → suc n ≡ length es → x ≡ get_or es n x → is_eq (dimensions_cmp x.0 s) ≡ false → AllBelow s es
unfolding IsStrictlySortedBy
all_below (e ∷ []) s zero x rise up count is other = (less_from (dimensions_cmp e.0 s) (up zero e (omega arith)) (subst (λ (y : Entry). is_eq (dimensions_cmp y.0 s) ≡ false) is other), tt)
all_below (e ∷ d ∷ es) s (suc n) x rise up count is other =
    let rest = all_below (d ∷ es) s n x rise.1 (All-tail (λ (y : Entry). is_gt (dimensions_cmp y.0 s) ≡ false) e (d ∷ es) up) (omega (arith, count)) is other in
    (dimensions_cmp_total.trans e.0 d.0 s rise.0.0 rest.0, rest)
all_below es s n x rise up count is other = absurd (omega (arith, count))

pub none_below : (es : List Entry) (s : DimensionSet) → length es ≡ 0 → AllBelow s es
none_below [] s count = tt
none_below (e ∷ es) s count = absurd (omega (arith, count))

-- the entry of one fact
abbrev entry_of : Fact → Entry
entry_of f = (f.dimensions, summed f.value)

pub put_behind : (es : List Entry) (f : Fact) → AllBelow f.dimensions es → es ++ entry_of f ∷ [] ≡ with_fact f es
put_behind [] f below = refl
put_behind (e ∷ es) f below =
    ap (λ ds. e ∷ ds) (put_behind es f below.1)
    ∙ sym (ap (λ r. match_ordering r (entry_of f ∷ e ∷ es) (merged_entries summed_of_both e (entry_of f) ∷ es) (e ∷ with_fact f es)) (turned e.0 f.dimensions below.0))

-- ---- a fact with the dimensions of the last entry is added to that entry

pub put_last : (es : List Entry) (f : Fact) (n : ℕ) (x : Entry) (kept : Summed) → IsRising dimensions_cmp entry_key es → suc n ≡ length es → x ≡ get_or es n x → x.0 ≡ f.dimensions → kept ≡ with_value f.value x.1 → set es n (x.0, kept) ≡ with_fact f es
unfolding IsStrictlySortedBy
put_last (e ∷ []) f zero x kept rise count is same made =
    let ties : dimensions_cmp f.dimensions e.0 ≡ Equal = ap (dimensions_cmp f.dimensions) (sym (ap (λ (y : Entry). y.0) is) ∙ same) ∙ tied_itself dimensions_cmp_total f.dimensions in
    let all : kept ≡ with_value f.value e.1 = made ∙ ap (λ (y : Entry). with_value f.value y.1) is in
    (λ i. ((is i).0, all i) ∷ [])
    ∙ sym (ap (λ r. match_ordering r (entry_of f ∷ e ∷ []) (merged_entries summed_of_both e (entry_of f) ∷ []) (e ∷ with_fact f [])) ties)
put_last (e ∷ d ∷ es) f (suc n) x kept rise count is same made =
    let there : dimensions_cmp e.0 x.0 ≡ Less = turn_there (λ (y : Entry). dimensions_cmp e.0 y.0 ≡ Less) (d ∷ es) x rise.0 (n, omega (arith, count), sym is) in
    let less : dimensions_cmp e.0 f.dimensions ≡ Less = sym (ap (dimensions_cmp e.0) same) ∙ there in
    ap (λ ds. e ∷ ds) (put_last (d ∷ es) f n x kept rise.1 (omega (arith, count)) is same made)
    ∙ sym (ap (λ r. match_ordering r (entry_of f ∷ e ∷ d ∷ es) (merged_entries summed_of_both e (entry_of f) ∷ d ∷ es) (e ∷ with_fact f (d ∷ es))) (turned e.0 f.dimensions less))
put_last es f n x kept rise count is same made = absurd (omega (arith, count))

-- ---- facts that do not descend

pub none_above_next : (es : List Entry) (f g : Fact) → NoneAbove f.dimensions es → is_gt (dimensions_cmp f.dimensions g.dimensions) ≡ false → NoneAbove g.dimensions (with_fact f es)
none_above_next es f g up next =
    all_of_union dimensions_cmp_exact summed_of_both (λ s _. is_gt (dimensions_cmp s g.dimensions) ≡ false) (λ s _ _ h _. h) es (entry_of f ∷ [])
    (λ k d within. upto dimensions_cmp_total (get_or es k d).0 f.dimensions g.dimensions (up k d within) next)
    one
  where
    one : NoneAbove g.dimensions (entry_of f ∷ [])
    one zero d within = next
    one (suc k) d within = absurd (omega (arith, within))

-- ---- a sorted list of facts

rise_in : (facts : List Fact) (i : ℕ) (f g : Fact) → IsSorted fact_cmp facts → i + 1 < length facts → f ≡ get_or facts i f → g ≡ get_or facts (i + 1) g → is_gt (dimensions_cmp f.dimensions g.dimensions) ≡ false
rise_in facts i f g sorted within here there =
    let next : get_or facts (i + 1) f ≡ g = get_or_default facts (i + 1) f g within ∙ sym there in
    let ordered : is_lt (fact_cmp g f) ≡ false = (λ k. is_lt (fact_cmp (sym next k) (here k))) ∙ sorted i f (omega arith) within in
    first_up (dimensions_cmp f.dimensions g.dimensions) (value_cmp f.value g.value) (ap is_gt (fact_cmp_total.antisymm f g) ∙ turned_up (fact_cmp g f) ordered)

abbrev pub ReachedIn : List Fact → ℕ → List Entry → Type 0
ReachedIn facts i es = (f : Fact) → i < length facts → f ≡ get_or facts i f → NoneAbove f.dimensions es

pub none_reached_in : (facts : List Fact) → ReachedIn facts 0 []
none_reached_in facts f within is k d low = absurd (omega (arith, low))

pub next_reached_in : (facts : List Fact) (i : ℕ) (f : Fact) (es : List Entry) → IsSorted fact_cmp facts → i < length facts → f ≡ get_or facts i f → ReachedIn facts i es → ReachedIn facts (i + 1) (with_fact f es)
next_reached_in facts i f es sorted within is reached g further there =
    none_above_next es f g (reached f within is) (rise_in facts i f g sorted further is there)

-- ---- a list in reverse, from which one item at a time is taken

moved : {X : Type 0} (done left rest all : List X) (x : X) → done ++ reverse left ≡ all → left ≡ rest ++ x ∷ [] → done ++ x ∷ reverse rest ≡ all
moved done left rest all x split is =
    ap (λ xs. done ++ xs) (sym (reverse-append rest (x ∷ []))) ∙ ap (λ xs. done ++ reverse xs) (sym is) ∙ split

pub one_taken : {X : Type 0} (done left rest all : List X) (x : X) → done ++ reverse left ≡ all → left ≡ rest ++ x ∷ [] → (done ++ x ∷ []) ++ reverse rest ≡ all
one_taken done left rest all x split is = append_assoc done (x ∷ []) (reverse rest) ∙ moved done left rest all x split is

pub taken_is_there : {X : Type 0} (done left rest all : List X) (x : X) → done ++ reverse left ≡ all → left ≡ rest ++ x ∷ [] → x ≡ get_or all (length done) x
taken_is_there done left rest all x split is =
    subst (λ xs. x ≡ get_or xs (length done) x) (moved done left rest all x split is) (sym (get_or_at done x (reverse rest) x (length done) refl))

pub taken_is_within : {X : Type 0} (done left rest all : List X) (x : X) → done ++ reverse left ≡ all → left ≡ rest ++ x ∷ [] → length done < length all
taken_is_within done left rest all x split is =
    let long = sym (ap length (moved done left rest all x split is)) ∙ length-append done (x ∷ reverse rest) in
    omega (arith, long)

-- ---- entries of facts that are added one after another

pub none_of_none : AreEntriesOf [] []
none_of_none = record {
  rise = none_rise dimensions_cmp entry_key;
  in_order = λ k d within. absurd (omega (arith, within));
  members = λ f. (λ h. h, λ h. h);
  fit = λ sheet fits k d within. absurd (omega (arith, within));
}

all_one : {A : Type 0} (P : A → Type 0) (x : A) → P x → All P (x ∷ [])
all_one P x h zero d within = h
all_one P x h (suc k) d within = absurd (omega (arith, within))

entry_alone : Fact → Entry
entry_alone f = (f.dimensions, (f.value ∷ [], summary_of f.value))

one_of_one : (f : Fact) → AreEntriesOf (f ∷ []) (entry_alone f ∷ [])
unfolding entry_alone
one_of_one f = record {
  rise = one_rises dimensions_cmp entry_key (entry_alone f);
  in_order = all_one (λ (e : Entry). IsSet value_cmp e.1.0) (entry_alone f) (one_rises value_cmp itself f.value);
  members = λ g. (λ h. h, λ h. h);
  fit = λ sheet fits. all_one (λ (e : Entry). EntryFits sheet e.0 e.1) (entry_alone f) (record {
    some = λ nothing. absurd (omega (arith, ap length nothing));
    in_order = one_rises value_cmp itself f.value;
    summary = sym (summary_of_one f.value);
    facts = fits;
  });
}

sets_together : (p q : Summed) → IsSet value_cmp p.0 → IsSet value_cmp q.0 → IsSet value_cmp (summed_of_both p q).0
sets_together p q h g = (set_union_has_both value_cmp_total value_cmp_exact p.0 q.0 h g).rises

front_fits : (P : Fact → Type 0) (fs gs : List Fact) → All P (fs ++ gs) → All P fs
front_fits P fs gs all = each_by_there P fs (λ f at. All-contains P (fs ++ gs) f all ((in_one_of_both fs gs f).1 (inl at)))

back_fits : (P : Fact → Type 0) (fs gs : List Fact) → All P (fs ++ gs) → All P gs
back_fits P fs gs all = each_by_there P gs (λ f at. All-contains P (fs ++ gs) f all ((in_one_of_both fs gs f).1 (inr at)))

pub of_both : (fs gs : List Fact) (es ds : List Entry) → AreEntriesOf fs es → AreEntriesOf gs ds → AreEntriesOf (fs ++ gs) (map_union dimensions_cmp summed_of_both es ds)
of_both fs gs es ds first second = record {
  rise = (map_union_has_both dimensions_cmp_total summed_of_both es ds first.rise second.rise).rises;
  in_order = all_of_union dimensions_cmp_exact summed_of_both (λ _ kept. IsSet value_cmp kept.0) (λ _. sets_together) es ds first.in_order second.in_order;
  members = λ f.
      let one = in_one_of_both fs gs f in
      let both = facts_of_both es ds first.rise second.rise first.in_order second.in_order f in (
        λ h. one.1 (⊎_elim (λ l. inl ((first.members f).0 l)) (λ r. inr ((second.members f).0 r)) (both.0 h)),
        λ h. both.1 (⊎_elim (λ l. inl ((first.members f).1 l)) (λ r. inr ((second.members f).1 r)) (one.0 h)),
      );
  fit = λ sheet fits. all_fit_together sheet es ds (first.fit sheet (front_fits (FactFits sheet) fs gs fits)) (second.fit sheet (back_fits (FactFits sheet) fs gs fits));
}

pub one_more : (fs : List Fact) (es : List Entry) (f : Fact) → AreEntriesOf fs es → AreEntriesOf (fs ++ f ∷ []) (with_fact f es)
unfolding entry_alone
one_more fs es f are = of_both fs (f ∷ []) es (entry_alone f ∷ []) are (one_of_one f)

-- ---- facts in another order

pub same_moved : (facts moved : List Fact) → IsPermutation facts moved → SameMembers moved facts
same_moved facts moved order f = (Contains-permutation moved facts f (IsPermutation-sym facts moved order), Contains-permutation facts moved f order)

pub all_moved : (facts moved : List Fact) (es : List Entry) → IsPermutation facts moved → AreEntriesOf moved es → AreEntriesOf facts es
all_moved facts moved es order are = record {
  rise = are.rise;
  in_order = are.in_order;
  members = λ f. let same = same_moved facts moved order f in (λ h. same.0 ((are.members f).0 h), λ h. (are.members f).1 (same.1 h));
  fit = λ sheet fits. are.fit sheet (All-permutation (FactFits sheet) facts moved order fits);
}

-- ---- a base fits its sheet

pub stored_fits : (sheet : Sheet) (es : List Entry) (references : List (List ℕ)) → AreStored sheet es references → Fits sheet (record { facts = facts_of_entries es; references = references })
stored_fits sheet es references stored = record {
  rises = record { facts = rises es stored.rise (fit_in_order sheet es stored.entries); references = stored.in_order };
  facts = each_by_there (FactFits sheet) (facts_of_entries es) (λ f at. fitting es f stored.entries at);
  references = stored.references;
}
  where
    fitting : (ds : List Entry) (f : Fact) → Fit sheet ds → Contains (facts_of_entries ds) f → FactFits sheet f
    fitting ds f fit at =
        let some = (in_flat_map facts_of_entry ds f).0 at in
        All-contains (FactFits sheet) (facts_of_entry some.1) f (All-contains (λ e. EntryFits sheet e.0 e.1) ds some.1 fit (some.0, some.2, some.3)).facts some.4

-- ---- references that are added to others

pub set_among : (references others : List (List ℕ)) → IsSet text_cmp references → set_union text_cmp references (set_of text_cmp others) ≡ set_of text_cmp (references ++ others)
set_among references others rise =
    let set = set_of_is_set text_cmp_total text_cmp_exact others in
    let both = set_union_has_both text_cmp_total text_cmp_exact references (set_of text_cmp others) rise set.rises in
    is_set_of text_cmp_total text_cmp_exact (set_union text_cmp references (set_of text_cmp others)) (references ++ others) both.rises (λ r. (
      λ h. (in_one_of_both references others r).1 (⊎_elim inl (λ o. inr ((set.members r).0 o)) ((both.members r).0 h)),
      λ h. (both.members r).1 (⊎_elim inl (λ o. inr ((set.members r).1 o)) ((in_one_of_both references others r).0 h)),
    ))

-- ---- an item that a search finds

pub found_there : {K : Type 0} {R : K → K → Ordering} (exact : (x y : K) → R x y ≡ Equal → x ≡ y) (xs : List K) (x : K) (r : Result ℕ ℕ) → is_err r ≡ false → IsSearchInRange r (length xs) → IfOk r (HoldsAt (λ y. R y x ≡ Equal) xs) → Contains xs x
found_there exact xs x (Ok i) found within holds = (i, within, exact (get_or xs i x) x (holds x))
found_there exact xs x (Err i) found within holds = absurd (true≢false found)

-- ---- the state after a call

pub record Leaves (sheet : Sheet) (es : List Entry) (texts : List (List ℕ)) (b : Body) : Type 0 where
  pub stored : AreStored sheet es texts
  pub body : ◌≡◌ {A = Body} (record { facts = facts_of_entries es; references = texts }) b

-- `b` has the facts of both lists of entries, and both lists of references
leaves : (sheet : Sheet) (es ds new : List Entry) (references others wider : List (List ℕ)) (b : Body) → AreStored sheet es references → IsRising dimensions_cmp entry_key ds → Fit sheet ds → All IsKeptReference others → new ≡ map_union dimensions_cmp summed_of_both es ds → wider ≡ set_of text_cmp (references ++ others) → set_of fact_cmp (facts_of_entries es ++ facts_of_entries ds) ≡ b.facts → set_of text_cmp (references ++ others) ≡ b.references → Leaves sheet new wider b
leaves sheet es ds new references others wider b stored rise fit kept put is facts texts =
    let set = set_of_is_set text_cmp_total text_cmp_exact (references ++ others) in
    record {
      stored = record {
        rise = subst (IsRising dimensions_cmp entry_key) (sym put) (map_union_has_both dimensions_cmp_total summed_of_both es ds stored.rise rise).rises;
        entries = subst (Fit sheet) (sym put) (all_fit_together sheet es ds stored.entries fit);
        in_order = subst (IsSet text_cmp) (sym is) set.rises;
        references = subst (All IsKeptReference) (sym is) (each_by_there IsKeptReference (set_of text_cmp (references ++ others)) (λ r at.
            ⊎_elim (All-contains IsKeptReference references r stored.references) (All-contains IsKeptReference others r kept) ((in_one_of_both references others r).0 ((set.members r).0 at))));
      };
      body = same_bodies (ap facts_of_entries put ∙ union_facts sheet es ds stored.rise rise stored.entries fit ∙ facts) (is ∙ texts);
    }

pub take_leaves : (sheet other : Sheet) (es ds new : List Entry) (references taxonomy wider : List (List ℕ)) (facts : List Fact) (d : Document) → AreStored sheet es references → other ≡ sheet → All (FactFits other) d.facts → All IsKeptReference d.references → facts ≡ d.facts → AreEntriesOf facts ds → new ≡ map_union dimensions_cmp summed_of_both es ds → taxonomy ≡ d.references → wider ≡ set_of text_cmp (references ++ taxonomy) → Leaves sheet new wider (union (record { facts = facts_of_entries es; references = references }) (body (d ∷ [])))
take_leaves sheet other es ds new references taxonomy wider facts d stored same fits kept facts_are are put taxonomy_is is =
    let of_document : AreEntriesOf d.facts ds = subst (λ fs. AreEntriesOf fs ds) facts_are are in
    let fit = of_document.fit sheet (subst (λ s. All (FactFits s) d.facts) same fits) in
    let known : references ≡ set_of text_cmp references = is_set_of text_cmp_total text_cmp_exact references references stored.in_order (λ r. (λ h. h, λ h. h)) in
    leaves sheet es ds new references taxonomy wider _ stored of_document.rise fit (subst (All IsKeptReference) (sym taxonomy_is) kept) put is
    (ap (λ fs. set_of fact_cmp (facts_of_entries es ++ fs)) (is_set_of fact_cmp_total fact_cmp_exact (facts_of_entries ds) (d.facts ++ []) (rises ds of_document.rise of_document.in_order) (subst (SameMembers (facts_of_entries ds)) (sym (append-nil d.facts)) of_document.members)))
    (set_of-both text_cmp_total text_cmp_exact references taxonomy ∙ (λ i. set_of text_cmp (sym known i ++ set_of text_cmp ((taxonomy_is ∙ sym (append-nil d.references)) i))))

pub join_leaves : (sheet other : Sheet) (es ds new : List Entry) (references others taxonomy wider : List (List ℕ)) → AreStored sheet es references → AreStored other ds others → other ≡ sheet → new ≡ map_union dimensions_cmp summed_of_both es ds → taxonomy ≡ others → wider ≡ set_of text_cmp (references ++ taxonomy) → Leaves sheet new wider (union (record { facts = facts_of_entries es; references = references }) (record { facts = facts_of_entries ds; references = others }))
join_leaves sheet other es ds new references others taxonomy wider stored more same put taxonomy_is is =
    let moved : AreStored sheet ds others = subst (λ s. AreStored s ds others) same more in
    leaves sheet es ds new references others wider _ stored moved.rise moved.entries moved.references put (is ∙ ap (λ rs. set_of text_cmp (references ++ rs)) taxonomy_is) refl refl

pub nothing_stored : (sheet : Sheet) → AreStored sheet [] []
nothing_stored sheet = record {
  rise = none_rise dimensions_cmp entry_key;
  entries = λ k d within. absurd (omega (arith, within));
  in_order = none_rise text_cmp itself;
  references = λ k d within. absurd (omega (arith, within));
}

-- ---- entries merge, are found and ascend under the derived orders of the code's types as under the specified orders

abbrev derived_union : Summed → Summed → Summed
derived_union p q = (set_union derived_values.it p.0 q.0, both_summaries p.1 q.1)

pub union_is : (es fs : List Entry) → map_union derived_dimensions.it derived_union es fs ≡ map_union dimensions_cmp summed_of_both es fs
union_is es fs = λ i. map_union (λ (x y : DimensionSet). dimensions_agree x y i) (λ (p q : Summed). let both : Summed = (set_union (λ (v w : Value). values_agree v w i) p.0 q.0, both_summaries p.1 q.1) in both) es fs

pub value_at_is : (s : DimensionSet) (es : List Entry) → value_at derived_dimensions.it s es ≡ value_at dimensions_cmp s es
value_at_is s es = λ i. value_at (λ (x y : DimensionSet). dimensions_agree x y i) s es

pub rises_too : (es : List Entry) → IsRising dimensions_cmp entry_key es → IsRising derived_dimensions.it entry_key es
rises_too es rise = subst (λ R. IsRising R entry_key es) (λ i x y. sym (dimensions_agree x y) i) rise

pub rises_as_derived : (es : List Entry) → IsRising derived_dimensions.it entry_key es → IsRising dimensions_cmp entry_key es
rises_as_derived es rise = subst (λ R. IsRising R entry_key es) (λ i x y. dimensions_agree x y i) rise
