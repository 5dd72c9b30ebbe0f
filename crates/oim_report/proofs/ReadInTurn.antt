-- The entries of `namespaces` are bound one after another. Since their keys ascend, no prefix is bound twice.
use Rattle.oim_report.proofs.Shared.{◌≡◌, ℕ, List, [], ◌∷◌, ◌++◌, Bool, true, false, cond, not, ◌||◌, Option, Some, None, string_bytes, string_cmp, String, Global, Less, bytes_eq, append_assoc, append-nil, refl, sym, ap, ◌∙◌, suc, ◌<◌, ◌≤◌, length, drop, get_or, option_map, unwrap_or, find, IsSome, option_and_then, option_map_or, AllByRecursion, keys_of, drop_all, Parts, is_part, Binding, bound, uri_of, is_refused_binding, Level, Members, no_members, member, Items, no_items, item, view, members_view, items_view, Entry, any_in, any_member, members, given, text_of, Given, binds_nothing, bindings_in, declarations, is_allowed_duplicates, said_level, said_reference, said_references}
use Rattle.std.specs.List.Sorted.{IsStrictlySortedBy}
use Rattle.std.proofs.Math.Seq.{drop-cons}
use Rattle.serde_json.specs.declared.value.Value.{Value}
use Rattle.oim_report.proofs.PutMembers.{other_key}

abbrev pub bound_step : List Binding → List ℕ → Option (List ℕ) → (List Binding → Option (List Binding)) → Option (List Binding)
bound_step bs key None more = None
bound_step bs key (Some uri) more = cond (is_refused_binding bs key uri) None (more (bound bs key uri))

-- the bindings after these entries, or None if an entry cannot be bound
abbrev pub bound_after : List Binding → Members → Option (List Binding)
bound_after bs no_members = Some bs
bound_after bs (member key d ms) = bound_step bs key (text_of (given d)) (λ more. bound_after more ms)

abbrev AreFree : List Binding → List Entry → Type 0
AreFree bs es = AllByRecursion (λ (e : Entry). uri_of bs (string_bytes e.0) ≡ None) es

uri_of-push : (bs : List Binding) (b : Binding) (p : List ℕ) → uri_of bs p ≡ None → bytes_eq b.prefix p ≡ false → uri_of (bs ++ b ∷ []) p ≡ None
uri_of-push [] b p free other = rw other refl
uri_of-push (a ∷ bs) b p free other =
    elim (bytes_eq a.prefix p) as (λ t. option_map (λ (x : Binding). x.uri) (cond t (Some a) (find (λ x. bytes_eq x.prefix p) bs)) ≡ None → option_map (λ (x : Binding). x.uri) (cond t (Some a) (find (λ x. bytes_eq x.prefix p) (bs ++ b ∷ []))) ≡ None) [
      | true ↦ λ h. absurd (cc)
      | false ↦ λ h. uri_of-push bs b p h other
    ] free

stay_free : (bs : List Binding) (k : String Global) (u : List ℕ) (es : List Entry) → AreFree bs es → AllByRecursion (λ y. string_cmp k y ≡ Less) (keys_of es) → AreFree (bs ++ (record { prefix = string_bytes k; uri = u }) ∷ []) es
stay_free bs k u [] free above = tt
stay_free bs k u (e ∷ es) free above = (uri_of-push bs _ (string_bytes e.0) free.0 (other_key (string_bytes k) (string_bytes e.0) above.0), stay_free bs k u es free.1 above.1)

all_fresh : (es : List Entry) → AreFree [] es
all_fresh [] = tt
all_fresh (e ∷ es) = (refl, all_fresh es)

by_text : (bs : List Binding) (k : List ℕ) (rest : Members) (o : Option (List ℕ)) (more : List Binding → Option (List Binding)) (any : Bool)
    → uri_of bs k ≡ None
    → ((u : List ℕ) → more (bs ++ (record { prefix = k; uri = u }) ∷ []) ≡ cond any None (Some ((bs ++ (record { prefix = k; uri = u }) ∷ []) ++ bindings_in rest)))
    → bound_step bs k o more ≡ cond ((not (is_part k) || option_map_or (λ u. bytes_eq u []) o true) || any) None (Some (bs ++ (record { prefix = k; uri = unwrap_or o [] }) ∷ bindings_in rest))
by_text bs k rest None more any free then =
    elim (not (is_part k)) as (λ b. None ≡ cond ((b || true) || any) None (Some (bs ++ (record { prefix = k; uri = [] }) ∷ bindings_in rest))) [ true ↦ refl | false ↦ refl ]
by_text bs k rest (Some u) more any free then =
    rw free (elim (not (is_part k) || bytes_eq u []) as (λ b. cond (b || false) None (more (bs ++ (record { prefix = k; uri = u }) ∷ [])) ≡ cond (b || any) None (Some (bs ++ (record { prefix = k; uri = u }) ∷ bindings_in rest))) [
      | true ↦ refl
      | false ↦ then u ∙ ap (λ cs. cond any None (Some cs)) (append_assoc bs _ (bindings_in rest))
    ])

bound_more : (bs : List Binding) (es : List Entry) → AreFree bs es → IsStrictlySortedBy string_cmp (keys_of es)
    → bound_after bs (members_view es) ≡ cond (any_member binds_nothing (members_view es)) None (Some (bs ++ bindings_in (members_view es)))
unfolding IsStrictlySortedBy
bound_more bs [] free ascend = ap Some (sym (append-nil bs))
bound_more bs (e ∷ es) free ascend =
    by_text bs (string_bytes e.0) (members_view es) (text_of (given (view e.1))) (λ more. bound_after more (members_view es)) (any_member binds_nothing (members_view es)) free.0
    (λ u. bound_more (bs ++ (record { prefix = string_bytes e.0; uri = u }) ∷ []) es (stay_free bs e.0 u es free.1 ascend.0) ascend.1)

bound_all : (es : List Entry) → IsStrictlySortedBy string_cmp (keys_of es)
    → bound_after [] (members_view es) ≡ cond (any_member binds_nothing (members_view es)) None (Some (bindings_in (members_view es)))
bound_all es ascend = bound_more [] es (all_fresh es) ascend

by_case : (b : Bool) (bs : List Binding) → cond b None (Some bs) ≡ None → b ≡ true
by_case true bs e = refl
by_case false bs e = absurd (cc)

by_other_case : (b : Bool) (bs cs : List Binding) → cond b None (Some bs) ≡ Some cs → (cs ≡ bs) × (b ≡ false)
by_other_case true bs cs e = absurd (cc)
by_other_case false bs cs e = (cc, refl)

pub all_refused : (ms : Option Members) (es : List Entry) → ms ≡ Some (members_view es) → IsStrictlySortedBy string_cmp (keys_of es) → bound_after [] (members ms) ≡ None → any_in binds_nothing ms ≡ true
all_refused ms es is ascend e = ap (any_in binds_nothing) is ∙ by_case _ (bindings_in (members_view es)) (sym (bound_all es ascend) ∙ ap (λ o. bound_after [] (members o)) (sym is) ∙ e)

pub all_bound : (ms : Option Members) (es : List Entry) (bs : List Binding) → ms ≡ Some (members_view es) → IsStrictlySortedBy string_cmp (keys_of es) → bound_after [] (members ms) ≡ Some bs → (bs ≡ bindings_in (members ms)) × (any_in binds_nothing ms ≡ false)
all_bound ms es bs is ascend e =
    let both = by_other_case _ (bindings_in (members_view es)) bs (sym (bound_all es ascend) ∙ ap (λ o. bound_after [] (members o)) (sym is) ∙ e) in
    (both.0 ∙ ap (λ o. bindings_in (members o)) (sym is), ap (any_in binds_nothing) is ∙ both.1)

pub stops_at : (bs : List Binding) (es rest : List Entry) (e : Entry) → es ≡ e ∷ rest → text_of (given (view e.1)) ≡ None → bound_after bs (members_view es) ≡ None
stops_at bs es rest e is none = rw (is, none) refl

pub refused_at : (bs : List Binding) (es rest : List Entry) (e : Entry) (u : List ℕ) → es ≡ e ∷ rest → text_of (given (view e.1)) ≡ Some u → is_refused_binding bs (string_bytes e.0) u ≡ true → bound_after bs (members_view es) ≡ None
refused_at bs es rest e u is text refused = rw (is, text, refused) refl

-- ---- Reading the declarations of a level one after another.

-- the level after these declarations, given the level that was declared before, if any; None if a declaration is refused or is
-- not the first
abbrev pub level_after : Option Level → List Given → Option Level
level_after None gs = said_level gs
level_after (Some l) [] = Some l
level_after (Some l) (g ∷ gs) = None

pub first_declares : (g : Given) (gs : List Given) (l : Level) → said_level (g ∷ []) ≡ Some l → level_after (Some l) gs ≡ said_level (g ∷ gs)
first_declares g [] l e = sym e
first_declares g (h ∷ gs) l e = refl

pub first_fails : (g : Given) (gs : List Given) → said_level (g ∷ []) ≡ None → said_level (g ∷ gs) ≡ None
first_fails g [] e = e
first_fails g (h ∷ gs) e = refl

none_declared : (declared : Option Level) (g : Given) (gs : List Given) (found : Option Level) → (declared ≡ None → found ≡ said_level (g ∷ [])) → found ≡ None → level_after declared (g ∷ gs) ≡ None
none_declared None g gs found first none = first_fails g gs (sym (first refl) ∙ none)
none_declared (Some l) g gs found first none = refl

goes_on : (declared : Option Level) (g : Given) (gs : List Given) (l : Level) (found : Option Level) → (declared ≡ None → found ≡ said_level (g ∷ [])) → (IsSome declared → found ≡ None) → found ≡ Some l → level_after (Some l) gs ≡ level_after declared (g ∷ gs)
goes_on None g gs l found first again is = first_declares g gs l (sym (first refl) ∙ is)
goes_on (Some m) g gs l found first again is = absurd (let none : found ≡ None = again refl in cc)

walked : (bs : List Binding) (declared : Option Level) (es rest : List Entry) (e : Entry) (key : List ℕ) (g : Given)
    → es ≡ e ∷ rest → key ≡ string_bytes e.0 → is_allowed_duplicates bs key ≡ true → g ≡ given (view e.1)
    → level_after declared (declarations bs (members_view es)) ≡ level_after declared (g ∷ declarations bs (members_view rest))
walked bs declared es rest e key g is name allowed value =
    let later : List Given = declarations bs (members_view rest) in
    ap (λ xs. level_after declared (declarations bs (members_view xs))) is
    ∙ ap (λ b. level_after declared (cond b (given (view e.1) ∷ later) later)) (ap (is_allowed_duplicates bs) (sym name) ∙ allowed)
    ∙ ap (λ x. level_after declared (x ∷ later)) (sym value)

pub goes_on_at : (bs : List Binding) (declared : Option Level) (es rest : List Entry) (e : Entry) (key : List ℕ) (g : Given) (l : Level) (found : Option Level)
    → es ≡ e ∷ rest → key ≡ string_bytes e.0 → is_allowed_duplicates bs key ≡ true → g ≡ given (view e.1)
    → (declared ≡ None → found ≡ said_level (g ∷ [])) → (IsSome declared → found ≡ None) → found ≡ Some l
    → level_after (Some l) (declarations bs (members_view rest)) ≡ level_after declared (declarations bs (members_view es))
goes_on_at bs declared es rest e key g l found is name allowed value first again some =
    goes_on declared g (declarations bs (members_view rest)) l found first again some ∙ sym (walked bs declared es rest e key g is name allowed value)

pub declared_stops : (bs : List Binding) (declared : Option Level) (es rest : List Entry) (e : Entry) (key : List ℕ) (g : Given) (found : Option Level)
    → es ≡ e ∷ rest → key ≡ string_bytes e.0 → is_allowed_duplicates bs key ≡ true → g ≡ given (view e.1)
    → (declared ≡ None → found ≡ said_level (g ∷ [])) → found ≡ None
    → level_after declared (declarations bs (members_view es)) ≡ None
declared_stops bs declared es rest e key g found is name allowed value first none =
    walked bs declared es rest e key g is name allowed value ∙ none_declared declared g (declarations bs (members_view rest)) found first none

-- ---- The taxonomy references of a report, kept one after another.

-- the texts in the second argument, followed by the kept texts of these items; None if an item is refused
abbrev pub kept_after : Option Parts → List (List ℕ) → Items → Option (List (List ℕ))
kept_after base done no_items = Some done
kept_after base done (item d ds) = option_and_then (λ t. kept_after base (done ++ t ∷ []) ds) (said_reference base d)

kept_step : (base : Option Parts) (done : List (List ℕ)) (ds : Items) (o : Option (List ℕ)) → ((done : List (List ℕ)) → kept_after base done ds ≡ option_map (λ ts. done ++ ts) (said_references base ds)) → option_and_then (λ t. kept_after base (done ++ t ∷ []) ds) o ≡ option_map (λ ts. done ++ ts) (option_and_then (λ t. option_map (λ ts. t ∷ ts) (said_references base ds)) o)
kept_step base done ds None more = refl
kept_step base done ds (Some t) more = more (done ++ t ∷ []) ∙ along (said_references base ds)
  where
    along : (o : Option (List (List ℕ))) → option_map (λ ts. (done ++ t ∷ []) ++ ts) o ≡ option_map (λ ts. done ++ ts) (option_map (λ ts. t ∷ ts) o)
    along None = refl
    along (Some ts) = ap Some (append_assoc done (t ∷ []) ts)

after : (base : Option Parts) (ds : Items) (done : List (List ℕ)) → kept_after base done ds ≡ option_map (λ ts. done ++ ts) (said_references base ds)
after base no_items done = ap Some (sym (append-nil done))
after base (item d ds) done = kept_step base done ds (said_reference base d) (λ done'. after base ds done')

whole : (o : Option (List (List ℕ))) → option_map (λ ts. [] ++ ts) o ≡ o
whole None = refl
whole (Some ts) = refl

pub kept_all : (base : Option Parts) (ds : Items) → kept_after base [] ds ≡ said_references base ds
kept_all base ds = after base ds [] ∙ whole (said_references base ds)

pub kept_stops : (base : Option Parts) (done : List (List ℕ)) (items : List Value) (i : ℕ) (v : Value) → i < length items → v ≡ get_or items i v → said_reference base (view v) ≡ None → kept_after base done (items_view (drop i items)) ≡ None
kept_stops base done items i v h is none =
    ap (λ vs. kept_after base done (items_view vs)) (drop-cons items i v h)
    ∙ ap (option_and_then (λ t. kept_after base (done ++ t ∷ []) (items_view (drop (suc i) items)))) (ap (λ w. said_reference base (view w)) (sym is) ∙ none)

pub ends : (base : Option Parts) (done : List (List ℕ)) (items : List Value) (i : ℕ) → length items ≤ i → kept_after base done (items_view (drop i items)) ≡ Some done
ends base done items i h = ap (λ vs. kept_after base done (items_view vs)) (drop_all i items h)
