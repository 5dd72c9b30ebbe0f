-- Facts with equal dimensions compare as their values do, and facts with two concepts as the concepts.
use Rattle.oim_report.proofs.Shared.{◌≡◌, ℕ, ◌+◌, ◌<◌, List, [], ◌∷◌, ◌++◌, Option, Some, None, map, slice_get, get_or, length, take, option_map, refl, sym, ap, ◌∙◌, ◌≤◌, Bor, MatchOption, HoldsAt, unwrap_or, Ordering, Less, Equal, Greater, tied_itself, option_cmp, ordering_then, map-append, take_more, slice_get-get_or, slice_get-map, slice_get_past, dimensions_cmp_total, DimensionSet, dimensions_cmp, fact_cmp, Fact, name_cmp, value_cmp, HaveDimensionsOf, dimensions_at}

abbrev dimensions_of : Fact → Option DimensionSet
dimensions_of f = Some f.dimensions

found : (facts : List Fact) (starts : List ℕ) (i : ℕ) (f : Fact) → HaveDimensionsOf facts starts → slice_get facts i ≡ Some f → option_map (dimensions_at facts) (slice_get starts i) ≡ Some (Some f.dimensions)
found facts starts i f h at =
    sym (slice_get-map (dimensions_at facts) starts i) ∙ ap (λ ds. slice_get ds i) h ∙ slice_get-map dimensions_of facts i ∙ ap (option_map dimensions_of) at

pub by_value : (facts : List Fact) (starts : List ℕ) (i j : ℕ) (f g : Fact) → HaveDimensionsOf facts starts → slice_get starts i ≡ slice_get starts j → slice_get facts i ≡ Some f → slice_get facts j ≡ Some g → value_cmp f.value g.value ≡ fact_cmp f g
by_value facts starts i j f g h same first second =
    let both = sym (found facts starts i f h first) ∙ ap (option_map (dimensions_at facts)) same ∙ found facts starts j g h second in
    let dimensions : f.dimensions ≡ g.dimensions = ap (λ d. unwrap_or (unwrap_or d None) f.dimensions) both in
    let tied = ap (dimensions_cmp f.dimensions) (sym dimensions) ∙ tied_itself dimensions_cmp_total f.dimensions in
    sym (ap (λ o. ordering_then o (value_cmp f.value g.value)) tied)

pub looked_up : {E : Type 0} (items : List E) (i : ℕ) (r : Option (Bor E)) → MatchOption r (length items ≤ i) (λ x. (i < length items) × HoldsAt (λ y. x.now ≡ y) items i) → option_map (λ x. x.now) r ≡ slice_get items i
looked_up items i None h = sym (slice_get_past items i h)
looked_up items i (Some x) h = sym (slice_get-get_or items i x.now h.0 ∙ ap Some (sym (h.1 x.now)))

pub answers : {E : Type 0} (R : E → E → Ordering) (r s : Option (Bor E)) → option_cmp (λ (x y : Bor E). R x.now y.now) r s ≡ option_cmp R (option_map (λ x. x.now) r) (option_map (λ x. x.now) s)
answers R None None = refl
answers R None (Some y) = refl
answers R (Some x) None = refl
answers R (Some x) (Some y) = refl

alone : (o b : Ordering) → (o ≡ Equal → ⊥) → o ≡ ordering_then o b
alone Less b unequal = refl
alone Equal b unequal = absurd (unequal refl)
alone Greater b unequal = refl

decided : (o a b : Ordering) → (o ≡ Equal → ⊥) → o ≡ ordering_then (ordering_then o a) b
decided o a b unequal = alone o b unequal ∙ ap (λ p. ordering_then p b) (alone o a unequal)

by_first : (n r v o : Ordering) → o ≡ n → (o ≡ Equal → ⊥) → o ≡ ordering_then (ordering_then n r) v
by_first n r v o is unequal = decided o r v unequal ∙ ap (λ p. ordering_then (ordering_then p r) v) is

pub by_rank : (f g : Fact) (o : Ordering) → o ≡ name_cmp f.dimensions.concept g.dimensions.concept → (o ≡ Equal → ⊥) → o ≡ fact_cmp f g
by_rank f g o is unequal = by_first _ _ (value_cmp f.value g.value) o is unequal

-- ---- facts with equal concepts, compared part by part

module _ (concept entity period unit language members value : Ordering) (tied : concept ≡ Equal) where
  abbrev pub by_parts : Ordering
  by_parts = ordering_then (ordering_then concept (ordering_then entity (ordering_then period (ordering_then unit (ordering_then language members))))) value

  pub by_entity : (entity ≡ Equal → ⊥) → entity ≡ by_parts
  by_entity unequal = decided entity _ value unequal ∙ (λ i. ordering_then (ordering_then (sym tied i) (ordering_then entity (ordering_then period (ordering_then unit (ordering_then language members))))) value)

  pub by_period : entity ≡ Equal → (period ≡ Equal → ⊥) → period ≡ by_parts
  by_period e unequal = decided period _ value unequal ∙ (λ i. ordering_then (ordering_then (sym tied i) (ordering_then (sym e i) (ordering_then period (ordering_then unit (ordering_then language members))))) value)

  pub by_unit : entity ≡ Equal → period ≡ Equal → (unit ≡ Equal → ⊥) → unit ≡ by_parts
  by_unit e p unequal = decided unit _ value unequal ∙ (λ i. ordering_then (ordering_then (sym tied i) (ordering_then (sym e i) (ordering_then (sym p i) (ordering_then unit (ordering_then language members))))) value)

  pub by_language : entity ≡ Equal → period ≡ Equal → unit ≡ Equal → (language ≡ Equal → ⊥) → language ≡ by_parts
  by_language e p u unequal = decided language _ value unequal ∙ (λ i. ordering_then (ordering_then (sym tied i) (ordering_then (sym e i) (ordering_then (sym p i) (ordering_then (sym u i) (ordering_then language members))))) value)

  by_last : entity ≡ Equal → period ≡ Equal → unit ≡ Equal → language ≡ Equal → ordering_then members value ≡ by_parts
  by_last e p u l = λ i. ordering_then (ordering_then (sym tied i) (ordering_then (sym e i) (ordering_then (sym p i) (ordering_then (sym u i) (ordering_then (sym l i) members))))) value

  pub by_members : entity ≡ Equal → period ≡ Equal → unit ≡ Equal → language ≡ Equal → (members ≡ Equal → ⊥) → members ≡ by_parts
  by_members e p u l unequal = alone members value unequal ∙ by_last e p u l

  pub by_values : entity ≡ Equal → period ≡ Equal → unit ≡ Equal → language ≡ Equal → members ≡ Equal → value ≡ by_parts
  by_values e p u l m = ap (λ o. ordering_then o value) (sym m) ∙ by_last e p u l

pub own : (facts : List Fact) (i : ℕ) (f : Fact) → i < length facts → f ≡ get_or facts i f → dimensions_at facts i ≡ Some f.dimensions
own facts i f within at = ap (option_map (λ (x : Fact). x.dimensions)) (slice_get-get_or facts i f within ∙ ap (λ x. Some x) (sym at))

pub one_more : (facts : List Fact) (starts after : List ℕ) (i first : ℕ) (f : Fact) → i < length facts → f ≡ get_or facts i f → dimensions_at facts first ≡ Some f.dimensions → after ≡ starts ++ first ∷ []
    → map (dimensions_at facts) starts ≡ map dimensions_of (take i facts) → map (dimensions_at facts) after ≡ map dimensions_of (take (i + 1) facts)
one_more facts starts after i first f within at here added all =
    ap (map (dimensions_at facts)) added ∙ map-append (dimensions_at facts) starts (first ∷ []) ∙ (λ k. all k ++ here k ∷ [])
    ∙ sym (map-append dimensions_of (take i facts) (f ∷ []))
    ∙ ap (map dimensions_of) (ap (λ x. take i facts ++ x ∷ []) at ∙ sym (take_more facts i f within))
