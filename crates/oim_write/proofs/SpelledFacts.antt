-- Each name of a body's facts is spelled with a prefix that is bound to the URI of the name.
use Rattle.oim_write.proofs.Shared.{Bool, inl, inr, ◌≡◌, ◌≢◌, ℕ, zero, suc, ◌+◌, ◌^◌, ◌/◌, ◌%◌, ◌<◌, List, [], ◌∷◌, ◌++◌, length, get_or, map, take, true, false, cond, Option, Some, None, ⊎_elim, refl, sym, ap, ◌∙◌, arith, length-take-le, Contains, IsUtf8, is_some, IfSome, flat_map, is_ascii_alphanumeric, IsTotalOrder, nat_cmp_total, tied_itself, slice_cmp, nat_list_cmp_total, IsStrictlySortedBy, option_map, nat_cmp, bytes_eq, Ordering, Less, Equal, and_from, cases_order, nat_tests, get_or-take, get_or_default, map-append, take_more, IsUtf8-append, IsUtf8-from_ascii, Binding, bound, is_refused_binding, uri_of, bytes_not_eq, other_bytes, same_bytes, text_cmp, IsSet, SpellsDimension, SpellsMeasures, SpellsName, SpellsValue, first_or_later, first_there, later_there, none_there, each_by_there, in_flat_map, some_there, prefix, name_text, Contains-append_left, Contains-append_right, QName, is_name_byte, is_part, Value, AName, Measures, Fact, Member, MemberName, bindings_of, FactsAreSpelled, defined_names, dimension_names, entity_names, fact_names, unit_names, uris, value_names}
use Rattle.std.specs.List.{find, list_all}
use Rattle.std.proofs.lemmas.List.Folds.{list_all-append}
use Rattle.std.proofs.lemmas.Str.Ascii.{IsAscii-nil, IsAscii-cons}
use Rattle.oim_write.specs.Rank.{numbered, padded, rank, width}
use Rattle.oim_write.proofs.Ranks.{after_front, padded_keeps_order, width_is_fewest_digits, rank_at}
use Rattle.oim_names.proofs.Spelling.{filled_number}
use Rattle.oim_write.proofs.Namespaces.{uri_there, uris_rise}

-- ---- order

module _ {K : Type 0} {R : K → K → Ordering} (o : IsTotalOrder R) (letter : ℕ) (xs : List K) (rises : IsStrictlySortedBy R xs) where
  pub numbered_rise : (i j : ℕ) (d : K) → i < j → j < length xs → slice_cmp nat_cmp (numbered letter R (get_or xs i d) xs) (numbered letter R (get_or xs j d) xs) ≡ Less
  numbered_rise i j d apart within =
      let low : rank R (get_or xs i d) xs ≡ i + 1 = rank_at o xs i d rises (omega arith) in
      let high : rank R (get_or xs j d) xs ≡ j + 1 = rank_at o xs j d rises within in
      let fits : length xs < 10 ^ width (length xs) = (width_is_fewest_digits (length xs)).enough in
      after_front nat_cmp_total (letter ∷ []) (padded (width (length xs)) (rank R (get_or xs i d) xs)) (padded (width (length xs)) (rank R (get_or xs j d) xs))
      ∙ padded_keeps_order (width (length xs)) (rank R (get_or xs i d) xs) (rank R (get_or xs j d) xs) (omega (arith, low, high)) (omega (arith, high, fits))

  pub apart : (i j : ℕ) (x y : K) → i < j → j < length xs → get_or xs i x ≡ x → get_or xs j y ≡ y → numbered letter R x xs ≢ numbered letter R y xs
  apart i j x y under within here there same =
      let less : slice_cmp nat_cmp (numbered letter R x xs) (numbered letter R y xs) ≡ Less =
      (λ k. slice_cmp nat_cmp (numbered letter R (sym here k) xs) (numbered letter R ((sym there ∙ get_or_default xs j y x within) k) xs)) ∙ numbered_rise i j x under within in
      let tied : slice_cmp nat_cmp (numbered letter R x xs) (numbered letter R y xs) ≡ Equal =
      ap (λ l. slice_cmp nat_cmp (numbered letter R x xs) l) (sym same) ∙ tied_itself nat_list_cmp_total (numbered letter R x xs) in
      absurd (cc)

  pub one_member : (x y : K) → Contains xs x → Contains xs y → numbered letter R x xs ≡ numbered letter R y xs → x ≡ y
  one_member x y (i, at_x, is_x) (j, at_y, is_y) same = elim (cases_order i j) [
    | inl one ↦ sym is_x ∙ ap (λ k. get_or xs k x) one ∙ get_or_default xs j x y at_y ∙ is_y
    | inr other ↦ absurd (⊎_elim (λ less. apart i j x y less at_y is_x is_y same) (λ more. apart j i y x more at_x is_y is_x (sym same)) other)
  ]

-- ---- form

digit_simple : (d : ℕ) → d < 10 → is_ascii_alphanumeric (48 + d) ≡ true
digit_simple d h = grind (arith, nat_tests)

pub digits_pass : (p : ℕ → Bool) → ((d : ℕ) → d < 10 → p (48 + d) ≡ true) → (w n : ℕ) → list_all p (padded w n) ≡ true
unfolding padded
digits_pass p each zero n = refl
digits_pass p each (suc w) n = list_all-append p (padded w (n / 10)) ((48 + n % 10) ∷ []) ∙ and_from _ _ (digits_pass p each w (n / 10)) (and_from (p (48 + n % 10)) true (each (n % 10) (omega arith)) refl)

pub prefix_simple : (us : List (List ℕ)) (u : List ℕ) → list_all is_ascii_alphanumeric (prefix us u) ≡ true
prefix_simple us u = and_from (is_ascii_alphanumeric 110) _ refl (digits_pass is_ascii_alphanumeric digit_simple (width (length us)) (rank text_cmp u us))

small_utf8 : (c : ℕ) → c < 128 → IsUtf8 (c ∷ [])
small_utf8 c h = IsUtf8-from_ascii (c ∷ []) (IsAscii-cons c [] h IsAscii-nil)

padded_utf8 : (w n : ℕ) → IsUtf8 (padded w n)
unfolding padded
padded_utf8 zero n = IsUtf8-from_ascii [] IsAscii-nil
padded_utf8 (suc w) n = IsUtf8-append (padded w (n / 10)) ((48 + n % 10) ∷ []) (padded_utf8 w (n / 10)) (small_utf8 (48 + n % 10) (omega arith))

pub numbered_utf8 : {K : Type 0} (letter : ℕ) (R : K → K → Ordering) (x : K) (xs : List K) → letter < 128 → IsUtf8 (numbered letter R x xs)
numbered_utf8 letter R x xs h = IsUtf8-append (letter ∷ []) (padded (width (length xs)) (rank R x xs)) (small_utf8 letter h) (padded_utf8 (width (length xs)) (rank R x xs))

-- ---- resolving a label

module _ (label : List ℕ → List ℕ) where
  abbrev binding : List ℕ → Binding
  binding v = record { prefix = label v; uri = v }

  pub found_under : (vs : List (List ℕ)) (u : List ℕ) → ((v : List ℕ) → Contains vs v → label v ≡ label u → v ≡ u) → Contains vs u → uri_of (map binding vs) (label u) ≡ Some u
  found_under [] u one at = none_there u at
  found_under (v ∷ vs) u one at =
      elim (bytes_eq (label v) (label u)) as (λ b. bytes_eq (label v) (label u) ≡ b → option_map (λ (c : Binding). c.uri) (cond b (Some (binding v)) (find (λ (c : Binding). bytes_eq c.prefix (label u)) (map binding vs))) ≡ Some u) [
        | true ↦ λ same. ap Some (one v (first_there v vs) (same_bytes (label v) (label u) same))
        | false ↦ λ other. ⊎_elim
            (λ is. absurd (other_bytes (label v) (label u) other (ap label is)))
            (found_under vs u (λ w there. one w (later_there v vs w there)))
            (first_or_later v vs u at)
      ] refl

  pub free_under : (vs : List (List ℕ)) (p : List ℕ) → ((v : List ℕ) → Contains vs v → label v ≢ p) → uri_of (map binding vs) p ≡ None
  free_under [] p others = refl
  free_under (v ∷ vs) p others =
      elim (bytes_eq (label v) p) as (λ b. bytes_eq (label v) p ≡ b → option_map (λ (c : Binding). c.uri) (cond b (Some (binding v)) (find (λ (c : Binding). bytes_eq c.prefix p) (map binding vs))) ≡ None) [
        | true ↦ λ same. absurd (others v (first_there v vs) (same_bytes (label v) p same))
        | false ↦ λ other. free_under vs p (λ w there. others w (later_there v vs w there))
      ] refl

pub prefix_bound : (us : List (List ℕ)) (u : List ℕ) → IsSet text_cmp us → Contains us u → uri_of (map (binding (prefix us)) us) (prefix us u) ≡ Some u
prefix_bound us u rises at = found_under (prefix us) us u (λ v there same. one_member nat_list_cmp_total 110 us rises v u there at same) at

-- the prefix of a URI is not bound before the URI's turn
pub prefix_free : (us : List (List ℕ)) (i : ℕ) (u : List ℕ) → IsSet text_cmp us → i < length us → u ≡ get_or us i u
    → uri_of (map (binding (prefix us)) (take i us)) (prefix us u) ≡ None
prefix_free us i u rises within is =
    free_under (prefix us) (take i us) (prefix us u) (λ v there.
    let lower : there.0 < i = omega (arith, there.1, length-take-le i us (omega (arith, within))) in
    apart nat_list_cmp_total 110 us rises there.0 i v u lower within (sym (get_or-take i us there.0 v lower) ∙ there.2) (sym is))

pub bound_more : (us : List (List ℕ)) (i : ℕ) (u : List ℕ) → IsSet text_cmp us → i < length us → u ≡ get_or us i u
    → bound (map (binding (prefix us)) (take i us)) (prefix us u) u ≡ map (binding (prefix us)) (take (i + 1) us)
bound_more us i u rises within is =
    let so_far = map (binding (prefix us)) (take i us) in
    let free = prefix_free us i u rises within is in
    ap (λ (a : Option (List ℕ)). cond (is_some a) so_far (so_far ++ binding (prefix us) u ∷ [])) free
    ∙ sym (ap (map (binding (prefix us))) (take_more us i u within ∙ ap (λ v. take i us ++ v ∷ []) (sym is)) ∙ map-append (binding (prefix us)) (take i us) (u ∷ []))

-- ---- prefixes

name_digit : (d : ℕ) → d < 10 → is_name_byte (48 + d) ≡ true
name_digit d h = grind (arith, nat_tests)

pub prefix_is_part : (us : List (List ℕ)) (u : List ℕ) → is_part (prefix us u) ≡ true
prefix_is_part us u = and_from _ _ (digits_pass is_name_byte name_digit (width (length us)) (rank text_cmp u us)) (filled_number _)

pub prefix_allowed : (us : List (List ℕ)) (i : ℕ) (u : List ℕ) → IsSet text_cmp us → i < length us → u ≡ get_or us i u → u ≢ []
    → is_refused_binding (map (binding (prefix us)) (take i us)) (prefix us u) u ≡ false
prefix_allowed us i u rises within is filled = rw (prefix_is_part us u, bytes_not_eq u [] filled, prefix_free us i u rises within is) refl

module _ (us : List (List ℕ)) (rises : IsSet text_cmp us) where
  spelled : (n : QName) → Contains us n.uri → SpellsName (bindings_of us) (name_text us) n
  spelled n there = record {
    prefix = prefix us n.uri;
    filled = λ none. absurd (cc);
    simple = prefix_simple us n.uri;
    bound = prefix_bound us n.uri rises there;
    text = refl;
  }

-- ---- facts

module _ (facts : List Fact) (f : Fact) (at : Contains facts f) where
  abbrev us : List (List ℕ)
  us = uris facts

  abbrev Spelled : QName → Type 0
  Spelled n = SpellsName (bindings_of us) (name_text us) n

  each_name : (n : QName) → Contains (fact_names f) n → Spelled n
  each_name n named = spelled us (uris_rise facts) n (uri_there facts f n at named)

  of_dimensions : (n : QName) → Contains (dimension_names f.dimensions) n → Spelled n
  of_dimensions n named = each_name n (Contains-append_left (dimension_names f.dimensions) (value_names f.value) n named)

  of_entity : (e : Option QName) → ((n : QName) → Contains (entity_names e) n → Spelled n) → IfSome e Spelled
  of_entity None each = tt
  of_entity (Some n) each = each n (first_there n [])

  of_unit : (m : Option Measures) → ((n : QName) → Contains (unit_names m) n → Spelled n) → IfSome m (SpellsMeasures (bindings_of us) (name_text us))
  of_unit None each = tt
  of_unit (Some m) each = record {
    numerators = each_by_there Spelled m.numerators (λ n h. each n (Contains-append_left m.numerators m.denominators n h));
    denominators = each_by_there Spelled m.denominators (λ n h. each n (Contains-append_right m.numerators m.denominators n h));
  }

  of_member : (n : QName) (m : Member) → ((k : QName) → Contains (defined_names (n, m)) k → Spelled k) → SpellsDimension (bindings_of us) (name_text us) (n, m)
  of_member n (MemberName m) each = record { name = each n (first_there n (m ∷ [])); member = each m (later_there n (m ∷ []) m (first_there m [])) }
  of_member n m each = record { name = each n (first_there n []); member = tt }

  of_value : (v : Value) → ((n : QName) → Contains (value_names v) n → Spelled n) → SpellsValue (bindings_of us) (name_text us) v
  of_value (AName n) each = each n (first_there n [])
  of_value v each = tt

pub facts_are_spelled : FactsAreSpelled
facts_are_spelled facts f at =
    let d = f.dimensions in
    let entity = entity_names d.entity in
    let unit = unit_names d.unit in
    let defined = flat_map defined_names d.members in
    let named = of_dimensions facts f at in
    record {
      concept = named d.concept (first_there d.concept _);
      entity = of_entity facts f at d.entity (λ n h. named n (later_there d.concept _ n (Contains-append_left entity _ n h)));
      unit = of_unit facts f at d.unit (λ n h. named n (later_there d.concept _ n (Contains-append_right entity _ n (Contains-append_left unit defined n h))));
      members = each_by_there _ d.members (λ e h. of_member facts f at e.0 e.1 (λ n k. named n (later_there d.concept _ n (Contains-append_right entity _ n (Contains-append_right unit defined n ((in_flat_map defined_names d.members n).1 (some_there (λ x. Contains (defined_names x) n) d.members e h k)))))));
      value = of_value facts f at f.value (λ n h. each_name facts f at n (Contains-append_right (dimension_names d) (value_names f.value) n h));
    }
