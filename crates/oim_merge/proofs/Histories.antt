-- A base depends only on the set of its documents, and its text is read as its body. The facts of a canonical report ascend strictly.
use Rattle.oim_merge.proofs.Shared.{◌≡◌, inl, ⊎_elim, [], ◌∷◌, ◌++◌, append-nil, Result, Ok, Err, Some, refl, sym, ap, subst, ◌∙◌, ℕ, ◌+◌, ◌<◌, Bool, true, false, not, List, get_or, length, slice_get, eqb, eq-eqb, inr, arith, zero-add, Contains, ◌↔◌, IsTrue, EachIndex, AllLevel, fact_cmp_exact, fact_cmp_total, fact_cmp, Document, level_of, outcome, Sheet, Body, body, union, text_cmp, Fits, IsAccepted, accepted_fits, body_ignores_order, body_of_both, first_there, later_there, first_or_later, in_one_of_both, is_set_of, canonical, fresh, took, joined, documents_of, EarlierTextsGiveBodies, HistoriesAreForgotten, HistoriesGiveBodies, MergedTextsMerge, TextsGiveBodies, MergedTextsAreCanonical, document_at, All, IsAllAdjacentAnswer, IsDistinct, range_with_len, option_cmp, is_eq, is_lt, nat_cmp, ordering_reverse, Ordering, Less, Equal, Greater, both_ways, cases_order, false≢true, nat_cmp_total, nat_eq_equiv, ranked, All-cons, All-nil, Contains-permutation, IsPermutation-sym, length_permutation, IsDistinct-IsPermutation, Less-from_sorted, apart_from_distinct, sorted_from_all_adjacent, sorted_from_strictly_increasing, slice_get-get_or, IsSet, Fact, range_once}
use Rattle.fact_base.specs.Sets.{set_of}
use Rattle.fact_base.proofs.TextOrder.{text_cmp_exact, text_cmp_total}
use Rattle.oim_merge.proofs.ReadsBack.{canonical_reads_back, earlier_reads_back}
use Rattle.std.specs.List.Sorted.{IsSorted, IsStrictlyIncreasing, IsStrictlySortedBy}
use Rattle.std.proofs.lemmas.List.FromFn.{get_or-range_with_len, length-range_with_len}
use Rattle.oim_report.specs.Report.{IsOrderOf}
use Rattle.oim_report.proofs.Indices.{indices_within}
use Rattle.fact_base.proofs.Passed.{set_is_its_members}
use Rattle.oim_merge.specs.Checked.{IsCanonicalOf}

pub histories_give_bodies : HistoriesGiveBodies
histories_give_bodies fresh = refl
histories_give_bodies (took h d) = ap (λ b. union b (body (d ∷ []))) (histories_give_bodies h) ∙ sym (body_of_both (documents_of h) (d ∷ []))
histories_give_bodies (joined h k) = (λ i. union (histories_give_bodies h i) (histories_give_bodies k i)) ∙ sym (body_of_both (documents_of h) (documents_of k))

pub histories_are_forgotten : HistoriesAreForgotten
histories_are_forgotten h k same = histories_give_bodies h ∙ body_ignores_order (documents_of h) (documents_of k) same ∙ sym (histories_give_bodies k)

pub body_again : (sheet : Sheet) (b : Body) (d : Document) → Fits sheet b → d.facts ≡ b.facts → d.references ≡ b.references → body (d ∷ []) ≡ b
body_again sheet b d fits facts references =
    let facts_are : set_of fact_cmp (d.facts ++ []) ≡ b.facts =
    ap (set_of fact_cmp) (append-nil d.facts ∙ facts) ∙ sym (is_set_of fact_cmp_total fact_cmp_exact b.facts b.facts fits.rises.facts (λ x. (λ h. h, λ h. h))) in
    let references_are : set_of text_cmp (d.references ++ []) ≡ b.references =
    ap (set_of text_cmp) (append-nil d.references ∙ references) ∙ sym (is_set_of text_cmp_total text_cmp_exact b.references b.references fits.rises.references (λ x. (λ h. h, λ h. h))) in
    λ i. record { facts = facts_are i; references = references_are i }

pub texts_give_bodies : TextsGiveBodies
texts_give_bodies sheet b fits =
    let read_as : Document = document_at (level_of b.facts) b in
    record { document = read_as; read = canonical_reads_back sheet b fits; same = body_again sheet b read_as fits refl refl }

pub earlier_texts_give_bodies : EarlierTextsGiveBodies
earlier_texts_give_bodies sheet b fits =
    let read_as : Document = document_at AllLevel b in
    record { document = read_as; read = earlier_reads_back sheet b fits; same = body_again sheet b read_as fits refl refl }

pub one_document : {E : Type 0} (r : Result Document E) (d e : Document) → r ≡ Ok d → r ≡ Ok e → d ≡ e
one_document (Ok x) d e h k = cc
one_document (Err x) d e h k = cc

pub merged_texts_merge : MergedTextsMerge
merged_texts_merge sheet docs some merged accepted among read =
    let fits : Fits sheet (body docs) = accepted_fits sheet docs accepted in
    let again = canonical_reads_back sheet (body docs) fits in
    let is : merged ≡ document_at (level_of (body docs).facts) (body docs) = one_document _ merged _ read again in
    let alone : body (merged ∷ []) ≡ body docs = body_again sheet (body docs) merged fits (ap (λ d. d.facts) is) (ap (λ d. d.references) is) in
    let twice : body (merged ∷ merged ∷ some) ≡ body ((merged ∷ []) ++ some) = body_ignores_order (merged ∷ merged ∷ some) (merged ∷ some) (λ x. (λ h. ⊎_elim (λ e. subst (Contains (merged ∷ some)) e (first_there merged some)) (λ l. l) (first_or_later merged (merged ∷ some) x h), λ h. later_there merged (merged ∷ some) x h)) in
    let both : body (docs ++ some) ≡ body docs = body_ignores_order (docs ++ some) docs (λ x. (λ h. ⊎_elim (λ l. l) (λ r. among x r) ((in_one_of_both docs some x).0 h), λ h. (in_one_of_both docs some x).1 (inl h))) in
    ap canonical (twice ∙ body_of_both (merged ∷ []) some ∙ ap (λ b. union b (body some)) alone ∙ sym (body_of_both docs some) ∙ both)

pub taken_back : (sheet : Sheet) (b : Body) (d : Document) → Fits sheet b → outcome sheet (canonical b) ≡ Ok d → union (body []) (body (d ∷ [])) ≡ b
taken_back sheet b d fits read =
    let is : d ≡ document_at (level_of b.facts) b = one_document _ d _ read (canonical_reads_back sheet b fits) in
    sym (body_of_both [] (d ∷ [])) ∙ body_again sheet b d fits (ap (λ e. e.facts) is) (ap (λ e. e.references) is)

pub merged_texts_are_canonical : MergedTextsAreCanonical
merged_texts_are_canonical sheet b d fits read =
    let is : d ≡ document_at (level_of b.facts) b = one_document _ d _ read (canonical_reads_back sheet b fits) in
    ap canonical (sym (body_again sheet b d fits (ap (λ e. e.facts) is) (ap (λ e. e.references) is)))

-- ---- facts at their places

not_above : (o p : Ordering) → o ≡ ordering_reverse p → is_lt p ≡ false → true ≡ not (is_eq o) → o ≡ Less
not_above o Less turned kept differ = absurd (false≢true (sym kept))
not_above o Equal turned kept differ = absurd (false≢true (sym (differ ∙ ap (λ q. not (is_eq q)) turned)))
not_above o Greater turned kept differ = turned

exact_numbers : (a b : ℕ) → nat_cmp a b ≡ Equal → a ≡ b
exact_numbers a b h = ranked a b Equal (sym h)

-- each item differs from the next
abbrev pub Differ : List Fact → Bool → Type 0
Differ facts told = IsAllAdjacentAnswer (λ x y b. b ≡ not (is_eq (fact_cmp x y))) facts told

sorted_apart : (facts : List Fact) → IsSorted fact_cmp facts → Differ facts true → IsSet fact_cmp facts
unfolding IsStrictlySortedBy
sorted_apart [] sorted each = tt
sorted_apart (f ∷ fs) sorted each = sorted_from_all_adjacent fact_cmp_total (f ∷ fs) f (λ k within.
    let x : Fact = get_or (f ∷ fs) k f in
    let y : Fact = get_or (f ∷ fs) (k + 1) f in
    not_above (fact_cmp x y) (fact_cmp y x) (fact_cmp_total.antisymm x y) (sorted k f (omega arith) within) (each k f within))

rising_differ : (facts : List Fact) → IsSet fact_cmp facts → Differ facts false → false ≡ true
rising_differ [] rises (k, within, alike) = absurd (omega (arith, within))
rising_differ (f ∷ fs) rises (k, within, alike) = alike f ∙ ap (λ o. not (is_eq o)) (Less-from_sorted fact_cmp (f ∷ fs) k (k + 1) f rises (omega arith) within)

module _ (facts : List Fact) (order : List ℕ) (ordered : IsOrderOf facts order) where
  as_many : length order ≡ length facts
  as_many = length_permutation (range_with_len 0 (length facts)) order ordered.each_once ∙ length-range_with_len 0 (length facts)

  distinct : IsDistinct eqb order
  distinct = IsDistinct-IsPermutation eqb nat_eq_equiv.symm (range_with_len 0 (length facts)) order ordered.each_once (range_once (length facts))

  sorted_in_place : EachIndex order (λ k. get_or order k 0 ≡ k) → IsSorted fact_cmp facts
  sorted_in_place indexed k d low within =
      let reads : (j : ℕ) → j < length facts → slice_get facts (get_or order j 0) ≡ Some (get_or facts j d)
      = λ j inside. ap (slice_get facts) (indexed j (omega (arith, inside, as_many))) ∙ slice_get-get_or facts j d inside in
      let next = reads (k + 1) within in
      let here = reads k (omega (arith, within)) in
      sym (λ t. is_lt (option_cmp fact_cmp (next t) (here t)))
      ∙ ordered.rising k 0 low (omega (arith, within, as_many))

  -- if each fact is at its place, the facts ascend exactly if each differs from the next
  pub rise_in_place : (told : Bool) → Differ facts told → EachIndex order (λ k. get_or order k 0 ≡ k) → IsTrue told ↔ IsSet fact_cmp facts
  rise_in_place true each indexed = (λ h. sorted_apart facts (sorted_in_place indexed) each, λ h. refl)
  rise_in_place false each indexed = (λ h. absurd (false≢true h), λ rises. rising_differ facts rises each)

  -- the places of ascending facts ascend
  indices_rise : IsSet fact_cmp facts → IsStrictlyIncreasing order
  indices_rise rises k within =
      let here : ℕ = get_or order k 0 in
      let next : ℕ = get_or order (k + 1) 0 in
      let inside = indices_within facts order ordered in
      elim (cases_order here next) [
        | inl same ↦ absurd (both_ways _ (apart_from_distinct eqb order k (k + 1) 0 distinct (omega arith) within) (eq-eqb here next same))
        | inr apart ↦ elim apart [
          | inl before ↦ before
          | inr after ↦
              let stands = inside k 0 (omega (arith, within)) in
              let d = some_fact facts here stands in
              let first = slice_get-get_or facts next d (inside (k + 1) 0 within) in
              let second = slice_get-get_or facts here d stands in
              absurd (false≢true (sym (ordered.rising k 0 (omega arith) within) ∙ (λ i. is_lt (option_cmp fact_cmp (first i) (second i))) ∙ ap is_lt (Less-from_sorted fact_cmp facts next here d rises after stands)))
        ]
      ]
    where
      some_fact : (fs : List Fact) (k : ℕ) → k < length fs → Fact
      some_fact [] k within = absurd (omega (arith, within))
      some_fact (f ∷ fs) k within = f

  -- ascending facts are at their places
  pub indexed_if_rising : IsSet fact_cmp facts → EachIndex order (λ k. get_or order k 0 ≡ k)
  indexed_if_rising rises k within =
      let n : ℕ = length facts in
      let range : List ℕ = range_with_len 0 n in
      let long = length-range_with_len 0 n in
      let here : k < n = omega (arith, within, long, length_permutation range order ordered.each_once) in
      let counts : IsStrictlyIncreasing range = λ j less. let next : j + 1 < n = omega (arith, less, long) in omega (arith, get_or-range_with_len 0 n j 0 (omega (arith, next)), get_or-range_with_len 0 n (j + 1) 0 next) in
      let same : order ≡ range = set_is_its_members nat_cmp_total exact_numbers order range (sorted_from_strictly_increasing order (indices_rise rises)) (sorted_from_strictly_increasing range counts) (λ x. (
        Contains-permutation order range x (IsPermutation-sym range order ordered.each_once),
        Contains-permutation range order x ordered.each_once,
      )) in
      ap (λ ps. get_or ps k 0) same ∙ get_or-range_with_len 0 n k 0 here ∙ zero-add k

-- ---- canonical reports

module _ (sheet : Sheet) (bytes : List ℕ) (d : Document) (read : outcome sheet bytes ≡ Ok d) where
  accepted : All (IsAccepted sheet) (d ∷ [])
  accepted = All-cons (IsAccepted sheet) d [] (bytes, read) (All-nil (IsAccepted sheet))

  pub canonical_rises : IsCanonicalOf d bytes → IsSet fact_cmp d.facts
  canonical_rises is =
      let b : Body = body (d ∷ []) in
      let fits : Fits sheet b = accepted_fits sheet (d ∷ []) accepted in
      let same : d ≡ document_at (level_of b.facts) b = one_document _ d _ read (ap (outcome sheet) is ∙ canonical_reads_back sheet b fits) in
      subst (IsSet fact_cmp) (sym (ap (λ e. e.facts) same)) fits.rises.facts
