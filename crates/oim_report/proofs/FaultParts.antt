-- The listed faults have the refusals of `tree_faults`, and each has the part that is shown for it.
use Rattle.oim_report.proofs.Shared.{◌≡◌, ◌==◌, ◌+◌, ℕ, List, [], ◌∷◌, ◌++◌, Bool, true, false, Some, slice_get, map, length, append_assoc, refl, sym, ap, ◌∙◌, inl, inr, subst, arith, if◌then◌else◌, filter, length-append, AllByRecursion, map-append, slice_get-get_or, get_or-append_seam, Binding, Reason, DisallowedDuplicates, Data, Place, AtDocument, AtFact, Refusal, HasPart, ShownFault, faults_from, is_above_level, level_faults, or_else, refusals_of, tree_faults, document_holds, holds, bindings_of, facts_of, values, is_shown, told, at, Sheet, document_shown, fact_shown, when, document_fault, document_faults, fact_fault, fact_faults, facts_faults}
use Rattle.std.proofs.Permutation.{every_append}
use Rattle.oim_report.proofs.AllFaults.{document_told, fact_told, of_document, of_fact}
use Rattle.oim_report.proofs.DocumentHolds.{filled_else, is_empty}

-- ---- refusals

each_of_document : (tree : Data) (rs : List Reason) → refusals_of (map (document_fault tree) rs) ≡ map (at AtDocument) rs
each_of_document tree [] = refl
each_of_document tree (r ∷ rs) = ap (λ l. at AtDocument r ∷ l) (each_of_document tree rs)

pub document_refusals : (tree : Data) → refusals_of (document_faults tree) ≡ map (at AtDocument) (told (document_holds tree))
document_refusals tree = each_of_document tree (told (document_holds tree))

each_of_fact : (sheet : Sheet) (bs : List Binding) (d : Data) (place : Place) (rs : List Reason) → refusals_of (map (fact_fault sheet bs d place) rs) ≡ map (at place) rs
each_of_fact sheet bs d place [] = refl
each_of_fact sheet bs d place (r ∷ rs) = ap (λ l. at place r ∷ l) (each_of_fact sheet bs d place rs)

pub fact_refusals : (sheet : Sheet) (bs : List Binding) (d : Data) (place : Place) → refusals_of (fact_faults sheet bs d place) ≡ map (at place) (told (holds sheet bs d))
fact_refusals sheet bs d place = each_of_fact sheet bs d place (told (holds sheet bs d))

pub facts_refusals : (sheet : Sheet) (bs : List Binding) (n : ℕ) (ds : List Data) → refusals_of (facts_faults sheet bs n ds) ≡ faults_from sheet bs n ds
facts_refusals sheet bs n [] = refl
facts_refusals sheet bs n (d ∷ ds) =
    map-append (λ f. f.refusal) (fact_faults sheet bs d (AtFact n)) (facts_faults sheet bs (n + 1) ds)
    ∙ (λ i. fact_refusals sheet bs d (AtFact n) i ++ facts_refusals sheet bs (n + 1) ds i)

none_listed : (l : List ShownFault) → refusals_of l ≡ [] → l ≡ []
none_listed [] none = refl
none_listed (f ∷ fs) none = absurd (cc)

-- ---- parts

module _ (sheet : Sheet) (tree : Data) where
  shown_of_document : (rs : List Reason) → AllByRecursion (HasPart sheet tree) (map (document_fault tree) (filter (is_shown (document_holds tree)) rs))
  shown_of_document [] = tt
  shown_of_document (r ∷ rs) = by_shown (is_shown (document_holds tree) r) refl (shown_of_document rs)
    where
      by_shown : (b : Bool) → is_shown (document_holds tree) r ≡ b → AllByRecursion (HasPart sheet tree) (map (document_fault tree) (filter (is_shown (document_holds tree)) rs))
          → AllByRecursion (HasPart sheet tree) (map (document_fault tree) (if b then r ∷ filter (is_shown (document_holds tree)) rs else filter (is_shown (document_holds tree)) rs))
      by_shown true is rest = (inl (refl, ap (λ b. when b (document_shown tree r)) is), rest)
      by_shown false is rest = rest

  pub document_parts : AllByRecursion (HasPart sheet tree) (document_faults tree)
  document_parts = subst (λ rs. AllByRecursion (HasPart sheet tree) (map (document_fault tree) rs)) (sym (document_told tree)) (shown_of_document of_document)

  abbrev bs : List Binding
  bs = bindings_of tree

  abbrev objects : List Data
  objects = values (facts_of tree)

  held_by_fact : (n : ℕ) (d : Data) → slice_get objects n ≡ Some d → (rs : List Reason) → AllByRecursion (HasPart sheet tree) (map (fact_fault sheet bs d (AtFact (n + 1))) (filter (holds sheet bs d) rs))
  held_by_fact n d there [] = tt
  held_by_fact n d there (r ∷ rs) = by_held (holds sheet bs d r) refl (held_by_fact n d there rs)
    where
      by_held : (b : Bool) → holds sheet bs d r ≡ b → AllByRecursion (HasPart sheet tree) (map (fact_fault sheet bs d (AtFact (n + 1))) (filter (holds sheet bs d) rs))
          → AllByRecursion (HasPart sheet tree) (map (fact_fault sheet bs d (AtFact (n + 1))) (if b then r ∷ filter (holds sheet bs d) rs else filter (holds sheet bs d) rs))
      by_held true is rest = (inr (inl (n, d, refl, there, ap (λ b. when b (fact_shown sheet bs d r)) is)), rest)
      by_held false is rest = rest

  fact_parts : (n : ℕ) (d : Data) → slice_get objects n ≡ Some d → AllByRecursion (HasPart sheet tree) (fact_faults sheet bs d (AtFact (n + 1)))
  fact_parts n d there = subst (λ rs. AllByRecursion (HasPart sheet tree) (map (fact_fault sheet bs d (AtFact (n + 1))) rs)) (sym (fact_told sheet bs d)) (held_by_fact n d there of_fact)

  at_seam : (before : List Data) (d : Data) (after : List Data) → slice_get (before ++ d ∷ after) (length before) ≡ Some d
  at_seam before d after =
      slice_get-get_or (before ++ d ∷ after) (length before) d (omega (arith, length-append before (d ∷ after))) ∙ ap Some (get_or-append_seam before d after d)

  parts_after : (n : ℕ) (before ds : List Data) → objects ≡ before ++ ds → length before ≡ n → AllByRecursion (HasPart sheet tree) (facts_faults sheet bs (n + 1) ds)
  parts_after n before [] are long = tt
  parts_after n before (d ∷ ds) are long =
      let there : slice_get objects n ≡ Some d = ap (λ m. slice_get objects m) (sym long) ∙ ap (λ os. slice_get os (length before)) are ∙ at_seam before d ds in
      let next : length (before ++ d ∷ []) ≡ n + 1 = length-append before (d ∷ []) ∙ ap (λ m. m + 1) long in
      every_append (HasPart sheet tree) (fact_faults sheet bs d (AtFact (n + 1))) (facts_faults sheet bs (n + 1 + 1) ds) (fact_parts n d there)
      (parts_after (n + 1) (before ++ d ∷ []) ds (are ∙ sym (append_assoc before (d ∷ []) ds)) next)

  pub facts_parts : AllByRecursion (HasPart sheet tree) (facts_faults sheet bs 1 objects)
  facts_parts = parts_after 0 [] objects refl refl

  -- ---- the steps of the reader

  abbrev of_tree : List Refusal
  of_tree = map (at AtDocument) (told (document_holds tree))

  abbrev of_facts : List Refusal
  of_facts = faults_from sheet bs 1 objects

  -- the faults of the document are listed, if it has one
  pub document_listed : (l : List ShownFault) → l ≡ document_faults tree → (length (refusals_of l) == 0) ≡ false → refusals_of l ≡ tree_faults sheet tree
  document_listed l are some =
      let found = ap refusals_of are ∙ document_refusals tree in
      found ∙ filled_else of_tree (or_else of_facts (level_faults sheet tree)) (ap (λ rs. length rs == 0) (sym found) ∙ some)

  pub document_free : (l : List ShownFault) → l ≡ document_faults tree → (length (refusals_of l) == 0) ≡ true → (l ≡ []) × (of_tree ≡ [])
  document_free l are none =
      let empty = is_empty (refusals_of l) none in
      (none_listed l empty, sym (ap refusals_of are ∙ document_refusals tree) ∙ empty)

  -- then the faults of the facts, if one has any
  pub facts_listed : (l : List ShownFault) → of_tree ≡ [] → l ≡ facts_faults sheet bs 1 objects → (length (refusals_of l) == 0) ≡ false → refusals_of l ≡ tree_faults sheet tree
  facts_listed l none are some =
      let found = ap refusals_of are ∙ facts_refusals sheet bs 1 objects in
      found
      ∙ filled_else of_facts (level_faults sheet tree) (ap (λ rs. length rs == 0) (sym found) ∙ some)
      ∙ ap (λ rs. or_else rs (or_else of_facts (level_faults sheet tree))) (sym none)

  pub facts_free : (l : List ShownFault) → l ≡ facts_faults sheet bs 1 objects → (length (refusals_of l) == 0) ≡ true → (l ≡ []) × (of_facts ≡ [])
  facts_free l are none =
      let empty = is_empty (refusals_of l) none in
      (none_listed l empty, sym (ap refusals_of are ∙ facts_refusals sheet bs 1 objects) ∙ empty)

  -- then the duplicates
  pub last_listed : (b : Bool) → of_tree ≡ [] → of_facts ≡ [] → is_above_level sheet tree ≡ b → (if b then at AtDocument DisallowedDuplicates ∷ [] else []) ≡ tree_faults sheet tree
  last_listed b none free above =
      ap (λ c. if c then at AtDocument DisallowedDuplicates ∷ [] else []) (sym above)
      ∙ (λ i. or_else (sym none i) (or_else (sym free i) (level_faults sheet tree)))
