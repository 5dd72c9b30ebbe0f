-- Each fact object of an accepted report is listed once, each fact of the body is listed, and the order of the reports does not matter.
use Rattle.oim_merge.proofs.Shared.{◌≡◌, ℕ, suc, List, [], ◌∷◌, ◌++◌, map, length, Bool, true, false, not, Some, Result, Ok, Err, refl, sym, ap, ◌∙◌, subst, inl, inr, ⊎_elim, zero, ◌<◌, get_or, set, append_assoc, arith, ◌-◌, ◌+◌, Option, Contains, filter, flat_map, swap, AllByRecursion, AllZip, tied_itself, Equal-is, unwrap_or, is_eq, Less, cases_Bool, flat_map-append, Contains-permutation, IsPermutation-append_right, IsPermutation-filter_both, IsPermutation-refl, IsPermutation-trans, IsPermutation-append_comm, IsPermutation-append_left, IsPermutation-keeps, IsPermutation-map, IsPermutation-sym, IsSet, Data, Binding, fact_cmp, Fact, fact_cmp_exact, fact_cmp_total, Document, IdentifierSays, identifiers, identifiers_in, entries, outcome, Sheet, Refusal, all_facts, first_or_later, first_there, in_one_of_both, later_there, none_there, set_of_is_set, accepted, document_in, merged, Mention, EachFactIsSaid, EachMentionIsTold, EachObjectIsMentioned, IsMentionOf, by_fact, is_of, mentions, mentions_by_fact, mentions_from, mentions_in, mentions_of, Saying, SourcesIgnoreOrder, saying, AreOf, get_or-append-add, length-append, map-append, length-map, SameMembers, body_ignores_order, AllZip-long}
use Rattle.std.specs.List.Sorted.{IsPermutation, IsStrictlySortedBy}
use Rattle.oim_report.specs.Info.{bindings_of, facts_of}
use Rattle.oim_report.proofs.KeyedFacts.{each_fact_has_an_identifier}
use Rattle.oim_merge.proofs.Traces.{mentions_are_of}
use Rattle.std.proofs.lemmas.List.Edits.{swap_is}

-- ---- each object once

abbrev is_other : Fact → Mention → Bool
is_other f m = not (is_of f m)

same_fact : (f : Fact) (m : Mention) → is_of f m ≡ true → m.fact ≡ f
same_fact f m e = fact_cmp_exact m.fact f ((Equal-is (fact_cmp m.fact f)).0 e)

is_fact : (f : Fact) (m : Mention) → m.fact ≡ f → is_of f m ≡ true
is_fact f m e = ap (λ g. is_eq (fact_cmp g f)) e ∙ ap is_eq (tied_itself fact_cmp_total f)

not_both : (f g : Fact) (m : Mention) → fact_cmp f g ≡ Less → is_of g m ≡ true → is_other f m ≡ true
not_both f g m less e = ⊎_elim
    (λ (of_f : is_of f m ≡ true).
    let same : f ≡ g = sym (same_fact f m of_f) ∙ same_fact g m e in
    let tie : is_eq (fact_cmp f g) ≡ true = ap (λ h. is_eq (fact_cmp f h)) (sym same) ∙ ap is_eq (tied_itself fact_cmp_total f) in
    let no : is_eq (fact_cmp f g) ≡ false = ap is_eq less in
    absurd (cc))
    (λ other. ap not other)
    (cases_Bool (is_of f m))

kept_of : (p q : Mention → Bool) → ((m : Mention) → p m ≡ true → q m ≡ true) → (ms : List Mention) → filter p (filter q ms) ≡ filter p ms
kept_of p q weaker [] = refl
kept_of p q weaker (m ∷ ms) = ⊎_elim
    (λ (passes : p m ≡ true). rw (weaker m passes, passes) (ap (λ ns. m ∷ ns) (kept_of p q weaker ms)))
    (λ (fails : p m ≡ false). ⊎_elim (λ (yes : q m ≡ true). rw (yes, fails) (kept_of p q weaker ms)) (λ (no : q m ≡ false). rw (no, fails) (kept_of p q weaker ms)) (cases_Bool (q m)))
    (cases_Bool (p m))

kept_by_fact : (f : Fact) (facts : List Fact) → AllByRecursion (λ g. fact_cmp f g ≡ Less) facts → (ms : List Mention) → by_fact facts (filter (is_other f) ms) ≡ by_fact facts ms
kept_by_fact f [] above ms = refl
kept_by_fact f (g ∷ facts) above ms = λ i. kept_of (is_of g) (is_other f) (λ m. not_both f g m above.0) ms i ++ kept_by_fact f facts above.1 ms i

others_of : (f : Fact) (facts : List Fact) (ms : List Mention) → AreOf (f ∷ facts) ms → AreOf facts (filter (is_other f) ms)
others_of f facts [] h = tt
others_of f facts (m ∷ ms) h = ⊎_elim
    (λ (of_f : is_of f m ≡ true). rw of_f (others_of f facts ms h.1))
    (λ (other : is_of f m ≡ false). rw other (⊎_elim
    (λ is. let of_f : is_of f m ≡ true = is_fact f m (sym is) in absurd (cc))
    (λ at. (at, others_of f facts ms h.1))
    (first_or_later f facts m.fact h.0)))
    (cases_Bool (is_of f m))

pub each_once : (facts : List Fact) (ms : List Mention) → IsSet fact_cmp facts → AreOf facts ms → IsPermutation ms (by_fact facts ms)
unfolding IsStrictlySortedBy
each_once [] [] rise h = IsPermutation-refl []
each_once [] (m ∷ ms) rise h = none_there m.fact h.0
each_once (f ∷ facts) ms rise h =
    let these = filter (is_of f) ms in
    let others = filter (is_other f) ms in
    let rest : IsPermutation others (by_fact facts ms) = subst (IsPermutation others) (kept_by_fact f facts rise.0 ms) (each_once facts others rise.1 (others_of f facts ms h)) in
    IsPermutation-trans ms (these ++ others) (these ++ by_fact facts ms) (IsPermutation-filter_both (is_of f) (is_other f) (λ m. refl) ms) (IsPermutation-append_right these others (by_fact facts ms) rest)

pub each_mention_is_told : EachMentionIsTold
each_mention_is_told sheet reports =
    let set = set_of_is_set fact_cmp_total fact_cmp_exact (all_facts (accepted sheet reports)) in
    each_once (merged sheet reports).facts (mentions sheet reports) set.rises (mentions_are_of sheet reports)

-- ---- each fact of the body

abbrev IsMentioned : List Mention → Fact → Type 0
IsMentioned ms f = (m : Mention) × (Contains ms m × (m.fact ≡ f))

in_zip : (R : List ℕ × Data → Fact → Type 0) (n : ℕ) (objects : List (List ℕ × Data)) (fs : List Fact) → AllZip R objects fs → (f : Fact) → Contains fs f → IsMentioned (mentions_in n (map (λ o. o.0) objects) fs) f
in_zip R n [] (g ∷ fs) zip f at = absurd zip
in_zip R n (o ∷ objects) (g ∷ fs) zip f at =
    let this : Mention = record { report = n; identifier = o.0; fact = g } in
    let later = mentions_in n (map (λ o. o.0) objects) fs in
    ⊎_elim
    (λ is. (this, (first_there this later, is)))
    (λ behind. let found = in_zip R n objects fs zip.1 f behind in (found.0, (later_there this later found.0 found.1.0, found.1.1)))
    (first_or_later g fs f at)
in_zip R n objects [] zip f at = none_there f at

in_accepted : (n : ℕ) (sheet : Sheet) (bytes : List ℕ) (d : Document) → outcome sheet bytes ≡ Ok d → (f : Fact) → Contains d.facts f → IsMentioned (mentions_of n (identifiers bytes) (Ok d)) f
in_accepted n sheet bytes d is f at =
    let has = each_fact_has_an_identifier sheet bytes d is in
    let found = in_zip _ n _ d.facts has.2.say f at in
    subst (λ o. IsMentioned (mentions_of n o (Ok d)) f) (sym has.1)
    (subst (λ ids. IsMentioned (mentions_in n ids d.facts) f) has.2.are found)

in_outcome : (n : ℕ) (sheet : Sheet) (bytes : List ℕ) (o : Result Document Refusal) → outcome sheet bytes ≡ o → (f : Fact) → Contains (all_facts (document_in o)) f → IsMentioned (mentions_of n (identifiers bytes) o) f
in_outcome n sheet bytes (Ok d) is f at = in_accepted n sheet bytes d is f (⊎_elim (λ here. here) (none_there f) ((in_one_of_both d.facts [] f).0 at))
in_outcome n sheet bytes (Err r) is f at = none_there f at

mentioned : (n : ℕ) (sheet : Sheet) (reports : List (List ℕ)) (f : Fact) → Contains (all_facts (accepted sheet reports)) f → IsMentioned (mentions_from n sheet reports) f
mentioned n sheet [] f at = none_there f at
mentioned n sheet (report ∷ reports) f at =
    let these = document_in (outcome sheet report) in
    let first = mentions_of n (identifiers report) (outcome sheet report) in
    let later = mentions_from (suc n) sheet reports in
    let split : all_facts (accepted sheet (report ∷ reports)) ≡ all_facts these ++ all_facts (accepted sheet reports) = flat_map-append (λ (d : Document). d.facts) these (accepted sheet reports) in
    ⊎_elim
    (λ here. let found = in_outcome n sheet report (outcome sheet report) refl f here in (found.0, ((in_one_of_both first later found.0).1 (inl found.1.0), found.1.1)))
    (λ there. let found = mentioned (suc n) sheet reports f there in (found.0, ((in_one_of_both first later found.0).1 (inr found.1.0), found.1.1)))
    ((in_one_of_both (all_facts these) (all_facts (accepted sheet reports)) f).0 (subst (λ fs. Contains fs f) split at))

pub each_fact_is_said : EachFactIsSaid
each_fact_is_said sheet reports f at =
    let set = set_of_is_set fact_cmp_total fact_cmp_exact (all_facts (accepted sheet reports)) in
    let found = mentioned 1 sheet reports f ((set.members f).0 at) in
    record {
      mention = found.0;
      there = Contains-permutation (mentions sheet reports) (mentions_by_fact sheet reports) found.0 (each_mention_is_told sheet reports) found.1.0;
      of_fact = found.1.1;
    }

-- ---- an accepted report has as many identifiers as facts

pub as_many : (sheet : Sheet) (bytes : List ℕ) (d : Document) (is : List (List ℕ)) → outcome sheet bytes ≡ Ok d → identifiers bytes ≡ Some is → length is ≡ length d.facts
as_many sheet bytes d is accepted e =
    let has = each_fact_has_an_identifier sheet bytes d accepted in
    let same : is ≡ has.0 = ap (λ o. unwrap_or o is) (sym e ∙ has.1) in
    ap length same ∙ ap length (sym has.2.are) ∙ length-map _ _ ∙ sym (AllZip-long _ _ d.facts has.2.say)

-- ---- each fact object

mentioned_in : (sheet : Sheet) (bs : List Binding) (n : ℕ) (objects : List (List ℕ × Data)) (fs : List Fact) → AllZip (IdentifierSays sheet bs) objects fs → AllZip (IsMentionOf sheet bs n) objects (mentions_in n (identifiers_in objects) fs)
mentioned_in sheet bs n [] fs zip = tt
mentioned_in sheet bs n (o ∷ objects) [] zip = absurd zip
mentioned_in sheet bs n (o ∷ objects) (f ∷ fs) zip = (record { report = refl; identifier = refl; says = zip.0 }, mentioned_in sheet bs n objects fs zip.1)

pub each_object_is_mentioned : EachObjectIsMentioned
each_object_is_mentioned sheet n bytes d tree accepted read =
    let has = each_fact_has_an_identifier sheet bytes d accepted in
    let said = has.2.tree in
    let same : said ≡ tree = ap (λ o. unwrap_or o said) (sym has.2.read ∙ read) in
    let told : AllZip (IsMentionOf sheet (bindings_of said) n) (entries (facts_of said)) (mentions_in n has.0 d.facts) =
    subst (λ ids. AllZip (IsMentionOf sheet (bindings_of said) n) (entries (facts_of said)) (mentions_in n ids d.facts)) has.2.are (mentioned_in sheet (bindings_of said) n (entries (facts_of said)) d.facts has.2.say) in
    subst (λ t. AllZip (IsMentionOf sheet (bindings_of t) n) (entries (facts_of t)) (mentions_of n (identifiers bytes) (outcome sheet bytes))) same
    (subst (λ ms. AllZip (IsMentionOf sheet (bindings_of said) n) (entries (facts_of said)) ms)
    (sym ((λ i. mentions_of n (has.1 i) (accepted i)))) told)

-- ---- permuting a list permutes the concatenation of its images

exchanged : {B : Type 0} (us vs ws : List B) → IsPermutation (us ++ (vs ++ ws)) (vs ++ (us ++ ws))
exchanged us vs ws =
    let both : IsPermutation ((us ++ vs) ++ ws) ((vs ++ us) ++ ws) = IsPermutation-append_left ws (us ++ vs) (vs ++ us) (IsPermutation-append_comm us vs) in
    subst (λ l. IsPermutation l (vs ++ (us ++ ws))) (append_assoc us vs ws) (subst (IsPermutation ((us ++ vs) ++ ws)) (append_assoc vs us ws) both)

module _ {A B : Type 0} (f : A → List B) where
  -- swapping the first element with a later one permutes the concatenation
  put_first : (x d : A) (xs : List A) (j : ℕ) → j < length xs → IsPermutation (f x ++ flat_map f xs) (f (get_or xs j d) ++ flat_map f (set xs j x))
  put_first x d [] j h = absurd (omega (arith, h))
  put_first x d (z ∷ zs) zero h = exchanged (f x) (f z) (flat_map f zs)
  put_first x d (z ∷ zs) (suc j) h =
      let here = f x ++ (f z ++ flat_map f zs) in
      let middle = f z ++ (f x ++ flat_map f zs) in
      let moved = f z ++ (f (get_or zs j d) ++ flat_map f (set zs j x)) in
      let there = f (get_or zs j d) ++ (f z ++ flat_map f (set zs j x)) in
      IsPermutation-trans here middle there (exchanged (f x) (f z) (flat_map f zs))
      (IsPermutation-trans middle moved there
      (IsPermutation-append_right (f z) (f x ++ flat_map f zs) (f (get_or zs j d) ++ flat_map f (set zs j x)) (put_first x d zs j (omega (arith, h))))
      (exchanged (f z) (f (get_or zs j d)) (flat_map f (set zs j x))))

  swapped : (d : A) (l : List A) (i j : ℕ) → i < length l → j < length l → IsPermutation (flat_map f l) (flat_map f (set (set l i (get_or l j d)) j (get_or l i d)))
  swapped d [] i j p q = absurd (omega (arith, p))
  swapped d (x ∷ xs) zero zero p q = IsPermutation-refl (f x ++ flat_map f xs)
  swapped d (x ∷ xs) zero (suc j) p q = put_first x d xs j (omega (arith, q))
  swapped d (x ∷ xs) (suc i) zero p q = put_first x d xs i (omega (arith, p))
  swapped d (x ∷ xs) (suc i) (suc j) p q =
      IsPermutation-append_right (f x) (flat_map f xs) (flat_map f (set (set xs i (get_or xs j d)) j (get_or xs i d))) (swapped d xs i j (omega (arith, p)) (omega (arith, q)))

  by_swap : (l : List A) (i j : ℕ) → i < length l → j < length l → IsPermutation (flat_map f l) (flat_map f (swap l i j))
  by_swap [] i j p q = absurd (omega (arith, p))
  by_swap (x ∷ xs) i j p q =
      subst (λ m. IsPermutation (flat_map f (x ∷ xs)) (flat_map f m)) (swap_is (x ∷ xs) i j x p q) (swapped x (x ∷ xs) i j p q)

  pub reordered : (xs ys : List A) → IsPermutation xs ys → IsPermutation (flat_map f xs) (flat_map f ys)
  reordered xs ys moved = IsPermutation-keeps xs (λ l. IsPermutation (flat_map f xs) (flat_map f l)) (IsPermutation-refl (flat_map f xs))
      (λ l i j p q h. IsPermutation-trans (flat_map f xs) (flat_map f l) (flat_map f (swap l i j)) h (by_swap l i j p q)) ys moved

-- ---- reordered reports

-- a mention with the bytes of its report
abbrev said_in : List ℕ → Mention → Saying
said_in bytes m = record { bytes = bytes; identifier = m.identifier; fact = m.fact }

abbrev sayings_of : Sheet → List ℕ → List Saying
sayings_of sheet bytes = map (said_in bytes) (mentions_of 0 (identifiers bytes) (outcome sheet bytes))

module _ (reports : List (List ℕ)) (bytes : List ℕ) (n : ℕ) (here : get_or reports (n - 1) [] ≡ bytes) where
  in_report : (is : List (List ℕ)) (fs : List Fact) → map (saying reports) (mentions_in n is fs) ≡ map (said_in bytes) (mentions_in 0 is fs)
  in_report (i ∷ is) (f ∷ fs) = λ k. (record { bytes = here k; identifier = i; fact = f }) ∷ in_report is fs k
  in_report is fs = refl

  of_report : (is : Option (List (List ℕ))) (o : Result Document Refusal) → map (saying reports) (mentions_of n is o) ≡ map (said_in bytes) (mentions_of 0 is o)
  of_report (Some is) (Ok d) = in_report is d.facts
  of_report is o = refl

of_reports : (sheet : Sheet) (done rest : List (List ℕ)) (n : ℕ) → n ≡ suc (length done) → map (saying (done ++ rest)) (mentions_from n sheet rest) ≡ flat_map (sayings_of sheet) rest
of_reports sheet done [] n count = refl
of_reports sheet done (bytes ∷ rest) n count =
    let reports = done ++ (bytes ∷ rest) in
    let first = mentions_of n (identifiers bytes) (outcome sheet bytes) in
    let later = mentions_from (suc n) sheet rest in
    let index : n - 1 ≡ length done + 0 = omega (arith, count) in
    let here : get_or reports (n - 1) [] ≡ bytes = ap (λ k. get_or reports k []) index ∙ get_or-append-add done (bytes ∷ rest) 0 [] in
    let next = of_reports sheet (done ++ bytes ∷ []) rest (suc n) (omega (arith, count, length-append done (bytes ∷ []))) in
    let rest_of : map (saying reports) later ≡ flat_map (sayings_of sheet) rest = ap (λ l. map (saying l) later) (sym (append_assoc done (bytes ∷ []) rest)) ∙ next in
    map-append (saying reports) first later ∙ (λ k. of_report reports bytes n here (identifiers bytes) (outcome sheet bytes) k ++ rest_of k)

sayings : (sheet : Sheet) (reports : List (List ℕ)) → IsPermutation (flat_map (sayings_of sheet) reports) (map (saying reports) (mentions_by_fact sheet reports))
sayings sheet reports =
    let told = map (saying reports) (mentions_by_fact sheet reports) in
    subst (λ l. IsPermutation l told) (of_reports sheet [] reports 1 refl) (IsPermutation-map (saying reports) _ _ (each_mention_is_told sheet reports))

same_members : {A : Type 0} (xs ys : List A) → IsPermutation xs ys → SameMembers xs ys
same_members xs ys moved x = (Contains-permutation xs ys x moved, Contains-permutation ys xs x (IsPermutation-sym xs ys moved))

pub sources_ignore_order : SourcesIgnoreOrder
sources_ignore_order sheet reports others moved =
    let documents = reordered (λ bytes. document_in (outcome sheet bytes)) reports others moved in
    let these = flat_map (sayings_of sheet) reports in
    let those = flat_map (sayings_of sheet) others in
    let told = map (saying reports) (mentions_by_fact sheet reports) in
    let other = map (saying others) (mentions_by_fact sheet others) in
    record {
      facts = ap (λ b. b.facts) (body_ignores_order (accepted sheet reports) (accepted sheet others) (same_members _ _ documents));
      sayings = IsPermutation-trans told these other (IsPermutation-sym these told (sayings sheet reports))
          (IsPermutation-trans these those other (reordered (sayings_of sheet) reports others moved) (sayings sheet others));
    }
