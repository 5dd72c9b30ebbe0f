-- Reports that are added one at a time, with the mentions in them and the texts of the mentions.
use Rattle.oim_merge.proofs.Shared.{◌≡◌, ◌⊎◌, ℕ, suc, List, [], ◌∷◌, ◌++◌, Option, Some, Result, Ok, sym, subst, inl, inr, ◌+◌, length, ap, ◌∙◌, append-nil, append_assoc, arith, ◌<◌, take, get_or, drop, Err, refl, add-one, Contains, flat_map, flat_map-append, Fact, fact_cmp_exact, fact_cmp_total, Document, identifiers, outcome, Sheet, Refusal, all_facts, first_there, in_one_of_both, later_there, set_of_is_set, accepted, document_in, merged, Mention, mentions, mentions_from, mentions_in, mentions_of, SourceText, by_fact, mention_text, AreOf, all_indexed, index, indexed, take_more, drop_more, take-append-drop, Added, added, with_report, Traced, TracedStepsAreList, traced, with_all_traced, with_traced, flat_map-map, Contents, padded, width, AppendsFront, written_of, failures_after_fault, WriteFault, OutOfMemory, Device, indexed_text, fault_of, failures_after_run, MentionsStop, mention_texts, IndexedMention}
use Rattle.std.proofs.Permutation.{every_append}
use Rattle.oim_merge.specs.code.Traces.{AreTraced}
use Rattle.oim_merge.proofs.Reports.{added_more}

-- ---- the facts mentioned by accepted reports are exactly the facts of the merged body

module _ (facts : List Fact) where
  in_report : (n : ℕ) (is : List (List ℕ)) (fs : List Fact) → ((f : Fact) → Contains fs f → Contains facts f) → AreOf facts (mentions_in n is fs)
  in_report n (i ∷ is) (f ∷ fs) there = (there f (first_there f fs), in_report n is fs (λ g at. there g (later_there f fs g at)))
  in_report n is fs there = tt

  of_report : (n : ℕ) (is : Option (List (List ℕ))) (o : Result Document Refusal) → ((f : Fact) → Contains (all_facts (document_in o)) f → Contains facts f) → AreOf facts (mentions_of n is o)
  of_report n (Some is) (Ok d) there = in_report n is d.facts (λ f at. there f ((in_one_of_both d.facts [] f).1 (inl at)))
  of_report n is o there = tt

  all_of : (n : ℕ) (sheet : Sheet) (reports : List (List ℕ)) → ((f : Fact) → Contains (all_facts (accepted sheet reports)) f → Contains facts f) → AreOf facts (mentions_from n sheet reports)
  all_of n sheet [] there = tt
  all_of n sheet (report ∷ reports) there =
      let these = document_in (outcome sheet report) in
      let split : all_facts (accepted sheet (report ∷ reports)) ≡ all_facts these ++ all_facts (accepted sheet reports) = flat_map-append (λ (d : Document). d.facts) these (accepted sheet reports) in
      let in_both : (f : Fact) → (Contains (all_facts these) f ⊎ Contains (all_facts (accepted sheet reports)) f) → Contains facts f
      = λ f at. there f (subst (λ fs. Contains fs f) (sym split) ((in_one_of_both (all_facts these) (all_facts (accepted sheet reports)) f).1 at)) in
      every_append (λ (m : Mention). Contains facts m.fact) (mentions_of n (identifiers report) (outcome sheet report)) (mentions_from (suc n) sheet reports)
      (of_report n (identifiers report) (outcome sheet report) (λ f at. in_both f (inl at)))
      (all_of (suc n) sheet reports (λ f at. in_both f (inr at)))

pub mentions_are_of : (sheet : Sheet) (reports : List (List ℕ)) → AreOf (merged sheet reports).facts (mentions sheet reports)
mentions_are_of sheet reports =
    let set = set_of_is_set fact_cmp_total fact_cmp_exact (all_facts (accepted sheet reports)) in
    all_of (merged sheet reports).facts 1 sheet reports (λ f at. (set.members f).1 at)

-- ---- loops that collect mentions

-- the mentions in reports, followed by those in one more report
pub mentions_push : (n : ℕ) (sheet : Sheet) (reports : List (List ℕ)) (bytes : List ℕ) → mentions_from n sheet reports ++ mentions_of (length reports + n) (identifiers bytes) (outcome sheet bytes) ≡ mentions_from n sheet (reports ++ bytes ∷ [])
mentions_push n sheet [] bytes =
    let same : 0 + n ≡ n = omega arith in
    ap (λ k. mentions_of k (identifiers bytes) (outcome sheet bytes)) same ∙ sym (append-nil (mentions_of n (identifiers bytes) (outcome sheet bytes)))
mentions_push n sheet (b ∷ bs) bytes =
    let next : length (b ∷ bs) + n ≡ length bs + suc n = omega arith in
    let first = mentions_of n (identifiers b) (outcome sheet b) in
    ap (λ k. mentions_from n sheet (b ∷ bs) ++ mentions_of k (identifiers bytes) (outcome sheet bytes)) next
    ∙ append_assoc first (mentions_from (suc n) sheet bs) (mentions_of (length bs + suc n) (identifiers bytes) (outcome sheet bytes))
    ∙ ap (λ ms. first ++ ms) (mentions_push (suc n) sheet bs bytes)

-- one loop step adds the mention in the next fact object
pub mention_more : (n : ℕ) (i own : List ℕ) (f fact : Fact) (is left : List (List ℕ)) (fs said : List Fact) (before after : List Mention) {whole : List Mention}
    → left ≡ i ∷ is → said ≡ f ∷ fs
    → own ≡ i → fact ≡ f
    → after ≡ before ++ (record { report = n; identifier = own; fact = fact }) ∷ []
    → before ++ mentions_in n left said ≡ whole
    → after ++ mentions_in n is fs ≡ whole
mention_more n i own f fact is left fs said before after here there own_is fact_is added all =
    ap (λ ms. ms ++ mentions_in n is fs) (added ∙ (λ k. before ++ (record { report = n; identifier = own_is k; fact = fact_is k }) ∷ []))
    ∙ append_assoc before ((record { report = n; identifier = i; fact = f }) ∷ []) (mentions_in n is fs)
    ∙ (λ k. before ++ mentions_in n (sym here k) (sym there k))
    ∙ all

-- ---- one more report

-- each mentioned fact is in the body
pub traced_are_of : (a : Added) (ms : List Mention) → AreTraced a ms → AreOf a.body.facts ms
traced_are_of a ms h =
    subst (AreOf a.body.facts) (sym h.mentions_are)
    (subst (λ (b : Added). AreOf b.body.facts (mentions a.sheet h.reports)) (sym h.added_are) (mentions_are_of a.sheet h.reports))

-- one more report
pub are_traced_more : (a new : Added) (ms all : List Mention) (bytes : List ℕ) → AreTraced a ms → new ≡ with_report a bytes
    → all ≡ ms ++ mentions_of (a.reports + 1) (identifiers bytes) (outcome a.sheet bytes) → AreTraced new all
are_traced_more a new ms all bytes h is all_is =
    let reports = h.reports ++ bytes ∷ [] in
    let count : a.reports ≡ length h.reports = ap (λ (b : Added). b.reports) h.added_are in
    let sheet : a.sheet ≡ new.sheet = sym (ap (λ (b : Added). b.sheet) is) in
    record {
      reports = reports;
      added_are = is ∙ ap (λ b. with_report b bytes) h.added_are ∙ added_more a.sheet h.reports bytes ∙ ap (λ s. added s reports) sheet;
      mentions_are = all_is ∙ (λ i. h.mentions_are i ++ mentions_of (count i + 1) (identifiers bytes) (outcome a.sheet bytes))
          ∙ mentions_push 1 a.sheet h.reports bytes ∙ ap (λ s. mentions s reports) sheet;
    }

traced_more : (sheet : Sheet) (reports : List (List ℕ)) (bytes : List ℕ) → with_traced (traced sheet reports) bytes ≡ traced sheet (reports ++ bytes ∷ [])
traced_more sheet reports bytes = λ i. record { added = added_more sheet reports bytes i; mentions = mentions_push 1 sheet reports bytes i }

traced_then : (sheet : Sheet) (reports others : List (List ℕ)) → with_all_traced (traced sheet reports) others ≡ traced sheet (reports ++ others)
traced_then sheet reports [] = sym (ap (traced sheet) (append-nil reports))
traced_then sheet reports (bytes ∷ others) =
    ap (λ t. with_all_traced t others) (traced_more sheet reports bytes)
    ∙ traced_then sheet (reports ++ bytes ∷ []) others
    ∙ ap (traced sheet) (append_assoc reports (bytes ∷ []) others)

pub traced_steps_are_list : TracedStepsAreList
traced_steps_are_list sheet reports = traced_then sheet [] reports

-- a step of a loop over reports
pub traced_step : (sheet : Sheet) (reports : List (List ℕ)) (i : ℕ) (r bytes : List ℕ) (t new : Traced) → i < length reports → r ≡ get_or reports i r → bytes ≡ r → new ≡ with_traced t bytes
    → t ≡ traced sheet (take i reports) → new ≡ traced sheet (take (i + 1) reports)
traced_step sheet reports i r bytes t new within at read stepped is =
    stepped ∙ (λ k. with_traced (is k) (read k)) ∙ traced_more sheet (take i reports) r
    ∙ ap (traced sheet) (ap (λ b. take i reports ++ b ∷ []) at ∙ sym (take_more reports i r within))

-- ---- the text of a list of lines, split at any line

module _ {A : Type 0} (line : A → List ℕ) (xs : List A) (i : ℕ) (x : A) (written : List ℕ) (within : i < length xs) (is : x ≡ get_or xs i x) (this : written ≡ line x) where
  pub lines_more : flat_map line (take i xs) ++ written ≡ flat_map line (take (i + 1) xs)
  lines_more =
      ap (λ t. flat_map line (take i xs) ++ t) (this ∙ sym (append-nil (line x)))
      ∙ sym (flat_map-append line (take i xs) (x ∷ []))
      ∙ ap (flat_map line) (ap (λ y. take i xs ++ y ∷ []) is ∙ sym (take_more xs i x within))

  pub lines_left : flat_map line (take i xs) ++ (written ++ flat_map line (drop (i + 1) xs)) ≡ flat_map line xs
  lines_left =
      ap (λ t. flat_map line (take i xs) ++ (t ++ flat_map line (drop (i + 1) xs))) this
      ∙ sym (flat_map-append line (take i xs) (x ∷ drop (i + 1) xs))
      ∙ ap (flat_map line) (ap (λ y. take i xs ++ y ∷ drop (i + 1) xs) is ∙ ap (λ ys. take i xs ++ ys) (sym (drop_more xs i x within)) ∙ take-append-drop i xs)

-- ---- texts of mentions

module _ (written : SourceText) where
  same_text : (facts : List Fact) (m : Mention) → indexed_text written (length facts) (indexed facts m) ≡ mention_text written facts m
  same_text facts m = ap (λ k. written (102 ∷ padded (width (length facts)) k) m.report m.identifier) (add-one (index facts m.fact))

  sources_are : (facts : List Fact) (ms : List Mention) (count : ℕ) → count ≡ length facts → flat_map (indexed_text written count) (all_indexed facts ms) ≡ flat_map (mention_text written facts) ms
  sources_are facts ms count is =
      ap (λ n. flat_map (indexed_text written n) (all_indexed facts ms)) is
      ∙ flat_map-map (indexed_text written (length facts)) (indexed facts) ms
      ∙ (λ i. flat_map (λ m. same_text facts m i) ms)

  -- the texts of the indexed mentions, in the order of their facts, are the texts of the mentions
  pub texts_are : (t told : Traced) (base : Contents) (count : ℕ) (ms : List IndexedMention) → base ≡ record { sheet = t.added.sheet; body = t.added.body } → count ≡ length base.body.facts →
      ms ≡ all_indexed base.body.facts (by_fact base.body.facts t.mentions) → t ≡ told → flat_map (indexed_text written count) ms ≡ mention_texts written told
  texts_are t told base count ms is count_is indexed_are told_is =
      ap (flat_map (indexed_text written count)) indexed_are
      ∙ sources_are base.body.facts (by_fact base.body.facts t.mentions) count count_is
      ∙ (λ i. flat_map (mention_text written (is i).body.facts) (by_fact (is i).body.facts t.mentions))
      ∙ ap (mention_texts written) told_is

-- a fault occurred after a first part of the header and the texts was appended
pub stops_at : (header : List ℕ) (written : SourceText) (t : Traced) {old new : Option (List ℕ)} {text : List ℕ} (fault : WriteFault) →
    text ≡ header ++ mention_texts written t → AppendsFront old new text (written_of fault) → MentionsStop header written t old new (fault_of fault)
stops_at header written t {old} {new} (OutOfMemory n) is front = subst (λ x. AppendsFront old new x n) is front
stops_at header written t {old} {new} (Device n) is front = subst (λ x. AppendsFront old new x n) is front

pub same_failures : (T : Type 0) (fault : WriteFault) (n : ℕ) → failures_after_fault fault n ≡ failures_after_run {T = T} (Err (fault_of fault)) n
same_failures T (OutOfMemory w) n = refl
same_failures T (Device w) n = refl
