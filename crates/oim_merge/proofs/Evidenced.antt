-- Evidence exists and is unique for each dimension set of a body that fits a sheet.
use Rattle.oim_merge.proofs.Shared.{◌≡◌, ◌≢◌, ℕ, ◌<◌, ◌≤◌, Bool, true, false, List, [], ◌∷◌, length, Option, Some, None, ◌++◌, inl, inr, refl, sym, ap, subst, ◌∙◌, arith, All-contains, true≢false, Contains, codes, slice_get, ◌≤ℤ◌, if◌then◌else◌, unwrap_or, get_or_from_slice_get, slice_get_within, Summarised, summary_of_all, value_cmp, Value, Nil, Number, AText, AName, DimensionSet, Fact, Body, facts_with, Fits, FactFits, IsSet, Sheet, Row, rows_of, values_at, IsCommonOf, IsEvidence, IsPairOf, begin_with_numbers, each_meet, verdict, verdict_of, Evidence, Alike, Common, Apart, each_by_there, in_flat_map, some_there, rows_tell_facts, LinesTellVerdicts, WordsShowVerdicts, verdict_shown, row_facts, rows_facts_are}
use Rattle.std.proofs.lemmas.Int.{ints}
use Rattle.oim_value.specs.Ends.{intervals_of}
use Rattle.oim_value.specs.Meets.{Meets}
use Rattle.oim_value.specs.Plain.{plain}
use Rattle.oim_value.specs.SeveralMeet.{AreApart, EachTwoValuesMeet, index_of_greatest_low, index_of_least_high}
use Rattle.oim_value.specs.declared.interval.Interval.{Interval}
use Rattle.oim_value.proofs.Ends.{ends_exist, one_number}
use Rattle.oim_value.proofs.Meeting.{meets_is_reflexive}
use Rattle.oim_value.proofs.SeveralMeet.{each_two_meet_by_members}
use Rattle.fact_base.specs.code.Entries.{EntryFits}
use Rattle.fact_base.specs.code.Judged.{AreSummarised, shared_by}
use Rattle.fact_base.specs.declared.verdict.Verdict.TheVariants.{Complete, Consistent, Inconsistent}
use Rattle.fact_base.proofs.Fitting.{entry_summarised}
use Rattle.fact_base.proofs.Verdicts.{inconsistent_is_apart}
use Rattle.fact_base.proofs.Summaries.{crossed_are_apart, nil_is_apart, no_number_is_apart, shared_is_common}

-- the values of a dimension set are distinct and sorted, and those that are not nil are of one kind
summarised : (sheet : Sheet) (b : Body) → Fits sheet b → (r : Row) → Contains (rows_of b.facts) r → AreSummarised r.1 (summary_of_all r.1)
summarised sheet b fits r at =
    let are = rows_tell_facts b.facts fits.rises.facts in
    let entry : EntryFits sheet r.0 (r.1, summary_of_all r.1) = record {
      some = All-contains (λ q. q.1 ≢ []) (rows_of b.facts) r are.some at;
      in_order = All-contains (λ q. IsSet value_cmp q.1) (rows_of b.facts) r are.in_order at;
      summary = refl;
      facts = each_by_there (FactFits sheet) (facts_with r.0 r.1) (λ f there. All-contains (FactFits sheet) b.facts f fits.facts
          (subst (λ fs. Contains fs f) (rows_facts_are b.facts) ((in_flat_map row_facts (rows_of b.facts) f).1 (some_there (λ q. Contains (row_facts q) f) (rows_of b.facts) r at there))));
    } in
    entry_summarised sheet r.0 (r.1, summary_of_all r.1) entry

abbrev SomeEvidence : List Value → Type 0
SomeEvidence vs = (e : Evidence) × IsEvidence vs e

several_shown : (vs : List Value) (s : Summarised) → AreSummarised vs s → 2 ≤ length vs → SomeEvidence vs
several_shown vs s h several = by_shared (shared_by s) refl
  where
    by_nil : shared_by s ≡ None → (ends : Interval) → s.ends ≡ Some ends → (b : Bool) → s.nil ≡ b → SomeEvidence vs
    by_nil none ends is false without = (Apart (index_of_least_high ends vs) (index_of_greatest_low ends vs), crossed_are_apart vs s h several ends is without none)
    by_nil none ends is true with_nil = (Apart 0 1, nil_is_apart vs s h several with_nil)

    by_ends : shared_by s ≡ None → (ends : Option Interval) → s.ends ≡ ends → SomeEvidence vs
    by_ends none None is = (Apart 0 1, no_number_is_apart vs s h several is)
    by_ends none (Some ends) is = by_nil none ends is s.nil refl

    by_shared : (shared : Option Interval) → shared_by s ≡ shared → SomeEvidence vs
    by_shared (Some common) is = (Common common, shared_is_common vs s h several common is)
    by_shared None is = by_ends is s.ends refl

shown_by : (vs : List Value) (s : Summarised) → AreSummarised vs s → SomeEvidence vs
shown_by [] s h = absurd (h.some refl)
shown_by (v ∷ []) s h = (Alike, refl)
shown_by (v ∷ w ∷ vs) s h = several_shown (v ∷ w ∷ vs) s h (omega arith)

pub evidence_exists : (sheet : Sheet) (b : Body) → Fits sheet b → (r : Row) → Contains (rows_of b.facts) r → (e : Evidence) × IsEvidence r.1 e
evidence_exists sheet b fits r at = shown_by r.1 (summary_of_all r.1) (summarised sheet b fits r at)

-- ---- the evidence is unique

stands : (vs : List Value) (i : ℕ) (v : Value) → slice_get vs i ≡ Some v → Contains vs v
stands vs i v is = (i, slice_get_within vs i v is, get_or_from_slice_get vs i v v is)

one_not_apart : (vs : List Value) (i j : ℕ) → length vs ≡ 1 → ¬ (AreApart vs i j)
one_not_apart vs i j one apart =
    let i_first : i ≡ 0 = omega (arith, one, slice_get_within vs i apart.first apart.first_there) in
    let j_first : j ≡ 0 = omega (arith, one, slice_get_within vs j apart.second apart.second_there) in
    let same : apart.first ≡ apart.second = ap (λ o. unwrap_or o apart.first) (sym apart.first_there ∙ ap (slice_get vs) (i_first ∙ sym j_first) ∙ apart.second_there) in
    apart.apart (subst (Meets apart.first) same (meets_is_reflexive apart.first))

none_apart : (vs : List Value) (i j : ℕ) → EachTwoValuesMeet vs → ¬ (AreApart vs i j)
none_apart vs i j each apart =
    apart.apart ((each_two_meet_by_members vs).0 each apart.first apart.second (stands vs i apart.first apart.first_there) (stands vs j apart.second apart.second_there))

low_within : (vs : List Value) (a b : Interval) → IsCommonOf vs a → IsCommonOf vs b → b.low ≤ℤ a.low
low_within vs a b first second = ((second.within a.low).1 ((first.within a.low).0 (record { above = omega (arith, ints); below = first.points }))).above

high_within : (vs : List Value) (a b : Interval) → IsCommonOf vs a → IsCommonOf vs b → a.high ≤ℤ b.high
high_within vs a b first second = ((second.within a.high).1 ((first.within a.high).0 (record { above = first.points; below = omega (arith, ints) }))).below

one_common : (vs : List Value) (a b : Interval) → IsCommonOf vs a → IsCommonOf vs b → a ≡ b
one_common vs a b first second =
    let low : a.low ≡ b.low = one_number (low_within vs b a second first) (low_within vs a b first second) in
    let high : a.high ≡ b.high = one_number (high_within vs a b first second) (high_within vs b a second first) in
    λ i. record { low = low i; high = high i }

some_intervals : (vs : List Value) → begin_with_numbers vs ≡ true → 0 < length (intervals_of vs)
some_intervals [] is = absurd (true≢false (sym is))
some_intervals (v ∷ []) is = absurd (true≢false (sym is))
some_intervals (Number units decimals ∷ w ∷ vs) is = omega arith
some_intervals (Nil ∷ w ∷ vs) is = absurd (true≢false (sym is))
some_intervals (AText t ∷ w ∷ vs) is = absurd (true≢false (sym is))
some_intervals (AName n ∷ w ∷ vs) is = absurd (true≢false (sym is))

one_pair : (vs : List Value) (b : Bool) → begin_with_numbers vs ≡ b → (i j k l : ℕ) → IsPairOf b vs i j → IsPairOf b vs k l → (i ≡ k) × (j ≡ l)
one_pair vs false is i j k l first second = (first.0 ∙ sym second.0, first.1 ∙ sym second.1)
one_pair vs true is i j k l first second =
    let ends = ends_exist (intervals_of vs) (some_intervals vs is) in
    let here = first ends.0 ends.1 in
    let there = second ends.0 ends.1 in
    (here.0 ∙ sym there.0, here.1 ∙ sym there.1)

pub one_evidence : (vs : List Value) (e f : Evidence) → IsEvidence vs e → IsEvidence vs f → e ≡ f
one_evidence vs Alike Alike h g = refl
one_evidence vs Alike (Common c) h g = absurd (omega (arith, h, g.several))
one_evidence vs Alike (Apart i j) h g = absurd (one_not_apart vs i j h g.apart)
one_evidence vs (Common c) Alike h g = absurd (omega (arith, g, h.several))
one_evidence vs (Common c) (Common d) h g = ap (λ x. Common x) (one_common vs c d h g)
one_evidence vs (Common c) (Apart i j) h g = absurd (none_apart vs i j h.each g.apart)
one_evidence vs (Apart i j) Alike h g = absurd (one_not_apart vs i j g h.apart)
one_evidence vs (Apart i j) (Common c) h g = absurd (none_apart vs i j g.each h.apart)
one_evidence vs (Apart i j) (Apart k l) h g = let same = one_pair vs (begin_with_numbers vs) refl i j k l h.shown g.shown in λ n. Apart (same.0 n) (same.1 n)

-- ---- verdicts

alone : (vs : List Value) → length vs ≡ 1 → verdict_of vs ≡ Some Complete
alone [] one = absurd (omega (arith, one))
alone (v ∷ []) one = refl
alone (v ∷ w ∷ vs) one = absurd (omega (arith, one))

unless_inconsistent : (vs : List Value) → 2 ≤ length vs → ¬ (verdict_of vs ≡ Some Inconsistent) → verdict_of vs ≡ Some Consistent
unless_inconsistent [] several not = absurd (omega (arith, several))
unless_inconsistent (v ∷ []) several not = absurd (omega (arith, several))
unless_inconsistent (v ∷ w ∷ vs) several not = by_test (each_meet (v ∷ w ∷ vs)) not
  where
    by_test : (meet : Bool) → ¬ (Some (if meet then Consistent else Inconsistent) ≡ Some Inconsistent) → Some (if meet then Consistent else Inconsistent) ≡ Some Consistent
    by_test true not = refl
    by_test false not = absurd (not refl)

evidence_shows : (facts : List Fact) (s : DimensionSet) (e : Evidence) → IsEvidence (values_at s facts) e → verdict facts s ≡ Some (verdict_shown e)
evidence_shows facts s Alike is = alone (values_at s facts) is
evidence_shows facts s (Common c) is =
    unless_inconsistent (values_at s facts) is.several (λ inconsistent.
    let apart = (inconsistent_is_apart facts s).0 inconsistent in
    apart.2.1.1 ((each_two_meet_by_members (values_at s facts)).0 is.each apart.0 apart.1 apart.2.0 apart.2.1.0))
evidence_shows facts s (Apart i j) is =
    let vs = values_at s facts in
    (inconsistent_is_apart facts s).1 (is.apart.first, is.apart.second, (stands vs i is.apart.first is.apart.first_there, (stands vs j is.apart.second is.apart.second_there, is.apart.apart)))

pub lines_tell_verdicts : LinesTellVerdicts
lines_tell_verdicts sheet b fits r at number line is =
    let values = All-contains (λ (q : Row). q.1 ≡ values_at q.0 b.facts) (rows_of b.facts) r (rows_tell_facts b.facts fits.rises.facts).values at in
    evidence_shows b.facts r.0 is.evidence (subst (λ vs. IsEvidence vs is.evidence) values is.shows)

pub words_show_verdicts : WordsShowVerdicts
words_show_verdicts name Alike = inl refl
words_show_verdicts name (Common c) = inr (codes "common " ++ (plain c.low ++ 32 ∷ plain c.high), refl)
words_show_verdicts name (Apart i j) = inr (codes "apart " ++ (name i ++ 32 ∷ name j), refl)
