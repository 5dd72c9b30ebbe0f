-- The rows of a base have one text in each format, and its lines tell the rows.
use Rattle.oim_merge.proofs.Shared.{◌≡◌, ℕ, suc, ◌+◌, ◌<◌, ◌≤◌, List, [], ◌∷◌, ◌++◌, length, get_or, inr, Option, refl, sym, ap, subst, ◌∙◌, append_assoc, append-nil, arith, All-contains, ◌≢◌, Contains, get_or-append-add, get_or-map, get_or_append_left, length-append, length-map, flat_map-append, Fact, fact_cmp, fact_cmp_total, Value, Nil, Body, Fits, IsSet, Sheet, Row, rows_of, IsEvidence, Evidence, Apart, first_there, in_one_of_both, later_there, rows_tell_facts, padded, width, identifier, length-next_row, row_facts, rows_facts, rows_facts_are, rank_at, AreRowsFrom, AreRowsOf, HasOneText, IsRow, LinesAreOne, RowText, identifier_at, line_text, slice_get_within, fault_of, AppendsFront, written_of, WriteFault, OutOfMemory, Device}
use Rattle.oim_merge.specs.Judged.{DependsOnItsNames}
use Rattle.oim_merge.specs.Identifiers.{HasIndices, named}
use Rattle.oim_merge.proofs.Evidenced.{evidence_exists, one_evidence}
use Rattle.oim_merge.specs.VerdictCalls.{RowsStop}

-- ---- lists of rows

module _ (written : RowText) (facts : List Fact) where
  pub rows_both : (n : ℕ) (done rest : List Row) (text more : List ℕ) → AreRowsFrom written facts n done text → AreRowsFrom written facts (n + length done) rest more → AreRowsFrom written facts n (done ++ rest) (text ++ more)
  rows_both n [] rest text more none further =
      subst (λ t. AreRowsFrom written facts n rest (t ++ more)) (sym none) (subst (λ k. AreRowsFrom written facts k rest more) (omega arith) further)
  rows_both n (x ∷ xs) rest text more h further =
      (h.0, h.1 ++ more, (ap (λ t. t ++ more) h.2.0 ∙ append_assoc h.0 h.1 more, (h.2.1.0, rows_both (suc n) xs rest h.1 more h.2.1.1 (subst (λ k. AreRowsFrom written facts k rest more) (omega arith) further))))

  pub one_row : (n : ℕ) (r : Row) (row : List ℕ) → IsRow written facts n r row → AreRowsFrom written facts n (r ∷ []) row
  one_row n r row is = (row, [], (sym (append-nil row), (is, refl)))

  pub rows_exist : (n : ℕ) (rows : List Row) → ((r : Row) → Contains rows r → (e : Evidence) × IsEvidence r.1 e) → (text : List ℕ) × AreRowsFrom written facts n rows text
  rows_exist n [] shown = ([], refl)
  rows_exist n (r ∷ rs) shown =
      let this = shown r (first_there r rs) in
      let row = written (identifier_at facts r) n r this.0 in
      let rest = rows_exist (suc n) rs (λ q at. shown q (later_there r rs q at)) in
      (row ++ rest.0, (row, rest.0, (refl, (record { evidence = this.0; shows = this.1; text = refl }, rest.1))))

  rows_agree : (n : ℕ) (rows : List Row) (s t : List ℕ) → AreRowsFrom written facts n rows s → AreRowsFrom written facts n rows t → s ≡ t
  rows_agree n [] s t h g = h ∙ sym g
  rows_agree n (r ∷ rs) s t h g =
      let same = one_evidence r.1 h.2.1.0.evidence g.2.1.0.evidence h.2.1.0.shows g.2.1.0.shows in
      let row : h.0 ≡ g.0 = h.2.1.0.text ∙ ap (written (identifier_at facts r) n r) same ∙ sym g.2.1.0.text in
      let rest : h.1 ≡ g.1 = rows_agree (suc n) rs h.1 g.1 h.2.1.1 g.2.1.1 in
      h.2.0 ∙ (λ i. row i ++ rest i) ∙ sym g.2.0

module _ (written : RowText) (sheet : Sheet) (b : Body) (fits : Fits sheet b) where
  pub left_exist : (done left : List Row) → done ++ left ≡ rows_of b.facts → (n : ℕ) → (text : List ℕ) × AreRowsFrom written b.facts n left text
  left_exist done left all n = rows_exist written b.facts n left (λ q at. evidence_exists sheet b fits q (subst (λ rs. Contains rs q) all ((in_one_of_both done left q).1 (inr at))))

  pub all_exist : (text : List ℕ) × AreRowsOf written b text
  all_exist = left_exist [] (rows_of b.facts) refl 1

  pub rows_are_one : HasOneText (AreRowsOf written b)
  rows_are_one = record { text = all_exist.0; is = all_exist.1; only = λ other rows. rows_agree written b.facts 1 (rows_of b.facts) other all_exist.0 rows all_exist.1 }

pub lines_are_one : LinesAreOne
lines_are_one = rows_are_one line_text

-- a fault occurred after a first part of the header and the rows was appended
pub list_stops : (header : List ℕ) (written : RowText) (b : Body) (rows : List ℕ) {old new : Option (List ℕ)} {text : List ℕ} (fault : WriteFault) →
    AreRowsOf written b rows → text ≡ header ++ rows → AppendsFront old new text (written_of fault) → RowsStop header written b old new (fault_of fault)
list_stops header written b rows {old} {new} (OutOfMemory n) are is front = inr (record { rows = rows; are = are; front = subst (λ t. AppendsFront old new t n) is front })
list_stops header written b rows {old} {new} (Device n) are is front = record { rows = rows; are = are; front = subst (λ t. AppendsFront old new t n) is front }

-- ---- identifiers of facts

-- the identifier of a fact follows from its index in the dimension set, the number of facts before the set, and the number of all facts
module _ (facts : List Fact) (rises : IsSet fact_cmp facts) (before : List Fact) (r : Row) (behind : List Fact) (split : facts ≡ before ++ (row_facts r ++ behind)) where
  any_fact : Fact
  any_fact = record { dimensions = r.0; value = Nil }

  pub named_is : (i : ℕ) → i < length r.1 → named (length before) (length facts) i ≡ identifier_at facts r i
  named_is i within =
      let long : length (row_facts r) ≡ length r.1 = length-map r.1 (λ v. record { dimensions = r.0; value = v }) in
      let all : length facts ≡ length before + (length (row_facts r) + length behind) = ap length split ∙ length-append before (row_facts r ++ behind) ∙ ap (λ k. length before + k) (length-append (row_facts r) behind) in
      let index : length before + i < length facts = omega (arith, long, all, within) in
      let there : get_or facts (length before + i) any_fact ≡ get_or (row_facts r) i any_fact =
      ap (λ fs. get_or fs (length before + i) any_fact) split
      ∙ get_or-append-add before (row_facts r ++ behind) i any_fact
      ∙ get_or_append_left (row_facts r) behind any_fact i (omega (arith, long, within)) in
      sym (get_or-map (identifier facts) (row_facts r) i any_fact [] (omega (arith, long, within))
      ∙ ap (identifier facts) (sym there)
      ∙ ap (λ k. 102 ∷ padded (width (length facts)) k) (rank_at fact_cmp_total facts (length before + i) any_fact rises index))

-- ---- the next row

pub indices_within : (vs : List Value) (e : Evidence) → IsEvidence vs e → HasIndices (length vs) e
indices_within vs (Apart i j) is = (slice_get_within vs i is.apart.first is.apart.first_there, slice_get_within vs j is.apart.second is.apart.second_there)
indices_within vs e is = tt

module _ (b : Body) (rises : IsSet fact_cmp b.facts) (done rest : List Row) (r : Row) (all : done ++ (r ∷ rest) ≡ rows_of b.facts) where
  facts_split : b.facts ≡ rows_facts done ++ (row_facts r ++ rows_facts rest)
  facts_split = sym (rows_facts_are b.facts) ∙ ap rows_facts (sym all) ∙ flat_map-append row_facts done (r ∷ rest)

  row_there : Contains (rows_of b.facts) r
  row_there = subst (λ rs. Contains rs r) all ((in_one_of_both done (r ∷ rest) r).1 (inr (first_there r rest)))

  pub row_filled : 0 < length r.1
  row_filled = filled r.1 (All-contains (λ q. q.1 ≢ []) (rows_of b.facts) r (rows_tell_facts b.facts rises).some row_there)
    where
      filled : (vs : List Value) → vs ≢ [] → 0 < length vs
      filled [] some = absurd (some refl)
      filled (v ∷ vs) some = omega arith

  -- a text with the identifiers that follow from `before` and `count` is the text of the row
  pub row_is : (written : RowText) → DependsOnItsNames written → (number before count : ℕ) (e : Evidence) (row : List ℕ) → before ≡ length (rows_facts done) → count ≡ length b.facts → IsEvidence r.1 e →
      row ≡ written (named before count) number r e → IsRow written b.facts number r row
  row_is written names number before count e row before_is count_is shows is = record {
    evidence = e;
    shows = shows;
    text = is
        ∙ (λ i. written (named (before_is i) (count_is i)) number r e)
        ∙ names (named (length (rows_facts done)) (length b.facts)) (identifier_at b.facts r) number r e row_filled (indices_within r.1 e shows)
        (named_is b.facts rises (rows_facts done) r (rows_facts rest) facts_split);
  }

module _ (before : ℕ) (fs : List Fact) (done rows rest : List Row) (r : Row) (all : done ++ rows ≡ rows_of fs) (next : rows ≡ r ∷ rest) (count : before ≡ length (rows_facts done)) where
  length-facts : (front back : List Row) → length (rows_facts (front ++ back)) ≡ length (rows_facts front) + length (rows_facts back)
  length-facts front back = ap length (flat_map-append row_facts front back) ∙ length-append (rows_facts front) (rows_facts back)

  -- the facts up to the end of the row are among all facts, so their count does not overflow
  pub row_within : before + length r.1 ≤ length fs
  row_within = omega (arith, count, ap length (sym (rows_facts_are fs) ∙ ap rows_facts (sym all)), length-facts done rows, length-next_row rows rest r next)

  pub count_with_row : before + length r.1 ≡ length (rows_facts (done ++ r ∷ []))
  count_with_row = omega (arith, count, length-facts done (r ∷ []), length-next_row (r ∷ []) [] r refl)
