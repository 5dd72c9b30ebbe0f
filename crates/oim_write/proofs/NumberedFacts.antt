-- The text of numbered facts, split at any fact.
use Rattle.oim_write.proofs.Shared.{◌≡◌, ℕ, suc, ◌+◌, ◌<◌, nat_lt, List, [], ◌∷◌, ◌++◌, map, length, drop, get_or, true, refl, sym, ap, ◌∙◌, append_assoc, add-zero, arith, flat_map, nat_tests, drop_more, length-append, length-map, Value, DimensionSet, Fact, Entry, facts_of_entries, facts_of_entry, facts_with, Row, rows_of, ordered_fact, numbered_members, numbered_text, part, parts, padded, name_text}
use Rattle.fact_base.proofs.RowsOf.{facts_are}

pub later_next : (n : ℕ) → nat_lt 0 (n + 1) ≡ true
later_next n = grind (arith, nat_tests)

one_less : (n k : ℕ) → n + 1 + k ≡ n + suc k
one_less n k = omega arith

module _ (us : List (List ℕ)) (digits : ℕ) where
  -- the text of one fact, given the number of facts before it
  abbrev pub fact_part : ℕ → Fact → List ℕ
  fact_part before f = part (nat_lt 0 before) (102 ∷ padded digits (before + 1)) (ordered_fact (name_text us) f)

  next_fact : (before next : ℕ) (f : Fact) (fs : List Fact) → next ≡ before + 1 → numbered_text us digits before (f ∷ fs) ≡ fact_part before f ++ numbered_text us digits next fs
  next_fact before next f fs is =
      ap (λ later. fact_part before f ++ parts later (numbered_members us digits (before + 1) fs)) (sym (later_next before))
      ∙ ap (λ n. fact_part before f ++ numbered_text us digits n fs) (sym is)

  numbered-append : (before : ℕ) (fs gs : List Fact) → numbered_text us digits before (fs ++ gs) ≡ numbered_text us digits before fs ++ numbered_text us digits (before + length fs) gs
  numbered-append before [] gs = ap (λ n. numbered_text us digits n gs) (sym (add-zero before))
  numbered-append before (f ∷ fs) gs =
      next_fact before (before + 1) f (fs ++ gs) refl
      ∙ ap (λ t. fact_part before f ++ t) (numbered-append (before + 1) fs gs)
      ∙ sym (append_assoc (fact_part before f) (numbered_text us digits (before + 1) fs) (numbered_text us digits (before + 1 + length fs) gs))
      ∙ (λ i. sym (next_fact before (before + 1) f fs refl) i ++ numbered_text us digits (one_less before (length fs) i) gs)

  pub left_facts : (done : List ℕ) {written all : List ℕ} (s : DimensionSet) (vs : List Value) (before i : ℕ) (v : Value) → i < length vs → v ≡ get_or vs i v → written ≡ fact_part (before + i) (record { dimensions = s; value = v })
      → done ++ numbered_text us digits (before + i) (facts_with s (drop i vs)) ≡ all → done ++ (written ++ numbered_text us digits (before + (i + 1)) (facts_with s (drop (i + 1) vs))) ≡ all
  left_facts done s vs before i v within is this so_far =
      let rest = drop (i + 1) vs in
      ap (λ t. done ++ (t ++ numbered_text us digits (before + (i + 1)) (facts_with s rest))) this
      ∙ ap (λ t. done ++ t) (sym (next_fact (before + i) (before + (i + 1)) (record { dimensions = s; value = v }) (facts_with s rest) (omega arith)))
      ∙ ap (λ ws. done ++ numbered_text us digits (before + i) (facts_with s ws)) (ap (λ w. w ∷ rest) is ∙ sym (drop_more vs i v within)) ∙ so_far

-- ---- the facts of rows

abbrev pub row_facts : Row → List Fact
row_facts r = facts_with r.0 r.1

abbrev pub rows_facts : List Row → List Fact
rows_facts rs = flat_map row_facts rs

by_entries : (entry : Row → Entry) → ((r : Row) → facts_of_entry (entry r) ≡ row_facts r) → (rs : List Row) → facts_of_entries (map entry rs) ≡ rows_facts rs
by_entries entry same [] = refl
by_entries entry same (r ∷ rs) = (λ i. same r i ++ by_entries entry same rs i)

pub rows_facts_are : (fs : List Fact) → rows_facts (rows_of fs) ≡ fs
rows_facts_are fs = sym (by_entries _ (λ r. refl) (rows_of fs)) ∙ facts_are fs

module _ (rows rest : List Row) (r : Row) (next : rows ≡ r ∷ rest) where
  length-row_facts : length (row_facts r) ≡ length r.1
  length-row_facts = length-map r.1 (λ v. record { dimensions = r.0; value = v })

  pub length-next_row : length (rows_facts rows) ≡ length r.1 + length (rows_facts rest)
  length-next_row = omega (arith, ap (λ rs. length (rows_facts rs)) next, length-append (row_facts r) (rows_facts rest), length-row_facts)

  pub next_row : (us : List (List ℕ)) (digits before : ℕ) → numbered_text us digits before (rows_facts rows) ≡ numbered_text us digits before (row_facts r) ++ numbered_text us digits (before + length r.1) (rows_facts rest)
  next_row us digits before =
      ap (λ rs. numbered_text us digits before (rows_facts rs)) next
      ∙ numbered-append us digits before (row_facts r) (rows_facts rest)
      ∙ ap (λ n. numbered_text us digits before (row_facts r) ++ numbered_text us digits (before + n) (rows_facts rest)) length-row_facts
