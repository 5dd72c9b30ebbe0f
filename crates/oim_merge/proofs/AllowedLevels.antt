-- A body stays within a level if and only if the level of its facts is that level or a stricter one.
use Rattle.oim_merge.proofs.Shared.{◌≡◌, Bool, true, false, not, ◌&&◌, cond, List, [], ◌∷◌, map, refl, sym, ap, ◌∙◌, All, AllByRecursion, list_all, is_le, ord_max, Less, not-false, All-head, All-tail, All-weaker, summary_of_all, IsRising, IsSet, entry_key, level_cmp, value_cmp, Level, Unique, Complete, Consistent, AllLevel, Value, DimensionSet, dimensions_cmp, level_of, Entry, facts_of_entries, Row, rows_of, each_meet, verdict_of, facts_are, rows_tell_facts, AllowedIsDeclared, is_above, row_is_above, some_above, AllPass-from_list_all, list_all-from_AllPass}
use Rattle.std.specs.List.Sorted.{IsStrictlySortedBy}
use Rattle.fact_base.specs.declared.verdict.Verdict.TheVariants.{Consistent as IsConsistent, Inconsistent as IsInconsistent}
use Rattle.fact_base.proofs.Levels.{highest, highest_is, level_of_values, each}

-- ---- rows as entries

abbrev entries : List Row → List Entry
entries rs = map (λ r. (r.0, (r.1, summary_of_all r.1))) rs

below_too : (s : DimensionSet) (rs : List Row) → AllByRecursion (λ r. dimensions_cmp s r.0 ≡ Less) rs → AllByRecursion (λ e. dimensions_cmp s e.0 ≡ Less) (entries rs)
below_too s [] below = tt
below_too s (r ∷ rs) below = (below.0, below_too s rs below.1)

rise_too : (rs : List Row) → IsRising dimensions_cmp entry_key rs → IsRising dimensions_cmp entry_key (entries rs)
unfolding IsStrictlySortedBy
rise_too [] rise = tt
rise_too (r ∷ rs) rise = (below_too r.0 rs rise.0, rise_too rs rise.1)

sets_too : (rs : List Row) → All (λ r. IsSet value_cmp r.1) rs → AllByRecursion (λ e. IsSet value_cmp e.1.0) (entries rs)
sets_too [] sets = tt
sets_too (r ∷ rs) sets = (All-head (λ (q : Row). IsSet value_cmp q.1) r rs sets, sets_too rs (All-tail (λ (q : Row). IsSet value_cmp q.1) r rs sets))

-- ---- levels

abbrev Splits : Level → Level → Level → Type 0
Splits x y l = is_le (level_cmp (ord_max level_cmp x y) l) ≡ (is_le (level_cmp x l) && is_le (level_cmp y l))

-- the looser of two levels is within a third level if and only if both levels are
splits : (x y l : Level) → Splits x y l
splits = each (λ x. (y l : Level) → Splits x y l)
    (each (λ y. (l : Level) → Splits Unique y l) (each (Splits Unique Unique) refl refl refl refl) (each (Splits Unique Complete) refl refl refl refl) (each (Splits Unique Consistent) refl refl refl refl) (each (Splits Unique AllLevel) refl refl refl refl))
    (each (λ y. (l : Level) → Splits Complete y l) (each (Splits Complete Unique) refl refl refl refl) (each (Splits Complete Complete) refl refl refl refl) (each (Splits Complete Consistent) refl refl refl refl) (each (Splits Complete AllLevel) refl refl refl refl))
    (each (λ y. (l : Level) → Splits Consistent y l) (each (Splits Consistent Unique) refl refl refl refl) (each (Splits Consistent Complete) refl refl refl refl) (each (Splits Consistent Consistent) refl refl refl refl) (each (Splits Consistent AllLevel) refl refl refl refl))
    (each (λ y. (l : Level) → Splits AllLevel y l) (each (Splits AllLevel Unique) refl refl refl refl) (each (Splits AllLevel Complete) refl refl refl refl) (each (Splits AllLevel Consistent) refl refl refl refl) (each (Splits AllLevel AllLevel) refl refl refl refl))

unique_first : (l : Level) → ord_max level_cmp Unique l ≡ l
unique_first = each (λ l. ord_max level_cmp Unique l ≡ l) refl refl refl refl

unique_within : (l : Level) → is_le (level_cmp Unique l) ≡ true
unique_within = each (λ l. is_le (level_cmp Unique l) ≡ true) refl refl refl refl

-- ---- a row is within a level if and only if the level of its values is

abbrev Within : Level → List Value → Type 0
Within l vs = some_above l (verdict_of vs) ≡ not (is_le (level_cmp (level_of_values vs) l))

abbrev At : Level → Bool → Type 0
At l b = is_above l (cond b IsConsistent IsInconsistent) ≡ not (is_le (level_cmp (cond b Consistent AllLevel) l))

row_within : (vs : List Value) (l : Level) → Within l vs
row_within [] = each (λ l. Within l []) refl refl refl refl
row_within (v ∷ []) = each (λ l. Within l (v ∷ [])) refl refl refl refl
row_within (v ∷ w ∷ vs) = each (λ l. Within l (v ∷ w ∷ vs)) (by_test Unique refl refl) (by_test Complete refl refl) (by_test Consistent refl refl) (by_test AllLevel refl refl)
  where
    by_test : (l : Level) → At l true → At l false → At l (each_meet (v ∷ w ∷ vs))
    by_test l met apart = elim (each_meet (v ∷ w ∷ vs)) as (λ b. At l b) [ true ↦ met | false ↦ apart ]

-- ---- all rows

module _ (l : Level) where
  abbrev row_level_within : Row → Bool
  row_level_within r = is_le (level_cmp (level_of_values r.1) l)

  and_true : (b : Bool) → b ≡ (b && true)
  and_true true = refl
  and_true false = refl

  grouped : (a b c : Bool) → ((a && b) && c) ≡ (a && (b && c))
  grouped true b c = refl
  grouped false b c = refl

  highest_within : (rs : List Row) (level : Level) → is_le (level_cmp (highest level (entries rs)) l) ≡ (is_le (level_cmp level l) && list_all row_level_within rs)
  highest_within [] level = and_true (is_le (level_cmp level l))
  highest_within (r ∷ rs) level =
      highest_within rs (ord_max level_cmp level (level_of_values r.1))
      ∙ ap (λ b. b && list_all row_level_within rs) (splits level (level_of_values r.1) l)
      ∙ grouped (is_le (level_cmp level l)) (row_level_within r) (list_all row_level_within rs)

  stays_from : (rs : List Row) → list_all row_level_within rs ≡ true → All (λ r. row_is_above l r ≡ false) rs
  stays_from rs within =
      All-weaker (λ r. row_level_within r ≡ true) (λ r. row_is_above l r ≡ false) (λ r here. row_within r.1 l ∙ ap not here) rs (AllPass-from_list_all row_level_within rs within)

  within_from : (rs : List Row) → All (λ r. row_is_above l r ≡ false) rs → list_all row_level_within rs ≡ true
  within_from rs stays = list_all-from_AllPass row_level_within rs
      (All-weaker (λ r. row_is_above l r ≡ false) (λ r. row_level_within r ≡ true) (λ r here. not-false (row_level_within r) (sym (row_within r.1 l) ∙ here)) rs stays)

pub allowed_is_declared : AllowedIsDeclared
allowed_is_declared sheet b l fits =
    let rows : List Row = rows_of b.facts in
    let told = rows_tell_facts b.facts fits.rises.facts in
    let facts : facts_of_entries (entries rows) ≡ b.facts = facts_are b.facts in
    let level : highest Unique (entries rows) ≡ level_of b.facts = highest_is Unique (entries rows) (rise_too rows told.rise) (sets_too rows told.in_order) ∙ unique_first _ ∙ ap level_of facts in
    let same : is_le (level_cmp (level_of b.facts) l) ≡ list_all (row_level_within l) rows =
    ap (λ k. is_le (level_cmp k l)) (sym level) ∙ highest_within l rows Unique ∙ ap (λ c. c && list_all (row_level_within l) rows) (unique_within l) in
    (λ stays. same ∙ within_from l rows stays, λ within. stays_from l rows (sym same ∙ within))
