-- Fields of a CSV record that are pushed one after another, and one more record.
use Rattle.row_formats.proofs.Shared.{◌≡◌, ℕ, suc, ◌+◌, Bool, List, [], ◌∷◌, ◌++◌, length, append_assoc, append-nil, sym, ap, ◌∙◌, arith, Value, DimensionSet, Evidence, csv_facts, evidence_fields, fact_fields, record_text}

pub pushed : (xs us vs : List (List ℕ)) {ys zs : List (List ℕ)} → ys ≡ xs ++ us → zs ≡ ys ++ vs → zs ≡ xs ++ (us ++ vs)
pushed xs us vs first second = second ∙ ap (λ t. t ++ vs) first ∙ append_assoc xs us vs

pub pushed_three : (xs us vs ws : List (List ℕ)) {ys zs rs : List (List ℕ)} → ys ≡ xs ++ us → zs ≡ ys ++ vs → rs ≡ zs ++ ws → rs ≡ xs ++ (us ++ (vs ++ ws))
pushed_three xs us vs ws {ys = ys} first second third = pushed xs us (vs ++ ws) first (pushed ys vs ws second third)

pub pushed_four : (xs us vs ws ts : List (List ℕ)) {ys zs rs qs : List (List ℕ)} → ys ≡ xs ++ us → zs ≡ ys ++ vs → rs ≡ zs ++ ws → qs ≡ rs ++ ts → qs ≡ xs ++ (us ++ (vs ++ (ws ++ ts)))
pushed_four xs us vs ws ts {ys = ys} first second third fourth = pushed xs us (vs ++ (ws ++ ts)) first (pushed_three ys vs ws ts second third fourth)

pub pushed_seven : (xs : List (List ℕ)) (a b c d e f : List ℕ) (vs : List (List ℕ)) {x1 x2 x3 x4 x5 x6 x7 : List (List ℕ)} →
    x1 ≡ xs ++ a ∷ [] → x2 ≡ x1 ++ b ∷ [] → x3 ≡ x2 ++ c ∷ [] → x4 ≡ x3 ++ d ∷ [] → x5 ≡ x4 ++ e ∷ [] → x6 ≡ x5 ++ f ∷ [] → x7 ≡ x6 ++ vs →
    x7 ≡ xs ++ (a ∷ b ∷ c ∷ d ∷ e ∷ f ∷ vs)
pushed_seven xs a b c d e f vs {x2 = x2} {x4 = x4} first second third fourth fifth sixth last =
    pushed_three xs (a ∷ b ∷ []) (c ∷ d ∷ []) (e ∷ f ∷ vs) (pushed xs (a ∷ []) (b ∷ []) first second) (pushed x2 (c ∷ []) (d ∷ []) third fourth) (pushed_three x4 (e ∷ []) (f ∷ []) vs fifth sixth last)

pub next_record : (spreadsheet : Bool) (name : ℕ → List ℕ) (n : ℕ) (d : DimensionSet) (e : Evidence) (k : ℕ) (vs : List Value) (v : Value) (index : ℕ) → k + length vs ≡ index →
    csv_facts spreadsheet name n d e k (vs ++ v ∷ []) ≡ csv_facts spreadsheet name n d e k vs ++ record_text (fact_fields spreadsheet n d e (evidence_fields name e) (name index) v)
next_record spreadsheet name n d e k [] v index is =
    append-nil _ ∙ ap (λ i. record_text (fact_fields spreadsheet n d e (evidence_fields name e) (name i) v)) (omega (arith, is))
next_record spreadsheet name n d e k (w ∷ vs) v index is =
    let this = record_text (fact_fields spreadsheet n d e (evidence_fields name e) (name k) w) in
    ap (λ t. this ++ t) (next_record spreadsheet name n d e (suc k) vs v index (omega (arith, is)))
    ∙ sym (append_assoc this (csv_facts spreadsheet name n d e (suc k) vs) (record_text (fact_fields spreadsheet n d e (evidence_fields name e) (name index) v)))
