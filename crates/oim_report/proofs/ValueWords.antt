-- The conditions of `Holds` test values of type `Data`, the reader tests values of type `Given`, and the tests agree.
use Rattle.oim_report.proofs.Shared.{◌≡◌, ℕ, ℤ, pos, List, ◌∷◌, map, Bool, true, false, not, ◌&&◌, cond, refl, ap, Option, Some, None, is_none, is_some, option_and_then, if◌then◌else◌, ⊤, is_utf8, Data, Members, no_members, member, null, number, string, unsigned, negative, as_null, Given, absent, given, given_of, has_colon, is_absent, is_no_text, nil, other, text, text_of, whole, defined_in, defined_members, as_text, as_whole, is_some_and, no_text, no_text_or_null}

-- a property holds for each value if it holds for null, texts, whole numbers and all other values
pub by_given : (P : Given → Option (List ℕ) → Option ℤ → Option ⊤ → Type 0) → P nil None None (Some tt) → ((t : List ℕ) → P (text t) (Some t) None None) → ((n : ℤ) → P (whole n) None (Some n) None) → P other None None None
    → (d : Data) → P (given d) (as_text d) (as_whole d) (as_null d)
by_given P of_nil of_text of_whole of_other null = of_nil
by_given P of_nil of_text of_whole of_other (number (unsigned n)) = of_whole (pos n)
by_given P of_nil of_text of_whole of_other (number (negative z)) = of_whole z
by_given P of_nil of_text of_whole of_other (string s) =
    elim (is_utf8 s) as (λ b. P (if b then text s else other) (if b then Some s else None) None None) [ true ↦ of_text s | false ↦ of_other ]
by_given P of_nil of_text of_whole of_other o = of_other

pub text_same : (o : Option Data) → option_and_then as_text o ≡ text_of (given_of o)
text_same None = refl
text_same (Some d) = by_given (λ g t w n. t ≡ text_of g) refl (λ t. refl) (λ n. refl) refl d

pub absent_same : (o : Option Data) → is_none o ≡ is_absent (given_of o)
absent_same None = refl
absent_same (Some d) = by_given (λ g t w n. false ≡ is_absent g) refl (λ t. refl) (λ n. refl) refl d

pub there_same : (o : Option Data) → is_some o ≡ not (is_absent (given_of o))
there_same None = refl
there_same (Some d) = by_given (λ g t w n. true ≡ not (is_absent g)) refl (λ t. refl) (λ n. refl) refl d

pub no_text_same : (o : Option Data) → is_some_and no_text o ≡ is_no_text (given_of o)
no_text_same None = refl
no_text_same (Some d) = by_given (λ g t w n. is_none t ≡ is_no_text g) refl (λ t. refl) (λ n. refl) refl d

-- there is a value that is neither a text nor null
abbrev pub no_value : Given → Bool
no_value (whole n) = true
no_value other = true
no_value o = false

pub no_value_same : (o : Option Data) → is_some_and no_text_or_null o ≡ no_value (given_of o)
no_value_same None = refl
no_value_same (Some d) = by_given (λ g t w n. (is_none t && is_none n) ≡ no_value g) refl (λ t. refl) (λ n. refl) refl d

abbrev pub whole_of : Given → Option ℤ
whole_of (whole n) = Some n
whole_of o = None

pub whole_same : (o : Option Data) → option_and_then as_whole o ≡ whole_of (given_of o)
whole_same None = refl
whole_same (Some d) = by_given (λ g t w n. w ≡ whole_of g) refl (λ t. refl) (λ n. refl) refl d

abbrev pub no_whole : Given → Bool
no_whole absent = false
no_whole (whole n) = false
no_whole o = true

pub no_whole_same : (o : Option Data) → is_some_and (λ v. is_none (as_whole v)) o ≡ no_whole (given_of o)
no_whole_same None = refl
no_whole_same (Some d) = by_given (λ g t w n. is_none w ≡ no_whole g) refl (λ t. refl) (λ n. refl) refl d

abbrev pub seen_member : List ℕ × Data → List ℕ × Given
seen_member m = (m.0, given m.1)

kept_same : (b : Bool) (key : List ℕ) (d : Data) (xs : List (List ℕ × Data)) (ys : List (List ℕ × Given)) → ys ≡ map seen_member xs → (if b then (key, given d) ∷ ys else ys) ≡ map seen_member (cond b ((key, d) ∷ xs) xs)
kept_same true key d xs ys same = ap (λ l. (key, given d) ∷ l) same
kept_same false key d xs ys same = same

pub defined_same : (ms : Members) → defined_in ms ≡ map seen_member (defined_members ms)
defined_same no_members = refl
defined_same (member key d ms) = kept_same (has_colon key && is_utf8 key) key d _ _ (defined_same ms)
