-- The first characters of a text, and a JSON string without its closing quote.
use Rattle.std.proofs.Common.{◌≡◌, ℕ, zero, suc, ◌-◌, ◌<◌, List, [], ◌∷◌, ◌++◌, length, take, get_or, refl, ap, ◌∙◌, append-nil, arith, length-append, chars, encode_utf8, encode_utf8_all, IsUtf8}
use native.Mathlib.Numerals.{unary_clauses}
use Rattle.std.proofs.Math.Seq.{get_or-append_seam, take-append_seam}
use Rattle.std.proofs.lemmas.Str.{chars-nil, chars_past_char}
use Rattle.json.specs.Print.{escape, print, print_from, quoted}
use Rattle.json.specs.Token.{string}

pub printed_string : (s : List ℕ) → print (string s ∷ []) ≡ quoted s
unfolding print_from
printed_string s = append-nil (quoted s)

module _ (s : List ℕ) where
  pub last_index : length (quoted s) - 1 ≡ length (34 ∷ escape s)
  last_index = omega (arith, length-append (escape s) (34 ∷ []))

  pub without_quote : take (length (quoted s) - 1) (quoted s) ≡ 34 ∷ escape s
  without_quote = ap (λ n. take n (quoted s)) last_index ∙ take-append_seam (34 ∷ escape s) (34 ∷ [])

  pub last_quote : get_or (quoted s) (length (quoted s) - 1) 0 ≡ 34
  last_quote = ap (λ n. get_or (quoted s) n 0) last_index ∙ get_or-append_seam (34 ∷ escape s) 34 [] 0

-- ---- the first characters

pub front_nil : (n : ℕ) → encode_utf8_all (take n (chars [])) ≡ []
front_nil n = ap (λ cs. encode_utf8_all (take n cs)) chars-nil ∙ none n
  where
    none : (n : ℕ) → encode_utf8_all (take n []) ≡ []
    none zero = refl
    none (suc n) = refl

front_step : (n c : ℕ) (cs : List ℕ) → 0 < n → encode_utf8_all (take n (c ∷ cs)) ≡ encode_utf8 c ++ encode_utf8_all (take (n - 1) cs)
front_step zero c cs some = absurd (omega arith)
front_step (suc n) c cs some = simp unary_clauses refl

pub front_past : (n : ℕ) (text rest : List ℕ) (c : ℕ) → 0 < n → IsUtf8 text → text ≡ encode_utf8 c ++ rest
    → encode_utf8_all (take n (chars text)) ≡ encode_utf8 c ++ encode_utf8_all (take (n - 1) (chars rest))
front_past n text rest c some utf8 is =
    ap (λ cs. encode_utf8_all (take n cs)) (chars_past_char text rest c utf8 is) ∙ front_step n c (chars rest) some
