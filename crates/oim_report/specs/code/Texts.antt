-- Texts in one buffer, each with the indices where it begins and ends (own).
use Rattle.std.specs.Prelude.{◌≡◌, ◌+◌, ◌++◌, ℕ, List, [], ◌∷◌, length, map, slice_range, IsUtf8, ⊤}

-- the text of the buffer between two indices
pub record IsTextSpan (buffer : List ℕ) (span : ℕ × ℕ) : Type 0 where
  pub front : List ℕ
  pub text : List ℕ
  pub back : List ℕ
  pub splits : buffer ≡ front ++ (text ++ back)
  pub start : span.0 ≡ length front
  pub end : span.1 ≡ length front + length text
  pub text_utf8 : IsUtf8 text
  pub back_utf8 : IsUtf8 back

abbrev pub AreTextSpans : List ℕ → List (ℕ × ℕ) → Type 0
AreTextSpans buffer [] = ⊤
AreTextSpans buffer (span ∷ spans) = IsTextSpan buffer span × AreTextSpans buffer spans

abbrev pub texts_at : List ℕ → List (ℕ × ℕ) → List (List ℕ)
texts_at buffer spans = map (λ s. slice_range buffer s.0 s.1) spans
