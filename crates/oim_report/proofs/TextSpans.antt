-- Texts in one buffer: they stay the same when a text is added after them, and each is found by its index.
use Rattle.oim_report.proofs.Shared.{◌≡◌, ℕ, ◌+◌, ◌-◌, ◌<◌, ◌≤◌, List, [], ◌∷◌, ◌++◌, length, take, slice_range, slice_get, Option, Some, None, option_map, Bor, IsUtf8, refl, sym, ap, subst, ◌∙◌, arith, append_assoc, append-nil, zero, suc, length-append, IsCharBoundary, drop-append_seam, take-append_seam, map-append, take_more, get_or_from_slice_get, slice_get-get_or, slice_get-map, slice_get_within, IsCharBoundary-at_seam, IsUtf8-append, IsUtf8-nil, GetsRange, AreTextSpans, IsTextSpan, texts_at}

cut : (front text back : List ℕ) → slice_range (front ++ (text ++ back)) (length front) (length front + length text) ≡ text
cut front text back =
    let long : (length front + length text) - length front ≡ length text = omega arith in
    ap (take ((length front + length text) - length front)) (drop-append_seam front (text ++ back)) ∙ ap (λ n. take n (text ++ back)) long ∙ take-append_seam text back

span_text : (buffer : List ℕ) (span : ℕ × ℕ) (h : IsTextSpan buffer span) → slice_range buffer span.0 span.1 ≡ h.text
span_text buffer span h = (λ i. slice_range (h.splits i) (h.start i) (h.end i)) ∙ cut h.front h.text h.back

span_stays : (buffer more : List ℕ) (span : ℕ × ℕ) → IsUtf8 more → IsTextSpan buffer span → IsTextSpan (buffer ++ more) span
span_stays buffer more span utf8 h = record {
  front = h.front;
  text = h.text;
  back = h.back ++ more;
  splits = ap (λ b. b ++ more) h.splits ∙ append_assoc h.front (h.text ++ h.back) more ∙ ap (λ b. h.front ++ b) (append_assoc h.text h.back more);
  start = h.start;
  end = h.end;
  text_utf8 = h.text_utf8;
  back_utf8 = IsUtf8-append h.back more h.back_utf8 utf8;
}

pub spans_stay : (buffer more : List ℕ) (spans : List (ℕ × ℕ)) → IsUtf8 more → AreTextSpans buffer spans → AreTextSpans (buffer ++ more) spans
spans_stay buffer more [] utf8 h = tt
spans_stay buffer more (s ∷ ss) utf8 h = (span_stays buffer more s utf8 h.0, spans_stay buffer more ss utf8 h.1)

texts_stay : (buffer more : List ℕ) (spans : List (ℕ × ℕ)) → IsUtf8 more → AreTextSpans buffer spans → texts_at (buffer ++ more) spans ≡ texts_at buffer spans
unfolding span_stays
texts_stay buffer more [] utf8 h = refl
texts_stay buffer more (s ∷ ss) utf8 h =
    let here = span_text (buffer ++ more) s (span_stays buffer more s utf8 h.0) ∙ sym (span_text buffer s h.0) in
    let rest = texts_stay buffer more ss utf8 h.1 in
    λ i. here i ∷ rest i

last_span : (buffer more : List ℕ) (span : ℕ × ℕ) → IsUtf8 more → span.0 ≡ length buffer → span.1 ≡ length (buffer ++ more) → IsTextSpan (buffer ++ more) span
last_span buffer more span utf8 start end = record {
  front = buffer;
  text = more;
  back = [];
  splits = ap (λ b. buffer ++ b) (sym (append-nil more));
  start = start;
  end = end ∙ length-append buffer more;
  text_utf8 = utf8;
  back_utf8 = IsUtf8-nil;
}

one_more : (buffer : List ℕ) (spans : List (ℕ × ℕ)) (span : ℕ × ℕ) → AreTextSpans buffer spans → IsTextSpan buffer span → AreTextSpans buffer (spans ++ span ∷ [])
one_more buffer [] span h is = (is, tt)
one_more buffer (s ∷ ss) span h is = (h.0, one_more buffer ss span h.1 is)

module _ (buffer more : List ℕ) (spans : List (ℕ × ℕ)) (span : ℕ × ℕ) (utf8 : IsUtf8 more) (are : AreTextSpans buffer spans) (start : span.0 ≡ length buffer) (end : span.1 ≡ length (buffer ++ more)) where
  pub spans_push : AreTextSpans (buffer ++ more) (spans ++ span ∷ [])
  spans_push = one_more (buffer ++ more) spans span (spans_stay buffer more spans utf8 are) (last_span buffer more span utf8 start end)

  pub texts_push : texts_at (buffer ++ more) (spans ++ span ∷ []) ≡ texts_at buffer spans ++ more ∷ []
  unfolding last_span
  texts_push =
      let last = span_text (buffer ++ more) span (last_span buffer more span utf8 start end) in
      let kept = texts_stay buffer more spans utf8 are in
      map-append (λ s. slice_range (buffer ++ more) s.0 s.1) spans (span ∷ []) ∙ (λ i. kept i ++ last i ∷ [])

span_at : (buffer : List ℕ) (spans : List (ℕ × ℕ)) (index : ℕ) (span : ℕ × ℕ) → AreTextSpans buffer spans → slice_get spans index ≡ Some span → IsTextSpan buffer span
span_at buffer [] index span h e = absurd (Prim.cc)
span_at buffer (s ∷ ss) zero span h e = let same : s ≡ span = Prim.cc in subst (IsTextSpan buffer) same h.0
span_at buffer (s ∷ ss) (suc index) span h e = span_at buffer ss index span h.1 e

text_cut : (buffer : List ℕ) (span : ℕ × ℕ) (got : Option (Bor (List ℕ))) → IsTextSpan buffer span → GetsRange buffer span.0 span.1 got → option_map (λ t. t.now) got ≡ Some (slice_range buffer span.0 span.1)
text_cut buffer span (Some t) h gets = ap (λ x. Some x) gets.0
text_cut buffer span None h gets =
    let ordered : span.0 ≤ span.1 = let s = h.start in let e = h.end in omega (arith, s, e) in
    let at_start : IsCharBoundary buffer span.0 = subst (IsCharBoundary buffer) (sym h.start) (IsCharBoundary-at_seam buffer h.front (h.text ++ h.back) h.splits (IsUtf8-append h.text h.back h.text_utf8 h.back_utf8)) in
    let at_end : IsCharBoundary buffer span.1 = subst (IsCharBoundary buffer) (length-append h.front h.text ∙ sym h.end) (IsCharBoundary-at_seam buffer (h.front ++ h.text) h.back (h.splits ∙ sym (append_assoc h.front h.text h.back)) h.back_utf8) in
    absurd (gets ordered at_start at_end)

pub text_got : (buffer : List ℕ) (spans : List (ℕ × ℕ)) (index : ℕ) (span : ℕ × ℕ) (got : Option (Bor (List ℕ))) → AreTextSpans buffer spans → slice_get spans index ≡ Some span → GetsRange buffer span.0 span.1 got
    → option_map (λ t. t.now) got ≡ slice_get (texts_at buffer spans) index
text_got buffer spans index span got are here gets =
    text_cut buffer span got (span_at buffer spans index span are here) gets
    ∙ ap (option_map (λ s. slice_range buffer s.0 s.1)) (sym here)
    ∙ sym (slice_get-map (λ s. slice_range buffer s.0 s.1) spans index)

-- ---- texts that are read one after another

pub take_next : {X : Type 0} (xs : List X) (index : ℕ) (x : X) → slice_get xs index ≡ Some x → take (index + 1) xs ≡ take index xs ++ x ∷ []
take_next xs index x here = take_more xs index x (slice_get_within xs index x here) ∙ ap (λ y. take index xs ++ y ∷ []) (get_or_from_slice_get xs index x x here)

pub some_within : (xs : List (List ℕ)) (index : ℕ) → index < length xs → slice_get xs index ≡ None → ⊥
some_within xs index within none = let some = sym none ∙ slice_get-get_or xs index [] within in Prim.cc
