-- If all lexemes of a text are good, the text is cut before a delimiter, and the rest has no quote, then the front has the same
-- lexemes before every other rest that begins with a delimiter.
use Rattle.oim_report.proofs.Shared.{◌≡◌, ℕ, suc, zero, ◌≤◌, Bool, true, false, cond, ◌&&◌, ◌||◌, ◌==◌, nat_lt, List, [], ◌∷◌, ◌++◌, length, Option, Some, None, option_and_then, refl, sym, ap, ◌∙◌, subst, arith, append_assoc, true≢false, eqb-true, length-append, encode_utf8, false≢true, and_parts, ⊤, is_digit, is_operator, is_space, word, is_good}
use Rattle.json.specs.Token.{string}
use Rattle.json.specs.Text.{code_unit, short_escape, is_high_surrogate, is_low_surrogate, surrogate_pair, Within, plain, after_backslash, after_u, after_high, prepend, content}
use Rattle.json.specs.Lex.{Lexeme, token, Class, quote, backslash, operator, space, other, class, operator_lexeme, string_token, Mode, between, in_word, in_string, in_escape, lex_byte, lex}
use Rattle.oim_report.proofs.JsonStrings.{turn, run, is_between, mode, Keeps, keeps-content, stays, hex_stays, all_hex, is_found, cases}
use Rattle.oim_report.proofs.JsonWords.{is_end, each_end, word-front}

-- ---- the end of a string

record Closes (w : Within) (ys : List ℕ) : Type 0 where
  q : List ℕ
  r : List ℕ
  at : ys ≡ q ++ 34 ∷ r
  ends : is_between (run (mode w) (q ++ 34 ∷ [])) ≡ true
  lexed : (z : List ℕ) → lex (mode w) (q ++ 34 ∷ z) ≡ lex between z

lex_class : (c : Class) (x : ℕ) (xs : List ℕ) (k : Mode → List Lexeme) → lex_byte in_string c x xs k ≡ k (turn in_string c)
lex_class quote x xs k = refl
lex_class c x xs k = refl

lex_turn : (w : Within) (x : ℕ) (z : List ℕ) → lex (mode w) (x ∷ z) ≡ lex (turn (mode w) (class x)) z
unfolding lex
lex_turn after_backslash x z = refl
lex_turn w x z = lex_class (class x) x z (λ n. lex n z)

step : (w w' : Within) (x : ℕ) (ys : List ℕ) → turn (mode w) (class x) ≡ mode w' → Closes w' ys → Closes w (x ∷ ys)
step w w' x ys e c = record {
  q = x ∷ c.q;
  r = c.r;
  at = ap (λ l. x ∷ l) c.at;
  ends = ap (λ m. is_between (run m (c.q ++ 34 ∷ []))) e ∙ c.ends;
  lexed = λ z. lex_turn w x (c.q ++ 34 ∷ z) ∙ ap (λ m. lex m (c.q ++ 34 ∷ z)) e ∙ c.lexed z;
}

by : (t : Bool) (x y : Option (List ℕ)) (s : List ℕ) (P : Type 0) → (t ≡ true → x ≡ Some s → P) → (t ≡ false → y ≡ Some s → P) → cond t x y ≡ Some s → P
by true x y s P f g h = f refl h
by false x y s P f g h = g refl h

no : (s : List ℕ) (P : Type 0) → None ≡ Some s → P
no s P h = Prim.cc

some_of : (a : List ℕ) (r : Option (List ℕ)) (s : List ℕ) (P : Type 0) → ((u : List ℕ) → r ≡ Some u → P) → prepend a r ≡ Some s → P
some_of a None s P f h = no s P h
some_of a (Some u) s P f h = f u refl

then_of : (f : ℕ → Option (List ℕ)) (o : Option ℕ) (s : List ℕ) (P : Type 0) → (is_found o ≡ true → (u : ℕ) → f u ≡ Some s → P) → option_and_then f o ≡ Some s → P
then_of f None s P g h = no s P h
then_of f (Some u) s P g h = g refl u h

turn_backslash : (x : ℕ) → (x == 92) ≡ true → turn in_string (class x) ≡ in_escape
turn_backslash x e = ap (λ y. turn in_string (class y)) (eqb-true x 92 e)

four : (w : Within) (a b c d : ℕ) (xs : List ℕ) → mode w ≡ in_string → is_found (code_unit a b c d) ≡ true → Closes w xs → Closes after_u (a ∷ b ∷ c ∷ d ∷ xs)
unfolding code_unit
four w a b c d xs m f k =
    let p = and_parts (is_digit a 16 && is_digit b 16 && is_digit c 16) (is_digit d 16) (all_hex _ _ f) in
    let q = and_parts (is_digit a 16 && is_digit b 16) (is_digit c 16) p.0 in
    let r = and_parts (is_digit a 16) (is_digit b 16) q.0 in
    step after_u after_u a _ (hex_stays a r.0) (step after_u after_u b _ (hex_stays b r.1) (step after_u after_u c _ (hex_stays c q.1) (step after_u w d _ (hex_stays d p.1 ∙ sym m) k)))

six : (h s u a b c d : ℕ) (xs : List ℕ) → (s == 92) ≡ true → is_found (code_unit a b c d) ≡ true → Closes plain xs → Closes (after_high h) (s ∷ u ∷ a ∷ b ∷ c ∷ d ∷ xs)
six h s u a b c d xs e f k = step (after_high h) after_backslash s _ (turn_backslash s e) (step after_backslash after_u u _ refl (four plain a b c d xs refl f k))

closes : (w : Within) (ys s : List ℕ) → content w ys ≡ Some s → Closes w ys
unfolding content lex
closes plain (x ∷ xs) s h =
    by (x == 34) _ _ s _ (λ e i. record { q = []; r = xs; at = ap (λ y. y ∷ xs) (eqb-true x 34 e); ends = refl; lexed = λ z. refl })
    (λ e. by (x == 92) _ _ s _ (λ b i. step plain after_backslash x xs (turn_backslash x b) (closes after_backslash xs s i))
    (λ b. by (nat_lt x 32) _ _ s _ (λ l i. no s _ i) (λ l. some_of (x ∷ []) _ s _ (λ u i. step plain plain x xs (stays x e b) (closes plain xs u i))))) h
closes after_backslash (x ∷ xs) s h =
    by (x == 117) _ _ s _ (λ e i. step after_backslash after_u x xs refl (closes after_u xs s i))
    (λ e. then_of _ (short_escape x) s _ (λ f c. some_of (c ∷ []) _ s _ (λ u i. step after_backslash plain x xs refl (closes plain xs u i)))) h
closes after_u (a ∷ b ∷ c ∷ d ∷ xs) s h =
    then_of _ (code_unit a b c d) s _ (λ f u. by (is_high_surrogate u) _ _ s _ (λ e i. four (after_high u) a b c d xs refl f (closes (after_high u) xs s i))
    (λ e. by (is_low_surrogate u) _ _ s _ (λ l i. no s _ i) (λ l. some_of (encode_utf8 u) _ s _ (λ v i. four plain a b c d xs refl f (closes plain xs v i))))) h
closes (after_high k) (y ∷ u ∷ a ∷ b ∷ c ∷ d ∷ xs) s h =
    by ((y == 92) && (u == 117)) _ _ s _ (λ e. then_of _ (code_unit a b c d) s _ (λ f l. by (is_low_surrogate l) _ _ s _
    (λ n. some_of (encode_utf8 (surrogate_pair k l)) _ s _ (λ v i. six k y u a b c d xs (and_parts _ _ e).0 f (closes plain xs v i))) (λ n i. no s _ i))) (λ e i. no s _ i) h
closes w ys s h = no s _ h

-- ---- a string ends before a text without quotes

abbrev pub NoQuote : List ℕ → Type 0
NoQuote [] = ⊤
NoQuote (x ∷ xs) = (x ≡ 34 → ⊥) × NoQuote xs

abbrev hd : List ℕ → ℕ
hd [] = 0
hd (x ∷ xs) = x

abbrev tl : List ℕ → List ℕ
tl [] = []
tl (x ∷ xs) = xs

has_none : (q r : List ℕ) → NoQuote (q ++ 34 ∷ r) → ⊥
has_none [] r h = h.0 refl
has_none (x ∷ q) r h = has_none q r h.1

before : (xs t q r : List ℕ) → NoQuote t → xs ++ t ≡ q ++ 34 ∷ r → (r' : List ℕ) × (xs ≡ q ++ 34 ∷ r')
before [] t q r h e = absurd (has_none q r (subst NoQuote e h))
before (x ∷ xs) t [] r h e = (xs, ap (λ y. y ∷ xs) (ap hd e))
before (x ∷ xs) t (c ∷ q) r h e =
    let rest = before xs t q r h (ap tl e) in
    (rest.0, λ i. ap hd e i ∷ rest.1 i)

-- ---- the end of a word

-- the text begins with a delimiter: an operator or white space
abbrev pub Delimited : List ℕ → Type 0
Delimited [] = ⊥
Delimited (x ∷ xs) = is_end x ≡ true

-- the text is the end of a word, and then a rest that is empty or begins with a delimiter
record Stops (xs : List ℕ) : Type 0 where
  p : List ℕ
  r : List ℕ
  at : xs ≡ p ++ r
  ends : (z : List ℕ) → Delimited z → Delimited (r ++ z)
  lexed : (z : List ℕ) → Delimited z → lex in_word (p ++ z) ≡ lex between z

passed : (q b o s : Bool) (x : ℕ) (xs : List ℕ) (k : Mode → List Lexeme) → (o || s) ≡ false
    → lex_byte in_word (cond q quote (cond b backslash (cond o operator (cond s space other)))) x xs k ≡ k in_word
passed false false true s x xs k e = absurd (true≢false e)
passed false false false true x xs k e = absurd (true≢false e)
passed q b o s x xs k e = refl

skip_word : (x : ℕ) (xs : List ℕ) → is_end x ≡ false → lex in_word (x ∷ xs) ≡ lex in_word xs
unfolding lex
skip_word x xs e = passed (x == 34) (x == 92) (is_operator x) (is_space x) x xs (λ n. lex n xs) e

end_word : (x : ℕ) → is_end x ≡ true → (z : List ℕ) → lex in_word (x ∷ z) ≡ lex between (x ∷ z)
unfolding lex
end_word = each_end (λ x. (z : List ℕ) → lex in_word (x ∷ z) ≡ lex between (x ∷ z))
    (λ z. refl) (λ z. refl) (λ z. refl) (λ z. refl) (λ z. refl) (λ z. refl) (λ z. refl) (λ z. refl) (λ z. refl) (λ z. refl)

word_ends : (z : List ℕ) → Delimited z → lex in_word z ≡ lex between z
word_ends [] h = absurd h
word_ends (x ∷ z) h = end_word x h z

here : (x : ℕ) (xs : List ℕ) → is_end x ≡ true → Stops (x ∷ xs)
here x xs e = record { p = []; r = x ∷ xs; at = refl; ends = λ z h. e; lexed = word_ends }

later : (x : ℕ) (xs : List ℕ) → is_end x ≡ false → Stops xs → Stops (x ∷ xs)
later x xs e s = record { p = x ∷ s.p; r = s.r; at = ap (λ l. x ∷ l) s.at; ends = s.ends; lexed = λ z h. skip_word x (s.p ++ z) e ∙ s.lexed z h }

stops : (xs : List ℕ) → Stops xs
stops [] = record { p = []; r = []; at = refl; ends = λ z h. h; lexed = word_ends }
stops (x ∷ xs) = cases (is_end x) _ (here x xs) (λ e. later x xs e (stops xs))

word_before : (x : ℕ) (p z : List ℕ) → Delimited z → word (x ∷ (p ++ z)) ≡ word (x ∷ p)
word_before x p [] h = absurd h
word_before x p (y ∷ z) h = word-front y z h x p

-- ---- pieces

abbrev pub AllGood : List Lexeme → Type 0
AllGood [] = ⊤
AllGood (token t ∷ ls) = (is_good t ≡ true) × AllGood ls
AllGood (l ∷ ls) = AllGood ls

pub record Piece (a : List ℕ) : Type 0 where
  pub ls : List Lexeme
  pub lexed : (b : List ℕ) → Delimited b → lex between (a ++ b) ≡ ls ++ lex between b

good_rest : (l : Lexeme) (ls : List Lexeme) → AllGood (l ∷ ls) → AllGood ls
good_rest (token t) ls h = h.1
good_rest l ls h = h

good_string : (o : Option (List ℕ)) → is_good (string_token o) ≡ true → (s : List ℕ) × (o ≡ Some s)
good_string None h = absurd (false≢true h)
good_string (Some s) h = (s, refl)

kept : (o o' : Option (List ℕ)) (s : List ℕ) → Keeps o o' → o ≡ Some s → o' ≡ Some s
kept None o' s k e = Prim.cc
kept (Some u) o' s k e = k ∙ e

lexc : (x : ℕ) (c : Class) → class x ≡ c → (ys : List ℕ) → lex between (x ∷ ys) ≡ lex_byte between c x ys (λ m. lex m ys)
unfolding lex
lexc x c e ys = ap (λ k. lex_byte between k x ys (λ m. lex m ys)) e

abbrev Shorter : ℕ → List ℕ → Type 0
Shorter n t = (r : List ℕ) → length r ≤ n → AllGood (lex between (r ++ t)) → Piece r

at_quote : (n x : ℕ) (xs t : List ℕ) → length (x ∷ xs) ≤ suc n → NoQuote t → class x ≡ quote → AllGood (lex_byte between quote x (xs ++ t) (λ m. lex m (xs ++ t))) → Shorter n t → Piece (x ∷ xs)
at_quote n x xs t le nq e h ih =
    let s = good_string (content plain (xs ++ t)) h.0 in
    let l = closes plain (xs ++ t) s.0 s.1 in
    let f = before xs t l.q l.r nq l.at in
    let r = f.0 in
    let split : (z : List ℕ) → xs ++ z ≡ l.q ++ 34 ∷ (r ++ z) = λ z. ap (λ y. y ++ z) f.1 ∙ append_assoc l.q (34 ∷ r) z in
    let front : (z : List ℕ) → (l.q ++ 34 ∷ []) ++ (r ++ z) ≡ xs ++ z = λ z. append_assoc l.q (34 ∷ []) (r ++ z) ∙ sym (split z) in
    let behind : (z : List ℕ) → lex in_string (xs ++ z) ≡ lex between (r ++ z) = λ z. ap (lex in_string) (split z) ∙ l.lexed (r ++ z) in
    let long : length xs ≡ length (l.q ++ 34 ∷ r) = ap length f.1 in
    let short : length r ≤ n = omega (arith, long, length-append l.q (34 ∷ r)) in
    let rest = ih r short (subst AllGood (behind t) h.1) in
    let same : (b : List ℕ) → content plain (xs ++ b) ≡ Some s.0 = λ b. ap (content plain) (sym (front b)) ∙ kept _ _ s.0 (keeps-content plain (l.q ++ 34 ∷ []) (r ++ t) (r ++ b) l.ends) (ap (content plain) (front t) ∙ s.1) in
    record {
      ls = token (string s.0) ∷ rest.ls;
      lexed = λ b d. lexc x quote e (xs ++ b) ∙ (λ i. token (string_token (same b i)) ∷ (behind b ∙ rest.lexed b d) i);
    }

at_word : (n x : ℕ) (xs t : List ℕ) → length (x ∷ xs) ≤ suc n → Delimited t → class x ≡ other → AllGood (lex_byte between other x (xs ++ t) (λ m. lex m (xs ++ t))) → Shorter n t → Piece (x ∷ xs)
at_word n x xs t le dt e h ih =
    let s = stops xs in
    let split : (z : List ℕ) → xs ++ z ≡ s.p ++ (s.r ++ z) = λ z. ap (λ y. y ++ z) s.at ∙ append_assoc s.p s.r z in
    let behind : (z : List ℕ) → Delimited z → lex in_word (xs ++ z) ≡ lex between (s.r ++ z) = λ z d. ap (lex in_word) (split z) ∙ s.lexed (s.r ++ z) (s.ends z d) in
    let long : length xs ≡ length (s.p ++ s.r) = ap length s.at in
    let short : length s.r ≤ n = omega (arith, long, length-append s.p s.r) in
    let rest = ih s.r short (subst AllGood (behind t dt) h.1) in
    let same : (b : List ℕ) → Delimited b → word (x ∷ (xs ++ b)) ≡ word (x ∷ s.p) = λ b d. ap (λ l. word (x ∷ l)) (split b) ∙ word_before x s.p (s.r ++ b) (s.ends b d) in
    record {
      ls = token (word (x ∷ s.p)) ∷ rest.ls;
      lexed = λ b d. lexc x other e (xs ++ b) ∙ (λ i. token (same b d i) ∷ (behind b d ∙ rest.lexed b d) i);
    }

at_class : (k : Class) (n x : ℕ) (xs t : List ℕ) → length (x ∷ xs) ≤ suc n → NoQuote t → Delimited t → class x ≡ k → AllGood (lex_byte between k x (xs ++ t) (λ m. lex m (xs ++ t))) → Shorter n t → Piece (x ∷ xs)
at_class quote n x xs t le nq dt e h ih = at_quote n x xs t le nq e h ih
at_class backslash n x xs t le nq dt e h ih = absurd (false≢true h.0)
at_class operator n x xs t le nq dt e h ih =
    let rest = ih xs (omega arith) (good_rest (operator_lexeme x) _ h) in
    record { ls = operator_lexeme x ∷ rest.ls; lexed = λ b d. lexc x operator e (xs ++ b) ∙ ap (λ l. operator_lexeme x ∷ l) (rest.lexed b d) }
at_class space n x xs t le nq dt e h ih =
    let rest = ih xs (omega arith) h in
    record { ls = rest.ls; lexed = λ b d. lexc x space e (xs ++ b) ∙ rest.lexed b d }
at_class other n x xs t le nq dt e h ih = at_word n x xs t le dt e h ih

piece : (n : ℕ) (a t : List ℕ) → length a ≤ n → NoQuote t → Delimited t → AllGood (lex between (a ++ t)) → Piece a
piece n [] t le nq dt g = record { ls = []; lexed = λ b d. refl }
piece zero (x ∷ xs) t le nq dt g = let no : ⊥ = omega arith in absurd no
piece (suc n) (x ∷ xs) t le nq dt g = at_class (class x) n x xs t le nq dt refl (subst AllGood (lexc x (class x) refl (xs ++ t)) g) (λ r l k. piece n r t l nq dt k)

pub piece_of : (a t : List ℕ) → NoQuote t → Delimited t → AllGood (lex between (a ++ t)) → Piece a
piece_of a t = piece (length a) a t (omega arith)
