-- If a text is UTF-8, so is each of its strings: the bytes between two quotes, with escapes replaced.
use Rattle.oim_report.proofs.Shared.{◌≡◌, ℕ, ◌<◌, List, [], ◌∷◌, ◌++◌, Bool, true, false, cond, ◌&&◌, ◌==◌, nat_lt, Option, Some, None, option_and_then, refl, sym, subst, arith, IsUtf8, ltb-true, eqb-true, append_assoc, append-nil, cond_some, ⊤, and_parts, nat_tests, IsUtf8-append, IsUtf8-encode}
use Rattle.std.specs.Char.{IsScalar, digit_value, is_digit, encode_utf8}
use Rattle.json.specs.Text.{code_unit, short_escape, is_high_surrogate, is_low_surrogate, surrogate_pair, Within, plain, after_backslash, after_u, after_high, prepend, content}
use Rattle.oim_report.proofs.CutUtf8.{both_utf8}

-- `run` followed by the bytes in the option is UTF-8; `None` always satisfies this
abbrev pub IsUtf8Behind : List ℕ → Option (List ℕ) → Type 0
IsUtf8Behind run None = ⊤
IsUtf8Behind run (Some s) = IsUtf8 (run ++ s)

pub behind : (x : ℕ) (xs : List ℕ) → x < 128 → IsUtf8 (x ∷ xs) → IsUtf8 xs
behind x xs ascii utf8 = (both_utf8 [] xs x ascii utf8).1

either : (run : List ℕ) (b : Bool) (x y : Option (List ℕ)) → (b ≡ true → IsUtf8Behind run x) → (b ≡ false → IsUtf8Behind run y) → IsUtf8Behind run (cond b x y)
either run true x y f g = f refl
either run false x y f g = g refl

then : (f : ℕ → Option (List ℕ)) (o : Option ℕ) → ((u : ℕ) → o ≡ Some u → IsUtf8Behind [] (f u)) → IsUtf8Behind [] (option_and_then f o)
then f None h = tt
then f (Some u) h = h u refl

one_more : (run : List ℕ) (x : ℕ) (o : Option (List ℕ)) → IsUtf8Behind (run ++ x ∷ []) o → IsUtf8Behind run (prepend (x ∷ []) o)
one_more run x None h = tt
one_more run x (Some s) h = subst IsUtf8 (append_assoc run (x ∷ []) s) h

after : (run : List ℕ) (o : Option (List ℕ)) → IsUtf8 run → IsUtf8Behind [] o → IsUtf8Behind run o
after run None u h = tt
after run (Some s) u h = IsUtf8-append run s u h

put_before : (a : List ℕ) (o : Option (List ℕ)) → IsUtf8 a → IsUtf8Behind [] o → IsUtf8Behind [] (prepend a o)
put_before a None u h = tt
put_before a (Some s) u h = IsUtf8-append a s u h

hex_ascii : (x : ℕ) → is_digit x 16 ≡ true → x < 128
hex_ascii x h = grind (arith, nat_tests, h)

hex_small : (x : ℕ) → is_digit x 16 ≡ true → digit_value x < 16
hex_small x h = ltb-true (digit_value x) 16 h

-- a, b, c and d are hex digits, and u is less than 2^16
record Spelled (a b c d u : ℕ) : Type 0 where
  a_is : is_digit a 16 ≡ true
  b_is : is_digit b 16 ≡ true
  c_is : is_digit c 16 ≡ true
  d_is : is_digit d 16 ≡ true
  small : u < 65536

spelled : (a b c d u : ℕ) → code_unit a b c d ≡ Some u → Spelled a b c d u
unfolding code_unit
spelled a b c d u e =
    let h = cond_some _ _ _ e in
    let p = and_parts (is_digit a 16 && is_digit b 16 && is_digit c 16) (is_digit d 16) h.0 in
    let q = and_parts (is_digit a 16 && is_digit b 16) (is_digit c 16) p.0 in
    let r = and_parts (is_digit a 16) (is_digit b 16) q.0 in
    record {
      a_is = r.0;
      b_is = r.1;
      c_is = q.1;
      d_is = p.1;
      small = omega (arith, h.1, hex_small a r.0, hex_small b r.1, hex_small c q.1, hex_small d p.1);
    }

past_unit : (a b c d u : ℕ) (xs : List ℕ) → Spelled a b c d u → IsUtf8 (a ∷ b ∷ c ∷ d ∷ xs) → IsUtf8 xs
past_unit a b c d u xs s utf8 = behind d xs (hex_ascii d s.d_is) (behind c _ (hex_ascii c s.c_is) (behind b _ (hex_ascii b s.b_is) (behind a _ (hex_ascii a s.a_is) utf8)))

plain_scalar : (u : ℕ) → u < 65536 → is_high_surrogate u ≡ false → is_low_surrogate u ≡ false → IsScalar u
plain_scalar u small high low = grind (arith, nat_tests, high, low)

pair_scalar : (h l : ℕ) → is_high_surrogate h ≡ true → is_low_surrogate l ≡ true → IsScalar (surrogate_pair h l)
pair_scalar h l high low = grind (arith, nat_tests, high, low)

short_ascii : (x c : ℕ) → short_escape x ≡ Some c → (x < 128) × (c < 128)
unfolding short_escape
short_ascii x c e = (grind (arith, nat_tests, e), grind (arith, nat_tests, e))

pub IsUtf8-one : (c : ℕ) → c < 128 → IsUtf8 (c ∷ [])
unfolding encode_utf8
IsUtf8-one c ascii =
    let scalar : IsScalar c = grind (arith, nat_tests) in
    let is : encode_utf8 c ≡ c ∷ [] = grind (arith, nat_tests) in
    subst IsUtf8 is (IsUtf8-encode c scalar)

-- the bytes since the start or the last escape; none while an escape is read
abbrev open_run : Within → List ℕ → List ℕ
open_run plain run = run
open_run o run = []

abbrev IsBegun : Within → Type 0
IsBegun (after_high h) = is_high_surrogate h ≡ true
IsBegun o = ⊤

pub content_utf8 : (w : Within) (run xs : List ℕ) → IsBegun w → IsUtf8 (open_run w run ++ xs) → IsUtf8Behind (open_run w run) (content w xs)
unfolding content
content_utf8 plain run (x ∷ xs) begun utf8 =
    either run (x == 34) _ _ (λ q. subst IsUtf8 (sym (append-nil run)) (both_utf8 run xs x (omega (arith, eqb-true x 34 q)) utf8).0)
    (λ q. either run (x == 92) _ _
    (λ b. let both = both_utf8 run xs x (omega (arith, eqb-true x 92 b)) utf8 in after run _ both.0 (content_utf8 after_backslash [] xs tt both.1))
    (λ b. either run (nat_lt x 32) _ _ (λ l. tt) (λ l. one_more run x _ (content_utf8 plain (run ++ x ∷ []) xs tt (subst IsUtf8 (sym (append_assoc run (x ∷ []) xs)) utf8)))))
content_utf8 after_backslash run (x ∷ xs) begun utf8 =
    either [] (x == 117) _ _ (λ u. content_utf8 after_u [] xs tt (behind x xs (omega (arith, eqb-true x 117 u)) utf8))
    (λ u. then _ (short_escape x) (λ c e. let low = short_ascii x c e in put_before (c ∷ []) _ (IsUtf8-one c low.1) (content_utf8 plain [] xs tt (behind x xs low.0 utf8))))
content_utf8 after_u run (a ∷ b ∷ c ∷ d ∷ xs) begun utf8 =
    then _ (code_unit a b c d) (λ u e. let s = spelled a b c d u e in let rest = past_unit a b c d u xs s utf8 in
    either [] (is_high_surrogate u) _ _ (λ high. content_utf8 (after_high u) [] xs high rest)
    (λ high. either [] (is_low_surrogate u) _ _ (λ low. tt)
    (λ low. put_before (encode_utf8 u) _ (IsUtf8-encode u (plain_scalar u s.small high low)) (content_utf8 plain [] xs tt rest))))
content_utf8 (after_high h) run (s ∷ u ∷ a ∷ b ∷ c ∷ d ∷ xs) begun utf8 =
    either [] ((s == 92) && (u == 117)) _ _
    (λ e. let both = and_parts _ _ e in
    let past = behind u (a ∷ b ∷ c ∷ d ∷ xs) (omega (arith, eqb-true u 117 both.1)) (behind s (u ∷ a ∷ b ∷ c ∷ d ∷ xs) (omega (arith, eqb-true s 92 both.0)) utf8) in
    then _ (code_unit a b c d) (λ l is. either [] (is_low_surrogate l) _ _
    (λ low. put_before (encode_utf8 (surrogate_pair h l)) _ (IsUtf8-encode (surrogate_pair h l) (pair_scalar h l begun low)) (content_utf8 plain [] xs tt (past_unit a b c d l xs (spelled a b c d l is) past)))
    (λ low. tt)))
    (λ e. tt)
content_utf8 w run xs begun utf8 = tt
