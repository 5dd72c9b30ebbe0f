-- What a sink that compares knows of its text.
use Rattle.oim_write.proofs.Shared.{◌≡◌, ◌≢◌, ℕ, suc, ◌+◌, ◌<◌, ◌≤◌, List, [], ◌∷◌, ◌++◌, Option, None, Some, length, take, drop, get_or, slice_get, refl, sym, ap, subst, ◌∙◌, arith, append_assoc, append-nil, take-add, take_all, take_at, drop_at, length-take-le, take-suc, false≢true, Decides-eqb, slice_get_past, ◌↔◌, Bool, true, not, IsTrue, is_some, nat_eq, ForSome, failures_since, held, taken}

-- the sink took n bytes, and all are those of its text
pub held_more : (text bytes : List ℕ) (equal n : ℕ) → take n (drop equal text) ≡ take n bytes → held text (equal + n) None ≡ held text equal None ++ take n bytes
held_more text bytes equal n same =
    ap (λ more. length text ∷ text ++ more) (take-add equal n text ∙ ap (λ more. take equal text ++ more) same)
    ∙ ap (λ all. length text ∷ all) (sym (append_assoc text (take equal text) (take n bytes)))

-- the sink took n bytes of its text and another byte
pub held_last : (text bytes : List ℕ) (equal n byte : ℕ) → take n (drop equal text) ≡ take n bytes → byte ≡ get_or bytes n byte → n < length bytes
    → held text (equal + n) (Some (byte, 0)) ≡ held text equal None ++ take (n + 1) bytes
held_last text bytes equal n byte same is within =
    let next : n + 1 ≡ suc n = omega arith in
    let last : take (n + 1) bytes ≡ take n bytes ++ byte ∷ [] =
    ap (λ m. take m bytes) next ∙ take-suc bytes n byte within ∙ ap (λ b. take n bytes ++ b ∷ []) (sym is) in
    let more = ap (λ front. front ++ byte ∷ []) (held_more text bytes equal n same) in
    ap (λ all. length text ∷ all) (sym (append_assoc text (take (equal + n) text) (byte ∷ [])))
    ∙ more ∙ append_assoc (held text equal None) (take n bytes) (byte ∷ []) ∙ ap (λ more. held text equal None ++ more) (sym last)

-- what a sink holds determines its text and what it took
pub told_text : (text old front : List ℕ) (equal : ℕ) (difference : Option (ℕ × ℕ)) → held text equal difference ≡ held old 0 None ++ front
    → (text ≡ old) × (taken text equal difference ≡ front)
told_text text old front equal difference is =
    let len : length text ≡ length old = ap (λ xs. get_or xs 0 0) is in
    let all : text ++ taken text equal difference ≡ old ++ front =
    ap (drop 1) is ∙ ap (λ xs. xs ++ front) (append-nil old) in (
      sym (take_at text (taken text equal difference) (length old) len) ∙ ap (take (length old)) all ∙ take_at old front (length old) refl,
      sym (drop_at text (taken text equal difference) (length old) len) ∙ ap (drop (length old)) all ∙ drop_at old front (length old) refl,
    )

seam : (xs ys : List ℕ) (y : ℕ) → slice_get (xs ++ y ∷ ys) (length xs) ≡ Some y
seam [] ys y = refl
seam (x ∷ xs) ys y = seam xs ys y

-- a text with another byte there is another text
pub differs_there : (text rest whole : List ℕ) (equal : ℕ) (d : ℕ × ℕ) → equal ≤ length text → slice_get text equal ≢ Some d.0 → whole ≡ taken text equal (Some d) ++ rest → text ≢ whole
differs_there text rest whole equal d within other is same =
    let front : length (take equal text) ≡ equal = length-take-le equal text within in
    let split : text ≡ take equal text ++ (d.0 ∷ rest) = same ∙ is ∙ append_assoc (take equal text) (d.0 ∷ []) rest in
    other (ap (λ xs. slice_get xs equal) split ∙ subst (λ n. slice_get (take equal text ++ d.0 ∷ rest) n ≡ Some d.0) front (seam (take equal text) rest d.0))

-- no byte is behind the end
pub beyond : (text : List ℕ) (n byte : ℕ) → length text ≤ n → slice_get text n ≢ Some byte
beyond text n byte past is = false≢true (ap is_some (sym (slice_get_past text n past) ∙ is))

-- a front is the whole text exactly if it is as long
pub whole_if : (text whole : List ℕ) (equal : ℕ) → equal ≤ length text → take equal text ≡ whole → IsTrue (nat_eq equal (length text)) ↔ (text ≡ whole)
whole_if text whole equal within is = (
  λ h. let count : equal ≡ length text = (Decides-eqb equal (length text)).0 h in sym (take_all equal text (omega (arith, count))) ∙ is,
  λ same. (Decides-eqb equal (length text)).1 (sym (length-take-le equal text within) ∙ ap length (is ∙ sym same)),
)

pub none_if : (difference : Option (ℕ × ℕ)) (none : Bool) → is_some difference ≡ not none → none ≡ true → difference ≡ None
none_if None none is t = refl
none_if (Some d) none is t = absurd (false≢true (sym (is ∙ ap not t)))

-- a sink that failed took a byte that differs
pub failed_after : (difference : Option (ℕ × ℕ)) → failures_since difference ≡ 1 → is_some difference ≡ true
failed_after None once = absurd (omega (arith, once))
failed_after (Some d) once = refl

-- if the sink took a byte that differs, its text is not the whole text that it was given
pub other_text : (text old whole rest : List ℕ) (equal : ℕ) (difference : Option (ℕ × ℕ)) → equal ≤ length text
    → ForSome difference (λ d. slice_get text equal ≢ Some d.0) → is_some difference ≡ true → text ≡ old → whole ≡ taken text equal difference ++ rest → old ≢ whole
other_text text old whole rest equal None within differs some is all same = absurd (false≢true some)
other_text text old whole rest equal (Some d) within differs some is all same = differs_there text rest whole equal d within (differs d refl) all (is ∙ same)
