-- Members with different names can be added to a list in any order, with the same result.
use Rattle.oim_report.proofs.Shared.{◌≡◌, ◌≢◌, ⊎_elim, Bool, true, false, cond, List, [], ◌∷◌, refl, sym, ap, ◌∙◌, All, Less, Equal, Greater, is_lt, tied_itself, and_parts, cases_Bool, All-nil, All-cons, All-head, All-tail, ordering_reverse, QName, exact_name, name_cmp, name_total, Member, is_below, rises, with_member, less_is}

abbrev Entry : Type 0
Entry = QName × Member

one_way : (a b : QName) → a ≢ b → is_lt (name_cmp a b) ≡ false → is_lt (name_cmp b a) ≡ true
one_way a b other h =
    elim (name_cmp a b) as (λ o. name_cmp a b ≡ o → is_lt o ≡ false → is_lt (name_cmp b a) ≡ true) [
      | Less ↦ λ o l. absurd (cc)
      | Equal ↦ λ o l. absurd (other (exact_name a b o))
      | Greater ↦ λ o l. ap is_lt (name_total.antisymm b a ∙ ap ordering_reverse o)
    ] refl h

pub other_way : (a b : QName) → is_lt (name_cmp a b) ≡ true → is_lt (name_cmp b a) ≡ false
other_way a b h = ap is_lt (name_total.antisymm b a ∙ ap ordering_reverse (less_is _ h))

added_at : {b : Bool} (n : QName) (m : Member) (e : Entry) (es : List Entry) → is_lt (name_cmp n e.0) ≡ b → with_member n m (e ∷ es) ≡ cond b ((n, m) ∷ e ∷ es) (e ∷ with_member n m es)
added_at n m e es h = ap (λ b. cond b ((n, m) ∷ e ∷ es) (e ∷ with_member n m es)) h

in_order : (a b : Entry) (es : List Entry) → is_lt (name_cmp a.0 b.0) ≡ true → with_member a.0 a.1 (with_member b.0 b.1 es) ≡ with_member b.0 b.1 (with_member a.0 a.1 es)
in_order a b [] below = added_at a.0 a.1 b [] below ∙ sym (added_at b.0 b.1 a [] (other_way a.0 b.0 below))
in_order a b (e ∷ es) below =
    let add_a : List Entry → List Entry = with_member a.0 a.1 in
    let add_b : List Entry → List Entry = with_member b.0 b.1 in
    let above = other_way a.0 b.0 below in
    ⊎_elim
    (λ b_first.
    let a_first : is_lt (name_cmp a.0 e.0) ≡ true = ap is_lt (name_total.trans a.0 b.0 e.0 (less_is _ below) (less_is _ b_first)) in
    ap add_a (added_at b.0 b.1 e es b_first) ∙ added_at a.0 a.1 b (e ∷ es) below
    ∙ sym (ap add_b (added_at a.0 a.1 e es a_first) ∙ added_at b.0 b.1 a (e ∷ es) above ∙ ap (λ xs. a ∷ xs) (added_at b.0 b.1 e es b_first)))
    (λ b_later.
    ⊎_elim
    (λ a_first.
    ap add_a (added_at b.0 b.1 e es b_later) ∙ added_at a.0 a.1 e (add_b es) a_first
    ∙ sym (ap add_b (added_at a.0 a.1 e es a_first) ∙ added_at b.0 b.1 a (e ∷ es) above ∙ ap (λ xs. a ∷ xs) (added_at b.0 b.1 e es b_later)))
    (λ a_later.
    ap add_a (added_at b.0 b.1 e es b_later) ∙ added_at a.0 a.1 e (add_b es) a_later ∙ ap (λ xs. e ∷ xs) (in_order a b es below)
    ∙ sym (ap add_b (added_at a.0 a.1 e es a_later) ∙ added_at b.0 b.1 e (add_a es) b_later))
    (cases_Bool (is_lt (name_cmp a.0 e.0))))
    (cases_Bool (is_lt (name_cmp b.0 e.0)))

pub either_first : (a b : Entry) (es : List Entry) → a.0 ≢ b.0 → with_member a.0 a.1 (with_member b.0 b.1 es) ≡ with_member b.0 b.1 (with_member a.0 a.1 es)
either_first a b es other =
    ⊎_elim
    (λ below. in_order a b es below)
    (λ above. sym (in_order b a es (one_way a.0 b.0 other above)))
    (cases_Bool (is_lt (name_cmp a.0 b.0)))

pub goes_first : (e : Entry) (es : List Entry) → is_below e.0 es ≡ true → with_member e.0 e.1 es ≡ e ∷ es
goes_first e [] h = refl
goes_first e (f ∷ es) h = added_at e.0 e.1 f es (and_parts (is_lt (name_cmp e.0 f.0)) (is_below e.0 es) h).0

pub below_apart : (n : QName) (es : List Entry) → is_below n es ≡ true → All (λ (e : Entry). e.0 ≢ n) es
below_apart n [] h = All-nil (λ (e : Entry). e.0 ≢ n)
below_apart n (e ∷ es) h =
    let b = and_parts (is_lt (name_cmp n e.0)) (is_below n es) h in
    All-cons (λ (f : Entry). f.0 ≢ n) e es
    (λ same. let tie : name_cmp n e.0 ≡ Equal = ap (name_cmp n) same ∙ tied_itself name_total n in cc (sym (less_is _ b.0) ∙ tie))
    (below_apart n es b.1)

abbrev pub each_added : List Entry → List Entry → List Entry
each_added es [] = es
each_added es (f ∷ fs) = each_added (with_member f.0 f.1 es) fs

added_late : (e : Entry) (fs es : List Entry) → All (λ (f : Entry). f.0 ≢ e.0) fs → each_added (with_member e.0 e.1 es) fs ≡ with_member e.0 e.1 (each_added es fs)
added_late e [] es h = refl
added_late e (f ∷ fs) es h =
    ap (λ xs. each_added xs fs) (either_first f e es (All-head (λ (g : Entry). g.0 ≢ e.0) f fs h))
    ∙ added_late e fs (with_member f.0 f.1 es) (All-tail (λ (g : Entry). g.0 ≢ e.0) f fs h)

pub all_added : (es : List Entry) → rises es ≡ true → each_added [] es ≡ es
all_added [] h = refl
all_added (e ∷ es) h =
    let b = and_parts (is_below e.0 es) (rises es) h in
    added_late e es [] (below_apart e.0 es b.0) ∙ ap (with_member e.0 e.1) (all_added es b.1) ∙ goes_first e es b.0
