-- If `said_members` returns a list, it contains exactly the members that the keys denote. These members fit the sheet
-- if the URIs of all bindings are namespaces, and the keys and texts are UTF-8.
use Rattle.oim_report.proofs.Shared.{◌≡◌, ◌≢◌, ◌⊎◌, inl, inr, ⊎_elim, ℕ, suc, ◌<◌, length, get_or, List, [], ◌∷◌, Bool, true, false, Option, Some, None, refl, sym, ap, subst, ◌∙◌, arith, ◌+◌, drop, add-one, ◌++◌, append_assoc, ◌≤◌, append-nil, ◌||◌, All, Contains, IsTrue, if◌then◌else◌, option_and_then, Any, IsPermutation, is_eq, is_lt, IsUtf8, Less, Bor, drop-cons, map, drop_all, list_any, tied_itself, or_parts, and_parts, All-contains, All-contains_itself, Contains-permutation, IsPermutation-sym, QName, is_name, name_cmp, Binding, name_total, Expands, names_one, has_name, rises, with_member, is_below, repeats, Member, NoMember, MemberText, MemberName, members_grow, names_are_there, less_is, old_or_new, old_is_kept, new_is_there, DimensionKind, Explicit, Typed, SaysDimension, SaysMember, SaysMembers, GivesText, DimensionFits, MemberFits, Given, nil, text, comes_again, named, dimension_names, members_with, said_member, said_members, Sheet, dimension_kind, JsonMember, seen, seen_defined, first_or_later, first_there, later_there, none_there}
use Rattle.std.specs.FinMap as finmap
use Rattle.oim_report.proofs.Accepted.{and_then_some, map_some}
use Rattle.oim_report.proofs.Fitting.{AreNamespaces, IsClean, name_fits}
use Rattle.oim_report.proofs.Naming.{stands}

-- ---- one member

member_says : (bs : List Binding) (k : DimensionKind) (g : Given) (m : Member) → said_member bs (Some k) g ≡ Some m → SaysMember bs k g m
member_says bs Explicit (text t) m e = let n = map_some MemberName (named bs t) m e in subst (SaysMember bs Explicit (text t)) n.2 (stands is_name bs t n.0 n.1)
member_says bs Typed (text t) m e = let same : MemberText t ≡ m = cc in subst (SaysMember bs Typed (text t)) same refl
member_says bs Typed nil m e = let same : NoMember ≡ m = cc in subst (SaysMember bs Typed nil) same refl
member_says bs k g m e = absurd (cc)

of_kind : (o : Option DimensionKind) (bs : List Binding) (g : Given) (m : Member) → said_member bs o g ≡ Some m → (k : DimensionKind) × (o ≡ Some k) × SaysMember bs k g m
of_kind None bs g m e = absurd (cc)
of_kind (Some k) bs g m e = (k, refl, member_says bs k g m e)

dimension_says : (sheet : Sheet) (bs : List Binding) (d : List ℕ × Given) (n : QName) (m : Member) → named bs d.0 ≡ Some n → said_member bs (dimension_kind sheet bs d.0) d.1 ≡ Some m → SaysDimension sheet bs d (n, m)
dimension_says sheet bs d n m name says =
    let k = of_kind (dimension_kind sheet bs d.0) bs d.1 m says in
    record {
      name = stands is_name bs d.0 n name;
      kind = k.0;
      listed = sym (ap (option_and_then (finmap.get sheet.dimensions)) name) ∙ k.1;
      member = k.2;
    }

-- ---- all members

abbrev IsApart : List Binding → List (QName × Member) → List (List ℕ × Given) → Type 0
IsApart bs es ds = (n : QName) → Contains (dimension_names bs ds) n → ¬ (IsTrue (has_name n es))

pub record IsWalked (sheet : Sheet) (bs : List Binding) (ds : List (List ℕ × Given)) (old new : List (QName × Member)) : Type 0 where
  pub rising : IsTrue (rises new)
  pub kept : (e : QName × Member) → Contains old e → Contains new e
  pub each : (d : List ℕ × Given) → Contains ds d → (e : QName × Member) × Contains new e × SaysDimension sheet bs d e
  pub others : (e : QName × Member) → Contains new e → Contains old e ⊎ ((d : List ℕ × Given) × Contains ds d × SaysDimension sheet bs d e)

names_here : (bs : List Binding) (d : List ℕ × Given) (ds : List (List ℕ × Given)) (n : QName) → named bs d.0 ≡ Some n → dimension_names bs (d ∷ ds) ≡ n ∷ dimension_names bs ds
names_here bs d ds n e = rw e refl

not_among : (n p : QName) (ns : List QName) → list_any (λ m. is_eq (name_cmp n m)) ns ≡ false → Contains ns p → p ≢ n
not_among n p [] e c = absurd (none_there p c)
not_among n p (m ∷ ms) e c =
    let both = or_parts (is_eq (name_cmp n m)) (list_any (λ q. is_eq (name_cmp n q)) ms) e in
    ⊎_elim (λ same is. (let tie : is_eq (name_cmp n m) ≡ true = ap is_eq (ap (name_cmp n) (same ∙ is) ∙ tied_itself name_total n) in absurd (cc))) (λ later. not_among n p ms both.1 later) (first_or_later m ms p c)

walk : (sheet : Sheet) (bs : List Binding) (ds : List (List ℕ × Given)) (es new : List (QName × Member)) → IsTrue (rises es) → comes_again (dimension_names bs ds) ≡ false → IsApart bs es ds → members_with sheet bs es ds ≡ Some new → IsWalked sheet bs ds es new
walk sheet bs [] es new up once apart e =
    let same : es ≡ new = cc in
    subst (IsWalked sheet bs [] es) same (record { rising = up; kept = λ x c. c; each = λ d c. absurd (none_there d c); others = λ x c. inl c })
walk sheet bs (d ∷ ds) es new up once apart e =
    let a = and_then_some (λ n. option_and_then (λ m. members_with sheet bs (with_member n m es) ds) (said_member bs (dimension_kind sheet bs d.0) d.1)) (named bs d.0) new e in
    let b = and_then_some (λ m. members_with sheet bs (with_member a.0 m es) ds) (said_member bs (dimension_kind sheet bs d.0) d.1) new a.2 in
    let n = a.0 in
    let m = b.0 in
    let names = names_here bs d ds n a.1 in
    let different = or_parts (list_any (λ q. is_eq (name_cmp n q)) (dimension_names bs ds)) (comes_again (dimension_names bs ds)) (sym (ap comes_again names) ∙ once) in
    let free : ¬ (IsTrue (has_name n es)) = apart n (subst (λ ns. Contains ns n) (sym names) (first_there n (dimension_names bs ds))) in
    let more = members_grow n m es up free in
    let still : IsApart bs (with_member n m es) ds = λ p c there.
    let found = (names_are_there p (with_member n m es)).0 there in
    ⊎_elim
    (λ old. apart p (subst (λ ns. Contains ns p) (sym names) (later_there n (dimension_names bs ds) p c)) ((names_are_there p es).1 (found.0, old)))
    (λ is. not_among n p (dimension_names bs ds) different.0 c (ap (λ (f : QName × Member). f.0) is))
    ((more.members (p, found.0)).0 found.1) in
    let rest = walk sheet bs ds (with_member n m es) new more.rises different.1 still b.2 in
    let here = dimension_says sheet bs d n m a.1 b.1 in
    record {
      rising = rest.rising;
      kept = λ x c. rest.kept x ((more.members x).1 (inl c));
      each = λ q c. ⊎_elim
          (λ same. subst (λ k. (x : QName × Member) × Contains new x × SaysDimension sheet bs k x) same ((n, m), rest.kept (n, m) ((more.members (n, m)).1 (inr refl)), here))
          (λ later. rest.each q later)
          (first_or_later d ds q c);
      others = λ x c. ⊎_elim
          (λ old. ⊎_elim
          (λ before. inl before)
          (λ is. inr (d, first_there d ds, subst (SaysDimension sheet bs d) (sym is) here))
          ((more.members x).0 old))
          (λ later. inr (later.0, later_there d ds later.0 later.1, later.2))
          (rest.others x c);
    }

-- ---- starting with no members

pub once_said : (again : Bool) (o : Option (List (QName × Member))) (es : List (QName × Member)) → (if again then None else o) ≡ Some es → (again ≡ false) × (o ≡ Some es)
once_said true o es e = absurd (cc)
once_said false o es e = (refl, e)

walked : (sheet : Sheet) (bs : List Binding) (ds : List (List ℕ × Given)) (es : List (QName × Member)) → said_members sheet bs ds ≡ Some es → IsWalked sheet bs ds [] es
walked sheet bs ds es e =
    let said = once_said (comes_again (dimension_names bs ds)) (members_with sheet bs [] ds) es e in
    walk sheet bs ds [] es refl said.0 (λ n c there. absurd (cc)) said.1

pub members_rise : (sheet : Sheet) (bs : List Binding) (ds : List (List ℕ × Given)) (es : List (QName × Member)) → said_members sheet bs ds ≡ Some es → IsTrue (rises es)
members_rise sheet bs ds es e = (walked sheet bs ds es e).rising

by_key : (sheet : Sheet) (bs : List Binding) (ds : List (List ℕ × Given)) (es : List (QName × Member)) → IsWalked sheet bs ds [] es → (e : QName × Member) → Contains es e → (d : List ℕ × Given) × Contains ds d × SaysDimension sheet bs d e
by_key sheet bs ds es walk e c = ⊎_elim (λ none. absurd (none_there e none)) (λ found. found) (walk.others e c)

pub members_say : (sheet : Sheet) (bs : List Binding) (ds : List (List ℕ × Given)) (es : List (QName × Member)) → said_members sheet bs ds ≡ Some es → SaysMembers sheet bs ds es
members_say sheet bs ds es e =
    let is = walked sheet bs ds es e in
    record {
      each = λ k d lt. is.each (get_or ds k d) (All-contains_itself ds k d lt);
      others = λ k x lt. (let found = by_key sheet bs ds es is (get_or es k x) (All-contains_itself es k x lt) in (found.1.0, found.0, found.1.1, found.1.2, found.2));
    }

-- ---- each member fits

member_fits : (bs : List Binding) (k : DimensionKind) (g : Given) (m : Member) → AreNamespaces bs → IsClean g → SaysMember bs k g m → MemberFits k m
member_fits bs Explicit g NoMember are clean e = absurd e
member_fits bs Explicit (text t) (MemberName n) are clean e = name_fits bs t n are (clean t refl) e
member_fits bs Typed g (MemberText t) are clean e = clean t e
member_fits bs Typed g NoMember are clean e = tt
member_fits bs k g m are clean e = absurd e

dimension_fits : (sheet : Sheet) (bs : List Binding) (d : List ℕ × Given) (e : QName × Member) → AreNamespaces bs → IsUtf8 d.0 × IsClean d.1 → SaysDimension sheet bs d e → DimensionFits sheet e
dimension_fits sheet bs d e are clean says = record {
  name = name_fits bs d.0 e.0 are clean.0 says.name;
  kind = says.kind;
  listed = says.listed;
  member = member_fits bs says.kind d.1 e.1 are clean.1 says.member;
}

pub members_fit : (sheet : Sheet) (bs : List Binding) (ds : List (List ℕ × Given)) (es : List (QName × Member)) → AreNamespaces bs → All (λ d. IsUtf8 d.0 × IsClean d.1) ds → said_members sheet bs ds ≡ Some es → All (DimensionFits sheet) es
members_fit sheet bs ds es are clean e k x lt =
    let found = by_key sheet bs ds es (walked sheet bs ds es e) (get_or es k x) (All-contains_itself es k x lt) in
    dimension_fits sheet bs found.0 (get_or es k x) are (All-contains (λ (d : List ℕ × Given). IsUtf8 d.0 × IsClean d.1) ds found.0 clean found.1) found.2

-- ---- the taxonomy-defined dimensions of a fact denote at most one list of members that is sorted by name

below_each : (n : QName) (es : List (QName × Member)) (x : QName × Member) → is_below n es ≡ true → Contains es x → name_cmp n x.0 ≡ Less
below_each n [] x below c = absurd (none_there x c)
below_each n (e ∷ es) x below c =
    let both = and_parts (is_lt (name_cmp n e.0)) (is_below n es) below in
    ⊎_elim
    (λ is. subst (λ (f : QName × Member). name_cmp n f.0 ≡ Less) is (less_is (name_cmp n e.0) both.0))
    (λ later. below_each n es x both.1 later)
    (first_or_later e es x c)

not_below_itself : (n : QName) → name_cmp n n ≡ Less → ⊥
not_below_itself n h = let tie = tied_itself name_total n in absurd (cc)

not_later : (e : QName × Member) (es : List (QName × Member)) → is_below e.0 es ≡ true → Contains es e → ⊥
not_later e es below c = not_below_itself e.0 (below_each e.0 es e below c)

in_rest : (e f : QName × Member) (es fs : List (QName × Member)) → e ≡ f → is_below e.0 es ≡ true → ((x : QName × Member) → Contains (e ∷ es) x → Contains (f ∷ fs) x) → (x : QName × Member) → Contains es x → Contains fs x
in_rest e f es fs one below to x c =
    ⊎_elim
    (λ is. absurd (not_later e es below (subst (Contains es) (sym (one ∙ is)) c)))
    (λ later. later)
    (first_or_later f fs x (to x (later_there e es x c)))

same_first : (e f : QName × Member) (es fs : List (QName × Member)) → is_below e.0 es ≡ true → is_below f.0 fs ≡ true → Contains (f ∷ fs) e → Contains (e ∷ es) f → e ≡ f
same_first e f es fs below_e below_f there back =
    ⊎_elim
    (λ is. sym is)
    (λ later. ⊎_elim
    (λ is. is)
    (λ behind. absurd (not_below_itself e.0 (name_total.trans e.0 f.0 e.0 (below_each e.0 es f below_e behind) (below_each f.0 fs e below_f later))))
    (first_or_later e es f back))
    (first_or_later f fs e there)

pub same_rising : (es fs : List (QName × Member)) → IsTrue (rises es) → IsTrue (rises fs) → ((x : QName × Member) → Contains es x → Contains fs x) → ((x : QName × Member) → Contains fs x → Contains es x) → es ≡ fs
same_rising [] [] up_e up_f to back = refl
same_rising [] (f ∷ fs) up_e up_f to back = absurd (none_there f (back f (first_there f fs)))
same_rising (e ∷ es) [] up_e up_f to back = absurd (none_there e (to e (first_there e es)))
same_rising (e ∷ es) (f ∷ fs) up_e up_f to back =
    let rising_e = and_parts (is_below e.0 es) (rises es) up_e in
    let rising_f = and_parts (is_below f.0 fs) (rises fs) up_f in
    let one = same_first e f es fs rising_e.0 rising_f.0 (to e (first_there e es)) (back f (first_there f fs)) in
    let rest = same_rising es fs rising_e.1 rising_f.1 (in_rest e f es fs one rising_e.0 to) (in_rest f e fs es (sym one) rising_f.0 back) in
    λ i. one i ∷ rest i

pub one_some : {X : Type 0} (o : Option X) (x y : X) → o ≡ Some x → o ≡ Some y → x ≡ y
one_some o x y p q = cc

pub no_text : (g : Given) (Says : List ℕ → Type 0) → g ≡ nil → GivesText g Says → ⊥
no_text (text t) Says e h = absurd (cc)
no_text g Says e h = h

pub one_text : (C : Type 0) (g : Given) (P Q : List ℕ → Type 0) → GivesText g P → GivesText g Q → ((t : List ℕ) → P t → Q t → C) → C
one_text C (text t) P Q a b both = both t a b
one_text C g P Q a b both = absurd a

pub given_name : (bs : List Binding) (g : Given) (m n : QName) → GivesText g (λ t. Expands bs t m) → GivesText g (λ t. Expands bs t n) → m ≡ n
given_name bs g m n a b = one_text (m ≡ n) g (λ t. Expands bs t m) (λ t. Expands bs t n) a b (λ t p q. names_one is_name bs t m n p q)

one_member : (bs : List Binding) (k : DimensionKind) (g : Given) (m n : Member) → SaysMember bs k g m → SaysMember bs k g n → m ≡ n
one_member bs Explicit g (MemberName m) (MemberName n) a b = ap MemberName (given_name bs g m n a b)
one_member bs Explicit g (MemberText s) n a b = absurd a
one_member bs Explicit g NoMember n a b = absurd a
one_member bs Typed g (MemberName m) n a b = absurd a
one_member bs Typed g (MemberText s) (MemberText t) a b = let same : text s ≡ text t = sym a ∙ b in cc
one_member bs Typed g (MemberText s) NoMember a b = let same : text s ≡ nil = sym a ∙ b in absurd (cc)
one_member bs Typed g NoMember (MemberText t) a b = let same : nil ≡ text t = sym a ∙ b in absurd (cc)
one_member bs Typed g NoMember NoMember a b = refl
one_member bs k g m n a b = absurd b

one_dimension : (sheet : Sheet) (bs : List Binding) (d : List ℕ × Given) (e f : QName × Member) → SaysDimension sheet bs d e → SaysDimension sheet bs d f → e ≡ f
one_dimension sheet bs d e f a b =
    let name : e.0 ≡ f.0 = names_one is_name bs d.0 e.0 f.0 a.name b.name in
    let kind : a.kind ≡ b.kind = one_some (finmap.get sheet.dimensions f.0) a.kind b.kind (subst (λ n. finmap.get sheet.dimensions n ≡ Some a.kind) name a.listed) b.listed in
    let member : e.1 ≡ f.1 = one_member bs b.kind d.1 e.1 f.1 (subst (λ k. SaysMember bs k d.1 e.1) kind a.member) b.member in
    λ i. (name i, member i)

is_among : (sheet : Sheet) (bs : List Binding) (ds : List (List ℕ × Given)) (es fs : List (QName × Member)) → SaysMembers sheet bs ds es → SaysMembers sheet bs ds fs → (e : QName × Member) → Contains es e → Contains fs e
is_among sheet bs ds es fs a b e c =
    let key = All-contains (λ x. Any (λ d. SaysDimension sheet bs d x) ds) es e a.others c in
    let found = All-contains (λ d. (x : QName × Member) × Contains fs x × SaysDimension sheet bs d x) ds key.1 b.each (key.0, key.2, key.3) in
    subst (Contains fs) (one_dimension sheet bs key.1 found.0 e found.2 key.4) found.1

pub one_list : (sheet : Sheet) (bs : List Binding) (ds : List (List ℕ × Given)) (es fs : List (QName × Member)) → IsTrue (rises es) → IsTrue (rises fs) → SaysMembers sheet bs ds es → SaysMembers sheet bs ds fs → es ≡ fs
one_list sheet bs ds es fs up_e up_f a b = same_rising es fs up_e up_f (is_among sheet bs ds es fs a b) (is_among sheet bs ds fs es b a)

-- ---- the members of taxonomy-defined dimensions, read one after another

abbrev pub names_of : List (QName × Member) → List QName
names_of es = map (λ e. e.0) es

abbrev pub seen_item : Bor (List ℕ) × JsonMember → List ℕ × Given
seen_item x = (x.0.now, seen x.1)

pub next_defined : (xs : List (Bor (List ℕ) × JsonMember)) (i : ℕ) (x : Bor (List ℕ) × JsonMember) → i < length xs → seen_defined (drop i xs) ≡ seen_item (get_or xs i x) ∷ seen_defined (drop (i + 1) xs)
next_defined xs i x within = rw (add-one, drop-cons xs i x) refl

pub members_more : (sheet : Sheet) (bs : List Binding) (d : List ℕ × Given) (ds : List (List ℕ × Given)) (es : List (QName × Member)) (n : QName) (m : Member) → named bs d.0 ≡ Some n → said_member bs (dimension_kind sheet bs d.0) d.1 ≡ Some m → members_with sheet bs es (d ∷ ds) ≡ members_with sheet bs (with_member n m es) ds
members_more sheet bs d ds es n m names said = rw (said, names) refl

names_pushed : (es : List (QName × Member)) (e : QName × Member) → names_of (es ++ e ∷ []) ≡ names_of es ++ e.0 ∷ []
names_pushed [] e = refl
names_pushed (f ∷ es) e = ap (λ ns. f.0 ∷ ns) (names_pushed es e)

pub names_more : (bs : List Binding) (d : List ℕ × Given) (ds : List (List ℕ × Given)) (es : List (QName × Member)) (n : QName) (m : Member) → named bs d.0 ≡ Some n → names_of es ++ dimension_names bs (d ∷ ds) ≡ names_of (es ++ (n, m) ∷ []) ++ dimension_names bs ds
names_more bs d ds es n m names =
    ap (λ ns. names_of es ++ ns) (rw names refl)
    ∙ sym (append_assoc (names_of es) (n ∷ []) (dimension_names bs ds))
    ∙ ap (λ ns. ns ++ dimension_names bs ds) (sym (names_pushed es (n, m)))

-- ---- the reader collects all members of taxonomy-defined dimensions, then sorts them. `said_members` returns the same list

abbrev Item : Type 0
Item = QName × Member

abbrev pub with_each : List Item → List Item → List Item
with_each [] es = es
with_each (f ∷ fs) es = with_each fs (with_member f.0 f.1 es)

pub with_each-push : (fs es : List Item) (f : Item) → with_each (fs ++ f ∷ []) es ≡ with_member f.0 f.1 (with_each fs es)
with_each-push [] es f = refl
with_each-push (g ∷ fs) es f = with_each-push fs (with_member g.0 g.1 es) f

old_or_one : (fs es : List Item) (x : Item) → Contains (with_each fs es) x → Contains es x ⊎ Contains fs x
old_or_one [] es x c = inl c
old_or_one (f ∷ fs) es x c =
    ⊎_elim
    (λ old. ⊎_elim inl (λ is. inr (0, omega arith, sym is)) (old_or_new f.0 f.1 x es old))
    (λ later. inr (suc later.0, omega (arith, later.1), later.2))
    (old_or_one fs (with_member f.0 f.1 es) x c)

old_is_there : (fs es : List Item) (x : Item) → Contains es x → Contains (with_each fs es) x
old_is_there [] es x c = c
old_is_there (f ∷ fs) es x c = old_is_there fs (with_member f.0 f.1 es) x (old_is_kept f.0 f.1 x es c)

each_is_there : (fs es : List Item) (x : Item) → Contains fs x → Contains (with_each fs es) x
each_is_there [] es x c = absurd (none_there x c)
each_is_there (f ∷ fs) es x c =
    ⊎_elim
    (λ is. old_is_there fs (with_member f.0 f.1 es) x (subst (Contains (with_member f.0 f.1 es)) is (new_is_there f.0 f.1 es)))
    (λ later. each_is_there fs (with_member f.0 f.1 es) x later)
    (first_or_later f fs x c)

same_there : (n : QName) (fs : List Item) → list_any (λ m. is_eq (name_cmp n m)) (names_of fs) ≡ has_name n fs
same_there n [] = refl
same_there n (f ∷ fs) = ap (λ b. is_eq (name_cmp n f.0) || b) (same_there n fs)

pub comes_again_is : (fs : List Item) → comes_again (names_of fs) ≡ repeats fs
comes_again_is [] = refl
comes_again_is (f ∷ fs) = λ i. same_there f.0 fs i || comes_again_is fs i

nothing_after : {A B C : Type 0} (g : A → B → Option C) (a : Option A) (b : Option B) → b ≡ None → option_and_then (λ x. option_and_then (g x) b) a ≡ None
nothing_after g None b none = refl
nothing_after g (Some x) b none = ap (option_and_then (g x)) none

module _ (sheet : Sheet) (bs : List Binding) (xs : List (Bor (List ℕ) × JsonMember)) (found : List Item) where
  -- the state of the loop before index i
  pub record AreFound (i : ℕ) : Type 0 where
    pub names : names_of found ++ dimension_names bs (seen_defined (drop i xs)) ≡ dimension_names bs (seen_defined xs)
    pub members : members_with sheet bs (with_each found []) (seen_defined (drop i xs)) ≡ members_with sheet bs [] (seen_defined xs)

  pub put_in_order : (i : ℕ) → length xs ≤ i → AreFound i → (sorted : List Item) → repeats found ≡ false → IsPermutation found sorted → IsTrue (rises sorted) → said_members sheet bs (seen_defined xs) ≡ Some sorted
  put_in_order i past are sorted once moved up =
      let nothing : drop i xs ≡ [] = drop_all i xs past in
      let names : names_of found ≡ dimension_names bs (seen_defined xs) = sym (append-nil (names_of found)) ∙ ap (λ ys. names_of found ++ dimension_names bs (seen_defined ys)) (sym nothing) ∙ are.names in
      let again : comes_again (dimension_names bs (seen_defined xs)) ≡ false = ap comes_again (sym names) ∙ comes_again_is found ∙ once in
      let walked : members_with sheet bs [] (seen_defined xs) ≡ Some (with_each found []) = sym are.members ∙ ap (λ ys. members_with sheet bs (with_each found []) (seen_defined ys)) nothing in
      let said : said_members sheet bs (seen_defined xs) ≡ Some (with_each found []) = ap (λ b. if b then None else members_with sheet bs [] (seen_defined xs)) again ∙ walked in
      said
      ∙ ap Some (same_rising (with_each found []) sorted (members_rise sheet bs (seen_defined xs) (with_each found []) said) up
      (λ x c. Contains-permutation found sorted x moved (⊎_elim (λ old. absurd (none_there x old)) (λ one. one) (old_or_one found [] x c)))
      (λ x c. each_is_there found [] x (Contains-permutation sorted found x (IsPermutation-sym found sorted moved) c)))

  either_none : {X : Type 0} (b : Bool) (o : Option X) → o ≡ None → (if b then None else o) ≡ None
  either_none true o none = refl
  either_none false o none = none

  -- a member that denotes nothing, or a repeated name, is enough for no members to be said
  pub unsaid_at : (i : ℕ) (x : Bor (List ℕ) × JsonMember) → i < length xs → AreFound i → let d = seen_item (get_or xs i x) in said_member bs (dimension_kind sheet bs d.0) d.1 ≡ None → said_members sheet bs (seen_defined xs) ≡ None
  unsaid_at i x within are none =
      let d = seen_item (get_or xs i x) in
      let es = with_each found [] in
      let rest = seen_defined (drop (i + 1) xs) in
      let stops : members_with sheet bs es (d ∷ rest) ≡ None = nothing_after (λ n m. members_with sheet bs (with_member n m es) rest) (named bs d.0) (said_member bs (dimension_kind sheet bs d.0) d.1) none in
      either_none (comes_again (dimension_names bs (seen_defined xs))) (members_with sheet bs [] (seen_defined xs)) (sym are.members ∙ ap (members_with sheet bs es) (next_defined xs i x within) ∙ stops)

  pub unsaid_again : (i : ℕ) → length xs ≤ i → AreFound i → repeats found ≡ true → said_members sheet bs (seen_defined xs) ≡ None
  unsaid_again i past are again =
      let nothing : drop i xs ≡ [] = drop_all i xs past in
      let names : names_of found ≡ dimension_names bs (seen_defined xs) = sym (append-nil (names_of found)) ∙ ap (λ ys. names_of found ++ dimension_names bs (seen_defined ys)) (sym nothing) ∙ are.names in
      let twice : comes_again (dimension_names bs (seen_defined xs)) ≡ true = ap comes_again (sym names) ∙ comes_again_is found ∙ again in
      ap (λ b. if b then None else members_with sheet bs [] (seen_defined xs)) twice

pub found_more : (sheet : Sheet) (bs : List Binding) (xs : List (Bor (List ℕ) × JsonMember)) (found new : List Item) (i : ℕ) (x : Bor (List ℕ) × JsonMember) (within : i < length xs) (n : QName) (m : Member) → let d = seen_item (get_or xs i x) in
    named bs d.0 ≡ Some n → said_member bs (dimension_kind sheet bs d.0) d.1 ≡ Some m → new ≡ found ++ (n, m) ∷ [] → AreFound sheet bs xs found i → AreFound sheet bs xs new (i + 1)
found_more sheet bs xs found new i x within n m names said pushed are =
    let d = seen_item (get_or xs i x) in
    let ds = seen_defined (drop (i + 1) xs) in
    let next = sym (next_defined xs i x within) in record {
      names =
          ap (λ fs. names_of fs ++ dimension_names bs ds) pushed
          ∙ sym (names_more bs d ds found n m names)
          ∙ ap (λ all. names_of found ++ dimension_names bs all) next
          ∙ are.names;
      members =
          ap (λ fs. members_with sheet bs (with_each fs []) ds) pushed
          ∙ ap (λ es. members_with sheet bs es ds) (with_each-push found [] (n, m))
          ∙ sym (members_more sheet bs d ds (with_each found []) n m names said)
          ∙ ap (members_with sheet bs (with_each found [])) next
          ∙ are.members;
    }
