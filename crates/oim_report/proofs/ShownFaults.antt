-- The test for repeated names, while a list of names is read.
use Rattle.oim_report.proofs.Shared.{◌≡◌, ◌≢◌, ◌⊎◌, inl, inr, Result, Ok, Err, ℕ, List, [], ◌∷◌, Bool, true, false, cond, ◌||◌, refl, sym, ap, ◌∙◌, map, not, ◌&&◌, ◌++◌, Option, Some, None, if◌then◌else◌, is_some, IfErr, codes, option_and_then, option_map, IfOk, filter_map, filter, find, flat_map, is_eq, option_to_list, unwrap_or, IsUtf8, FinMap, get-empty, get-insert, list_any, cons_option, result_ok, option_map_or, option_or, find-append, is_utf8-from_IsUtf8, QName, is_name, name_cmp, Binding, name_refusal, Spelled, refuses, Expands, a_name, an_entity, Reason, OutOfMemory, Feature, MemberForm, UnknownMember, Namespace, named_kept, denominator_pieces, is_unit_text, numerator_pieces, Data, Items, no_items, item, Members, no_members, member, comes_again, named, refuses_some, DimensionKind, Explicit, defined_name, misdeclared, first_defined, names_at, names_in, names_with, defined_members, is_defined, bindings_of, features_of, info, is_allowed_duplicates, namespaces_of, any_in, any_member, entries, members, has_colon, binds_nothing, Name, Part, Nothing, some_found}
use Rattle.std.specs.FinMap as map
use Rattle.oim_dims.proofs.Rising.{same_back}
use Rattle.oim_report.specs.Shown.{repeated, Shown, document_part, document_shown, entry, first_item, name, nothing, value, value_or_nothing, when, beside_first, first_shown, seen}
use Rattle.oim_report.specs.Holds.{any_item, declares_no_level, document_holds, concept, explicit_text, is_misfit, is_some_and, names, pieces, text_at, value_text}
use Rattle.oim_report.specs.Sheet.{Sheet, same_concept_kind, key_names, sheet_concepts, sheet_dimensions, sheet_holds, sheet_names, sheet_namespaces}
use Rattle.oim_report.specs.Least.{least}
use Rattle.oim_report.proofs.Naming.{stands, expanded}
use Rattle.oim_report.proofs.SheetEntries.{name_total}
use Rattle.oim_report.proofs.DocumentHolds.{feature_same}

-- some name of the list is in the map, or is repeated in the list
abbrev pub again_after : {K : Type 0} → FinMap name_cmp K → List QName → Bool
again_after m ns = list_any (λ n. map.contains_key m n) ns || comes_again ns

turned : (m n : QName) → is_eq (name_cmp m n) ≡ is_eq (name_cmp n m)
turned m n = ap is_eq (name_total.antisymm m n) ∙ same_back (name_cmp n m)

mixed : (a b c d : Bool) → ((a || b) || (c || d)) ≡ ((a || c) || (b || d))
mixed false true true d = refl
mixed a b c d = refl

regrouped : (same before again : Bool) → ((same || before) || again) ≡ ((false || before) || (same || again))
regrouped true true again = refl
regrouped same before again = refl

module _ {K : Type 0} where
  nowhere : (m : FinMap name_cmp K) (ns : List QName) → m ≡ map.empty → list_any (λ n. map.contains_key m n) ns ≡ false
  nowhere m [] is = refl
  nowhere m (n ∷ ns) is = λ i. (ap (λ x. map.contains_key x n) is ∙ ap is_some (get-empty name_cmp n)) i || nowhere m ns is i

  pub none_again : (m : FinMap name_cmp K) (ns : List QName) → m ≡ map.empty → again_after m ns ≡ comes_again ns
  none_again m ns is = ap (λ b. b || comes_again ns) (nowhere m ns is)

  pub there : (m : FinMap name_cmp K) (n : QName) (ns : List QName) → map.contains_key m n ≡ true → again_after m (n ∷ ns) ≡ true
  there m n ns h = ap (λ b. (b || list_any (λ n. map.contains_key m n) ns) || comes_again (n ∷ ns)) h

  pub some_or : (b : Bool) (v : K) (o : Option K) → is_some (cond b (Some v) o) ≡ (b || is_some o)
  some_or true v o = refl
  some_or false v o = refl

  with_name : (m : FinMap name_cmp K) (n : QName) (k : K) (ns : List QName) → list_any (λ q. map.contains_key (map.insert m n k) q) ns ≡ (list_any (λ q. is_eq (name_cmp n q)) ns || list_any (λ q. map.contains_key m q) ns)
  with_name m n k [] = refl
  with_name m n k (q ∷ qs) =
      (λ i. (ap is_some (get-insert name_total m n k q) ∙ some_or (is_eq (name_cmp q n)) k (map.get m q) ∙ ap (λ b. b || map.contains_key m q) (turned q n)) i || with_name m n k qs i)
      ∙ mixed (is_eq (name_cmp n q)) (map.contains_key m q) (list_any (λ q. is_eq (name_cmp n q)) qs) (list_any (λ q. map.contains_key m q) qs)

  pub put_as : (m : FinMap name_cmp K) (n : QName) (k : K) → map.contains_key m n ≡ false → (if map.contains_key m n then m else map.insert m n k) ≡ map.insert m n k
  put_as m n k new = ap (λ b. if b then m else map.insert m n k) new

  pub next : (m after : FinMap name_cmp K) (n : QName) (k : K) (ns : List QName) → map.contains_key m n ≡ false → after ≡ (if map.contains_key m n then m else map.insert m n k) → again_after after ns ≡ again_after m (n ∷ ns)
  next m after n k ns new put =
      ap (λ m. again_after m ns) (put ∙ put_as m n k new)
      ∙ ap (λ b. b || comes_again ns) (with_name m n k ns)
      ∙ regrouped (list_any (λ q. is_eq (name_cmp n q)) ns) (list_any (λ q. map.contains_key m q) ns) (comes_again ns)
      ∙ ap (λ b. (b || list_any (λ q. map.contains_key m q) ns) || comes_again (n ∷ ns)) (sym new)

refused_by : (bs : List Binding) (t : List ℕ) (r : Reason) (o : Option QName) → name_refusal bs t ≡ Some r → named bs t ≡ o → o ≡ None
refused_by bs t r None refused is = refl
refused_by bs t r (Some n) refused is = let no : None ≡ Some r = sym (named_kept is_name bs t n (stands is_name bs t n is)) ∙ refused in absurd (cc)

pub refused_none : (bs : List Binding) (t : List ℕ) (r : Reason) → name_refusal bs t ≡ Some r → named bs t ≡ None
refused_none bs t r refused = refused_by bs t r (named bs t) refused refl

pub read_none : (bs : List Binding) (t : List ℕ) (read : Result QName Reason) → None ≡ result_ok read → read ≢ Err OutOfMemory → IfErr read (λ r. (r ≡ OutOfMemory) ⊎ (name_refusal bs t ≡ Some r)) → named bs t ≡ None
read_none bs t (Ok m) is other e = absurd (cc)
read_none bs t (Err r) is other (inl memory) = absurd (other (ap Err memory))
read_none bs t (Err r) is other (inr refused) = refused_none bs t r refused

-- ---- The search for the first member whose key spells the name of an earlier member.

abbrev pub Names : Type 0
Names = FinMap name_cmp DimensionKind

abbrev pub Entry : Type 0
Entry = List ℕ × Data

abbrev pub names_of : List Binding → List Entry → List QName
names_of bs es = filter_map (λ e. named bs e.0) es

-- the first member whose name is in the map, or is the name of an earlier member
abbrev pub repeated_in : List Binding → Names → List Entry → Option Entry
repeated_in bs m [] = None
repeated_in bs m (e ∷ es) = option_map_or (λ n. if map.contains_key m n then Some e else repeated_in bs (map.insert m n Explicit) es) (named bs e.0) (repeated_in bs m es)

abbrev Has : Names → List QName → Type 0
Has m ns = (q : QName) → map.contains_key m q ≡ list_any (λ o. is_eq (name_cmp q o)) ns

with_one : (m : Names) (ns : List QName) (n : QName) → Has m ns → Has (map.insert m n Explicit) (n ∷ ns)
with_one m ns n h q = ap is_some (get-insert name_total m n Explicit q) ∙ some_or (is_eq (name_cmp q n)) Explicit (map.get m q) ∙ ap (λ b. is_eq (name_cmp q n) || b) (h q)

at_one : (bs : List Binding) (m : Names) (ns : List QName) (e : Entry) (es : List Entry) (o : Option QName) → Has m ns → repeated_in bs m es ≡ repeated bs ns es → ((n : QName) → repeated_in bs (map.insert m n Explicit) es ≡ repeated bs (n ∷ ns) es)
    → option_map_or (λ n. if map.contains_key m n then Some e else repeated_in bs (map.insert m n Explicit) es) o (repeated_in bs m es) ≡ option_map_or (λ n. if list_any (λ p. is_eq (name_cmp n p)) ns then Some e else repeated bs (n ∷ ns) es) o (repeated bs ns es)
at_one bs m ns e es None h here later = here
at_one bs m ns e es (Some n) h here later = λ i. if h n i then Some e else later n i

in_list : (bs : List Binding) (m : Names) (ns : List QName) (es : List Entry) → Has m ns → repeated_in bs m es ≡ repeated bs ns es
in_list bs m ns [] h = refl
in_list bs m ns (e ∷ es) h = at_one bs m ns e es (named bs e.0) h (in_list bs m ns es h) (λ n. in_list bs (map.insert m n Explicit) (n ∷ ns) es (with_one m ns n h))

pub in_none : (bs : List Binding) (m : Names) (es : List Entry) → m ≡ map.empty → repeated_in bs m es ≡ repeated bs [] es
in_none bs m es is = in_list bs m [] es (λ q. ap (λ x. map.contains_key x q) is ∙ ap is_some (get-empty name_cmp q))

module _ (bs : List Binding) (m : Names) (e : Entry) (es : List Entry) where
  known : (n : QName) (b : Bool) → map.contains_key m n ≡ b → is_some (repeated_in bs (map.insert m n Explicit) es) ≡ again_after (map.insert m n Explicit) (names_of bs es)
      → is_some (if b then Some e else repeated_in bs (map.insert m n Explicit) es) ≡ again_after m (n ∷ names_of bs es)
  known n true h later = sym (there m n (names_of bs es) h)
  known n false h later = later ∙ next m (map.insert m n Explicit) n Explicit (names_of bs es) h (sym (put_as m n Explicit h))

  at_again : (o : Option QName) → is_some (repeated_in bs m es) ≡ again_after m (names_of bs es) → ((n : QName) → is_some (repeated_in bs (map.insert m n Explicit) es) ≡ again_after (map.insert m n Explicit) (names_of bs es))
      → is_some (option_map_or (λ n. if map.contains_key m n then Some e else repeated_in bs (map.insert m n Explicit) es) o (repeated_in bs m es)) ≡ again_after m (cons_option o (names_of bs es))
  at_again None here later = here
  at_again (Some n) here later = known n (map.contains_key m n) refl (later n)

some_again : (bs : List Binding) (m : Names) (es : List Entry) → is_some (repeated_in bs m es) ≡ again_after m (names_of bs es)
some_again bs m [] = refl
some_again bs m (e ∷ es) = at_again bs m e es (named bs e.0) (some_again bs m es) (λ n. some_again bs (map.insert m n Explicit) es)

pub repeated_some : (bs : List Binding) (es : List Entry) → is_some (repeated bs [] es) ≡ comes_again (names_of bs es)
repeated_some bs es = ap is_some (sym (in_none bs map.empty es refl)) ∙ some_again bs map.empty es ∙ none_again map.empty (names_of bs es) refl

module _ (bs : List Binding) (m : Names) (k : List ℕ) (d : Data) (es : List Entry) where
  abbrev pub rest : Bool → Option Entry
  rest b = repeated_in bs m (cond b ((k, d) ∷ es) es)

  abbrev name_if : Bool → Option QName
  name_if b = if b then named bs k else None

  abbrev at_name : Option QName → Option Entry
  at_name o = option_map_or (λ n. if map.contains_key m n then Some (k, d) else repeated_in bs (map.insert m n Explicit) es) o (repeated_in bs m es)

  rest_is : (b : Bool) → rest b ≡ at_name (name_if b)
  rest_is true = refl
  rest_is false = refl

  at_each : (o : Option QName) → at_name o ≡ (if is_some_and (map.contains_key m) o then Some (k, d) else repeated_in bs (names_with m o) es)
  at_each None = refl
  at_each (Some n) =
      elim (map.contains_key m n) as (λ b. (if b then Some (k, d) else repeated_in bs (map.insert m n Explicit) es) ≡ (if b then Some (k, d) else repeated_in bs (if b then m else map.insert m n Explicit) es)) [ true ↦ refl | false ↦ refl ]

  pub after_key : (after : Names) (again : Bool) → again ≡ is_some_and (map.contains_key m) (defined_name bs k) → after ≡ names_with m (defined_name bs k) → rest (is_defined k) ≡ (if again then Some (k, d) else repeated_in bs after es)
  after_key after again is names =
      rest_is (is_defined k) ∙ at_each (defined_name bs k) ∙ (λ i. if sym is i then Some (k, d) else repeated_in bs (sym names i) es)

-- ---- The first part to which a condition applies, and whether there is such a part.

pub any_found : (test : List ℕ → Data → Bool) (ms : Members) → any_member test ms ≡ is_some (find (λ m. test m.0 m.1) (entries ms))
any_found test no_members = refl
any_found test (member key d ms) = ap (λ b. test key d || b) (any_found test ms) ∙ sym (some_or (test key d) (key, d) (find (λ m. test m.0 m.1) (entries ms)))

pub any_found_in : (test : List ℕ → Data → Bool) (ms : Option Members) → any_in test ms ≡ is_some (find (λ m. test m.0 m.1) (entries (members ms)))
any_found_in test None = refl
any_found_in test (Some ms) = any_found test ms

pub shown_found : {A : Type 0} (f : A → Shown) (o : Option A) → option_map f o ≡ when (is_some o) (option_map_or f o nothing)
shown_found f None = refl
shown_found f (Some a) = refl

pub entry_shown : (test : List ℕ → Data → Bool) (ms : Option Members) → let first = find (λ m. test m.0 m.1) (entries (members ms)) in option_map entry first ≡ when (any_in test ms) (option_map_or entry first nothing)
entry_shown test ms = let first = find (λ m. test m.0 m.1) (entries (members ms)) in shown_found entry first ∙ ap (λ b. when b (option_map_or entry first nothing)) (sym (any_found_in test ms))

some_item : (test : Data → Bool) (ds : Items) → is_some (first_item test ds) ≡ any_item test ds
some_item test no_items = refl
some_item test (item d ds) = some_or (test d) d (first_item test ds) ∙ ap (λ b. test d || b) (some_item test ds)

pub item_shown : (test : Data → Bool) (ds : Items) → option_map value (first_item test ds) ≡ when (any_item test ds) (value_or_nothing (first_item test ds))
item_shown test ds = shown_found value (first_item test ds) ∙ ap (λ b. when b (value_or_nothing (first_item test ds))) (some_item test ds)

only : {A : Type 0} (b : Bool) (t : A → Bool) (x : A) (xs : List A) (o : Option A) → o ≡ find t xs → cond (b && t x) (Some x) o ≡ find t (cond b (x ∷ xs) xs)
only true t x xs o is = ap (λ o. cond (t x) (Some x) o) is
only false t x xs o is = is

pub find_filter : {A : Type 0} (p t : A → Bool) (xs : List A) → find (λ x. p x && t x) xs ≡ find t (filter p xs)
find_filter p t [] = refl
find_filter p t (x ∷ xs) = only (p x) t x (filter p xs) _ (find_filter p t xs)

mapped : {A B : Type 0} (b : Bool) (f : A → B) (x : A) (o : Option A) → cond b (Some (f x)) (option_map f o) ≡ option_map f (cond b (Some x) o)
mapped true f x o = refl
mapped false f x o = refl

pub find_map : {A B : Type 0} (p : B → Bool) (f : A → B) (xs : List A) → find p (map f xs) ≡ option_map f (find (λ x. p (f x)) xs)
find_map p f [] = refl
find_map p f (x ∷ xs) = ap (cond (p (f x)) (Some (f x))) (find_map p f xs) ∙ mapped (p (f x)) f x (find (λ x. p (f x)) xs)

pub piece_shown : (test : Spelled → Bool) (found : Option (List ℕ)) (t : List ℕ) (piece : Option (List ℕ)) → found ≡ Some t → is_unit_text t ≡ true → piece ≡ find (λ p. test (a_name p)) (numerator_pieces t ++ denominator_pieces t)
    → option_map name (option_map a_name piece) ≡ option_map name (find test (map a_name (option_map_or pieces found [])))
piece_shown test found t piece is form first =
    let all = numerator_pieces t ++ denominator_pieces t in
    ap (λ o. option_map name (option_map a_name o)) first
    ∙ ap (option_map name) (sym (find_map test a_name all))
    ∙ ap (λ b. option_map name (find test (map a_name (if b then all else [])))) (sym form)
    ∙ ap (λ o. option_map name (find test (map a_name (option_map_or pieces o [])))) (sym is)

pub name_shown : (r : Reason) (bs : List Binding) (ns : List Spelled) → let first = find (refuses r bs) ns in option_map name first ≡ when (refuses_some r bs ns) (option_map_or name first nothing)
name_shown r bs ns = let first = find (refuses r bs) ns in shown_found name first ∙ ap (λ b. when b (option_map_or name first nothing)) (some_found (refuses r bs) ns)

unless_hidden : {A : Type 0} (bad c : Bool) (a : A) (f : A → Option Shown) (x : Shown) → f a ≡ when c x → option_and_then f (if bad then None else Some a) ≡ when (not (bad || false) && c) x
unless_hidden true c a f x is = refl
unless_hidden false c a f x is = is

pub feature_shown : (tree : Data) → option_and_then (λ bs. misdeclared bs tree) (if any_in binds_nothing (namespaces_of tree) then None else Some (bindings_of tree)) ≡ document_part tree Feature
unfolding document_holds document_shown
feature_shown tree =
    unless_hidden (any_in binds_nothing (namespaces_of tree)) (document_holds tree Feature) (bindings_of tree) (λ bs. misdeclared bs tree) (document_shown tree Feature)
    (λ i. when (feature_same tree i) (option_map_or entry (find_filter (λ m. is_allowed_duplicates (bindings_of tree) m.0) declares_no_level (entries (features_of tree)) i) (value_or_nothing (info (codes "features") tree))))

-- ---- The searches for the dimension or name at fault return the part that specs/Shown.antt defines.

pub unlisted_shown : (test : List ℕ → Data → Bool) (ms : Members) → let first = find (λ m. test m.0 m.1) (defined_members ms) in
    option_map (λ m. name (a_name m.0)) (first_defined test ms) ≡ when (list_any (λ m. test m.0 m.1) (defined_members ms)) (option_map_or (λ m. name (a_name m.0)) first nothing)
unlisted_shown test ms =
    let first = find (λ m. test m.0 m.1) (defined_members ms) in
    ap (option_map (λ m. name (a_name m.0))) (find_filter (λ m. is_defined m.0) (λ m. test m.0 m.1) (entries ms))
    ∙ shown_found (λ m. name (a_name m.0)) first
    ∙ ap (λ b. when b (option_map_or (λ m. name (a_name m.0)) first nothing)) (some_found (λ m. test m.0 m.1) (defined_members ms))

pub either_shown : (o p : Option (List ℕ × Data)) (a b : Bool) (f g : List ℕ × Data → Shown) → is_some o ≡ a → is_some p ≡ b → option_or (option_map f o) (option_map g p) ≡ when (a || b) (option_map_or f o (option_map_or g p nothing))
either_shown None None false false f g h k = refl
either_shown None (Some q) false true f g h k = refl
either_shown (Some m) p true b f g h k = refl
either_shown o p a b f g h k = absurd (cc)

module _ (sheet : Sheet) (bs : List Binding) (ms : Members) where
  abbrev misfit : List ℕ × Data → Bool
  misfit m = is_misfit sheet bs m.0 m.1

  abbrev two_of : List ℕ × Data → Shown
  two_of m = beside_first bs (entries ms) m.0

  pub misfit_shown : option_or (option_map entry (first_defined (is_misfit sheet bs) ms)) (option_map two_of (repeated bs [] (defined_members ms)))
      ≡ when (list_any misfit (defined_members ms) || comes_again (filter_map (λ m. named bs m.0) (defined_members ms))) (option_map_or entry (find misfit (defined_members ms)) (option_map_or two_of (repeated bs [] (defined_members ms)) nothing))
  misfit_shown =
      ap (λ o. option_or (option_map entry o) (option_map two_of (repeated bs [] (defined_members ms)))) (find_filter (λ m. is_defined m.0) misfit (entries ms))
      ∙ either_shown (find misfit (defined_members ms)) (repeated bs [] (defined_members ms)) _ _ entry two_of (some_found misfit (defined_members ms)) (repeated_some bs (defined_members ms))

and_true : (b : Bool) → b ≡ (b && true)
and_true true = refl
and_true false = refl

pub colon_utf8 : (key : List ℕ) → IsUtf8 key → has_colon key ≡ is_defined key
colon_utf8 key utf8 = and_true (has_colon key) ∙ ap (λ b. has_colon key && b) (sym (is_utf8-from_IsUtf8 key utf8))

as_read : (bs : List Binding) (t : List ℕ) (read : Result QName Reason) → IfOk read (Expands bs t) → IfErr read (λ r. (r ≡ OutOfMemory) ⊎ (name_refusal bs t ≡ Some r)) → read ≢ Err OutOfMemory → result_ok read ≡ named bs t
as_read bs t (Ok n) e refused other = sym (expanded is_name bs t n e)
as_read bs t (Err r) e refused other = sym (read_none bs t (Err r) refl other refused)

pub read_name : {E : Type 0} (bs : List Binding) (t : List ℕ) (read : Result QName Reason) → IfOk read (Expands bs t) → IfErr read (λ r. (r ≡ OutOfMemory) ⊎ (name_refusal bs t ≡ Some r))
    → (found : Result (Option QName) E) → IfOk found (λ o. (o ≡ result_ok read) × (read ≢ Err OutOfMemory)) → IfOk found (λ o. o ≡ named bs t)
read_name bs t read e refused (Ok o) h = h.0 ∙ as_read bs t read e refused h.1
read_name bs t read e refused (Err x) h = h

-- ---- the first refused name of a fact

same_names : (p : Bool) (each : List ℕ × Data → List Spelled) (m : List ℕ × Data) (ms : List (List ℕ × Data)) (ns : List Spelled) → ns ≡ flat_map each ms → ((if p then each m else []) ++ ns) ≡ flat_map each (cond p (m ∷ ms) ms)
same_names true each m ms ns is = ap (λ l. each m ++ l) is
same_names false each m ms ns is = is

module _ (sheet : Sheet) (bs : List Binding) (fact : Data) (ms : Members) (r : Reason) where
  abbrev first : List Spelled → Option Spelled
  first ns = find (refuses r bs) ns

  abbrev each : List ℕ × Data → List Spelled
  each m = a_name m.0 ∷ map a_name (option_to_list (explicit_text sheet bs m))

  in_defined : (xs : Members) → names_in sheet bs xs ≡ flat_map each (defined_members xs)
  in_defined no_members = refl
  in_defined (member key d xs) = same_names (is_defined key) each (key, d) (defined_members xs) (names_in sheet bs xs) (in_defined xs)

  abbrev of_value : List Spelled
  of_value = map a_name (if is_some_and (same_concept_kind Name) (option_and_then (map.get sheet.concepts) (concept sheet bs fact ms)) then option_to_list (value_text sheet bs fact ms) else [])

  abbrev of_concept : List Spelled
  of_concept = map a_name (option_to_list (text_at sheet bs fact ms (codes "concept")))

  abbrev of_entity : List Spelled
  of_entity = map an_entity (option_to_list (text_at sheet bs fact ms (codes "entity")))

  abbrev of_dimensions : List Spelled
  of_dimensions = flat_map each (defined_members ms)

  abbrev of_unit : List Spelled
  of_unit = map a_name (option_map_or pieces (text_at sheet bs fact ms (codes "unit")) [])

  names_parts : first (names sheet bs fact ms) ≡ option_or (first of_concept) (option_or (first of_entity) (option_or (first (names_in sheet bs ms)) (option_or (first of_unit) (first of_value))))
  names_parts =
      find-append (refuses r bs) of_concept (of_entity ++ (of_dimensions ++ (of_unit ++ of_value)))
      ∙ ap (option_or (first of_concept))
      (find-append (refuses r bs) of_entity (of_dimensions ++ (of_unit ++ of_value))
      ∙ ap (option_or (first of_entity))
      (find-append (refuses r bs) of_dimensions (of_unit ++ of_value)
      ∙ (λ i. option_or (first (sym (in_defined ms) i)) (find-append (refuses r bs) of_unit of_value i))))

  abbrev shown : List Spelled → Option Shown
  shown ns = option_map name (first ns)

  either : (o p : Option Spelled) → option_map name (option_or o p) ≡ option_or (option_map name o) (option_map name p)
  either None p = refl
  either (Some n) p = refl

  pub shown_parts : shown (names sheet bs fact ms) ≡ option_or (shown of_concept) (option_or (shown of_entity) (option_or (shown (names_in sheet bs ms)) (option_or (shown of_unit) (shown of_value))))
  shown_parts =
      ap (option_map name) names_parts
      ∙ either (first of_concept) _ ∙ ap (option_or (shown of_concept))
      (either (first of_entity) _ ∙ ap (option_or (shown of_entity))
      (either (first (names_in sheet bs ms)) _ ∙ ap (option_or (shown (names_in sheet bs ms))) (either (first of_unit) (first of_value))))

-- ---- the names of the dimensions, one dimension after another

module _ (sheet : Sheet) (bs : List Binding) (test : Spelled → Bool) (key : List ℕ) (d : Data) (ms : Members) where
  here_or : (x : Shown) (o p : Option Spelled) → Some x ≡ option_map name o → Some x ≡ option_map name (option_or o p)
  here_or x None p is = absurd (cc)
  here_or x (Some n) p is = is

  later : (o p : Option Spelled) → None ≡ option_map name o → p ≡ option_or o p
  later None p is = refl
  later (Some n) p is = absurd (cc)

  step : find test (names_in sheet bs (member key d ms)) ≡ option_or (find test (names_at sheet bs (key, d))) (find test (names_in sheet bs ms))
  step = find-append test (names_at sheet bs (key, d)) (names_in sheet bs ms)

  pub found_before : (x : Shown) → Some x ≡ option_map name (find test (names_at sheet bs (key, d))) → Some x ≡ option_map name (find test (names_in sheet bs (member key d ms)))
  found_before x is = here_or x (find test (names_at sheet bs (key, d))) (find test (names_in sheet bs ms)) is ∙ ap (option_map name) (sym step)

  pub none_before : None ≡ option_map name (find test (names_at sheet bs (key, d))) → find test (names_in sheet bs ms) ≡ find test (names_in sheet bs (member key d ms))
  none_before is = later (find test (names_at sheet bs (key, d))) (find test (names_in sheet bs ms)) is ∙ sym step

-- ---- If several parts of a sheet are at fault, the first of these parts is shown.

is_some_map : {A B : Type 0} (f : A → B) (o : Option A) → is_some (option_map f o) ≡ is_some o
is_some_map f None = refl
is_some_map f (Some a) = refl

pub shown_some : {A : Type 0} (o : Option Part) (f : A → Shown) (test : A → Bool) (xs : List A) → option_map seen o ≡ option_map f (find test xs) → is_some o ≡ list_any test xs
shown_some o f test xs is = sym (is_some_map seen o) ∙ ap is_some is ∙ is_some_map f (find test xs) ∙ some_found test xs

pub seen_or : (o : Option Part) → seen (unwrap_or o Nothing) ≡ option_map_or seen o nothing
seen_or None = refl
seen_or (Some p) = refl

pub or_nothing : {A : Type 0} (o : Option Part) (f : A → Shown) (found : Option A) → option_map seen o ≡ option_map f found → seen (unwrap_or o Nothing) ≡ option_map_or f found nothing
or_nothing None f None is = refl
or_nothing (Some p) f (Some a) is = cc
or_nothing o f found is = absurd (cc)

either_name : (o p : Option Spelled) → option_map_or name (option_or o p) nothing ≡ first_shown (option_map name o ∷ option_map name p ∷ [])
either_name None None = refl
either_name o p = refl

pub first_name : (test : Spelled → Bool) (tree : Data) → option_map_or name (find test (sheet_names tree)) nothing
    ≡ first_shown (option_map name (find test (key_names (sheet_concepts tree))) ∷ option_map name (find test (key_names (sheet_dimensions tree))) ∷ [])
first_name test tree =
    let ns = key_names (sheet_concepts tree) in
    let os = key_names (sheet_dimensions tree) in
    ap (λ o. option_map_or name o nothing) (find-append test ns os) ∙ either_name (find test ns) (find test os)

pub refused_if : {A : Type 0} (bad : Bool) (a : A) → None ≡ (if bad then None else Some a) → bad ≡ true
refused_if true a is = refl
refused_if false a is = absurd (cc)

by_tests : (a b c : Bool) (later : Option Reason) (r : Reason) → c ≡ true → (if a then Some MemberForm else (if b then Some UnknownMember else (if c then Some Namespace else later))) ≡ Some r → r ≢ MemberForm → r ≢ UnknownMember → r ≢ Namespace → ⊥
by_tests true b c later r bad is form known bound = let same : MemberForm ≡ r = cc in form (sym same)
by_tests false true c later r bad is form known bound = let same : UnknownMember ≡ r = cc in known (sym same)
by_tests false false true later r bad is form known bound = let same : Namespace ≡ r = cc in bound (sym same)
by_tests false false false later r bad is form known bound = absurd (cc)

pub namespaces_first : (tree : Data) (r : Reason) → any_in binds_nothing (sheet_namespaces tree) ≡ true → least (sheet_holds tree) ≡ Some r → r ≢ MemberForm → r ≢ UnknownMember → r ≢ Namespace → ⊥
unfolding least sheet_holds
namespaces_first tree r bad is = by_tests (sheet_holds tree MemberForm) (sheet_holds tree UnknownMember) (any_in binds_nothing (sheet_namespaces tree)) _ r bad is
