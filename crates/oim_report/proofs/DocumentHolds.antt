-- A test of a document's conditions in two groups finds the lowest-numbered condition that applies.
use Rattle.oim_report.proofs.Shared.{◌≡◌, ℕ, suc, List, [], ◌∷◌, length, map, Bool, true, false, not, ◌||◌, ◌&&◌, cond, refl, sym, ap, ◌∙◌, arith, ◌≢◌, ◌⊎◌, inl, inr, ◌==◌, Result, Ok, Err, ◌↔◌, Option, Some, None, bytes_eq, codes, if◌then◌else◌, is_none, is_some, nat_lt, option_and_then, option_map, IfOk, IfErr, IsTrue, unwrap_or, filter, find, option_map_or, option_flatten, list_any, or_parts, nat_tests, result_ok, or-false, Parts, Binding, is_refused_binding, Reason, MemberForm, UnknownMember, DocumentType, Namespace, BaseUrl, TaxonomyUrl, Feature, OutOfMemory, is_part, level_with, as_object, get, Data, Items, no_items, item, Members, no_members, member, accepted_reference, base_url_said, bindings_of, declarations, document_type, features_of, info, is_allowed_duplicates, level_said, namespaces_of, references_said, said_base_url, said_level, said_reference, said_references, taxonomy_of, info_keys, root_keys, Given, any_in, entries, given, given_of, is_no_array, is_no_object, is_object, is_unknown, object_at, text_of, is_text, base_url, is_reference_refused, is_text_within_limit, is_within_limit, kept, binds_nothing, Refusal, or_else}
use Rattle.oim_report.specs.Holds.{any_item, as_text, declared, document_base_url, document_holds, document_refusal, is_some_and}
use Rattle.oim_report.specs.Least.{least}
use Rattle.oim_report.proofs.EachRefusal.{behind_test, first_holding, first_refusal, or_refusal}
use Rattle.oim_report.proofs.ValueWords.{by_given, text_same}

-- ---- the conditions in two groups

-- a part is missing or has the wrong kind of value
abbrev pub has_misshapen_part : Data → Bool
has_misshapen_part tree =
    not (is_object tree) || is_none (object_at (codes "documentInfo") tree) || is_no_object (info (codes "namespaces") tree) || is_no_object (info (codes "features") tree) || is_no_object (get (codes "facts") tree) || is_no_array (info (codes "taxonomy") tree)

abbrev pub has_unknown_part : Data → Bool
has_unknown_part tree = any_in (is_unknown root_keys) (as_object tree) || any_in (is_unknown info_keys) (object_at (codes "documentInfo") tree)

abbrev pub has_other_type : Data → Bool
has_other_type tree = not (is_text document_type (given_of (info (codes "documentType") tree)))

abbrev pub shape_refusal : Data → Option Reason
shape_refusal tree = first_holding (
    (has_misshapen_part tree, MemberForm)
    ∷ (has_unknown_part tree, UnknownMember)
    ∷ (has_other_type tree, DocumentType)
    ∷ [])

abbrev pub info_refusal : Data → Option Reason
info_refusal tree = first_holding (
    (any_in binds_nothing (namespaces_of tree), Namespace)
    ∷ (is_none (base_url_said tree), BaseUrl)
    ∷ (is_none (references_said tree), TaxonomyUrl)
    ∷ (is_none (level_said tree), Feature)
    ∷ [])

-- ---- the type

pub some_is : {A : Type 0} (o : Option A) → is_some o ≡ not (is_none o)
some_is None = refl
some_is (Some a) = refl

has_one : (o rest : Bool) → o ≡ false → rest ≡ (not o && rest)
has_one true rest h = absurd (cc)
has_one false rest h = refl

pub type_same : (tree : Data) → has_misshapen_part tree ≡ false → has_other_type tree ≡ document_holds tree DocumentType
unfolding document_holds
type_same tree fits =
    let four = (or_parts _ _ (or_parts _ _ fits).0).0 in
    let two = (or_parts _ _ (or_parts _ _ four).0).0 in
    let there = or_parts (not (is_object tree)) (is_none (object_at (codes "documentInfo") tree)) two in
    has_one (is_none (object_at (codes "documentInfo") tree)) (has_other_type tree) there.1
    ∙ (λ i. sym (some_is (object_at (codes "documentInfo") tree)) i && not (is_some_and (λ t. bytes_eq t document_type) (sym (text_same (info (codes "documentType") tree)) i)))

-- ---- the base URL and the references

mapped_none : {A B : Type 0} (f : A → B) (o : Option A) → is_none (option_map f o) ≡ is_none o
mapped_none f None = refl
mapped_none f (Some a) = refl

pub base_same : (o : Option Data) → is_none (said_base_url (given_of o)) ≡ is_some_and (λ v. is_none (option_and_then base_url (as_text v))) o
base_same None = refl
base_same (Some d) = by_given (λ g t w n. is_none (said_base_url g) ≡ is_none (option_and_then base_url t)) refl (λ t. mapped_none Some (base_url t)) (λ n. refl) refl d

mapped_some : (o : Option Parts) → is_none (option_map {U = Option Parts} Some o) ≡ false → option_map Some o ≡ Some o
mapped_some None h = absurd (cc)
mapped_some (Some p) h = refl

pub base_is : (o : Option Data) → is_none (said_base_url (given_of o)) ≡ false → said_base_url (given_of o) ≡ Some (option_and_then base_url (option_and_then as_text o))
base_is None h = refl
base_is (Some d) h =
    by_given (λ g t w n. is_none (said_base_url g) ≡ false → said_base_url g ≡ Some (option_and_then base_url t)) (λ k. absurd (cc)) (λ t k. mapped_some (base_url t) k) (λ n k. absurd (cc)) (λ k. absurd (cc)) d h

kept_or : (short : Bool) (k : Option (List ℕ)) → is_none (if not (short && is_text_within_limit k) then None else k) ≡ not (short && is_text_within_limit k)
kept_or true (Some t) = elim (is_within_limit t) as (λ b. is_none (if not b then None else Some t) ≡ not b) [ true ↦ refl | false ↦ refl ]
kept_or short k = refl

pub one_reference : (b : Option Parts) (d : Data) → is_none (said_reference b d) ≡ option_map_or (is_reference_refused b) (as_text d) true
one_reference b d =
    by_given (λ g t w n. is_none (option_and_then (accepted_reference b) (text_of g)) ≡ option_map_or (is_reference_refused b) t true) refl (λ t. kept_or (is_within_limit t) (kept b t)) (λ n. refl) refl d

both_none : {A B C : Type 0} (f : A → B → C) (a : Option A) (bs : Option B) → is_none (option_and_then (λ t. option_map (f t) bs) a) ≡ (is_none a || is_none bs)
both_none f None bs = refl
both_none f (Some a) bs = mapped_none (f a) bs

pub references_same : (b : Option Parts) (ds : Items) → is_none (said_references b ds) ≡ any_item (λ v. option_map_or (is_reference_refused b) (as_text v) true) ds
references_same b no_items = refl
references_same b (item d ds) = both_none (λ t ts. t ∷ ts) (said_reference b d) (said_references b ds) ∙ (λ i. one_reference b d i || references_same b ds i)

taxonomy_same : (tree : Data) → is_none (base_url_said tree) ≡ false → is_none (references_said tree) ≡ document_holds tree TaxonomyUrl
unfolding document_holds
taxonomy_same tree fits =
    ap (λ o. is_none (option_and_then (λ b. said_references b (taxonomy_of tree)) o)) (base_is (info (codes "baseURL") tree) fits)
    ∙ references_same (document_base_url tree) (taxonomy_of tree)

-- ---- the level

kept_same : (b : Bool) (key : List ℕ) (d : Data) (xs : List (List ℕ × Data)) (ys : List Given) → ys ≡ map (λ m. given m.1) xs → (if b then given d ∷ ys else ys) ≡ map (λ m. given m.1) (cond b ((key, d) ∷ xs) xs)
kept_same true key d xs ys same = ap (λ l. given d ∷ l) same
kept_same false key d xs ys same = same

declared_same : (bs : List Binding) (ms : Members) → declarations bs ms ≡ map (λ m. given m.1) (filter (λ m. is_allowed_duplicates bs m.0) (entries ms))
declared_same bs no_members = refl
declared_same bs (member key d ms) = kept_same (is_allowed_duplicates bs key) key d _ _ (declared_same bs ms)

several : (n : ℕ) → nat_lt 1 (suc (suc n)) ≡ true
several n = grind (arith, nat_tests)

one_or_more : (b c : Bool) → b ≡ true → true ≡ (b || c)
one_or_more true c h = refl
one_or_more false c h = absurd (cc)

or_nothing : (b : Bool) → b ≡ (b || false)
or_nothing true = refl
or_nothing false = refl

one_level : (d : Data) → is_none (option_and_then level_with (text_of (given d))) ≡ is_none (option_and_then level_with (as_text d))
one_level d = ap (λ t. is_none (option_and_then level_with t)) (sym (text_same (Some d)))

level_same : (ds : List (List ℕ × Data)) → is_none (said_level (map (λ m. given m.1) ds)) ≡ (nat_lt 1 (length ds) || list_any (λ m. is_none (option_and_then level_with (as_text m.1))) ds)
level_same [] = refl
level_same (d ∷ []) = one_level d.1 ∙ or_nothing _
level_same (d ∷ e ∷ ds) = one_or_more (nat_lt 1 (length (d ∷ e ∷ ds))) _ (several (length ds))

pub feature_same : (tree : Data) → is_none (level_said tree) ≡ document_holds tree Feature
unfolding document_holds
feature_same tree = ap (λ gs. is_none (said_level gs)) (declared_same (bindings_of tree) (features_of tree)) ∙ level_same (declared tree)

-- ---- all conditions

flat_tests : (a b c d e f g : Bool)
    → or_refusal (if a then Some MemberForm else (if b then Some UnknownMember else (if c then Some DocumentType else None))) (or_refusal (if d then Some Namespace else (if e then Some BaseUrl else (if f then Some TaxonomyUrl else (if g then Some Feature else None)))) None)
    ≡ (if a then Some MemberForm else (if b then Some UnknownMember else (if c then Some DocumentType else (if d then Some Namespace else (if e then Some BaseUrl else (if f then Some TaxonomyUrl else (if g then Some Feature else None)))))))
flat_tests false false false false false false true = refl
flat_tests b c other d e f g = refl

abbrev pub grouped_refusal : Data → Option Reason
grouped_refusal tree = first_refusal (shape_refusal tree ∷ info_refusal tree ∷ [])

pub document_least : (tree : Data) → grouped_refusal tree ≡ document_refusal tree
unfolding least document_holds
document_least tree =
    let d = any_in binds_nothing (namespaces_of tree) in
    flat_tests (has_misshapen_part tree) (has_unknown_part tree) (has_other_type tree) d (is_none (base_url_said tree)) (is_none (references_said tree)) (is_none (level_said tree))
    ∙ behind_test (has_misshapen_part tree) MemberForm _ _
    (λ fits.
    ap (λ c. if has_unknown_part tree then Some UnknownMember else (if c then Some DocumentType else (if d then Some Namespace else (if is_none (base_url_said tree) then Some BaseUrl else (if is_none (references_said tree) then Some TaxonomyUrl else (if is_none (level_said tree) then Some Feature else None)))))) (type_same tree fits)
    ∙ ap (λ later. if has_unknown_part tree then Some UnknownMember else (if document_holds tree DocumentType then Some DocumentType else (if d then Some Namespace else later)))
    (behind_test (is_none (base_url_said tree)) BaseUrl _ _ (λ based. λ i. if taxonomy_same tree based i then Some TaxonomyUrl else (if feature_same tree i then Some Feature else None))
    ∙ ap (λ b. if b then Some BaseUrl else (if document_holds tree TaxonomyUrl then Some TaxonomyUrl else (if document_holds tree Feature then Some Feature else None))) (base_same (info (codes "baseURL") tree))))

pub shape_same : (tree : Data) → find (document_holds tree) (MemberForm ∷ UnknownMember ∷ DocumentType ∷ []) ≡ shape_refusal tree
unfolding document_holds
shape_same tree =
    sym
    (behind_test (has_misshapen_part tree) MemberForm _ _
    (λ fits. ap (λ c. if has_unknown_part tree then Some UnknownMember else (if c then Some DocumentType else None)) (type_same tree fits)))

-- ---- Unless memory runs out, reading a part of a document returns the part's defined value, or refuses the part if no value is
-- defined.

pub found_is : {A : Type 0} (read : Result A Reason) (said : Option A) (other : Reason) → read ≢ Err OutOfMemory → IfOk read (λ a. said ≡ Some a) → IfErr read (λ r. (r ≡ OutOfMemory) ⊎ ((r ≡ other) × (said ≡ None))) → result_ok read ≡ said
found_is (Ok a) said other ne ok err = sym ok
found_is (Err r) said other ne ok (inl memory) = absurd (ne (ap Err memory))
found_is (Err r) said other ne ok (inr refused) = sym refused.1

pub none_is : {A B : Type 0} (read : Result A Reason) (said : Option B) (f : A → B) (other : Reason) → read ≢ Err OutOfMemory → IfOk read (λ a. said ≡ Some (f a)) → IfErr read (λ r. (r ≡ OutOfMemory) ⊎ ((r ≡ other) × (said ≡ None))) → is_none (result_ok read) ≡ is_none said
none_is (Ok a) said f other ne ok err = sym (ap is_none ok)
none_is (Err r) said f other ne ok (inl memory) = absurd (ne (ap Err memory))
none_is (Err r) said f other ne ok (inr refused) = sym (ap is_none refused.1)

pub unless_bad : {A : Type 0} (bad : Bool) (bs a : A) → (a ≡ bs) × (bad ≡ false) → (if bad then None else Some bs) ≡ Some a
unless_bad true bs a h = absurd (cc)
unless_bad false bs a h = ap Some (sym h.0)

pub where_bad : {A : Type 0} (bad : Bool) (bs : A) (r other : Reason) → (r ≡ OutOfMemory) ⊎ ((r ≡ other) × (bad ≡ true)) → (r ≡ OutOfMemory) ⊎ ((r ≡ other) × ((if bad then None else Some bs) ≡ None))
where_bad bad bs r other (inl memory) = inl memory
where_bad bad bs r other (inr refused) = inr (refused.0, ap (λ b. if b then None else Some bs) refused.1)

pub from_some : {A : Type 0} (o : Option A) (b : Bool) → is_some o ≡ not b → b ≡ is_none o
from_some None false h = absurd (cc)
from_some (Some a) true h = absurd (cc)
from_some o b h = refl

pub flat : {A : Type 0} (o : Option (Option A)) → option_flatten o ≡ unwrap_or o None
flat None = refl
flat (Some o) = refl

pub nothing_said : {A B : Type 0} (read : Result A Reason) (said : Option B) (other : Reason) → None ≡ result_ok read → read ≢ Err OutOfMemory → IfErr read (λ r. (r ≡ OutOfMemory) ⊎ ((r ≡ other) × (said ≡ None))) → said ≡ None
nothing_said (Ok a) said other is ne h = absurd (cc)
nothing_said (Err r) said other is ne (inl memory) = absurd (ne (ap Err memory))
nothing_said (Err r) said other is ne (inr refused) = refused.1

pub filled_else : (xs ys : List Refusal) → (length xs == 0) ≡ false → xs ≡ or_else xs ys
filled_else [] ys filled = absurd (cc)
filled_else (x ∷ xs) ys filled = refl

pub is_empty : (xs : List Refusal) → (length xs == 0) ≡ true → xs ≡ []
is_empty [] empty = refl
is_empty (x ∷ xs) empty = absurd (grind (arith, nat_tests))

-- ---- The tests of a document's parts, one entry or reference at a time.

pub alone : {A : Type 0} (read : Result A Reason) (b : Bool) → ((read ≡ Err Namespace) ↔ IsTrue b) → IfErr read (λ e. (e ≡ Namespace) ⊎ (e ≡ OutOfMemory)) → read ≢ Err OutOfMemory → is_none (result_ok read) ≡ b
alone (Ok a) true h e ne = let no : Ok a ≡ Err Namespace = h.1 refl in absurd (cc)
alone (Ok a) false h e ne = refl
alone (Err r) b h (inl is) ne = sym (h.0 (ap Err is))
alone (Err r) b h (inr memory) ne = absurd (ne (ap Err memory))

pub or_true : (b : Bool) → true ≡ (b || true)
or_true true = refl
or_true false = refl

pub with_text : (key : List ℕ) (d : Data) (u : List ℕ) → text_of (given d) ≡ Some u → is_refused_binding [] key u ≡ binds_nothing key d
with_text key d u is = or-false (not (is_part key) || bytes_eq u []) ∙ ap (λ o. not (is_part key) || option_map_or (λ t. bytes_eq t []) o true) (sym is)

pub without_text : (key : List ℕ) (d : Data) → text_of (given d) ≡ None → true ≡ binds_nothing key d
without_text key d is = or_true (not (is_part key)) ∙ ap (λ o. not (is_part key) || option_map_or (λ t. bytes_eq t []) o true) (sym is)

mapped_or : (o : Option Parts) → unwrap_or (option_map Some o) None ≡ o
mapped_or None = refl
mapped_or (Some p) = refl

base_or : (o : Option Data) → unwrap_or (said_base_url (given_of o)) None ≡ option_and_then base_url (option_and_then as_text o)
base_or None = refl
base_or (Some d) = by_given (λ g t w n. unwrap_or (said_base_url g) None ≡ option_and_then base_url t) refl (λ t. mapped_or (base_url t)) (λ n. refl) refl d

pub flat_base : (o : Option Data) → option_flatten (said_base_url (given_of o)) ≡ option_and_then base_url (option_and_then as_text o)
flat_base o = flat (said_base_url (given_of o)) ∙ base_or o

pub hidden : (b c : Bool) → (not b && c) ≡ (not (b || false) && c)
hidden true c = refl
hidden false c = refl
