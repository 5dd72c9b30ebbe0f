-- The names of a sheet: when they are refused, and the map that they make.
use Rattle.oim_report.proofs.Shared.{◌≡◌, List, [], ◌∷◌, ◌++◌, Bool, true, false, not, ◌||◌, ◌&&◌, refl, sym, ◌∙◌, inl, inr, ℕ, Err, ap, cond, Option, Some, None, if◌then◌else◌, is_some, or_parts, list_any-append, find, is_eq, eq_by_cmp, IsTotalOrder, tied_itself, Equal-is, FinMap, get-insert, nat_list_cmp_total, then_total, on_total, Data, Binding, is_reserved, is_unbound, refusal_as, Spelled, refuses, Reason, NameForm, UnboundPrefix, ReservedNamespace, MemberForm, UnknownMember, Namespace, SheetKind, QName, name_cmp, exact_name, names_refusal, refuses_some, named, any_in, json, binds_nothing, unless}
use Rattle.std.specs.FinMap as map
use Rattle.oim_report.specs.Least.{least}
use Rattle.oim_report.specs.Sheet.{RefusesSheet, Sheet, SheetRefusedWhereHeld, concept_kind_named, dimension_kind_named, has_bad_kind, said_sheet, same_concept_kind, same_dimension_kind, sheet_bindings, sheet_concepts, sheet_dimensions, sheet_holds, sheet_names, sheet_namespaces, sheet_of, sheet_outcome}
use Rattle.oim_report.proofs.EachRefusal.{first_holding, first_refusal, or_refusal}
use Rattle.oim_report.proofs.LeastOf.{least_is}

-- ---- a list of names is refused if one of the names is refused. Of `NameForm`, `UnboundPrefix` and `ReservedNamespace`, the
-- first reason that applies to some name is returned.

-- the first of the reasons `NameForm`, `UnboundPrefix` and `ReservedNamespace` whose test passes
abbrev pub by_any : Bool → Bool → Bool → Option Reason
by_any form prefix namespace =
    if form then Some NameForm else (if prefix then Some UnboundPrefix else (if namespace then Some ReservedNamespace else None))

by_none : (a b c : Bool) → by_any a b c ≡ None → (a ≡ false) × (b ≡ false) × (c ≡ false)
by_none false false false e = (refl, refl, refl)
by_none a b c e = absurd (cc)

abbrev of_one : Bool → Bool → Bool → Option Reason
of_one named unbound reserved =
    if named then (if unbound then Some UnboundPrefix else (if reserved then Some ReservedNamespace else None)) else Some NameForm

one_free : (a u r : Bool) → of_one a u r ≡ None → (not a ≡ false) × ((a && u) ≡ false) × ((a && r) ≡ false)
one_free true false false e = (refl, refl, refl)
one_free a u r e = absurd (cc)

free_one : (a u r : Bool) → not a ≡ false → (a && u) ≡ false → (a && r) ≡ false → of_one a u r ≡ None
free_one true false false h k l = refl
free_one a u r h k l = absurd (cc)

-- no name of the list is refused
pub record AreFree (bs : List Binding) (ns : List Spelled) : Type 0 where
  pub form : refuses_some NameForm bs ns ≡ false
  pub prefix : refuses_some UnboundPrefix bs ns ≡ false
  pub namespace : refuses_some ReservedNamespace bs ns ≡ false

pub are_free : (bs : List Binding) (ns : List Spelled) → names_refusal bs ns ≡ None → AreFree bs ns
are_free bs ns e =
    let each = by_none (refuses_some NameForm bs ns) (refuses_some UnboundPrefix bs ns) (refuses_some ReservedNamespace bs ns) e in
    record { form = each.0; prefix = each.1; namespace = each.2 }

pub none_refused : (bs : List Binding) (ns : List Spelled) → AreFree bs ns → names_refusal bs ns ≡ None
none_refused bs ns free = λ i. by_any (free.form i) (free.prefix i) (free.namespace i)

pub first_free : (bs : List Binding) (n : Spelled) (ns : List Spelled) → names_refusal bs (n ∷ ns) ≡ None → (refusal_as n.has_form bs n.text ≡ None) × (names_refusal bs ns ≡ None)
first_free bs n ns e =
    let free = are_free bs (n ∷ ns) e in
    let form = or_parts (refuses NameForm bs n) (refuses_some NameForm bs ns) free.form in
    let prefix = or_parts (refuses UnboundPrefix bs n) (refuses_some UnboundPrefix bs ns) free.prefix in
    let namespace = or_parts (refuses ReservedNamespace bs n) (refuses_some ReservedNamespace bs ns) free.namespace in (
      free_one (n.has_form n.text) (is_unbound bs n.text) (is_reserved bs n.text) form.0 prefix.0 namespace.0,
      none_refused bs ns (record { form = form.1; prefix = prefix.1; namespace = namespace.1 }),
    )

pub name_more : (bs : List Binding) (n : Spelled) (ns : List Spelled) → refusal_as n.has_form bs n.text ≡ None → names_refusal bs ns ≡ None → names_refusal bs (n ∷ ns) ≡ None
name_more bs n ns here there =
    let one = one_free (n.has_form n.text) (is_unbound bs n.text) (is_reserved bs n.text) here in
    let free = are_free bs ns there in
    none_refused bs (n ∷ ns) (record { form = λ i. one.0 i || free.form i; prefix = λ i. one.1 i || free.prefix i; namespace = λ i. one.2 i || free.namespace i })

refused_in : (r : Reason) (bs : List Binding) (xs ys : List Spelled) → refuses_some r bs (xs ++ ys) ≡ false → (refuses_some r bs xs ≡ false) × (refuses_some r bs ys ≡ false)
refused_in r bs xs ys e = or_parts (refuses_some r bs xs) (refuses_some r bs ys) (sym (list_any-append (refuses r bs) xs ys) ∙ e)

pub names-parts : (bs : List Binding) (xs ys : List Spelled) → names_refusal bs (xs ++ ys) ≡ None → (names_refusal bs xs ≡ None) × (names_refusal bs ys ≡ None)
names-parts bs xs ys e =
    let free = are_free bs (xs ++ ys) e in
    let form = refused_in NameForm bs xs ys free.form in
    let prefix = refused_in UnboundPrefix bs xs ys free.prefix in
    let namespace = refused_in ReservedNamespace bs xs ys free.namespace in (
      none_refused bs xs (record { form = form.0; prefix = prefix.0; namespace = namespace.0 }),
      none_refused bs ys (record { form = form.1; prefix = prefix.1; namespace = namespace.1 }),
    )

pub names_append : (bs : List Binding) (ms ns : List Spelled) → names_refusal bs ms ≡ None → names_refusal bs ns ≡ None → names_refusal bs (ms ++ ns) ≡ None
names_append bs [] ns h k = k
names_append bs (m ∷ ms) ns h k =
    let b = first_free bs m ms h in
    name_more bs m (ms ++ ns) b.0 (names_append bs ms ns b.1 k)

-- ---- a sheet is refused for the lowest-numbered condition that applies

abbrev pub entry_conditions : List Reason
entry_conditions = NameForm ∷ UnboundPrefix ∷ ReservedNamespace ∷ SheetKind ∷ []

-- some kind of a sheet is bad
abbrev pub bad_kinds : Data → Bool
bad_kinds tree =
    has_bad_kind concept_kind_named same_concept_kind (sheet_bindings tree) (sheet_concepts tree) || has_bad_kind dimension_kind_named same_dimension_kind (sheet_bindings tree) (sheet_dimensions tree)

behind_names : (form prefix namespace kind : Bool)
    → (if form then Some NameForm else (if prefix then Some UnboundPrefix else (if namespace then Some ReservedNamespace else (if kind then Some SheetKind else None))))
    ≡ or_refusal (by_any form prefix namespace) (if kind then Some SheetKind else None)
behind_names false false false kind = refl
behind_names form prefix namespace kind = refl

-- names are tested before kinds
pub entries_refusal : (tree : Data) → find (sheet_holds tree) entry_conditions ≡ or_refusal (names_refusal (sheet_bindings tree) (sheet_names tree)) (if bad_kinds tree then Some SheetKind else None)
unfolding sheet_holds
entries_refusal tree =
    let bs = sheet_bindings tree in
    let names = sheet_names tree in
    behind_names (refuses_some NameForm bs names) (refuses_some UnboundPrefix bs names) (refuses_some ReservedNamespace bs names) (bad_kinds tree)

-- the first condition that applies, in the order in which the code tests the conditions
abbrev pub sheet_refusal : Data → Option Reason
sheet_refusal tree = first_refusal (
    find (sheet_holds tree) (MemberForm ∷ UnknownMember ∷ [])
    ∷ first_holding ((any_in binds_nothing (sheet_namespaces tree), Namespace) ∷ [])
    ∷ find (sheet_holds tree) entry_conditions
    ∷ [])

flat : (a b c d e f g : Bool)
    → or_refusal (if a then Some MemberForm else (if b then Some UnknownMember else None)) (or_refusal (if c then Some Namespace else None) (or_refusal (if d then Some NameForm else (if e then Some UnboundPrefix else (if f then Some ReservedNamespace else (if g then Some SheetKind else None)))) None))
    ≡ (if a then Some MemberForm else (if b then Some UnknownMember else (if c then Some Namespace else (if d then Some NameForm else (if e then Some UnboundPrefix else (if f then Some ReservedNamespace else (if g then Some SheetKind else None)))))))
flat false false false false false false true = refl
flat b c other d e f g = refl

pub sheet_least : (tree : Data) → sheet_refusal tree ≡ least (sheet_holds tree)
unfolding least sheet_holds
sheet_least tree =
    let bs = sheet_bindings tree in
    let names = sheet_names tree in
    flat (sheet_holds tree MemberForm) (sheet_holds tree UnknownMember) (any_in binds_nothing (sheet_namespaces tree)) (refuses_some NameForm bs names) (refuses_some UnboundPrefix bs names) (refuses_some ReservedNamespace bs names) (bad_kinds tree)

refused_for : (o : Option Reason) (said : Sheet) (r : Reason) → unless o said ≡ Err r → o ≡ Some r
refused_for None said r e = absurd (cc)
refused_for (Some q) said r e = let same : q ≡ r = cc in ap Some same

by_read : (bytes : List ℕ) (o : Option Data) (r : Reason) → json bytes ≡ o → sheet_of o ≡ Err r → RefusesSheet bytes r
by_read bytes None r is e = inl (is, cc)
by_read bytes (Some tree) r is e = inr (tree, is, (least_is (sheet_holds tree) r).0 (refused_for (least (sheet_holds tree)) (said_sheet tree) r e))

answered : (bytes : List ℕ) (r : Reason) → RefusesSheet bytes r → sheet_of (json bytes) ≡ Err r
answered bytes r (inl h) = ap sheet_of h.0 ∙ ap Err (sym h.1)
answered bytes r (inr h) = ap sheet_of h.1 ∙ ap (λ o. unless o (said_sheet h.0)) ((least_is (sheet_holds h.0) r).1 h.2)

pub sheet_refused_where_held : SheetRefusedWhereHeld
unfolding sheet_outcome
sheet_refused_where_held bytes r = ((λ e. by_read bytes (json bytes) r refl e), (λ h. answered bytes r h))

-- ---- the order of names, and a map after a name is added

pub name_total : IsTotalOrder name_cmp
name_total = then_total (on_total (λ (n : QName). n.uri) nat_list_cmp_total) (on_total (λ (n : QName). n.local_part) nat_list_cmp_total)

module _ {X : Type 0} where
  pub get-put : (m : FinMap name_cmp X) (q : QName) (v : X) → map.get (map.insert m q v) q ≡ Some v
  get-put m q v = get-insert name_total m q v q ∙ ap (λ r. cond (is_eq r) (Some v) (map.get m q)) (tied_itself name_total q)

-- ---- the first of two results

abbrev pub first_of : {A : Type 0} → Option A → Option A → Option A
first_of None b = b
first_of (Some a) b = Some a

pub first_of-none : {A : Type 0} (a : Option A) → first_of a None ≡ a
first_of-none None = refl
first_of-none (Some a) = refl

pub tied : (b : Bool) (q n : QName) → eq_by_cmp name_cmp q n ≡ b → b ≡ true → q ≡ n
tied b q n e t = exact_name q n ((Equal-is (name_cmp q n)).0 (e ∙ t))
