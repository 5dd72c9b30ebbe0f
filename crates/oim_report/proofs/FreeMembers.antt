-- A part of a fact object denotes its part of the fact exactly if no condition on this part applies.
use Rattle.oim_report.proofs.Shared.{◌≡◌, ℕ, ℤ, List, [], ◌∷◌, ◌++◌, map, Bool, true, false, not, ◌||◌, ◌&&◌, Ok, Err, refl, sym, ap, ◌∙◌, Option, Some, None, int_lt, is_none, option_and_then, option_map, if◌then◌else◌, int_eq, option_to_list, filter_map, flat_map, option_map_or, cons_option, list_any, result_ok, str_to_ascii_lowercase, or_parts, map-append, QName, is_entity, is_name, Binding, Spelled, a_name, an_entity, refusal_as, PeriodOrder, kept_named, named_kept, is_finite_decimals, is_number, is_short, units_of, Value, Nil, Number, AText, AName, moment_of, with_member, is_language, end_part, from_to, start_part, Measures, denominator_pieces, is_unit_text, numerator_pieces, Member, NoMember, MemberText, MemberName, Period, Forever, Instant, Duration, Data, ConceptKind, Numeric, Text, Name, DimensionKind, Explicit, Typed, as_text, explicit_text, is_some_and, lacks_moment, misfits, pieces, runs_backward, Given, absent, nil, text, whole, other, given, is_absent, is_no_text, text_of, comes_again, entity_named, named, named_as, names_refusal, all_named, concept_kind, dimension_names, in_order, members_with, said_concept, said_decimals, said_entity, said_language, said_member, said_members, said_period, said_unit, side_of, unit_with, value_with, Sheet, dimension_kind, same_concept_kind, same_dimension_kind}
use Rattle.std.specs.FinMap as map_of
use Rattle.oim_report.proofs.Accepted.{and_then_some, map_some}
use Rattle.oim_report.proofs.MembersSay.{once_said}
use Rattle.oim_report.proofs.SheetEntries.{first_free, name_more, names-parts, names_append}
use Rattle.oim_report.proofs.Naming.{expanded, stands}
use Rattle.oim_report.proofs.ValueWords.{by_given, no_value, no_whole, seen_member, whole_of}

there : {A : Type 0} (o : Option A) → is_none o ≡ false → (a : A) × (o ≡ Some a)
there None e = absurd (cc)
there (Some a) e = (a, refl)

kept : (has_form : List ℕ → Bool) (bs : List Binding) (t : List ℕ) (n : QName) → named_as has_form bs t ≡ Some n → refusal_as has_form bs t ≡ None
kept has_form bs t n e = named_kept has_form bs t n (stands has_form bs t n e)

name_free : (has_form : List ℕ → Bool) (bs : List Binding) (t : List ℕ) (n : QName) → named_as has_form bs t ≡ Some n → names_refusal bs (record { has_form = has_form; text = t } ∷ []) ≡ None
name_free has_form bs t n e = name_more bs (record { has_form = has_form; text = t }) [] (kept has_form bs t n e) refl

unless_refused : (has_form : List ℕ → Bool) (bs : List Binding) (t : List ℕ) → refusal_as has_form bs t ≡ None → (n : QName) × (named_as has_form bs t ≡ Some n)
unless_refused has_form bs t none = let n = kept_named has_form bs t none in (n.0, expanded has_form bs t n.0 n.1)

name_said : (has_form : List ℕ → Bool) (bs : List Binding) (t : List ℕ) → names_refusal bs (record { has_form = has_form; text = t } ∷ []) ≡ None → (n : QName) × (named_as has_form bs t ≡ Some n)
name_said has_form bs t none = unless_refused has_form bs t (first_free bs (record { has_form = has_form; text = t }) [] none).0

all_free : (bs : List Binding) (ts : List (List ℕ)) (ns : List QName) → all_named bs ts ≡ Some ns → names_refusal bs (map a_name ts) ≡ None
all_free bs [] ns e = refl
all_free bs (t ∷ ts) ns e =
    let n = and_then_some (λ n. option_map (λ ms. n ∷ ms) (all_named bs ts)) (named bs t) ns e in
    let rest = map_some (λ ms. n.0 ∷ ms) (all_named bs ts) ns n.2 in
    name_more bs (a_name t) (map a_name ts) (kept is_name bs t n.0 n.1) (all_free bs ts rest.0 rest.1)

all_said : (bs : List Binding) (ts : List (List ℕ)) → names_refusal bs (map a_name ts) ≡ None → (ns : List QName) × (all_named bs ts ≡ Some ns)
all_said bs [] none = ([], refl)
all_said bs (t ∷ ts) none =
    let both = first_free bs (a_name t) (map a_name ts) none in
    let n = unless_refused is_name bs t both.0 in
    let ns = all_said bs ts both.1 in
    (n.0 ∷ ns.0, rw (n.1, ns.1) refl)

abbrev pub spelled_by : (List ℕ → Spelled) → Given → List Spelled
spelled_by form g = map form (option_to_list (text_of g))

pub record ConceptFree (sheet : Sheet) (bs : List Binding) (g : Given) : Type 0 where
  pub present : is_absent g ≡ false
  pub is_text : is_no_text g ≡ false
  pub names : names_refusal bs (spelled_by a_name g) ≡ None
  pub listed : is_some_and (λ n. is_none (map_of.get sheet.concepts n)) (said_concept bs g) ≡ false

pub concept_free : (sheet : Sheet) (bs : List Binding) (g : Given) (kind : ConceptKind) → concept_kind sheet bs g ≡ Some kind → ConceptFree sheet bs g
concept_free sheet bs (text t) kind e =
    let n = and_then_some (map_of.get sheet.concepts) (named bs t) kind e in
    record {
      present = refl;
      is_text = refl;
      names = name_free is_name bs t n.0 n.1;
      listed = ap (is_some_and (λ m. is_none (map_of.get sheet.concepts m))) n.1 ∙ ap is_none n.2;
    }
concept_free sheet bs g kind e = absurd (cc)

pub record ConceptSaid (sheet : Sheet) (bs : List Binding) (g : Given) : Type 0 where
  pub name : QName
  pub kind : ConceptKind
  pub said : said_concept bs g ≡ Some name
  pub listed : concept_kind sheet bs g ≡ Some kind

text_concept : (sheet : Sheet) (bs : List Binding) (t : List ℕ) → ConceptFree sheet bs (text t) → ConceptSaid sheet bs (text t)
text_concept sheet bs t free =
    let n = name_said is_name bs t free.names in
    let k = there (map_of.get sheet.concepts n.0) (sym (ap (is_some_and (λ m. is_none (map_of.get sheet.concepts m))) n.1) ∙ free.listed) in
    record { name = n.0; kind = k.0; said = n.1; listed = ap (option_and_then (map_of.get sheet.concepts)) n.1 ∙ k.1 }

pub concept_said : (sheet : Sheet) (bs : List Binding) (g : Given) → ConceptFree sheet bs g → ConceptSaid sheet bs g
concept_said sheet bs (text t) free = text_concept sheet bs t free
concept_said sheet bs absent free = let no : true ≡ false = free.present in absurd (cc)
concept_said sheet bs g free = let no : true ≡ false = free.is_text in absurd (cc)

pub record EntityFree (bs : List Binding) (g : Given) : Type 0 where
  pub is_text : is_no_text g ≡ false
  pub names : names_refusal bs (spelled_by an_entity g) ≡ None

pub entity_free : (bs : List Binding) (g : Given) (said : Option QName) → said_entity bs g ≡ Some said → EntityFree bs g
entity_free bs absent said e = record { is_text = refl; names = refl }
entity_free bs (text t) said e = let n = map_some Some (entity_named bs t) said e in record { is_text = refl; names = name_free is_entity bs t n.0 n.1 }
entity_free bs g said e = absurd (cc)

pub entity_said : (bs : List Binding) (g : Given) → EntityFree bs g → (said : Option QName) × (said_entity bs g ≡ Some said)
entity_said bs absent free = (None, refl)
entity_said bs (text t) free = let n = name_said is_entity bs t free.names in (Some n.0, ap (option_map Some) n.1)
entity_said bs g free = let no : true ≡ false = free.is_text in absurd (cc)

pub record PeriodFree (g : Given) : Type 0 where
  pub is_text : is_no_text g ≡ false
  pub form : is_some_and lacks_moment (text_of g) ≡ false
  pub order : is_some_and runs_backward (text_of g) ≡ false

forward : (before same : Bool) (p q said : Period) → result_ok (if before then Err PeriodOrder else (if same then Ok p else Ok q)) ≡ Some said → before ≡ false
forward true same p q said e = absurd (cc)
forward false same p q said e = refl

moments_free : (start end : Option ℤ) (said : Period) → result_ok (from_to start end) ≡ Some said → ((is_none start || is_none end) ≡ false) × (is_some_and (λ s. is_some_and (λ e. int_lt e s) end) start ≡ false)
moments_free (Some s) (Some t) said e = (refl, forward (int_lt t s) (int_eq s t) (Instant s) (Duration s t) said e)
moments_free start end said e = absurd (cc)

one_of : (before same : Bool) (p q : Period) → before ≡ false → (said : Period) × (result_ok (if before then Err PeriodOrder else (if same then Ok p else Ok q)) ≡ Some said)
one_of true same p q e = absurd (cc)
one_of false true p q e = (p, refl)
one_of false false p q e = (q, refl)

moments_said : (start end : Option ℤ) → (is_none start || is_none end) ≡ false → is_some_and (λ s. is_some_and (λ e. int_lt e s) end) start ≡ false → (said : Period) × (result_ok (from_to start end) ≡ Some said)
moments_said (Some s) (Some t) form order = one_of (int_lt t s) (int_eq s t) (Instant s) (Duration s t) order
moments_said start end form order = absurd (cc)

pub period_free : (g : Given) (said : Period) → said_period g ≡ Some said → PeriodFree g
period_free absent said e = record { is_text = refl; form = refl; order = refl }
period_free (text t) said e = let both = moments_free (moment_of (start_part t)) (moment_of (end_part t)) said e in record { is_text = refl; form = both.0; order = both.1 }
period_free g said e = absurd (cc)

pub period_said : (g : Given) → PeriodFree g → (said : Period) × (said_period g ≡ Some said)
period_said absent free = (Forever, refl)
period_said (text t) free = moments_said (moment_of (start_part t)) (moment_of (end_part t)) free.form free.order
period_said g free = let no : true ≡ false = free.is_text in absurd (cc)

-- the part is present, although the concept is not numeric
abbrev pub is_misplaced : ConceptKind → Given → Bool
is_misplaced kind g = not (is_absent g) && (same_concept_kind Text kind || same_concept_kind Name kind)

pub record UnitFree (bs : List Binding) (kind : ConceptKind) (g : Given) : Type 0 where
  pub is_text : is_no_text g ≡ false
  pub names : names_refusal bs (map a_name (option_map_or pieces (text_of g) [])) ≡ None
  pub form : is_some_and (λ t. not (is_unit_text t)) (text_of g) ≡ false
  pub numeric : is_misplaced kind g ≡ false

abbrev unit_if : Bool → List Binding → List (List ℕ) → List (List ℕ) → Option (Option Measures)
unit_if form bs ps qs = if form then option_and_then (λ ns. option_map (unit_with ns) (side_of bs qs)) (side_of bs ps) else None

sides_free : (form : Bool) (bs : List Binding) (ps qs : List (List ℕ)) (u : Option Measures) → unit_if form bs ps qs ≡ Some u → (names_refusal bs (map a_name (if form then ps ++ qs else [])) ≡ None) × (not form ≡ false)
sides_free false bs ps qs u e = absurd (cc)
sides_free true bs ps qs u e =
    let up = and_then_some (λ ns. option_map (unit_with ns) (side_of bs qs)) (side_of bs ps) u e in
    let down = map_some (unit_with up.0) (side_of bs qs) u up.2 in
    let above = map_some in_order (all_named bs ps) up.0 up.1 in
    let below = map_some in_order (all_named bs qs) down.0 down.1 in
    (ap (names_refusal bs) (map-append a_name ps qs) ∙ names_append bs (map a_name ps) (map a_name qs) (all_free bs ps above.0 above.1) (all_free bs qs below.0 below.1), refl)

sides_said : (form : Bool) (bs : List Binding) (ps qs : List (List ℕ)) → names_refusal bs (map a_name (if form then ps ++ qs else [])) ≡ None → not form ≡ false → (u : Option Measures) × (unit_if form bs ps qs ≡ Some u)
sides_said false bs ps qs none is = absurd (cc)
sides_said true bs ps qs none is =
    let both = names-parts bs (map a_name ps) (map a_name qs) (ap (names_refusal bs) (sym (map-append a_name ps qs)) ∙ none) in
    let above = all_said bs ps both.0 in
    let below = all_said bs qs both.1 in
    (unit_with (in_order above.0) (in_order below.0), rw (above.1, below.1) refl)

pub unit_free : (bs : List Binding) (kind : ConceptKind) (g : Given) (u : Option Measures) → said_unit bs kind g ≡ Some u → UnitFree bs kind g
unit_free bs kind absent u e = record { is_text = refl; names = refl; form = refl; numeric = refl }
unit_free bs Numeric (text t) u e =
    let both = sides_free (is_unit_text t) bs (numerator_pieces t) (denominator_pieces t) u e in
    record { is_text = refl; names = both.0; form = both.1; numeric = refl }
unit_free bs kind g u e = absurd (cc)

pub unit_said : (bs : List Binding) (kind : ConceptKind) (g : Given) → UnitFree bs kind g → (u : Option Measures) × (said_unit bs kind g ≡ Some u)
unit_said bs kind absent free = (None, refl)
unit_said bs Numeric (text t) free = sides_said (is_unit_text t) bs (numerator_pieces t) (denominator_pieces t) free.names free.form
unit_said bs kind (text t) free = let no : true ≡ false = free.numeric in absurd (cc)
unit_said bs kind g free = let no : true ≡ false = free.is_text in absurd (cc)

pub record LanguageFree (kind : ConceptKind) (g : Given) : Type 0 where
  pub is_text : is_no_text g ≡ false
  pub form : is_some_and (λ t. not (is_language t)) (text_of g) ≡ false
  pub not_numeric : (not (is_absent g) && same_concept_kind Numeric kind) ≡ false

free_if : {A : Type 0} (form : Bool) (x said : A) → (if form then Some x else None) ≡ Some said → not form ≡ false
free_if true x said e = refl
free_if false x said e = absurd (cc)

said_if : {A : Type 0} (form : Bool) (x : A) → not form ≡ false → (said : A) × ((if form then Some x else None) ≡ Some said)
said_if true x is = (x, refl)
said_if false x is = absurd (cc)

pub language_free : (kind : ConceptKind) (g : Given) (said : Option (List ℕ)) → said_language kind g ≡ Some said → LanguageFree kind g
language_free kind absent said e = record { is_text = refl; form = refl; not_numeric = refl }
language_free Text (text t) said e = record { is_text = refl; form = free_if (is_language t) (Some (str_to_ascii_lowercase t)) said e; not_numeric = refl }
language_free Name (text t) said e = record { is_text = refl; form = free_if (is_language t) (Some (str_to_ascii_lowercase t)) said e; not_numeric = refl }
language_free kind g said e = absurd (cc)

pub language_said : (kind : ConceptKind) (g : Given) → LanguageFree kind g → (said : Option (List ℕ)) × (said_language kind g ≡ Some said)
language_said kind absent free = (None, refl)
language_said Numeric (text t) free = let no : true ≡ false = free.not_numeric in absurd (cc)
language_said kind (text t) free = said_if (is_language t) (Some (str_to_ascii_lowercase t)) free.form
language_said kind g free = let no : true ≡ false = free.is_text in absurd (cc)

pub record ValueFree (bs : List Binding) (kind : ConceptKind) (g : Given) : Type 0 where
  pub present : is_absent g ≡ false
  pub form : no_value g ≡ false
  pub number : (same_concept_kind Numeric kind && is_some_and (λ t. not (is_number t)) (text_of g)) ≡ false
  pub digits : (same_concept_kind Numeric kind && is_some_and (λ t. is_number t && not (is_short t)) (text_of g)) ≡ false
  pub names : names_refusal bs (map a_name (if same_concept_kind Name kind then option_to_list (text_of g) else [])) ≡ None

number_free : (number short : Bool) (v said : Value) → (if number && short then Some v else None) ≡ Some said → (not number ≡ false) × ((number && not short) ≡ false)
number_free true true v said e = (refl, refl)
number_free number short v said e = absurd (cc)

number_said : (number short : Bool) (v : Value) → not number ≡ false → (number && not short) ≡ false → (said : Value) × ((if number && short then Some v else None) ≡ Some said)
number_said true true v form few = (v, refl)
number_said number short v form few = absurd (cc)

pub value_free : (bs : List Binding) (kind : ConceptKind) (g : Given) (places : Option ℤ) (v : Value) → value_with bs kind g places ≡ Some v → ValueFree bs kind g
value_free bs Numeric (text t) places v e =
    let both = number_free (is_number t) (is_short t) (Number (units_of t) places) v e in
    record { present = refl; form = refl; number = both.0; digits = both.1; names = refl }
value_free bs Name (text t) places v e =
    let n = map_some AName (named bs t) v e in
    record { present = refl; form = refl; number = refl; digits = refl; names = name_free is_name bs t n.0 n.1 }
value_free bs kind absent places v e = absurd (cc)
value_free bs kind (whole n) places v e = absurd (cc)
value_free bs kind other places v e = absurd (cc)
value_free bs kind g places v e = record { present = refl; form = refl; number = refl; digits = refl; names = refl }

pub value_said : (bs : List Binding) (kind : ConceptKind) (g : Given) (places : Option ℤ) → ValueFree bs kind g → (v : Value) × (value_with bs kind g places ≡ Some v)
value_said bs Numeric (text t) places free = number_said (is_number t) (is_short t) (Number (units_of t) places) free.number free.digits
value_said bs Text (text t) places free = (AText t, refl)
value_said bs Name (text t) places free = let n = name_said is_name bs t free.names in (AName n.0, ap (option_map AName) n.1)
value_said bs kind nil places free = (Nil, refl)
value_said bs kind absent places free = let no : true ≡ false = free.present in absurd (cc)
value_said bs kind g places free = let no : true ≡ false = free.form in absurd (cc)

pub record DecimalsFree (kind : ConceptKind) (g : Given) : Type 0 where
  pub form : no_whole g ≡ false
  pub range : is_some_and (λ n. not (is_finite_decimals n)) (whole_of g) ≡ false
  pub numeric : is_misplaced kind g ≡ false

pub decimals_free : (kind : ConceptKind) (g : Given) (places : Option ℤ) → said_decimals kind g ≡ Some places → DecimalsFree kind g
decimals_free kind absent places e = record { form = refl; range = refl; numeric = refl }
decimals_free Numeric (whole n) places e = record { form = refl; range = free_if (is_finite_decimals n) (Some n) places e; numeric = refl }
decimals_free kind g places e = absurd (cc)

pub decimals_said : (kind : ConceptKind) (g : Given) → DecimalsFree kind g → (places : Option ℤ) × (said_decimals kind g ≡ Some places)
decimals_said kind absent free = (None, refl)
decimals_said Numeric (whole n) free = said_if (is_finite_decimals n) (Some n) free.range
decimals_said kind (whole n) free = let no : true ≡ false = free.numeric in absurd (cc)
decimals_said kind g free = let no : true ≡ false = free.form in absurd (cc)

abbrev member_names : Option DimensionKind → Option (List ℕ) → List Spelled
member_names kind t = map a_name (option_to_list (if is_some_and (same_dimension_kind Explicit) kind then t else None))

record MemberFree (bs : List Binding) (kind : Option DimensionKind) (d : Data) : Type 0 where
  listed : is_none kind ≡ false
  fits : is_some_and (λ k. misfits k d) kind ≡ false
  names : names_refusal bs (member_names kind (as_text d)) ≡ None

explicit_free : (bs : List Binding) (d : Data) (m : Member) → said_member bs (Some Explicit) (given d) ≡ Some m → (is_none (as_text d) ≡ false) × (names_refusal bs (map a_name (option_to_list (as_text d))) ≡ None)
explicit_free bs d m =
    by_given (λ g t w n. said_member bs (Some Explicit) g ≡ Some m → (is_none t ≡ false) × (names_refusal bs (map a_name (option_to_list t)) ≡ None))
    (λ e. absurd (cc)) (λ t e. let n = map_some MemberName (named bs t) m e in (refl, name_free is_name bs t n.0 n.1)) (λ n e. absurd (cc)) (λ e. absurd (cc)) d

typed_free : (bs : List Binding) (d : Data) (m : Member) → said_member bs (Some Typed) (given d) ≡ Some m → misfits Typed d ≡ false
typed_free bs d m =
    by_given (λ g t w n. said_member bs (Some Typed) g ≡ Some m → (is_none t && is_none n) ≡ false)
    (λ e. refl) (λ t e. refl) (λ n e. absurd (cc)) (λ e. absurd (cc)) d

member_free : (bs : List Binding) (kind : Option DimensionKind) (d : Data) (m : Member) → said_member bs kind (given d) ≡ Some m → MemberFree bs kind d
member_free bs None d m e = absurd (cc)
member_free bs (Some Explicit) d m e = let both = explicit_free bs d m e in record { listed = refl; fits = both.0; names = both.1 }
member_free bs (Some Typed) d m e = record { listed = refl; fits = typed_free bs d m e; names = refl }

member_said : (bs : List Binding) (k : DimensionKind) (d : Data) → misfits k d ≡ false → names_refusal bs (member_names (Some k) (as_text d)) ≡ None → (m : Member) × (said_member bs (Some k) (given d) ≡ Some m)
member_said bs Explicit d =
    by_given (λ g t w n. is_none t ≡ false → names_refusal bs (map a_name (option_to_list t)) ≡ None → (m : Member) × (said_member bs (Some Explicit) g ≡ Some m))
    (λ fits names. absurd (cc)) (λ t fits names. let n = name_said is_name bs t names in (MemberName n.0, ap (option_map MemberName) n.1)) (λ n fits names. absurd (cc)) (λ fits names. absurd (cc)) d
member_said bs Typed d =
    by_given (λ g t w n. (is_none t && is_none n) ≡ false → names_refusal bs [] ≡ None → (m : Member) × (said_member bs (Some Typed) g ≡ Some m))
    (λ fits names. (NoMember, refl)) (λ t fits names. (MemberText t, refl)) (λ n fits names. absurd (cc)) (λ fits names. absurd (cc)) d

module _ (sheet : Sheet) (bs : List Binding) where
  abbrev pub names_in : List ℕ × Data → List Spelled
  names_in m = a_name m.0 ∷ map a_name (option_to_list (explicit_text sheet bs m))

  abbrev pub is_unlisted : List ℕ × Data → Bool
  is_unlisted m = is_some_and (λ n. is_none (map_of.get sheet.dimensions n)) (named bs m.0)

  abbrev pub is_misfit : List ℕ × Data → Bool
  is_misfit m = is_some_and (λ k. misfits k m.1) (dimension_kind sheet bs m.0)

  pub record EachFree (xs : List (List ℕ × Data)) : Type 0 where
    pub names : names_refusal bs (flat_map names_in xs) ≡ None
    pub known : list_any is_unlisted xs ≡ false
    pub fit : list_any is_misfit xs ≡ false

  pub record MembersFree (xs : List (List ℕ × Data)) : Type 0 where
    pub each : EachFree xs
    pub once : comes_again (filter_map (λ m. named bs m.0) xs) ≡ false

  abbrev next : List (QName × Member) → List (List ℕ × Data) → QName → Member → Option (List (QName × Member))
  next es xs n m = members_with sheet bs (with_member n m es) (map seen_member xs)

  each_free : (es : List (QName × Member)) (xs : List (List ℕ × Data)) (said : List (QName × Member)) → members_with sheet bs es (map seen_member xs) ≡ Some said → EachFree xs
  each_free es [] said e = record { names = refl; known = refl; fit = refl }
  each_free es (x ∷ xs) said e =
      let kind = dimension_kind sheet bs x.0 in
      let n = and_then_some (λ n. option_and_then (next es xs n) (said_member bs kind (given x.1))) (named bs x.0) said e in
      let m = and_then_some (next es xs n.0) (said_member bs kind (given x.1)) said n.2 in
      let here = member_free bs kind x.1 m.0 m.1 in
      let rest = each_free (with_member n.0 m.0 es) xs said m.2 in
      let known : is_unlisted x ≡ false =
      ap (is_some_and (λ q. is_none (map_of.get sheet.dimensions q))) n.1 ∙ sym (ap (λ o. is_none (option_and_then (map_of.get sheet.dimensions) o)) n.1) ∙ here.listed in
      record {
        names = names_append bs (names_in x) (flat_map names_in xs) (name_more bs (a_name x.0) (member_names kind (as_text x.1)) (kept is_name bs x.0 n.0 n.1) here.names) rest.names;
        known = λ i. known i || rest.known i;
        fit = λ i. here.fits i || rest.fit i;
      }

  each_said : (es : List (QName × Member)) (xs : List (List ℕ × Data)) → EachFree xs → (said : List (QName × Member)) × (members_with sheet bs es (map seen_member xs) ≡ Some said)
  each_said es [] free = (es, refl)
  each_said es (x ∷ xs) free =
      let kind = dimension_kind sheet bs x.0 in
      let names = names-parts bs (names_in x) (flat_map names_in xs) free.names in
      let known = or_parts (is_unlisted x) (list_any is_unlisted xs) free.known in
      let fit = or_parts (is_misfit x) (list_any is_misfit xs) free.fit in
      let here = first_free bs (a_name x.0) (member_names kind (as_text x.1)) names.0 in
      let n = unless_refused is_name bs x.0 here.0 in
      let k = there (map_of.get sheet.dimensions n.0) (sym (ap (is_some_and (λ q. is_none (map_of.get sheet.dimensions q))) n.1) ∙ known.0) in
      let is : kind ≡ Some k.0 = ap (option_and_then (map_of.get sheet.dimensions)) n.1 ∙ k.1 in
      let m =
      member_said bs k.0 x.1 (sym (ap (is_some_and (λ q. misfits q x.1)) is) ∙ fit.0) (sym (ap (λ o. names_refusal bs (member_names o (as_text x.1))) is) ∙ here.1) in
      let rest = each_said (with_member n.0 m.0 es) xs (record { names = names.1; known = known.1; fit = fit.1 }) in (
        rest.0,
        ap (option_and_then (λ q. option_and_then (next es xs q) (said_member bs kind (given x.1)))) n.1
            ∙ ap (λ o. option_and_then (next es xs n.0) (said_member bs o (given x.1))) is
            ∙ ap (option_and_then (next es xs n.0)) m.1
            ∙ rest.1,
      )

  same_names : (xs : List (List ℕ × Data)) → dimension_names bs (map seen_member xs) ≡ filter_map (λ m. named bs m.0) xs
  same_names [] = refl
  same_names (x ∷ xs) = ap (cons_option (named bs x.0)) (same_names xs)

  pub members_free : (xs : List (List ℕ × Data)) (said : List (QName × Member)) → said_members sheet bs (map seen_member xs) ≡ Some said → MembersFree xs
  members_free xs said e =
      let both = once_said (comes_again (dimension_names bs (map seen_member xs))) (members_with sheet bs [] (map seen_member xs)) said e in
      record { each = each_free [] xs said both.1; once = ap comes_again (sym (same_names xs)) ∙ both.0 }

  pub members_said : (xs : List (List ℕ × Data)) → MembersFree xs → (said : List (QName × Member)) × (said_members sheet bs (map seen_member xs) ≡ Some said)
  members_said xs free =
      let said = each_said [] xs free.each in
      (said.0, ap (λ b. if b then None else members_with sheet bs [] (map seen_member xs)) (ap comes_again (same_names xs) ∙ free.once) ∙ said.1)
