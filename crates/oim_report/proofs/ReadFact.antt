-- Lists of keys and values after an entry is added.
use Rattle.oim_report.proofs.Shared.{◌≡◌, ◌≢◌, ℕ, zero, suc, ◌<◌, length, get_or, List, [], ◌∷◌, refl, sym, subst, arith, true, false, ap, ◌∙◌, ◌||◌, Option, Some, None, Ok, All, Any, Contains, if◌then◌else◌, option_and_then, option_map, IfSome, nat_cmp, is_eq, Less, Equal, Greater, some_later, later_there, some_first, ⊤, match_ordering, slice_cmp, All-cons, All-head, All-tail, All-nil, All-weaker, exact_bytes, list_any, cons_option, and_parts, or_from, QName, exact_name, name_cmp, Binding, NameForm, UnboundPrefix, ReservedNamespace, Value, Nil, Member, NoMember, MemberText, MemberName, is_below, rises, with_member, IsPeriod, HasMoments, period_text, EndsAfterStart, Measures, Fact, Period, Forever, Given, is_absent, is_no_text, with_given, SpellsMember, SpellsDimension, member_given, defined_given, SpellsFact, dimensions_given, option_given, parts_given, value_given, FactObjectReadsBack, FormsAreAccepted, NamesAreAccepted, DimensionKind, Explicit, Typed, comes_again, named, SaysMember, SaysDimension, SaysFact, SaysDimensions, MemberFits, DimensionFits, UnitFits, MeasuresFit, FactFits, dimension_names, members_with, said_member, said_members, fact_of, fact_with, said_dimensions, Sheet, dimension_kind, ConceptKind, DimensionMembers, FactMembers, fact_parts, option_spelled, option_unit_text, fact_object, IsFree, fact_outcome}
use Rattle.std.specs.FinMap as map
use Rattle.oim_report.proofs.ReadBack.{DimensionsReadBack, ConceptReadsBack, EntityReadsBack, PeriodReadsBack, UnitReadsBack, LanguageReadsBack, MembersReadBack, ValueReadsBack, concept_back, entity_part_back, period_part_back, language_back, unit_part_back, value_part_back}
use Rattle.oim_report.proofs.WrittenTexts.{expands, name_back, spelled_apart}
use Rattle.oim_report.proofs.MemberOrder.{either_first, below_apart, each_added, all_added}
use Rattle.oim_report.proofs.SaidWhereFree.{said_free, said_outcome}
use Rattle.oim_report.proofs.PlainFact.{parts_back}

abbrev Keyed : Type 0
Keyed = List ℕ × Given

module _ (P : Keyed → Type 0) where
  pub All-with_given : (key : List ℕ) (g : Given) (ds : List Keyed) → P (key, g) → All P ds → All P (with_given key g ds)
  All-with_given key g [] here rest = All-cons P (key, g) [] here rest
  All-with_given key g (d ∷ ds) here rest =
      elim (slice_cmp nat_cmp key d.0) as (λ o. slice_cmp nat_cmp key d.0 ≡ o → All P (match_ordering o ((key, g) ∷ d ∷ ds) ((d.0, g) ∷ ds) (d ∷ with_given key g ds))) [
        | Less ↦ λ o. All-cons P (key, g) (d ∷ ds) here rest
        | Equal ↦ λ o. All-cons P (d.0, g) ds (subst (λ k. P (k, g)) (exact_bytes key d.0 o) here) (All-tail P d ds rest)
        | Greater ↦ λ o. All-cons P d (with_given key g ds) (All-head P d ds rest) (All-with_given key g ds here (All-tail P d ds rest))
      ] refl

  pub Any-with_given : (key : List ℕ) (g : Given) (ds : List Keyed) → P (key, g) → Any P (with_given key g ds)
  Any-with_given key g [] here = some_first P (key, g) [] here
  Any-with_given key g (d ∷ ds) here =
      elim (slice_cmp nat_cmp key d.0) as (λ o. slice_cmp nat_cmp key d.0 ≡ o → Any P (match_ordering o ((key, g) ∷ d ∷ ds) ((d.0, g) ∷ ds) (d ∷ with_given key g ds))) [
        | Less ↦ λ o. some_first P (key, g) (d ∷ ds) here
        | Equal ↦ λ o. some_first P (d.0, g) ds (subst (λ k. P (k, g)) (exact_bytes key d.0 o) here)
        | Greater ↦ λ o. some_later P d (with_given key g ds) (Any-with_given key g ds here)
      ] refl

  either_index : (d : Keyed) (ds : List Keyed) (k : ℕ) (x : Keyed) → k < length (d ∷ ds) → get_or (d ∷ ds) k x ≡ x → P x → (Q : Type 0) → (P d → Q) → (Any P ds → Q) → Q
  either_index d ds zero x within is h Q first later = first (subst P (sym is) h)
  either_index d ds (suc k) x within is h Q first later = later (k, x, omega arith, is, h)

  pub Any-kept : (key : List ℕ) (g : Given) (ds : List Keyed) → All (λ (d : Keyed). d.0 ≢ key) ds → Any P ds → Any P (with_given key g ds)
  Any-kept key g [] fresh h = absurd (omega (arith, h.2))
  Any-kept key g (d ∷ ds) fresh h =
      elim (slice_cmp nat_cmp key d.0) as (λ o. slice_cmp nat_cmp key d.0 ≡ o → Any P (match_ordering o ((key, g) ∷ d ∷ ds) ((d.0, g) ∷ ds) (d ∷ with_given key g ds))) [
        | Less ↦ λ o. some_later P (key, g) (d ∷ ds) h
        | Equal ↦ λ o. absurd (All-head (λ (d : Keyed). d.0 ≢ key) d ds fresh (sym (exact_bytes key d.0 o)))
        | Greater ↦ λ o.
            either_index d ds h.0 h.1 h.2 h.3 h.4 (Any P (d ∷ with_given key g ds))
            (λ here. some_first P d (with_given key g ds) here)
            (λ later. some_later P d (with_given key g ds) (Any-kept key g ds (All-tail (λ (d : Keyed). d.0 ≢ key) d ds fresh) later))
      ] refl

-- ---- The taxonomy-defined dimensions of a written fact are read back, with their members.

abbrev Entry : Type 0
Entry = QName × Member

-- ---- one member

member_said : (bs : List Binding) (spelled : QName → List ℕ) (kind : DimensionKind) (m : Member) → MemberFits kind m → SpellsMember bs spelled m → said_member bs (Some kind) (member_given spelled m) ≡ Some m
member_said bs spelled Explicit (MemberName n) fits s = ap (option_map MemberName) (name_back bs spelled n fits s)
member_said bs spelled Typed (MemberText t) fits s = refl
member_said bs spelled Typed NoMember fits s = refl
member_said bs spelled kind m fits s = absurd fits

says_member : (bs : List Binding) (spelled : QName → List ℕ) (kind : DimensionKind) (m : Member) → MemberFits kind m → SpellsMember bs spelled m → SaysMember bs kind (member_given spelled m) m
says_member bs spelled Explicit (MemberName n) fits s = expands bs spelled n s fits
says_member bs spelled Typed (MemberText t) fits s = refl
says_member bs spelled Typed NoMember fits s = refl
says_member bs spelled kind m fits s = absurd fits

same_steps : {A B C : Type 0} (a : Option A) (b : Option B) (f g : A → B → Option C) → ((x : A) → a ≡ Some x → (y : B) → f x y ≡ g x y) → option_and_then (λ x. option_and_then (f x) b) a ≡ option_and_then (λ x. option_and_then (g x) b) a
same_steps (Some x) (Some y) f g h = h x refl y
same_steps a b f g h = refl

module _ (sheet : Sheet) (bs : List Binding) where
  abbrev NamesNo : QName → Keyed → Type 0
  NamesNo n d = (o : QName) → named bs d.0 ≡ Some o → o ≢ n

  -- ---- one more key denotes one more member

  module _ (key : List ℕ) (g : Given) (n : QName) (m : Member) (is : named bs key ≡ Some n) (says : said_member bs (dimension_kind sheet bs key) g ≡ Some m) where
    said_first : (es : List Entry) (ds : List Keyed) → members_with sheet bs es ((key, g) ∷ ds) ≡ members_with sheet bs (with_member n m es) ds
    said_first es ds =
        ap (option_and_then (λ o. option_and_then (λ x. members_with sheet bs (with_member o x es) ds) (said_member bs (dimension_kind sheet bs key) g))) is
        ∙ ap (option_and_then (λ x. members_with sheet bs (with_member n x es) ds)) says

    said_anywhere : (ds : List Keyed) (es : List Entry) → All (NamesNo n) ds → members_with sheet bs es (with_given key g ds) ≡ members_with sheet bs (with_member n m es) ds
    said_anywhere [] es fresh = said_first es []
    said_anywhere (d ∷ ds) es fresh =
        elim (slice_cmp nat_cmp key d.0) as (λ o. slice_cmp nat_cmp key d.0 ≡ o → members_with sheet bs es (match_ordering o ((key, g) ∷ d ∷ ds) ((d.0, g) ∷ ds) (d ∷ with_given key g ds)) ≡ members_with sheet bs (with_member n m es) (d ∷ ds)) [
          | Less ↦ λ o. said_first es (d ∷ ds)
          | Equal ↦ λ o. absurd (All-head (NamesNo n) d ds fresh n (ap (named bs) (sym (exact_bytes key d.0 o)) ∙ is) refl)
          | Greater ↦ λ o.
              same_steps (named bs d.0) (said_member bs (dimension_kind sheet bs d.0) d.1)
              (λ a x. members_with sheet bs (with_member a x es) (with_given key g ds))
              (λ a x. members_with sheet bs (with_member a x (with_member n m es)) ds)
              (λ a here x.
              said_anywhere ds (with_member a x es) (All-tail (NamesNo n) d ds fresh)
              ∙ ap (λ xs. members_with sheet bs xs ds) (either_first (n, m) (a, x) es (λ same. All-head (NamesNo n) d ds fresh a here (sym same))))
        ] refl

  -- ---- no name is repeated

  abbrev Distinct : List Keyed → Type 0
  Distinct [] = ⊤
  Distinct (d ∷ ds) = All (λ (c : Keyed). (x : QName) → named bs d.0 ≡ Some x → NamesNo x c) ds × Distinct ds

  distinct_with : (key : List ℕ) (g : Given) (n : QName) → named bs key ≡ Some n → (ds : List Keyed) → All (NamesNo n) ds → Distinct ds → Distinct (with_given key g ds)
  distinct_with key g n is [] fresh h = (All-nil (λ (c : Keyed). (x : QName) → named bs key ≡ Some x → NamesNo x c), tt)
  distinct_with key g n is (d ∷ ds) fresh h =
      elim (slice_cmp nat_cmp key d.0) as (λ o. slice_cmp nat_cmp key d.0 ≡ o → Distinct (match_ordering o ((key, g) ∷ d ∷ ds) ((d.0, g) ∷ ds) (d ∷ with_given key g ds))) [
        | Less ↦ λ o. (
          All-weaker (NamesNo n) (λ (c : Keyed). (x : QName) → named bs key ≡ Some x → NamesNo x c) (λ c other x found y yes same. let both : Some n ≡ Some x = sym is ∙ found in other y yes (same ∙ sym (let e : n ≡ x = cc in e))) (d ∷ ds) fresh,
          h,
        )
        | Equal ↦ λ o. h
        | Greater ↦ λ o. (
          All-with_given (λ (c : Keyed). (x : QName) → named bs d.0 ≡ Some x → NamesNo x c) key g ds
              (λ x found y yes same. let both : Some n ≡ Some y = sym is ∙ yes in All-head (NamesNo n) d ds fresh x found (sym same ∙ sym (let e : n ≡ y = cc in e)))
              h.0,
          distinct_with key g n is ds (All-tail (NamesNo n) d ds fresh) h.1,
        )
      ] refl

  differ : (m n : QName) → n ≢ m → is_eq (name_cmp m n) ≡ false
  differ m n other =
      elim (name_cmp m n) as (λ o. name_cmp m n ≡ o → is_eq o ≡ false) [
        | Less ↦ λ o. refl
        | Equal ↦ λ o. absurd (other (sym (exact_name m n o)))
        | Greater ↦ λ o. refl
      ] refl

  not_among : (n : QName) (ds : List Keyed) → All (NamesNo n) ds → list_any (λ m. is_eq (name_cmp n m)) (dimension_names bs ds) ≡ false
  not_among n [] h = refl
  not_among n (d ∷ ds) h =
      elim (named bs d.0) as (λ o. named bs d.0 ≡ o → list_any (λ m. is_eq (name_cmp n m)) (cons_option o (dimension_names bs ds)) ≡ false) [
        | None ↦ λ o. not_among n ds (All-tail (NamesNo n) d ds h)
        | Some x ↦ λ o. or_from (is_eq (name_cmp n x)) (list_any (λ m. is_eq (name_cmp n m)) (dimension_names bs ds)) (differ n x (All-head (NamesNo n) d ds h x o)) (not_among n ds (All-tail (NamesNo n) d ds h))
      ] refl

  not_again : (ds : List Keyed) → Distinct ds → comes_again (dimension_names bs ds) ≡ false
  not_again [] h = refl
  not_again (d ∷ ds) h =
      elim (named bs d.0) as (λ o. named bs d.0 ≡ o → comes_again (cons_option o (dimension_names bs ds)) ≡ false) [
        | None ↦ λ o. not_again ds h.1
        | Some x ↦ λ o. or_from (list_any (λ m. is_eq (name_cmp x m)) (dimension_names bs ds)) (comes_again (dimension_names bs ds)) (not_among x ds (All-weaker (λ (c : Keyed). (y : QName) → named bs d.0 ≡ Some y → NamesNo y c) (NamesNo x) (λ c other. other x o) ds h.0)) (not_again ds h.1)
      ] refl

  -- ---- the dimensions of a fact

  module _ (spelled : QName → List ℕ) where
    record IsWritten (e : Entry) : Type 0 where
      fits : DimensionFits sheet e
      spells : SpellsDimension bs spelled e

    key_back : (e : Entry) → IsWritten e → named bs (spelled e.0) ≡ Some e.0
    key_back e w = name_back bs spelled e.0 w.fits.name w.spells.name

    kind_back : (e : Entry) (w : IsWritten e) → dimension_kind sheet bs (spelled e.0) ≡ Some w.fits.kind
    kind_back e w = ap (option_and_then (map.get sheet.dimensions)) (key_back e w) ∙ w.fits.listed

    member_back : (e : Entry) → IsWritten e → said_member bs (dimension_kind sheet bs (spelled e.0)) (member_given spelled e.1) ≡ Some e.1
    member_back e w = ap (λ k. said_member bs k (member_given spelled e.1)) (kind_back e w) ∙ member_said bs spelled w.fits.kind e.1 w.fits.member w.spells.member

    says_dimension : (e : Entry) → IsWritten e → SaysDimension sheet bs (spelled e.0, member_given spelled e.1) e
    says_dimension e w = record {
      name = expands bs spelled e.0 w.spells.name w.fits.name;
      kind = w.fits.kind;
      listed = w.fits.listed;
      member = says_member bs spelled w.fits.kind e.1 w.fits.member w.spells.member;
    }

    other_names : (n : QName) (es : List Entry) → All IsWritten es → All (λ (e : Entry). e.0 ≢ n) es → All (NamesNo n) (defined_given spelled es)
    other_names n [] w h = All-nil (NamesNo n)
    other_names n (e ∷ es) w h =
        All-with_given (NamesNo n) (spelled e.0) (member_given spelled e.1) (defined_given spelled es)
        (λ o found same. let both : Some e.0 ≡ Some o = sym (key_back e (All-head IsWritten e es w)) ∙ found in All-head (λ (f : Entry). f.0 ≢ n) e es h ((let one : e.0 ≡ o = cc in one) ∙ same))
        (other_names n es (All-tail IsWritten e es w) (All-tail (λ (f : Entry). f.0 ≢ n) e es h))

    other_keys : (e : Entry) (es : List Entry) → IsWritten e → All IsWritten es → All (λ (f : Entry). f.0 ≢ e.0) es → All (λ (d : Keyed). d.0 ≢ spelled e.0) (defined_given spelled es)
    other_keys e [] we w h = All-nil (λ (d : Keyed). d.0 ≢ spelled e.0)
    other_keys e (f ∷ es) we w h =
        let wf = All-head IsWritten f es w in
        All-with_given (λ (d : Keyed). d.0 ≢ spelled e.0) (spelled f.0) (member_given spelled f.1) (defined_given spelled es)
        (spelled_apart bs spelled f.0 e.0 wf.fits.name we.fits.name wf.spells.name we.spells.name (All-head (λ (g : Entry). g.0 ≢ e.0) f es h))
        (other_keys e es we (All-tail IsWritten f es w) (All-tail (λ (g : Entry). g.0 ≢ e.0) f es h))

    apart : (e : Entry) (es : List Entry) → rises (e ∷ es) ≡ true → All (λ (f : Entry). f.0 ≢ e.0) es
    apart e es h = below_apart e.0 es (and_parts (is_below e.0 es) (rises es) h).0

    rest : (e : Entry) (es : List Entry) → rises (e ∷ es) ≡ true → rises es ≡ true
    rest e es h = (and_parts (is_below e.0 es) (rises es) h).1

    all_said : (es found : List Entry) → rises es ≡ true → All IsWritten es → members_with sheet bs found (defined_given spelled es) ≡ Some (each_added found es)
    all_said [] found h w = refl
    all_said (e ∷ es) found h w =
        let we = All-head IsWritten e es w in
        let ws = All-tail IsWritten e es w in
        said_anywhere (spelled e.0) (member_given spelled e.1) e.0 e.1 (key_back e we) (member_back e we) (defined_given spelled es) found (other_names e.0 es ws (apart e es h))
        ∙ all_said es (with_member e.0 e.1 found) (rest e es h) ws

    abbrev Says : List Entry → Keyed → Type 0
    Says es d = (e : Entry) × Contains es e × SaysDimension sheet bs d e

    each_says : (es : List Entry) → All IsWritten es → All (Says es) (defined_given spelled es)
    each_says [] w = All-nil (Says [])
    each_says (e ∷ es) w =
        All-with_given (Says (e ∷ es)) (spelled e.0) (member_given spelled e.1) (defined_given spelled es)
        (e, (0, omega arith, refl), says_dimension e (All-head IsWritten e es w))
        (All-weaker (Says es) (Says (e ∷ es)) (λ d s. (s.0, later_there e es s.0 s.1, s.2)) (defined_given spelled es) (each_says es (All-tail IsWritten e es w)))

    abbrev IsSaid : List Keyed → Entry → Type 0
    IsSaid ds e = Any (λ (d : Keyed). SaysDimension sheet bs d e) ds

    each_said : (es : List Entry) → rises es ≡ true → All IsWritten es → All (IsSaid (defined_given spelled es)) es
    each_said [] h w = All-nil (IsSaid [])
    each_said (e ∷ es) h w =
        let we = All-head IsWritten e es w in
        let ws = All-tail IsWritten e es w in
        let ds = defined_given spelled es in
        All-cons (IsSaid (with_given (spelled e.0) (member_given spelled e.1) ds)) e es
        (Any-with_given (λ (d : Keyed). SaysDimension sheet bs d e) (spelled e.0) (member_given spelled e.1) ds (says_dimension e we))
        (All-weaker (IsSaid ds) (IsSaid (with_given (spelled e.0) (member_given spelled e.1) ds))
        (λ f s. Any-kept (λ (d : Keyed). SaysDimension sheet bs d f) (spelled e.0) (member_given spelled e.1) ds (other_keys e es we ws (apart e es h)) s)
        es (each_said es (rest e es h) ws))

    all_distinct : (es : List Entry) → rises es ≡ true → All IsWritten es → Distinct (defined_given spelled es)
    all_distinct [] h w = tt
    all_distinct (e ∷ es) h w =
        let ws = All-tail IsWritten e es w in
        distinct_with (spelled e.0) (member_given spelled e.1) e.0 (key_back e (All-head IsWritten e es w)) (defined_given spelled es) (other_names e.0 es ws (apart e es h)) (all_distinct es (rest e es h) ws)

    said_once : (es : List Entry) → rises es ≡ true → All IsWritten es → said_members sheet bs (defined_given spelled es) ≡ Some es
    said_once es h w =
        let ds = defined_given spelled es in
        ap (λ b. if b then None else members_with sheet bs [] ds) (not_again ds (all_distinct es h w)) ∙ all_said es [] h w ∙ ap Some (all_added es h)

pub dimensions_back : DimensionsReadBack
dimensions_back sheet bs spelled es h fits spells =
    let w : All (IsWritten sheet bs spelled) es = λ k d within. record { fits = fits k d within; spells = spells k d within } in
    record { says = record { each = each_says sheet bs spelled es w; others = each_said sheet bs spelled es h w }; said = said_once sheet bs spelled es h w }

-- ---- If a fact fits a sheet and its names are spelled as in `SpellsFact`, its object is read back as the fact.

text_or_nothing : (t : Option (List ℕ)) → is_no_text (option_given t) ≡ false
text_or_nothing None = refl
text_or_nothing (Some t) = refl

value_there : (spelled : QName → List ℕ) (v : Value) → is_absent (value_given spelled v) ≡ false
value_there spelled Nil = refl
value_there spelled v = refl

pub form_accepted : FormsAreAccepted
form_accepted spelled f =
    let d = f.dimensions in
    record {
      form = record { there = refl; shaped = refl; known = refl; unlinked = refl; known_inside = refl; unnoted = refl };
      value = value_there spelled f.value;
      texts = λ i. text_or_nothing (option_spelled spelled d.entity) i || text_or_nothing (period_text d.period) i || text_or_nothing (option_unit_text spelled d.unit) i || text_or_nothing d.language i;
    }

is_period : (p : Period) → HasMoments p → EndsAfterStart p → IsPeriod p
is_period Forever h fits = record { moments = h; forward = fits }
is_period p h fits = record { moments = h; forward = fits }

measures_fit : (kind : ConceptKind) (m : Option Measures) → UnitFits kind m → IfSome m (MeasuresFit kind)
measures_fit kind None fits = tt
measures_fit kind (Some m) fits = fits

module _ (sheet : Sheet) (bs : List Binding) (spelled : QName → List ℕ) (f : Fact) (fits : FactFits sheet f) (s : SpellsFact bs spelled f) where
  abbrev parts : FactMembers
  parts = parts_given spelled f

  abbrev given : DimensionMembers
  given = dimensions_given spelled f.dimensions

  concept : ConceptReadsBack sheet bs spelled f.dimensions.concept fits.kind
  concept = concept_back sheet bs spelled f.dimensions.concept fits.kind fits.concept s.concept fits.listed

  entity : EntityReadsBack bs spelled f.dimensions.entity
  entity = entity_part_back bs spelled f.dimensions.entity fits.entity s.entity

  period : PeriodReadsBack f.dimensions.period
  period = period_part_back f.dimensions.period (is_period f.dimensions.period fits.set.period fits.period)

  unit : UnitReadsBack bs spelled fits.kind f.dimensions.unit
  unit = unit_part_back bs spelled fits.kind f.dimensions.unit fits.set.unit (measures_fit fits.kind f.dimensions.unit fits.unit) s.unit

  language : LanguageReadsBack fits.kind f.dimensions.language
  language = language_back fits.kind f.dimensions.language fits.language

  members : MembersReadBack sheet bs spelled f.dimensions.members
  members = dimensions_back sheet bs spelled f.dimensions.members fits.set.members fits.members s.members

  value : ValueReadsBack bs spelled fits.kind f.value
  value = value_part_back bs spelled fits.kind f.value fits.value s.value

  says_dimensions : SaysDimensions sheet bs given f.dimensions
  says_dimensions = record {
    concept = concept.says;
    entity = entity.says;
    period = period.says;
    unit = unit.says;
    language = language.says;
    members = members.says;
    set = fits.set;
  }

  says : SaysFact sheet bs parts f
  says = record {
    parts = given;
    there = refl;
    dimensions = says_dimensions;
    kind = fits.kind;
    listed = fits.listed;
    value = value.says;
  }

  dimensions_said : said_dimensions sheet bs fits.kind given ≡ Some f.dimensions
  dimensions_said = rw (concept.said, entity.said, period.said, unit.said, language.said, members.said) refl

  fact_said : fact_of sheet bs parts given ≡ Some f
  fact_said = ap (option_and_then (fact_with sheet bs parts given)) concept.listed ∙ rw (dimensions_said, value.said) refl

  are : fact_parts (fact_object spelled f) ≡ Some parts
  are = parts_back sheet bs spelled f fits s

  accepted : IsFree sheet bs (fact_object spelled f)
  accepted = said_free sheet bs (fact_object spelled f) parts given f are (form_accepted spelled f).form fact_said

  outcome : fact_outcome sheet bs (fact_object spelled f) ≡ Ok f
  outcome = said_outcome sheet bs (fact_object spelled f) parts given f are (form_accepted spelled f).form fact_said

pub fact_back : FactObjectReadsBack
fact_back sheet bs spelled f fits s = record {
  parts = parts_given spelled f;
  are = are sheet bs spelled f fits s;
  accepted = accepted sheet bs spelled f fits s;
  says = says sheet bs spelled f fits s;
  outcome = outcome sheet bs spelled f fits s;
}

pub names_accepted : NamesAreAccepted
names_accepted sheet bs spelled f fits s =
    let free = accepted sheet bs spelled f fits s in
    (free NameForm, free UnboundPrefix, free ReservedNamespace)
