-- An object that denotes a fact says each part of it. If the URIs of all bindings are namespaces, each part fits the sheet.
use Rattle.oim_report.proofs.Shared.{◌≡◌, ℕ, ℤ, List, Bool, true, false, ◌&&◌, cond, Option, Some, None, Result, Ok, Err, refl, sym, subst, ◌≢◌, [], ◌∷◌, not, bytes_eq, ap, length, ◌==◌, arith, IsTrue, All, option_and_then, codes, find, option_map, unwrap_or, IsUtf8, option_map_or, result_ok, str_to_ascii_lowercase, is_utf8, and_parts, or_parts, All-cons, All-head, All-tail, IsUtf8-from_is_utf8, Data, Members, no_members, member, get_member, as_object, QName, is_name, is_entity, is_colon, is_part, local_part, prefix_part, Binding, uri_of, Expands, ExpandsAs, Reason, other_bytes, is_finite_decimals, AreDecimals, is_number, is_short, IsShort, units_of, Value, Nil, Number, AText, AName, short_denotes, short_is_kept, is_language, period_of, IsPeriod, Period, Forever, ConceptKind, Numeric, Text, Name, GivesText, SaysDecimals, SaysEntity, SaysLanguage, SaysPeriod, SaysValue, SaysNumber, Given, absent, nil, text, whole, text_of, any_member, given, given_at, given_of, has_colon, entity_named, named, said_concept, said_decimals, said_entity, said_language, said_period, said_value, value_with, EntityFits, FitsEntity, FitsName, IsNamespace, LanguageFits, ValueFits, DimensionMembers, FactMembers, defined_in, dimension_parts, fact_parts, parts_of, binds_nothing, bindings_in}
use Rattle.oim_dims.proofs.Languages.{language_kept}
use Rattle.oim_dims.proofs.ReadPeriods.{read_period_is}
use Rattle.oim_report.proofs.Accepted.{and_then_some, map_some}
use Rattle.oim_report.proofs.Naming.{stands}
use Rattle.oim_report.proofs.ReferenceTexts.{text_utf8}
use Rattle.oim_report.proofs.CutUtf8.{after_utf8, only_colon}

-- ---- if `said_period` returns a period, `SaysPeriod` holds for it. The same is proved for the
-- concept, the entity, the language and the value.

pub text_is : (g : Given) (t : List ℕ) → text_of g ≡ Some t → g ≡ text t
text_is (text s) t e = cc
text_is g t e = absurd (cc)

gives : (g : Given) (P : List ℕ → Type 0) (t : List ℕ) → g ≡ text t → P t → GivesText g P
gives g P t is p = subst (λ h. GivesText h P) (sym is) p

pub concept_says : (bs : List Binding) (g : Given) (n : QName) → said_concept bs g ≡ Some n → GivesText g (λ t. Expands bs t n)
concept_says bs g n e =
    let t = and_then_some (named bs) (text_of g) n e in
    gives g (λ s. Expands bs s n) t.0 (text_is g t.0 t.1) (stands is_name bs t.0 n t.2)

pub entity_says : (bs : List Binding) (g : Given) (said : Option QName) → said_entity bs g ≡ Some said → SaysEntity bs g said
entity_says bs absent said e = (let same : None ≡ said = cc in sym same)
entity_says bs (text t) said e =
    let n = map_some Some (entity_named bs t) said e in
    (n.0, sym n.2, stands is_entity bs t n.0 n.1)
entity_says bs g said e = absurd (cc)

pub period_ok : (r : Result Period Reason) (p : Period) → result_ok r ≡ Some p → r ≡ Ok p
period_ok (Ok q) p e = cc
period_ok (Err r) p e = absurd (cc)

pub period_says : (g : Given) (said : Period) → said_period g ≡ Some said → SaysPeriod g said
period_says absent said e = (let same : Forever ≡ said = cc in sym same)
period_says (text t) said e = period_ok (period_of t) said e
period_says g said e = absurd (cc)

said_if : {A : Type 0} (x said : A) (test b : Bool) → test ≡ b → cond b (Some x) None ≡ Some said → (test ≡ true) × (said ≡ x)
said_if x said test true u e = (u, cc)
said_if x said test false u e = absurd (cc)

pub language_says : (kind : ConceptKind) (g : Given) (said : Option (List ℕ)) → said_language kind g ≡ Some said → SaysLanguage g said
language_says kind absent said e = (let same : None ≡ said = cc in sym same)
language_says Text (text t) said e = said_if (Some (str_to_ascii_lowercase t)) said (is_language t) (is_language t) refl e
language_says Name (text t) said e = said_if (Some (str_to_ascii_lowercase t)) said (is_language t) (is_language t) refl e
language_says kind g said e = absurd (cc)

decimals_say : (g : Given) (places : Option ℤ) → said_decimals Numeric g ≡ Some places → SaysDecimals g places
decimals_say absent places e = (let same : None ≡ places = cc in sym same)
decimals_say (whole n) places e = said_if (Some n) places (is_finite_decimals n) (is_finite_decimals n) refl e
decimals_say g places e = absurd (cc)

module _ (bs : List Binding) (decimals : Given) (places : Option ℤ) (v : Value) where
  number_says : (t : List ℕ) (form short : Bool) → is_number t ≡ form → is_short t ≡ short → SaysDecimals decimals places → cond (form && short) (Some (Number (units_of t) places)) None ≡ Some v → SaysValue bs Numeric (text t) decimals v
  number_says t true true form short says e =
      let is : Number (units_of t) places ≡ v = cc in
      subst (SaysValue bs Numeric (text t) decimals) is (record { denoted = short_denotes t form short; short = short }, says)
  number_says t b short_too form short says e = absurd (cc)

  name_says : (t : List ℕ) → option_map AName (named bs t) ≡ Some v → SaysValue bs Name (text t) decimals v
  name_says t e =
      let n = map_some AName (named bs t) v e in
      subst (SaysValue bs Name (text t) decimals) n.2 (stands is_name bs t n.0 n.1)

  says_with : (kind : ConceptKind) (g : Given) → said_decimals kind decimals ≡ Some places → value_with bs kind g places ≡ Some v → SaysValue bs kind g decimals v
  says_with Numeric (text t) d e = number_says t (is_number t) (is_short t) refl refl (decimals_say decimals places d) e
  says_with Text (text t) d e = let is : AText t ≡ v = cc in subst (SaysValue bs Text (text t) decimals) is refl
  says_with Name (text t) d e = name_says t e
  says_with Numeric nil d e = let is : Nil ≡ v = cc in subst (SaysValue bs Numeric nil decimals) is refl
  says_with Text nil d e = let is : Nil ≡ v = cc in subst (SaysValue bs Text nil decimals) is refl
  says_with Name nil d e = let is : Nil ≡ v = cc in subst (SaysValue bs Name nil decimals) is refl
  says_with kind g d e = absurd (cc)

pub value_says : (bs : List Binding) (kind : ConceptKind) (g decimals : Given) (v : Value) → said_value bs kind g decimals ≡ Some v → SaysValue bs kind g decimals v
value_says bs kind g decimals v e =
    let places = and_then_some (value_with bs kind g) (said_decimals kind decimals) v e in
    says_with bs decimals places.0 v kind g places.1 places.2

-- ---- bindings whose URIs are namespaces

abbrev pub AreNamespaces : List Binding → Type 0
AreNamespaces bs = All (λ b. (b.uri ≢ []) × IsUtf8 b.uri) bs

uri_in : (o : Option (List ℕ)) → ((t : List ℕ) → o ≡ Some t → IsUtf8 t) → option_map_or (λ u. bytes_eq u []) o true ≡ false → (unwrap_or o [] ≢ []) × IsUtf8 (unwrap_or o [])
uri_in None utf8 e = absurd (cc)
uri_in (Some u) utf8 e = (other_bytes u [] e, utf8 u refl)

pub bindings_are : (ms : Members) → any_member binds_nothing ms ≡ false → AreNamespaces (bindings_in ms)
bindings_are no_members e = λ k d lt. absurd (omega (arith, lt))
bindings_are (member key d ms) e =
    let both = or_parts (binds_nothing key d) (any_member binds_nothing ms) e in
    let here = or_parts (not (is_part key)) (option_map_or (λ u. bytes_eq u []) (text_of (given d)) true) both.0 in
    All-cons (λ (b : Binding). (b.uri ≢ []) × IsUtf8 b.uri) _ (bindings_in ms) (uri_in (text_of (given d)) (λ t h. IsUtf8-from_is_utf8 t (text_utf8 d t h)) here.1) (bindings_are ms both.1)

pub bound_uri : (bs : List Binding) (p u : List ℕ) → AreNamespaces bs → uri_of bs p ≡ Some u → (u ≢ []) × IsUtf8 u
bound_uri [] p u are e = absurd (cc)
bound_uri (b ∷ bs) p u are e =
    elim (bytes_eq b.prefix p) as (λ t. option_map (λ (x : Binding). x.uri) (cond t (Some b) (find (λ x. bytes_eq x.prefix p) bs)) ≡ Some u → (u ≢ []) × IsUtf8 u) [
      | true ↦ λ h. (let same : b.uri ≡ u = cc in subst (λ v. (v ≢ []) × IsUtf8 v) same (All-head (λ (x : Binding). (x.uri ≢ []) × IsUtf8 x.uri) b bs are))
      | false ↦ λ h. bound_uri bs p u (All-tail (λ (x : Binding). (x.uri ≢ []) × IsUtf8 x.uri) b bs are) h
    ] e

-- ---- names

namespace_of : (has_form : List ℕ → Bool) (bs : List Binding) (t : List ℕ) (n : QName) → AreNamespaces bs → ExpandsAs has_form bs t n → IsNamespace n.uri
namespace_of has_form bs t n are e = let is = bound_uri bs (prefix_part t) n.uri are e.uri in record { filled = is.0; allowed = e.allowed; utf8 = is.1 }

pub name_fits : (bs : List Binding) (t : List ℕ) (n : QName) → AreNamespaces bs → IsUtf8 t → ExpandsAs is_name bs t n → FitsName n
name_fits bs t n are utf8 e = record {
  namespace = namespace_of is_name bs t n are e;
  form = subst (λ l. IsTrue (is_part l)) (sym e.local_part) (and_parts (is_part (prefix_part t)) (is_part (local_part t)) e.form).1;
  utf8 = subst IsUtf8 (sym e.local_part) (after_utf8 is_colon only_colon t utf8);
}

not_empty : (l : List ℕ) → not (length l == 0) ≡ true → l ≢ []
not_empty [] e = λ same. absurd (cc)
not_empty (c ∷ cs) e = λ same. absurd (cc)

pub entity_fits : (bs : List Binding) (t : List ℕ) (n : QName) → AreNamespaces bs → IsUtf8 t → ExpandsAs is_entity bs t n → FitsEntity n
entity_fits bs t n are utf8 e = record {
  scheme = namespace_of is_entity bs t n are e;
  some = subst (λ l. l ≢ []) (sym e.local_part) (not_empty (local_part t) (and_parts (is_part (prefix_part t)) (not (length (local_part t) == 0)) e.form).1);
  utf8 = subst IsUtf8 (sym e.local_part) (after_utf8 is_colon only_colon t utf8);
}

-- ---- the texts that `given` returns are UTF-8

abbrev pub IsClean : Given → Type 0
IsClean g = (t : List ℕ) → g ≡ text t → IsUtf8 t

pub given_clean : (d : Data) → IsClean (given d)
given_clean d t e = IsUtf8-from_is_utf8 t (text_utf8 d t (ap text_of e))

of_clean : (o : Option Data) → IsClean (given_of o)
of_clean None t e = absurd (cc)
of_clean (Some d) t e = given_clean d t e

pub at_clean : (key : List ℕ) (ms : Members) → IsClean (given_at key ms)
at_clean key ms = of_clean (get_member key ms)

-- ---- the parts of a fact object

pub record AreCleanDimensions (ds : DimensionMembers) : Type 0 where
  pub concept : IsClean ds.concept
  pub entity : IsClean ds.entity
  pub language : IsClean ds.language
  pub unit : IsClean ds.unit
  pub defined : All (λ d. IsUtf8 d.0 × IsClean d.1) ds.defined

defined_clean : (ms : Members) → All (λ d. IsUtf8 d.0 × IsClean d.1) (defined_in ms)
defined_clean no_members = λ k d lt. absurd (omega (arith, lt))
defined_clean (member key d ms) =
    let P : Bool → Type 0 = λ b. (has_colon key && is_utf8 key) ≡ b → All (λ (e : List ℕ × Given). IsUtf8 e.0 × IsClean e.1) (cond b ((key, given d) ∷ defined_in ms) (defined_in ms)) in
    elim (has_colon key && is_utf8 key) as P [
      | true ↦ λ e. All-cons (λ (f : List ℕ × Given). IsUtf8 f.0 × IsClean f.1) (key, given d) (defined_in ms) (IsUtf8-from_is_utf8 key (and_parts (has_colon key) (is_utf8 key) e).1, given_clean d) (defined_clean ms)
      | false ↦ λ e. defined_clean ms
    ] refl

dimensions_clean : (ms : Members) → AreCleanDimensions (dimension_parts ms)
dimensions_clean ms = record {
  concept = at_clean (codes "concept") ms;
  entity = at_clean (codes "entity") ms;
  language = at_clean (codes "language") ms;
  unit = at_clean (codes "unit") ms;
  defined = defined_clean ms;
}

-- the value, the concept, the entity, the language, the unit and the taxonomy-defined members of a fact object are UTF-8 if
-- they are texts; the keys of taxonomy-defined dimensions are UTF-8
pub record AreClean (p : FactMembers) : Type 0 where
  pub value : IsClean p.value
  pub dimensions : (ds : DimensionMembers) → p.dimensions ≡ Some ds → AreCleanDimensions ds

inside_clean : (o : Option Members) (ds : DimensionMembers) → option_map dimension_parts o ≡ Some ds → AreCleanDimensions ds
inside_clean o ds e = let ms = map_some dimension_parts o ds e in subst AreCleanDimensions ms.2 (dimensions_clean ms.0)

parts_clean : (ms : Members) → AreClean (parts_of ms)
parts_clean ms = record {
  value = at_clean (codes "value") ms;
  dimensions = λ ds e. inside_clean (option_and_then as_object (get_member (codes "dimensions") ms)) ds e;
}

pub are_clean : (d : Data) (p : FactMembers) → fact_parts d ≡ Some p → AreClean p
are_clean d p e = let ms = map_some parts_of (as_object d) p e in subst AreClean ms.2 (parts_clean ms.0)

-- ---- each part of the denoted fact fits the sheet

pub concept_fits : (bs : List Binding) (g : Given) (n : QName) → AreNamespaces bs → IsClean g → said_concept bs g ≡ Some n → FitsName n
concept_fits bs g n are clean e =
    let t = and_then_some (named bs) (text_of g) n e in
    name_fits bs t.0 n are (clean t.0 (text_is g t.0 t.1)) (stands is_name bs t.0 n t.2)

pub said_entity_fits : (bs : List Binding) (g : Given) (said : Option QName) → AreNamespaces bs → IsClean g → said_entity bs g ≡ Some said → EntityFits said
said_entity_fits bs absent said are clean e = let same : None ≡ said = cc in subst EntityFits same tt
said_entity_fits bs (text t) said are clean e =
    let n = map_some Some (entity_named bs t) said e in
    subst EntityFits n.2 (entity_fits bs t n.0 are (clean t refl) (stands is_entity bs t n.0 n.1))
said_entity_fits bs g said are clean e = absurd (cc)

pub said_period_is : (g : Given) (said : Period) → said_period g ≡ Some said → IsPeriod said
said_period_is absent said e = let same : Forever ≡ said = cc in subst IsPeriod same (record { moments = tt; forward = tt })
said_period_is (text t) said e = read_period_is t said (period_ok (period_of t) said e)
said_period_is g said e = absurd (cc)

lower_fits : (kind : ConceptKind) (t : List ℕ) (said : Option (List ℕ)) → kind ≢ Numeric → IsTrue (is_language t) × (said ≡ Some (str_to_ascii_lowercase t)) → LanguageFits kind said
lower_fits kind t said apart both =
    let kept = language_kept t both.0 in
    subst (LanguageFits kind) (sym both.1) (record { form = kept.language; lower = kept.same; other = apart })

pub said_language_fits : (kind : ConceptKind) (g : Given) (said : Option (List ℕ)) → said_language kind g ≡ Some said → LanguageFits kind said
said_language_fits kind absent said e = let same : None ≡ said = cc in subst (LanguageFits kind) same tt
said_language_fits Text (text t) said e = lower_fits Text t said (λ same. absurd (cc)) (language_says Text (text t) said e)
said_language_fits Name (text t) said e = lower_fits Name t said (λ same. absurd (cc)) (language_says Name (text t) said e)
said_language_fits kind g said e = absurd (cc)

-- ---- values

decimals_are : (g : Given) (places : Option ℤ) → SaysDecimals g places → AreDecimals places
decimals_are absent places e = subst AreDecimals (sym e) tt
decimals_are (whole n) places e = subst AreDecimals (sym e.1) e.0
decimals_are g places e = absurd e

number_is_short : (g : Given) (units : ℤ) → GivesText g (λ t. SaysNumber t units) → IsShort units
number_is_short (text t) units e = short_is_kept t units e.denoted e.short
number_is_short g units e = absurd e

gives_name : (bs : List Binding) (g : Given) (n : QName) → AreNamespaces bs → IsClean g → GivesText g (λ t. Expands bs t n) → FitsName n
gives_name bs (text t) n are clean e = name_fits bs t n are (clean t refl) e
gives_name bs g n are clean e = absurd e

pub value_fits : (bs : List Binding) (kind : ConceptKind) (g decimals : Given) (v : Value) → AreNamespaces bs → IsClean g → SaysValue bs kind g decimals v → ValueFits kind v
value_fits bs kind g decimals Nil are clean e = tt
value_fits bs Numeric g decimals (Number units places) are clean e = (number_is_short g units e.0, decimals_are decimals places e.1)
value_fits bs Text g decimals (AText t) are clean e = clean t e
value_fits bs Name g decimals (AName n) are clean e = gives_name bs g n are clean e
value_fits bs kind g decimals v are clean e = absurd e
