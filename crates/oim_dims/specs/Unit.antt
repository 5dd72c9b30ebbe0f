-- Units (OIM 1.0, the core dimension unit; OIM Common 1.0, units as texts).
use Rattle.std.specs.Prelude.{◌≡◌, ◌≢◌, ℕ, ◌-◌, Bool, false, not, ◌&&◌, ◌||◌, ◌==◌, if◌then◌else◌, List, [], ◌∷◌, ◌++◌, length, slice_index, slice_range, map, Option, Some, None, All, IfSome, IsTrue, codes}
use Rattle.std.specs.List.{AllZip, list_all, list_any, slice_split, before_first, after_first, join_with_byte}
use Rattle.std.specs.List.Sorted.{IsPermutation, IsSorted}
use Rattle.std.specs.Option.{option_map_or, unwrap_or}
use Rattle.oim_dims.specs.Separators.{is_slash, is_star}
use Rattle.oim_names.specs.QName.{QName, is_name, is_part}
use Rattle.oim_names.specs.Bindings.{Binding, AreBindings, prefix_of}
use Rattle.oim_names.specs.Expansion.{Expands, lacks_form, lacks_binding, lies_in_reserved, reserved_uri}
use Rattle.oim_names.specs.declared.reason.Reason.{Reason}
use Rattle.oim_value.specs.ValueOrder.{name_cmp}
use Rattle.oim_names.specs.declared.reason.Reason.TheVariants.{UnitForm, NameForm, UnboundPrefix, ReservedNamespace}

-- the reserved characters of a unit: ( ) * /
abbrev pub is_mark : ℕ → Bool
is_mark c = c == 40 || c == 41 || c == 42 || c == 47

-- a side without its outer parentheses, if it has both
abbrev pub inner : List ℕ → List ℕ
inner s = if slice_index s 0 == 40 && slice_index s (length s - 1) == 41 then slice_range s 1 (length s - 1) else s

abbrev pub side_pieces : List ℕ → List (List ℕ)
side_pieces s = slice_split is_star (inner s)

-- the pieces of both sides, before and after the first `/`; without `/` there are no denominator pieces
unfoldable pub numerator_pieces : List ℕ → List (List ℕ)
numerator_pieces t = side_pieces (before_first is_slash t)

unfoldable pub denominator_pieces : List ℕ → List (List ℕ)
denominator_pieces t = if list_any is_slash t then side_pieces (after_first is_slash t) else []

abbrev pub each_piece : (List ℕ → Bool) → List ℕ → Bool
each_piece p t = list_all p (numerator_pieces t) && list_all p (denominator_pieces t)

abbrev pub some_piece : (List ℕ → Bool) → List ℕ → Bool
some_piece p t = list_any p (numerator_pieces t) || list_any p (denominator_pieces t)

-- one or more characters, none of them reserved
abbrev pub is_piece : List ℕ → Bool
is_piece p = not (length p == 0) && not (list_any is_mark p)

-- the form of a unit: one side, or two with `/` between them; a side has pieces with `*` between them (own: parentheses are
-- optional)
abbrev pub is_unit_text : List ℕ → Bool
is_unit_text t = each_piece is_piece t

-- the measures of a unit: two multisets, each represented by a list
pub record Measures : Type 0 where
  pub numerators : List QName
  pub denominators : List QName

-- the pieces expand to exactly these names, in any order and with repeats
pub record NamesEach (bs : List Binding) (ps : List (List ℕ)) (names : List QName) : Type 0 where
  pub spelled : List QName
  pub expands : AllZip (Expands bs) ps spelled
  pub same : IsPermutation spelled names

pub record HasMeasures (bs : List Binding) (t : List ℕ) (m : Measures) : Type 0 where
  pub form : IsTrue (is_unit_text t)
  pub numerators : NamesEach bs (numerator_pieces t) m.numerators
  pub denominators : NamesEach bs (denominator_pieces t) m.denominators

-- the measure of a number without a unit (XBRL 2.1, section 4.8.2)
abbrev pub pure_name : QName
pure_name = record { uri = codes "http://www.xbrl.org/2003/instance"; local_part = codes "pure" }

abbrev pub pure_alone : Measures
pure_alone = record { numerators = pure_name ∷ []; denominators = [] }

-- the unit that a text denotes under these bindings; `pure` alone denotes none (OIM 1.0 forbids to write it; reading it is own)
abbrev pub UnitOf : List Binding → List ℕ → Option Measures → Type 0
UnitOf bs t None = HasMeasures bs t pure_alone
UnitOf bs t (Some m) = HasMeasures bs t m × (m ≢ pure_alone)

-- why a text is refused as a unit: the form of the unit is tested first, then the form of all pieces as names, then their prefixes,
-- then their namespaces
abbrev pub unit_refusal : List Binding → List ℕ → Option Reason
unit_refusal bs t =
    if not (is_unit_text t) then Some UnitForm else (
    if some_piece (lacks_form is_name) t then Some NameForm else (
    if some_piece (lacks_binding is_name bs) t then Some UnboundPrefix else (
    if some_piece (lies_in_reserved is_name bs) t then Some ReservedNamespace else None)))

-- a name that can be a measure; the local part has no reserved character, because no piece has one
pub record IsMeasure (n : QName) : Type 0 where
  pub filled : n.uri ≢ []
  pub allowed : n.uri ≢ reserved_uri
  pub form : IsTrue (is_part n.local_part)
  pub plain : list_any is_mark n.local_part ≡ false

-- each unit has sorted lists of names that satisfy `IsMeasure`, with at least one numerator, and is not `pure` alone
pub record IsUnit (m : Measures) : Type 0 where
  pub numerators : IsSorted name_cmp m.numerators
  pub denominators : IsSorted name_cmp m.denominators
  pub multiplied : All IsMeasure m.numerators
  pub divided : All IsMeasure m.denominators
  pub some : m.numerators ≢ []
  pub unit : m ≢ pure_alone

-- a measure can be written if its URI has a prefix, and the first prefix of the URI has no reserved character
abbrev pub is_writable : List Binding → QName → Bool
is_writable bs n = option_map_or (λ p. not (list_any is_mark p)) (prefix_of bs n.uri) false

abbrev pub can_write : List Binding → Measures → Bool
can_write bs m = list_all (is_writable bs) m.numerators && list_all (is_writable bs) m.denominators

-- the text of a measure, with the first prefix of its URI
abbrev pub measure_text : List Binding → QName → List ℕ
measure_text bs n = unwrap_or (prefix_of bs n.uri) [] ++ 58 ∷ n.local_part

-- the texts that f returns for the measures, with `*` between them
abbrev pub product_text : (QName → List ℕ) → List QName → List ℕ
product_text f ns = join_with_byte 42 (map f ns)

-- a side of a quotient, in parentheses unless it has exactly one measure
abbrev pub side_text : (QName → List ℕ) → List QName → List ℕ
side_text f ns = if length ns == 1 then product_text f ns else 40 ∷ product_text f ns ++ 41 ∷ []

-- the text of a unit (xBRL-JSON 1.0)
unfoldable pub unit_text : (QName → List ℕ) → Measures → List ℕ
unit_text f m =
    if length m.denominators == 0 then product_text f m.numerators
    else side_text f m.numerators ++ 47 ∷ side_text f m.denominators

-- a text has the form of a piece and expands to the measure
pub record Spells (bs : List Binding) (t : List ℕ) (n : QName) : Type 0 where
  pub piece : IsTrue (is_piece t)
  pub expands : Expands bs t n

pub record SpellsEach (bs : List Binding) (f : QName → List ℕ) (m : Measures) : Type 0 where
  pub numerators : All (λ n. Spells bs (f n) n) m.numerators
  pub denominators : All (λ n. Spells bs (f n) n) m.denominators

-- a text denotes this unit, is not refused, and denotes no other unit that satisfies `IsUnit`
pub record DenotesUnit (bs : List Binding) (t : List ℕ) (m : Measures) : Type 0 where
  pub unit : UnitOf bs t (Some m)
  pub accepted : unit_refusal bs t ≡ None
  pub alone : (u : Option Measures) → UnitOf bs t u → IfSome u IsUnit → u ≡ Some m

-- the text of a unit denotes that unit if f spells each of its measures
abbrev pub UnitsReadBack : Type 0
UnitsReadBack = (bs : List Binding) (f : QName → List ℕ) (m : Measures) → IsUnit m → SpellsEach bs f m → DenotesUnit bs (unit_text f m) m

-- if the bindings can write a unit, `measure_text` spells each of its measures
abbrev pub BindingsSpell : Type 0
BindingsSpell = (bs : List Binding) (m : Measures) → AreBindings bs → IsUnit m → IsTrue (can_write bs m) → SpellsEach bs (measure_text bs) m

-- a text that denotes a unit, or is `pure` alone, is not refused
abbrev pub UnitsAreNotRefused : Type 0
UnitsAreNotRefused = (bs : List Binding) (t : List ℕ) (u : Option Measures) → UnitOf bs t u → unit_refusal bs t ≡ None

-- a text that is not refused denotes a unit, or is `pure` alone
abbrev pub OthersAreRefused : Type 0
OthersAreRefused = (bs : List Binding) (t : List ℕ) → unit_refusal bs t ≡ None → (u : Option Measures) × UnitOf bs t u

-- a text denotes at most one unit that satisfies `IsUnit`
abbrev pub TextsDenoteOneUnit : Type 0
TextsDenoteOneUnit = (bs : List Binding) (t : List ℕ) (u v : Option Measures) → UnitOf bs t u → UnitOf bs t v → IfSome u IsUnit → IfSome v IsUnit → u ≡ v
