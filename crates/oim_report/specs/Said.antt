-- The function from a fact object to the fact that it denotes (`Fact.antt` cites the standards). A part is None if it cannot be
-- read or is not allowed.
use Rattle.std.specs.Prelude.{ℕ, ℤ, List, [], ◌∷◌, not, ◌&&◌, if◌then◌else◌, Option, Some, None, option_map, option_and_then}
use Rattle.std.specs.FinMap as map
use Rattle.std.specs.List.{filter_map}
use Rattle.std.specs.Result.{result_ok}
use Rattle.std.specs.Ordering.{is_lt, is_eq}
use Rattle.std.specs.Str.{str_to_ascii_lowercase}
use Rattle.oim_names.specs.QName.{QName}
use Rattle.oim_names.specs.Bindings.{Binding}
use Rattle.oim_value.specs.Decimals.{is_finite_decimals}
use Rattle.oim_value.specs.Number.{is_number, is_short}
use Rattle.oim_value.specs.Units.{units_of}
use Rattle.oim_value.specs.ValueOrder.{name_cmp}
use Rattle.oim_value.specs.declared.value.Value.{Value}
use Rattle.oim_value.specs.declared.value.Value.TheVariants.{Nil, Number, Text as AText, Name as AName}
use Rattle.oim_dims.specs.DimensionSet.{DimensionSet, with_member}
use Rattle.oim_dims.specs.Language.{is_language}
use Rattle.oim_dims.specs.Period.{period_of}
use Rattle.oim_dims.specs.Unit.{Measures, is_unit_text, numerator_pieces, denominator_pieces, pure_name}
use Rattle.oim_dims.specs.declared.fact.Fact.{Fact}
use Rattle.oim_dims.specs.declared.member.Member.{Member}
use Rattle.oim_dims.specs.declared.member.Member.TheVariants.{Nil as NoMember, Text as MemberText, Name as MemberName}
use Rattle.oim_dims.specs.declared.period.Period.{Period}
use Rattle.oim_dims.specs.declared.period.Period.TheVariants.{Forever}
use Rattle.oim_report.specs.declared.concept_kind.ConceptKind.{ConceptKind}
use Rattle.oim_report.specs.declared.concept_kind.ConceptKind.TheVariants.{Numeric, Text, Name}
use Rattle.oim_report.specs.declared.dimension_kind.DimensionKind.{DimensionKind}
use Rattle.oim_report.specs.declared.dimension_kind.DimensionKind.TheVariants.{Explicit, Typed}
use Rattle.oim_report.specs.Json.{Given, absent, nil, text, whole, other, text_of}
use Rattle.oim_report.specs.Names.{comes_again, named, entity_named}
use Rattle.oim_report.specs.FactMembers.{DimensionMembers, FactMembers}
use Rattle.oim_report.specs.Sheet.{Sheet, dimension_kind, same_concept_kind}

-- ---- kinds

-- the kind of the concept that a text names, if the sheet lists it
abbrev pub concept_kind : Sheet → List Binding → Given → Option ConceptKind
concept_kind sheet bs concept = option_and_then (map.get sheet.concepts) (option_and_then (named bs) (text_of concept))

-- ---- core dimensions

-- the value of an optional part, which is `none` if the part is absent
abbrev pub said_text : {A : Type 0} → A → (List ℕ → Option A) → Given → Option A
said_text none says absent = Some none
said_text none says (text t) = says t
said_text none says nil = None
said_text none says (whole n) = None
said_text none says other = None

abbrev pub said_concept : List Binding → Given → Option QName
said_concept bs concept = option_and_then (named bs) (text_of concept)

abbrev pub said_entity : List Binding → Given → Option (Option QName)
said_entity bs = said_text None (λ t. option_map Some (entity_named bs t))

abbrev pub said_period : Given → Option Period
said_period = said_text Forever (λ t. result_ok (period_of t))

-- numeric concepts have no language
abbrev pub said_language : ConceptKind → Given → Option (Option (List ℕ))
said_language kind = said_text None (λ t. if not (same_concept_kind Numeric kind) && is_language t then Some (Some (str_to_ascii_lowercase t)) else None)

-- ---- units

-- the names that the texts expand to; None if one of the texts does not expand
abbrev pub all_named : List Binding → List (List ℕ) → Option (List QName)
all_named bs [] = Some []
all_named bs (t ∷ ts) = option_and_then (λ n. option_map (λ ns. n ∷ ns) (all_named bs ts)) (named bs t)

-- adds a name to a sorted list of names; repeats remain
abbrev pub with_name : QName → List QName → List QName
with_name n [] = n ∷ []
with_name n (m ∷ ms) = if is_lt (name_cmp m n) then m ∷ with_name n ms else n ∷ m ∷ ms

abbrev pub in_order : List QName → List QName
in_order [] = []
in_order (n ∷ ns) = with_name n (in_order ns)

abbrev pub side_of : List Binding → List (List ℕ) → Option (List QName)
side_of bs ps = option_map in_order (all_named bs ps)

-- the unit with these numerators and denominators, or None if the unit is `pure` alone (own)
abbrev pub unit_with : List QName → List QName → Option Measures
unit_with (n ∷ []) [] = if is_eq (name_cmp n pure_name) then None else Some (record { numerators = n ∷ []; denominators = [] })
unit_with ns ds = Some (record { numerators = ns; denominators = ds })

abbrev pub unit_of : List Binding → List ℕ → Option (Option Measures)
unit_of bs t =
    if is_unit_text t then option_and_then (λ ns. option_map (unit_with ns) (side_of bs (denominator_pieces t))) (side_of bs (numerator_pieces t)) else None

-- only numeric concepts have units
abbrev pub said_unit : List Binding → ConceptKind → Given → Option (Option Measures)
said_unit bs kind = said_text None (λ t. if same_concept_kind Numeric kind then unit_of bs t else None)

-- ---- taxonomy-defined dimensions

abbrev pub said_member : List Binding → Option DimensionKind → Given → Option Member
said_member bs (Some Explicit) (text t) = option_map MemberName (named bs t)
said_member bs (Some Typed) (text t) = Some (MemberText t)
said_member bs (Some Typed) nil = Some NoMember
said_member bs kind g = None

-- adds to `es` the dimension and the member that each key and its value denote; None if a key or value is not accepted
abbrev pub members_with : Sheet → List Binding → List (QName × Member) → List (List ℕ × Given) → Option (List (QName × Member))
members_with sheet bs es [] = Some es
members_with sheet bs es (d ∷ ds) =
    option_and_then (λ n. option_and_then (λ m. members_with sheet bs (with_member n m es) ds) (said_member bs (dimension_kind sheet bs d.0) d.1)) (named bs d.0)

abbrev pub dimension_names : List Binding → List (List ℕ × Given) → List QName
dimension_names bs defined = filter_map (λ d. named bs d.0) defined

-- the dimensions that the keys denote, with their members; None if a dimension is repeated, or a key or value is not accepted
abbrev pub said_members : Sheet → List Binding → List (List ℕ × Given) → Option (List (QName × Member))
said_members sheet bs ds = if comes_again (dimension_names bs ds) then None else members_with sheet bs [] ds

-- ---- the value

-- only numeric concepts have decimals; a number without decimals is exact
abbrev pub said_decimals : ConceptKind → Given → Option (Option ℤ)
said_decimals kind absent = Some None
said_decimals kind (whole n) = if same_concept_kind Numeric kind && is_finite_decimals n then Some (Some n) else None
said_decimals kind nil = None
said_decimals kind (text t) = None
said_decimals kind other = None

abbrev pub text_said : List Binding → ConceptKind → Option ℤ → List ℕ → Option Value
text_said bs Numeric places t = if is_number t && is_short t then Some (Number (units_of t) places) else None
text_said bs Text places t = Some (AText t)
text_said bs Name places t = option_map AName (named bs t)

abbrev pub value_with : List Binding → ConceptKind → Given → Option ℤ → Option Value
value_with bs kind (text t) places = text_said bs kind places t
value_with bs kind nil places = Some Nil
value_with bs kind absent places = None
value_with bs kind (whole n) places = None
value_with bs kind other places = None

abbrev pub said_value : List Binding → ConceptKind → Given → Given → Option Value
said_value bs kind value decimals = option_and_then (value_with bs kind value) (said_decimals kind decimals)

-- ---- the fact

abbrev pub said_dimensions : Sheet → List Binding → ConceptKind → DimensionMembers → Option DimensionSet
said_dimensions sheet bs kind ds =
    option_and_then (λ concept.
    option_and_then (λ entity.
    option_and_then (λ period.
    option_and_then (λ unit.
    option_and_then (λ language.
    option_map (λ members. record { concept = concept; entity = entity; period = period; unit = unit; language = language; members = members })
    (said_members sheet bs ds.defined))
    (said_language kind ds.language))
    (said_unit bs kind ds.unit))
    (said_period ds.period))
    (said_entity bs ds.entity))
    (said_concept bs ds.concept)

-- the fact, given the kind of its concept
abbrev pub fact_with : Sheet → List Binding → FactMembers → DimensionMembers → ConceptKind → Option Fact
fact_with sheet bs p ds kind =
    option_and_then (λ dimensions. option_map (λ value. record { dimensions = dimensions; value = value }) (said_value bs kind p.value p.decimals)) (said_dimensions sheet bs kind ds)

abbrev pub fact_of : Sheet → List Binding → FactMembers → DimensionMembers → Option Fact
fact_of sheet bs p ds = option_and_then (fact_with sheet bs p ds) (concept_kind sheet bs ds.concept)

abbrev pub said_fact : Sheet → List Binding → FactMembers → Option Fact
said_fact sheet bs p = option_and_then (fact_of sheet bs p) p.dimensions
