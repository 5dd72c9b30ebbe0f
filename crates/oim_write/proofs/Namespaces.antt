-- If facts fit a sheet, the URIs of their names are namespaces.
use Rattle.oim_write.proofs.Shared.{List, [], ◌∷◌, ◌++◌, Option, Some, None, ⊎_elim, subst, Contains, flat_map, All, nat_list_cmp_total, Contains-append_left, Contains-append_right, All-contains, exact_bytes, QName, Fact, Member, Nil, Text, Name, MemberName, text_cmp, Body, first_there, in_flat_map, in_map, later_there, some_there, each_by_there, first_or_later, from_map, in_one_of_both, none_there, IsSetOf, set_of_is_set, defined_names, dimension_names, entity_names, fact_names, unit_names, uris, uris_of_names, value_names, Value, AName, Measures, Fits}
use Rattle.fact_base.specs.Passed.{IsSet, ConceptKind, DimensionFits, DimensionKind, EntityFits, Explicit, FactFits, FitsName, IsNamespace, MemberFits, Name, Sheet, Typed, UnitFits, ValueFits}

-- ---- the URIs of facts ascend, and include the URI of every name in a fact

pub uris_are_set : (facts : List Fact) → IsSetOf text_cmp (uris_of_names (flat_map fact_names facts)) (uris facts)
uris_are_set facts = set_of_is_set nat_list_cmp_total exact_bytes (uris_of_names (flat_map fact_names facts))

pub uris_rise : (facts : List Fact) → IsSet text_cmp (uris facts)
uris_rise facts = (uris_are_set facts).rises

pub uri_there : (facts : List Fact) (f : Fact) (n : QName) → Contains facts f → Contains (fact_names f) n → Contains (uris facts) n.uri
uri_there facts f n at named =
    let within = (in_flat_map fact_names facts n).1 (some_there (λ g. Contains (fact_names g) n) facts f at named) in
    ((uris_are_set facts).members n.uri).1 (in_map (λ m. m.uri) (flat_map fact_names facts) n within)

own_name : (e : QName × Member) → Contains (defined_names e) e.0
own_name (n, Nil) = first_there n []
own_name (n, Text t) = first_there n []
own_name (n, Name m) = first_there n (m ∷ [])

pub defined_there : (f : Fact) (e : QName × Member) → Contains f.dimensions.members e → Contains (fact_names f) e.0
defined_there f e at =
    let d = f.dimensions in
    let within = (in_flat_map defined_names d.members e.0).1 (some_there (λ x. Contains (defined_names x) e.0) d.members e at (own_name e)) in
    Contains-append_left (dimension_names d) (value_names f.value) e.0
    (later_there d.concept _ e.0 (Contains-append_right (entity_names d.entity) _ e.0 (Contains-append_right (unit_names d.unit) _ e.0 within)))

-- ---- the URIs of names that fit a sheet

abbrev Allowed : QName → Type 0
Allowed n = IsNamespace n.uri

only : (n m : QName) → Allowed n → Contains (n ∷ []) m → Allowed m
only n m fits at = ⊎_elim (λ is. subst Allowed is fits) (none_there m) (first_or_later n [] m at)

entity_allowed : (e : Option QName) → EntityFits e → (n : QName) → Contains (entity_names e) n → Allowed n
entity_allowed None fits n at = none_there n at
entity_allowed (Some e) fits n at = only e n fits.scheme at

unit_allowed : (kind : ConceptKind) (m : Option Measures) → UnitFits kind m → (n : QName) → Contains (unit_names m) n → Allowed n
unit_allowed kind None fits n at = none_there n at
unit_allowed kind (Some m) fits n at = ⊎_elim (λ l. (All-contains FitsName m.numerators n fits.numerators l).namespace) (λ r. (All-contains FitsName m.denominators n fits.denominators r).namespace) ((in_one_of_both m.numerators m.denominators n).0 at)

member_allowed : (kind : DimensionKind) (m : Member) → MemberFits kind m → (e n : QName) → Allowed e → Contains (defined_names (e, m)) n → Allowed n
member_allowed Explicit (MemberName m) fits e n own at = ⊎_elim (λ is. subst Allowed is own) (λ later. only m n fits.namespace later) (first_or_later e (m ∷ []) n at)
member_allowed Typed (MemberName m) fits e n own at = absurd fits
member_allowed kind m fits e n own at = only e n own at

value_allowed : (kind : ConceptKind) (v : Value) → ValueFits kind v → (n : QName) → Contains (value_names v) n → Allowed n
value_allowed Name (AName m) fits n at = only m n fits.namespace at
value_allowed x (AName m) fits n at = absurd fits
value_allowed kind v fits n at = none_there n at

dimensions_allowed : (sheet : Sheet) (f : Fact) → FactFits sheet f → (n : QName) → Contains (dimension_names f.dimensions) n → Allowed n
dimensions_allowed sheet f fits n at =
    let d = f.dimensions in
    let entity = entity_names d.entity in
    let unit = unit_names d.unit in
    let defined = flat_map defined_names d.members in
    ⊎_elim (λ is. subst Allowed is fits.concept.namespace)
    (λ rest. ⊎_elim (entity_allowed d.entity fits.entity n)
    (λ further. ⊎_elim (unit_allowed fits.kind d.unit fits.unit n)
    (λ last.
    let some = (in_flat_map defined_names d.members n).0 last in
    let e = some.1 in
    let here = All-contains (DimensionFits sheet) d.members e fits.members (some.0, some.2, some.3) in
    member_allowed here.kind e.1 here.member e.0 n here.name.namespace some.4)
    ((in_one_of_both unit defined n).0 further))
    ((in_one_of_both entity (unit ++ defined) n).0 rest))
    (first_or_later d.concept (entity ++ (unit ++ defined)) n at)

fact_allowed : (sheet : Sheet) (f : Fact) → FactFits sheet f → (n : QName) → Contains (fact_names f) n → Allowed n
fact_allowed sheet f fits n at = ⊎_elim (dimensions_allowed sheet f fits n) (value_allowed fits.kind f.value fits.value n) ((in_one_of_both (dimension_names f.dimensions) (value_names f.value) n).0 at)

pub uris_are_namespaces : (sheet : Sheet) (b : Body) → Fits sheet b → All IsNamespace (uris b.facts)
uris_are_namespaces sheet b fits = each_by_there IsNamespace (uris b.facts) (λ u at.
    let named = from_map (λ n. n.uri) (flat_map fact_names b.facts) u (((uris_are_set b.facts).members u).0 at) in
    let some = (in_flat_map fact_names b.facts named.0).0 named.1.0 in
    subst IsNamespace named.1.1 (fact_allowed sheet some.1 (All-contains (FactFits sheet) b.facts some.1 fits.facts (some.0, some.2, some.3)) named.0 some.4))
