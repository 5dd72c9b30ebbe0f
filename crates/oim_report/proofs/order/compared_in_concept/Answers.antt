use Rattle.oim_report.proofs.Shared.{◌≡◌, sym, ap, ◌∙◌, nat_cmp, Ordering, Equal, tied_itself, slice_cmp, option_cmp, ordering_then, QName, name_cmp, derived_value, facts_agree, DimensionSet, unit_cmp, Member}
use Rattle.oim_dims.specs.contracts.member.MemberOrd.TheImpl.{cmp-value as derived_member}
use Rattle.oim_dims.specs.contracts.period.PeriodOrd.TheImpl.{cmp-value as derived_period}
use Rattle.oim_report.proofs.DimensionRuns.{by_entity, by_language, by_members, by_period, by_unit, by_values, answers}
use Rattle.oim_report.proofs.SheetEntries.{name_total}
use Rattle.oim_report.proofs.order.compared_in_concept.Goals as goal

-- the parts in the order in which dimension sets are compared
abbrev concepts : DimensionSet → DimensionSet → Ordering
concepts d e = name_cmp d.concept e.concept

abbrev entities : DimensionSet → DimensionSet → Ordering
entities d e = option_cmp name_cmp d.entity e.entity

abbrev periods : DimensionSet → DimensionSet → Ordering
periods d e = derived_period.it d.period e.period

abbrev units : DimensionSet → DimensionSet → Ordering
units d e = option_cmp unit_cmp d.unit e.unit

abbrev languages : DimensionSet → DimensionSet → Ordering
languages d e = option_cmp (slice_cmp nat_cmp) d.language e.language

abbrev members : DimensionSet → DimensionSet → Ordering
members d e = slice_cmp (λ (x y : QName × Member). ordering_then (name_cmp x.0 y.0) (derived_member.it x.1 y.1)) d.members e.members

pub returns-in_default : goal.returns-in_default
returns-in_default c =
    let f = c.args.one.now in
    let g = c.args.other.now in
    let d = f.dimensions in
    let e = g.dimensions in
    let tied : concepts d e ≡ Equal = ap (name_cmp d.concept) (sym c.requires) ∙ tied_itself name_total d.concept in
    let entity : c.cmp.result ≡ entities d e = c.cmp.ensures ∙ answers name_cmp c.entity.result c.entity-2.result ∙ (λ i. option_cmp name_cmp (c.entity.ensures i) (c.entity-2.ensures i)) in
    entity ∙ by_entity (concepts d e) (entities d e) (periods d e) (units d e) (languages d e) (members d e) (derived_value.it f.value g.value) tied (λ same. c.in_default.not-Equal (entity ∙ same)) ∙ facts_agree f g

pub returns-in_default-cmp : goal.returns-in_default-cmp
returns-in_default-cmp c =
    let f = c.args.one.now in
    let g = c.args.other.now in
    let d = f.dimensions in
    let e = g.dimensions in
    let tied : concepts d e ≡ Equal = ap (name_cmp d.concept) (sym c.requires) ∙ tied_itself name_total d.concept in
    let entity : c.cmp.result ≡ entities d e = c.cmp.ensures ∙ answers name_cmp c.entity.result c.entity-2.result ∙ (λ i. option_cmp name_cmp (c.entity.ensures i) (c.entity-2.ensures i)) in
    let period : c.cmp-2.result ≡ periods d e = c.cmp-2.ensures ∙ (λ i. derived_period.it (c.period.ensures i) (c.period-2.ensures i)) in
    period ∙ by_period (concepts d e) (entities d e) (periods d e) (units d e) (languages d e) (members d e) (derived_value.it f.value g.value) tied (sym entity ∙ c.in-Equal.is) (λ same. c.in_default-cmp.not-Equal (period ∙ same)) ∙ facts_agree f g

pub returns-in_default-cmp-2 : goal.returns-in_default-cmp-2
returns-in_default-cmp-2 c =
    let f = c.args.one.now in
    let g = c.args.other.now in
    let d = f.dimensions in
    let e = g.dimensions in
    let tied : concepts d e ≡ Equal = ap (name_cmp d.concept) (sym c.requires) ∙ tied_itself name_total d.concept in
    let entity : c.cmp.result ≡ entities d e = c.cmp.ensures ∙ answers name_cmp c.entity.result c.entity-2.result ∙ (λ i. option_cmp name_cmp (c.entity.ensures i) (c.entity-2.ensures i)) in
    let period : c.cmp-2.result ≡ periods d e = c.cmp-2.ensures ∙ (λ i. derived_period.it (c.period.ensures i) (c.period-2.ensures i)) in
    let unit : c.cmp-3.result ≡ units d e = c.cmp-3.ensures ∙ answers unit_cmp c.unit.result c.unit-2.result ∙ (λ i. option_cmp unit_cmp (c.unit.ensures i) (c.unit-2.ensures i)) in
    unit ∙ by_unit (concepts d e) (entities d e) (periods d e) (units d e) (languages d e) (members d e) (derived_value.it f.value g.value) tied (sym entity ∙ c.in-Equal.is) (sym period ∙ c.in-Equal-cmp.is) (λ same. c.in_default-cmp-2.not-Equal (unit ∙ same)) ∙ facts_agree f g

pub returns-in_default-cmp-3 : goal.returns-in_default-cmp-3
returns-in_default-cmp-3 c =
    let f = c.args.one.now in
    let g = c.args.other.now in
    let d = f.dimensions in
    let e = g.dimensions in
    let tied : concepts d e ≡ Equal = ap (name_cmp d.concept) (sym c.requires) ∙ tied_itself name_total d.concept in
    let entity : c.cmp.result ≡ entities d e = c.cmp.ensures ∙ answers name_cmp c.entity.result c.entity-2.result ∙ (λ i. option_cmp name_cmp (c.entity.ensures i) (c.entity-2.ensures i)) in
    let period : c.cmp-2.result ≡ periods d e = c.cmp-2.ensures ∙ (λ i. derived_period.it (c.period.ensures i) (c.period-2.ensures i)) in
    let unit : c.cmp-3.result ≡ units d e = c.cmp-3.ensures ∙ answers unit_cmp c.unit.result c.unit-2.result ∙ (λ i. option_cmp unit_cmp (c.unit.ensures i) (c.unit-2.ensures i)) in
    let language : c.cmp-4.result ≡ languages d e = c.cmp-4.ensures ∙ answers (slice_cmp nat_cmp) c.language.result c.language-2.result ∙ (λ i. option_cmp (slice_cmp nat_cmp) (c.language.ensures i) (c.language-2.ensures i)) in
    language ∙ by_language (concepts d e) (entities d e) (periods d e) (units d e) (languages d e) (members d e) (derived_value.it f.value g.value) tied (sym entity ∙ c.in-Equal.is) (sym period ∙ c.in-Equal-cmp.is) (sym unit ∙ c.in-Equal-cmp-2.is) (λ same. c.in_default-cmp-3.not-Equal (language ∙ same)) ∙ facts_agree f g

pub returns-in_default-cmp-4 : goal.returns-in_default-cmp-4
returns-in_default-cmp-4 c =
    let f = c.args.one.now in
    let g = c.args.other.now in
    let d = f.dimensions in
    let e = g.dimensions in
    let tied : concepts d e ≡ Equal = ap (name_cmp d.concept) (sym c.requires) ∙ tied_itself name_total d.concept in
    let entity : c.cmp.result ≡ entities d e = c.cmp.ensures ∙ answers name_cmp c.entity.result c.entity-2.result ∙ (λ i. option_cmp name_cmp (c.entity.ensures i) (c.entity-2.ensures i)) in
    let period : c.cmp-2.result ≡ periods d e = c.cmp-2.ensures ∙ (λ i. derived_period.it (c.period.ensures i) (c.period-2.ensures i)) in
    let unit : c.cmp-3.result ≡ units d e = c.cmp-3.ensures ∙ answers unit_cmp c.unit.result c.unit-2.result ∙ (λ i. option_cmp unit_cmp (c.unit.ensures i) (c.unit-2.ensures i)) in
    let language : c.cmp-4.result ≡ languages d e = c.cmp-4.ensures ∙ answers (slice_cmp nat_cmp) c.language.result c.language-2.result ∙ (λ i. option_cmp (slice_cmp nat_cmp) (c.language.ensures i) (c.language-2.ensures i)) in
    let member : c.cmp-5.result ≡ members d e = c.cmp-5.ensures ∙ (λ i. slice_cmp (λ (x y : QName × Member). ordering_then (name_cmp x.0 y.0) (derived_member.it x.1 y.1)) (c.members.ensures.members i) (c.members-2.ensures.members i)) in
    member ∙ by_members (concepts d e) (entities d e) (periods d e) (units d e) (languages d e) (members d e) (derived_value.it f.value g.value) tied (sym entity ∙ c.in-Equal.is) (sym period ∙ c.in-Equal-cmp.is) (sym unit ∙ c.in-Equal-cmp-2.is) (sym language ∙ c.in-Equal-cmp-3.is) (λ same. c.in_default-cmp-4.not-Equal (member ∙ same)) ∙ facts_agree f g

pub returns-in-Equal-cmp-4 : goal.returns-in-Equal-cmp-4
returns-in-Equal-cmp-4 c =
    let f = c.args.one.now in
    let g = c.args.other.now in
    let d = f.dimensions in
    let e = g.dimensions in
    let tied : concepts d e ≡ Equal = ap (name_cmp d.concept) (sym c.requires) ∙ tied_itself name_total d.concept in
    let entity : c.cmp.result ≡ entities d e = c.cmp.ensures ∙ answers name_cmp c.entity.result c.entity-2.result ∙ (λ i. option_cmp name_cmp (c.entity.ensures i) (c.entity-2.ensures i)) in
    let period : c.cmp-2.result ≡ periods d e = c.cmp-2.ensures ∙ (λ i. derived_period.it (c.period.ensures i) (c.period-2.ensures i)) in
    let unit : c.cmp-3.result ≡ units d e = c.cmp-3.ensures ∙ answers unit_cmp c.unit.result c.unit-2.result ∙ (λ i. option_cmp unit_cmp (c.unit.ensures i) (c.unit-2.ensures i)) in
    let language : c.cmp-4.result ≡ languages d e = c.cmp-4.ensures ∙ answers (slice_cmp nat_cmp) c.language.result c.language-2.result ∙ (λ i. option_cmp (slice_cmp nat_cmp) (c.language.ensures i) (c.language-2.ensures i)) in
    let member : c.cmp-5.result ≡ members d e = c.cmp-5.ensures ∙ (λ i. slice_cmp (λ (x y : QName × Member). ordering_then (name_cmp x.0 y.0) (derived_member.it x.1 y.1)) (c.members.ensures.members i) (c.members-2.ensures.members i)) in
    c.cmp-in-Equal-cmp-4.ensures ∙ by_values (concepts d e) (entities d e) (periods d e) (units d e) (languages d e) (members d e) (derived_value.it f.value g.value) tied (sym entity ∙ c.in-Equal.is) (sym period ∙ c.in-Equal-cmp.is) (sym unit ∙ c.in-Equal-cmp-2.is) (sym language ∙ c.in-Equal-cmp-3.is) (sym member ∙ c.in-Equal-cmp-4.is) ∙ facts_agree f g
