use Rattle.oim_report.proofs.Shared.{◌≡◌, Some, sym, ap, ◌∙◌, DimensionSet, said_entity, said_members, said_unit, seen, seen_defined, seen_dimensions}
use Rattle.oim_report.proofs.Accepted.{EachSays}
use Rattle.oim_report.proofs.fact_reader.FactReader.read_dimensions.Goals as goal
use Rattle.oim_report.proofs.SaidWhereFree.{together}

pub returns-clause-said : goal.returns-clause-said
returns-clause-said c =
    let own = c.args.self.now in
    let parts = c.args.parts.now in
    let here = sym (c.self.view_is ∙ c.read_members.ensures.same) in
    let d : DimensionSet = record {
      concept = c.args.read.now.concept;
      entity = c.in_ok-entity.entity;
      period = c.in_ok-cached_period.field-0;
      unit = c.in_ok-cached_unit.field-0;
      language = c.in_ok-language.language;
      members = c.read_members.new.read.members;
    } in
    let is : c.set_entity.new.dimensions ≡ d =
    c.set_entity.ensures
    ∙ ap (λ (s : DimensionSet). record s { entity = d.entity })
    (c.set_language.ensures
    ∙ ap (λ (s : DimensionSet). record s { language = d.language })
    (c.set_unit.ensures
    ∙ ap (λ (s : DimensionSet). record s { unit = d.unit })
    (c.set_period.ensures
    ∙ ap (λ (s : DimensionSet). record s { period = d.period }) c.in_ok-read_members.ensures.others))) in
    let each : EachSays own.sheet own.aliases c.args.kind (seen_dimensions parts) d = record {
      concept = c.requires.concept;
      entity = ap (λ s. said_entity s.aliases (seen parts.entity)) here ∙ c.in_ok-entity.ensures.said;
      period = c.in_ok-cached_period.ensures.said;
      unit = ap (λ s. said_unit s.aliases c.args.kind (seen parts.unit)) here ∙ c.in_ok-cached_unit.ensures.said;
      language = c.in_ok-language.ensures.said;
      members = ap (λ ms. said_members own.sheet own.aliases (seen_defined ms)) (sym c.as_slice.ensures.value) ∙ c.in_ok-read_members.ensures.said;
    } in
    together own.sheet own.aliases c.args.kind (seen_dimensions parts) d each ∙ ap Some (sym is)
