use Rattle.oim_report.proofs.Shared.{codes, refl, sym, ◌∙◌, seen, seen_dimensions}
use Rattle.oim_report.proofs.MembersPut.{core_at, defined_at}
use Rattle.oim_report.proofs.fact.fact_members.DimensionMembers.put.Goals as goal

pub returns-in_default : goal.returns-in_default
returns-in_default c = defined_at c.put_defined.result c.args.self.now c.put_defined.new.self c.args.key.now (seen c.args.member) c.utf8.key (sym c.has_colon.ensures ∙ c.if-has_colon.true) c.put_defined.ensures.others c.put_defined.ensures.defined

pub returns-in-concept : goal.returns-in-concept
returns-in-concept c = core_at (codes "concept") refl (λ d. refl) c.args.key.now c.in-concept.is (seen c.args.member) (seen_dimensions c.args.self.now) _ refl

pub returns-in-entity : goal.returns-in-entity
returns-in-entity c = core_at (codes "entity") refl (λ d. refl) c.args.key.now c.in-entity.is (seen c.args.member) (seen_dimensions c.args.self.now) _ refl

pub returns-in-period : goal.returns-in-period
returns-in-period c = core_at (codes "period") refl (λ d. refl) c.args.key.now c.in-period.is (seen c.args.member) (seen_dimensions c.args.self.now) _ refl

pub returns-in-unit : goal.returns-in-unit
returns-in-unit c = core_at (codes "unit") refl (λ d. refl) c.args.key.now c.in-unit.is (seen c.args.member) (seen_dimensions c.args.self.now) _ refl

pub returns-in-language : goal.returns-in-language
returns-in-language c = core_at (codes "language") refl (λ d. refl) c.args.key.now c.in-language.is (seen c.args.member) (seen_dimensions c.args.self.now) _ refl

pub returns-in-noteId : goal.returns-in-noteId
returns-in-noteId c = core_at (codes "noteId") refl (λ d. refl) c.args.key.now c.in-noteId.is (seen c.args.member) (seen_dimensions c.args.self.now) _ refl
