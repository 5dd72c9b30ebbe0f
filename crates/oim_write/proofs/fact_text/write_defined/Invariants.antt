use Rattle.oim_write.proofs.Shared.{take, no_members, defined_members, AddsMembers}
use Rattle.oim_write.proofs.fact_text.write_defined.Given as goal

-- the taxonomy-defined dimensions so far are written
abbrev pub invariant-loop-name : goal.invariant-loop-name
invariant-loop-name g l = AddsMembers l.fn.json l.json (defined_members (g.S.Spelling.spelled l.spelling) (take l.name-index l.members) no_members)
