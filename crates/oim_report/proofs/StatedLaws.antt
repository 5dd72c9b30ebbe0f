-- Lemmas with the statements of laws in `src/laws.rt`.
use Rattle.oim_report.proofs.Documents.{outcomes_are_said}
use Rattle.oim_report.proofs.FaultLaws.{first_fault, no_faults, outcomes_want_no_memory, sheet_outcomes_want_no_memory}
use Rattle.oim_report.proofs.ReferenceLaws.{accepted_again, kept_again, kept_utf8}
use Rattle.oim_report.proofs.KeyedFacts.{each_fact_has_an_identifier}
use Rattle.oim_report.proofs.KeysRise.{identifiers_rise}
use Rattle.oim_report.proofs.Pairs.{level_ignores_order, level_is_strictest}
use Rattle.oim_report.proofs.ReadFact.{fact_back, form_accepted}
use Rattle.oim_report.proofs.ReadUtf8.{what_is_read_has_utf8}
use Rattle.oim_report.proofs.SaidWhereFree.{facts_are_said}
use Rattle.oim_report.proofs.TextUtf8.{has_float-plain, object_text_back}
use Rattle.oim_report.proofs.ValuesMeet.{values_meet_is_meets}

pub ruleset laws = (each_fact_has_an_identifier, fact_back, facts_are_said, first_fault, no_faults, identifiers_rise, accepted_again, kept_again, kept_utf8, level_ignores_order, level_is_strictest, outcomes_are_said, outcomes_want_no_memory, has_float-plain, object_text_back, sheet_outcomes_want_no_memory, values_meet_is_meets, what_is_read_has_utf8, form_accepted)
