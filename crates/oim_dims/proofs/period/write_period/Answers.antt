use Rattle.oim_dims.proofs.Shared.{◌≡◌, rules, Some, period_text}
use Rattle.oim_dims.proofs.Periods.{written_back}
use Rattle.oim_dims.proofs.period.write_period.Goals as goal

pub returns-in_ok-from_string-in-Instant-clause-reads_back : goal.returns-in_ok-from_string-in-Instant-clause-reads_back
returns-in_ok-from_string-in-Instant-clause-reads_back c =
    let written : Some c.in_ok-from_string-in-Instant.field-0 ≡ period_text c.args.period.now = search rules in
    written_back c.args.period.now c.in_ok-from_string-in-Instant.field-0 written c.known.ensures

pub returns-in_ok-from_string-in-Duration-clause-reads_back : goal.returns-in_ok-from_string-in-Duration-clause-reads_back
returns-in_ok-from_string-in-Duration-clause-reads_back c =
    let written : Some c.in_ok-from_string-in-Duration.field-0 ≡ period_text c.args.period.now = search rules in
    written_back c.args.period.now c.in_ok-from_string-in-Duration.field-0 written c.known.ensures
