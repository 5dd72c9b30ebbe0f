use Rattle.oim_write.proofs.Shared.{◌∷◌, [], subst, Contains, QName, rows_left, shown, first_holds, others_hold, Gains}
use Rattle.oim_write.proofs.UriSets.{gains_both, gains_known, gains_last, known_by_run, still_known}
use Rattle.oim_write.proofs.uri_set.UriSet.add_row.Goals as goal

pub returns-then-known-gt0-clause-gains : goal.returns-then-known-gt0-clause-gains
returns-then-known-gt0-clause-gains c =
    let there = first_holds (Contains c.args.self.now) c.args.known (shown c.args.row) (rows_left c.args.rows.now) c.if-known-gt0.true c.requires in
    gains_both (gains_known c.args.self.now c.args.row.dimensions.now.concept there) c.in_ok-add_others.ensures

pub returns-then-known-gt0-clause-known : goal.returns-then-known-gt0-clause-known
returns-then-known-gt0-clause-known c = still_known c.in_ok-add_others.ensures _ (rows_left c.args.rows.now) (others_hold (Contains c.args.self.now) c.args.known (shown c.args.row) (rows_left c.args.rows.now) c.if-known-gt0.true c.requires)

pub returns-clause-gains : goal.returns-clause-gains
returns-clause-gains c = gains_last c.in_ok-add_others.ensures (subst (λ (n : QName). Gains c.add_others.new.self (n ∷ []) c.add.new.self) c.concept-concept.ensures c.in_ok-add.ensures)

pub returns-clause-known : goal.returns-clause-known
returns-clause-known c = known_by_run c.uri_run.result (rows_left c.args.rows.now) c.concept-concept.result.now c.uri.result.now c.in_ok-add.ensures c.uri.ensures c.uri_run.ensures.uris
