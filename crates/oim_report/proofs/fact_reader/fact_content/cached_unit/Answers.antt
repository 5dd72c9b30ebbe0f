use Rattle.oim_report.proofs.Shared.{Some, option_copied, sym, ap, subst, ◌∙◌, err_from_is_err_and, said_unit, seen, TextSaysUnit, IsTextCache}
use Rattle.oim_report.proofs.TextCacheAdds.{still}
use Rattle.oim_report.proofs.UnitSays.{unit_read}
use Rattle.oim_report.proofs.Unsaid.{Stops, unit_unsaid}
use Rattle.oim_report.proofs.fact_reader.fact_content.cached_unit.Goals as goal
use Rattle.oim_report.proofs.fact_reader.fact_content.cached_unit.Goals.{After-add}

pub returns-in-Some-clause-said : goal.returns-in-Some-clause-said
returns-in-Some-clause-said c =
    let t = c.in-Numeric-Text.text.now in
    let known = c.requires.known.each t c.in-Some.known.now (sym c.find.ensures ∙ ap option_copied c.in-Some.is) in
    unit_read c.args.aliases.now c.args.kind (seen c.args.unit) t c.in-Some.known.now c.in-Numeric-Text.is-0 (ap seen c.in-Numeric-Text.is-1) known.0 known.1 ∙ ap Some (sym c.in_ok-copied-in-Numeric-Text.ensures)

pub returns-in_ok-add-in-Numeric-Text-clause-said : goal.returns-in_ok-add-in-Numeric-Text-clause-said
returns-in_ok-add-in-Numeric-Text-clause-said c =
    let read = c.in_ok-read-in-Numeric-Text in
    unit_read c.args.aliases.now c.args.kind (seen c.args.unit) c.in-Numeric-Text.text.now read.read c.in-Numeric-Text.is-0 (ap seen c.in-Numeric-Text.is-1) read.ensures.unit read.ensures.sorted

known : (c : After-add) → IsTextCache (TextSaysUnit c.args.aliases.now) c.add.new.self
known c =
    let bs = c.args.aliases.now in
    let t = c.in-Numeric-Text.text.now in
    let read = c.in_ok-read-in-Numeric-Text in
    let copied = c.in_ok-copied-in-Numeric-Text-2 in
    still (TextSaysUnit bs) c.args.units.now c.add.new.self t copied.field-0 c.requires.known (subst (TextSaysUnit bs t) (sym copied.ensures) (read.ensures.unit, read.ensures.sorted)) c.add.ensures

pub returns-in_ok-add-in-Numeric-Text-clause-known : goal.returns-in_ok-add-in-Numeric-Text-clause-known
returns-in_ok-add-in-Numeric-Text-clause-known c = known (goal.at.returns-in_ok-add-in-Numeric-Text-clause-known c).After-add

pub returns-in_err-add-in-Numeric-Text-clause-known : goal.returns-in_err-add-in-Numeric-Text-clause-known
returns-in_err-add-in-Numeric-Text-clause-known c = known (goal.at.returns-in_err-add-in-Numeric-Text-clause-known c).After-add

pub returns-in_err-read-in-Numeric-Text-clause-errors : goal.returns-in_err-read-in-Numeric-Text-clause-errors
returns-in_err-read-in-Numeric-Text-clause-errors c =
    let bs = c.args.aliases.now in
    let p = err_from_is_err_and c.from_residual-in_err-read-in-Numeric-Text.result c.from_residual-in_err-read-in-Numeric-Text.ensures.1 in rw p.1
    (subst (λ g. Stops (said_unit bs c.args.kind g) p.0) (sym (ap seen c.in-Numeric-Text.is-1))
    (unit_unsaid bs c.args.kind c.in-Numeric-Text.text.now _ p.0 p.2 c.in_err-read-in-Numeric-Text.ensures.errors))
