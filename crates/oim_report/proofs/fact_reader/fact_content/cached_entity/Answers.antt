use Rattle.oim_report.proofs.Shared.{sym, subst, ExpandsEntity}
use Rattle.oim_report.proofs.TextCacheAdds.{still}
use Rattle.oim_report.proofs.fact_reader.fact_content.cached_entity.Goals as goal

pub returns-in_ok-add-in-Text-clause-known : goal.returns-in_ok-add-in-Text-clause-known
returns-in_ok-add-in-Text-clause-known c =
    let bs = c.args.aliases.now in
    let t = c.in-Text.text.now in
    still (ExpandsEntity bs) c.args.entities.now c.add.new.self t c.in_ok-copied-in-Text-2.field-0 c.requires.known (subst (ExpandsEntity bs t) (sym c.in_ok-copied-in-Text-2.ensures) c.in_ok-read-in-Text.ensures.ok) c.add.ensures

pub returns-in_err-add-in-Text-clause-known : goal.returns-in_err-add-in-Text-clause-known
returns-in_err-add-in-Text-clause-known c =
    let bs = c.args.aliases.now in
    let t = c.in-Text.text.now in
    still (ExpandsEntity bs) c.args.entities.now c.add.new.self t c.in_ok-copied-in-Text-2.field-0 c.requires.known (subst (ExpandsEntity bs t) (sym c.in_ok-copied-in-Text-2.ensures) c.in_ok-read-in-Text.ensures.ok) c.add.ensures
