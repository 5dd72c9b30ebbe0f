use Rattle.oim_report.proofs.Shared.{sym, subst, Expands}
use Rattle.oim_report.proofs.TextCacheAdds.{still}
use Rattle.oim_report.proofs.fact_reader.fact_content.cached_name.Goals as goal

pub returns-clause-known : goal.returns-clause-known
returns-clause-known c =
    let bs = c.args.aliases.now in
    let t = c.args.text.now in
    still (Expands bs) c.args.names.now c.add.new.self t c.in_ok-copied-2.field-0 c.requires.known (subst (Expands bs t) (sym c.in_ok-copied-2.ensures) c.in_ok-name.ensures.ok) c.add.ensures

pub returns-in_err-add-clause-known : goal.returns-in_err-add-clause-known
returns-in_err-add-clause-known c =
    let bs = c.args.aliases.now in
    let t = c.args.text.now in
    still (Expands bs) c.args.names.now c.add.new.self t c.in_ok-copied-2.field-0 c.requires.known (subst (Expands bs t) (sym c.in_ok-copied-2.ensures) c.in_ok-name.ensures.ok) c.add.ensures
