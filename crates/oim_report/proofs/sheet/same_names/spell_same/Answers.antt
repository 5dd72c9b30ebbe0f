use Rattle.oim_report.proofs.Shared.{rules, refl, sym, is_name}
use Rattle.oim_report.proofs.Naming.{expanded}
use Rattle.oim_report.proofs.ShownFaults.{refused_none}
use Rattle.oim_report.proofs.sheet.same_names.spell_same.Goals as goal

pub returns-in-Ok-resolve : goal.returns-in-Ok-resolve
returns-in-Ok-resolve c =
    let bs = c.args.aliases.now in
    rw (expanded is_name bs c.args.key.now _ c.in-Ok.ensures.ok, expanded is_name bs c.args.other.now _ c.in-Ok-resolve.ensures.ok) (search rules)

pub returns-in-Err-resolve : goal.returns-in-Err-resolve
returns-in-Err-resolve c =
    let bs = c.args.aliases.now in
    rw (expanded is_name bs c.args.key.now _ c.in-Ok.ensures.ok, refused_none bs c.args.other.now _ (sym c.in-Err-resolve.ensures.refused)) refl

pub returns-in-Err : goal.returns-in-Err
returns-in-Err c = rw (refused_none c.args.aliases.now c.args.key.now _ (sym c.in-Err.ensures.refused)) refl
