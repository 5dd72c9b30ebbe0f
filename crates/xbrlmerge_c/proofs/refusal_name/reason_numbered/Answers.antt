use Rattle.std.proofs.Common.{sym}
use Rattle.std.proofs.lemmas.Option.{slice_get-get_or, slice_get_past}
use Rattle.oim_names.specs.Reasons.{reasons}
use Rattle.xbrlmerge_c.proofs.refusal_name.reason_numbered.Goals as goal

pub returns-then-index-lt33 : goal.returns-then-index-lt33
returns-then-index-lt33 c = sym (slice_get-get_or reasons c.args.number _ c.if-index-lt33.true)

pub returns-else-index-lt33 : goal.returns-else-index-lt33
returns-else-index-lt33 c = sym (slice_get_past reasons c.args.number c.if-index-lt33.false)
