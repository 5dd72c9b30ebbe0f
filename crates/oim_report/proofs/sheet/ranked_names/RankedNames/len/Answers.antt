use Rattle.std.proofs.Common.{◌≡◌, length, sym, ap, ◌∙◌, arith}
use Rattle.std.specs.FinMap as map
use Rattle.oim_report.proofs.Ranks.{entries_rising}
use Rattle.oim_report.proofs.sheet.ranked_names.RankedNames.len.Goals as goal

pub returns : goal.returns
returns g c =
    let items = c.self.inside.names.items in
    let long : c.len.result ≡ length items = omega arith in
    long ∙ ap length (sym (entries_rising items c.self.invariant.0) ∙ ap map.entries c.self.view_is) ∙ sym (map.len-entries c.args.self.now)
