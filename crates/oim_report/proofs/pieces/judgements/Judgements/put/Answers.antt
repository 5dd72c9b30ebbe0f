use Rattle.oim_report.proofs.Shared.{rules, ◌≡◌, string_bytes, string_cmp, insert_entry}
use Rattle.oim_report.proofs.pieces.judgements.Judgements.put.Goals as goal

pub returns : goal.returns
returns c =
    let key = c.in_ok-key.key in
    let copied : string_bytes key ≡ c.args.identifier.now = search rules in
    let stored : c.insert.new.self.entries ≡ insert_entry string_cmp c.args.self.now.by_identifier.entries key c.args.judgement = search rules in
    (key, copied, stored)
