use Rattle.std.proofs.Common.{◌≡◌, [], List, String, Global, map, take, string_bytes}
use Rattle.oim_report.proofs.Judged.{put_accepted}
use Rattle.oim_report.proofs.pieces.judgements.Judgements.of_accepted.Given as goal

-- the identifiers so far were stored
abbrev pub invariant-loop-index : goal.invariant-loop-index
invariant-loop-index l = (keys : List (String Global)) × (take l.index l.facts.identifiers ≡ map string_bytes keys) × (l.all.by_identifier.entries ≡ put_accepted keys [])
