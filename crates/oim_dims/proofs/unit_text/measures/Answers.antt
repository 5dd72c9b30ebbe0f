use Rattle.oim_dims.proofs.Shared.{◌≡◌, length, ap, ◌∙◌, All-permutation, length_permutation, slice_split, is_star, IsMeasure}
use Rattle.oim_dims.proofs.Naming.{measures_of_pieces, side_some}
use Rattle.oim_dims.proofs.unit_text.measures.Goals as goal

pub returns-clause-measures : goal.returns-clause-measures
returns-clause-measures c =
    let all = measures_of_pieces c.args.aliases.now (slice_split is_star c.args.side.now) c.in_ok-names.names.items c.known.ensures c.in_ok-names.ensures.names c.requires.pieces in
    let sorted = All-permutation IsMeasure _ _ c.in_ok-sort.ensures.permutation all in
    let made = c.new.ensures in
    rw made sorted

pub returns-clause-some : goal.returns-clause-some
returns-clause-some c =
    let long : length c.new.result ≡ length c.in_ok-names.names.items = ap length c.new.ensures ∙ length_permutation _ _ c.in_ok-sort.ensures.permutation in
    side_some c.args.aliases.now c.args.side.now c.in_ok-names.names.items c.new.result c.in_ok-names.ensures.names long
