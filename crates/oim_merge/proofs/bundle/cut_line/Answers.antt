use Rattle.oim_merge.proofs.Shared.{◌+◌, drop, take, sym, ap, take_rest}
use Rattle.oim_merge.proofs.LinePieces.{at_end, found_end, none_found, whole}
use Rattle.oim_merge.proofs.bundle.cut_line.Goals as goal

pub returns-in-Some-clause-line : goal.returns-in-Some-clause-line
returns-in-Some-clause-line c =
    let bytes = c.args.bytes.now in
    ap (λ k. take k bytes) (sym (found_end bytes c.in-Some.end c.in-Some.ensures.index))

pub returns-in-Some-clause-rest : goal.returns-in-Some-clause-rest
returns-in-Some-clause-rest c =
    let bytes = c.args.bytes.now in
    rw take_rest (ap (λ k. drop (k + 1) bytes) (sym (found_end bytes c.in-Some.end c.in-Some.ensures.index)))

pub returns-in-None-clause-line : goal.returns-in-None-clause-line
returns-in-None-clause-line c = sym (whole c.args.bytes.now (none_found c.args.bytes.now c.in-None.ensures.index))

pub returns-in-None-clause-rest : goal.returns-in-None-clause-rest
returns-in-None-clause-rest c = sym (at_end c.args.bytes.now (none_found c.args.bytes.now c.in-None.ensures.index))
