use Rattle.oim_write.proofs.Shared.{take, length, sym, ◌∙◌, arith, take_all, get_or_from_slice_get}
use Rattle.std.proofs.lemmas.Slice.Eq.{bytes_eq-Decides}
use Rattle.oim_write.proofs.Compared.{beyond}
use Rattle.oim_write.proofs.compared_sink.common_front.Goals as goal

pub returns-then-starts_with-clause-same : goal.returns-then-starts_with-clause-same
returns-then-starts_with-clause-same c =
    let n = length c.args.other.now in
    sym ((bytes_eq-Decides c.args.other.now (take n c.args.one.now)).0 (sym c.starts_with.ensures.value ∙ c.if-starts_with.true))
    ∙ sym (take_all n c.args.other.now (omega arith))

pub returns-then-starts_with-clause-differs : goal.returns-then-starts_with-clause-differs
returns-then-starts_with-clause-differs c = λ byte there _. beyond c.args.other.now (length c.args.other.now) byte (omega arith) there

pub returns-else-one-same-clause-differs : goal.returns-else-one-same-clause-differs
returns-else-one-same-clause-differs c = λ byte there here.
    c.if-one-same.false (get_or_from_slice_get c.args.one.now c.loop-same.same byte 0 here ∙ sym (get_or_from_slice_get c.args.other.now c.loop-same.same byte 0 there))

pub returns-else-same-other-clause-differs : goal.returns-else-same-other-clause-differs
returns-else-same-other-clause-differs c = λ byte there _. beyond c.args.other.now c.loop-same.same byte (omega (arith, c.if-same-other.false)) there

pub returns-after-loop-same-clause-differs : goal.returns-after-loop-same-clause-differs
returns-after-loop-same-clause-differs c = λ byte _ here. beyond c.args.one.now c.loop-same.same byte (omega (arith, c.loop-same-test.false)) here
