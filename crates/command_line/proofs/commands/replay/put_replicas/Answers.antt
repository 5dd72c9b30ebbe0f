use Rattle.std.proofs.Common.{◌+◌, [], ◌∷◌, ◌++◌, take, drop, ap, ◌∙◌, sym, append_assoc}
use Rattle.std.proofs.KnownBytes.{Appends-trans}
use Rattle.oim_merge.specs.Run.{fault_of}
use Rattle.oim_write.specs.Bytes.{canonical}
use Rattle.command_line.specs.Endings.{Prints, PutsText}
use Rattle.command_line.specs.Faults.{error_of}
use Rattle.command_line.specs.Outputs.{replica_lines}
use Rattle.command_line.proofs.Ends.{of_error}
use Rattle.command_line.proofs.Replicas.{lines_split, put_behind, write_fault}
use Rattle.command_line.proofs.commands.replay.put_replicas.Goals as goal

pub returns-in_err-write_to : goal.returns-in_err-write_to
returns-in_err-write_to g c =
    let told = g.S.Sink.told in
    let l = c.loop-base in
    let bases = c.args.replicas.now in
    let i = l.base-index in
    let base = c.base-item.result in
    let before = replica_lines (take i bases) in
    let behind = replica_lines (drop (i + 1) bases) in
    let f = c.in_err-write_to.field-0.0 in
    let whole = lines_split bases i c.loop-base-test.true base c.base-item.is ∙ ap (λ t. before ++ t) (append_assoc (canonical base.body) (10 ∷ []) behind) in
    of_error (Prints (PutsText (replica_lines bases)) (told c.args.out.now) (told c.write_to.new.out)) c.from_residual.result (error_of (fault_of f)) c.from_residual.ensures.1
    (put_behind (told c.args.out.now) (told l.out) (told c.write_to.new.out) (replica_lines bases) before (canonical base.body) (10 ∷ behind) whole l.invariant.appended
    (error_of (fault_of f)) (write_fault (told l.out) (told c.write_to.new.out) (canonical base.body) f c.in_err-write_to.ensures.err))

pub returns-in_err-put_text : goal.returns-in_err-put_text
returns-in_err-put_text g c =
    let told = g.S.Sink.told in
    let l = c.loop-base in
    let bases = c.args.replicas.now in
    let i = l.base-index in
    let base = c.base-item.result in
    let before = replica_lines (take i bases) in
    let behind = replica_lines (drop (i + 1) bases) in
    let e = c.in_err-put_text.field-0.0 in
    let whole = lines_split bases i c.loop-base-test.true base c.base-item.is
    ∙ ap (λ t. before ++ t) (append_assoc (canonical base.body) (10 ∷ []) behind) ∙ sym (append_assoc before (canonical base.body) (10 ∷ behind)) in
    of_error (Prints (PutsText (replica_lines bases)) (told c.args.out.now) (told c.put_text.new.out)) c.from_residual-in_err-put_text.result e c.from_residual-in_err-put_text.ensures.1
    (put_behind (told c.args.out.now) (told c.write_to.new.out) (told c.put_text.new.out) (replica_lines bases) (before ++ canonical base.body) (10 ∷ []) behind whole
    (Appends-trans (told c.args.out.now) (told l.out) (told c.write_to.new.out) before (canonical base.body) l.invariant.appended c.in_ok-write_to.ensures.ok)
    e c.in_err-put_text.ensures.put)
