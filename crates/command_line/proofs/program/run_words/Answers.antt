use Rattle.std.proofs.Common.{◌≡◌, ◌∙◌, Err, false, ap, inl, map, refl, subst, sym}
use Rattle.std.specs.Prelude.{IfSome}
use Rattle.std.specs.Io.KnownBytes.{Appends}
use Rattle.std.proofs.lemmas.Bool.{eqb-true}
use Rattle.std.proofs.lemmas.List.{nil_from_length}
use Rattle.command_line.specs.Printed.{lines_of}
use Rattle.command_line.specs.Words.{asked_of}
use Rattle.command_line.proofs.Steps.{step_failed}
use Rattle.command_line.proofs.program.run_words.Goals as goal

pub returns-in-Ok : goal.returns-in-Ok
returns-in-Ok g c =
    let contents = g.E.Write.contents in
    let start = c.new-console.ensures in
    let run = c.run_args.ensures in
    let a = asked_of c.in-Ok.args in
    record {
      part = run.part;
      done = run.done;
      ends = inl (a, c.in-Ok.ensures.ok, run.ends);
      status_is = run.status_is;
      lines = λ plain.
          let same = c.tell_awaited.ensures (λ is. plain.1 (ap (map g.W.AsStr.text) (nil_from_length c.args.words.now (eqb-true _ 0 (sym c.is_empty.ensures ∙ is))))) in
          let terminal : c.tell_awaited.new.self.is_terminal ≡ false = ap (λ k. k.is_terminal) same ∙ start.1 ∙ plain.2.0 in
          let verbose : c.tell_awaited.new.self.is_verbose ≡ false = ap (λ k. k.is_verbose) same ∙ start.2 ∙ plain.2.0 in
          let not_asked : c.in-Ok.args.is_verbose ≡ false = plain.0 a c.in-Ok.ensures.ok in
          subst (λ old. IfSome (lines_of run.done) (Appends old (contents c.run_args.result.console.err))) (ap (λ k. contents k.err) same ∙ ap contents start.0)
          (run.lines (terminal, rw (verbose, not_asked) refl, plain.2.2));
    }

pub returns-in-Err : goal.returns-in-Err
returns-in-Err g c =
    let contents = g.E.Write.contents in
    let start = c.new-console.ensures in
    step_failed (g.D.Disk.empty c.args.disk.now) (g.D.Disk.free c.args.disk.now) c.in-Err.error c.in-Err.ensures.err (ap g.O.Write.contents c.ended.ensures.out) c.ended.ensures.status
    (λ plain.
    let same = c.tell_awaited.ensures (λ is. plain.1 (ap (map g.W.AsStr.text) (nil_from_length c.args.words.now (eqb-true _ 0 (sym c.is_empty.ensures ∙ is))))) in
    subst (λ old. IfSome (lines_of (Err c.in-Err.error)) (Appends old (contents c.ended.result.console.err))) (ap (λ k. contents k.err) same ∙ ap contents start.0)
    (c.ended.ensures.lines (ap (λ k. k.is_terminal) same ∙ start.1 ∙ plain.2.0, ap (λ k. k.is_verbose) same ∙ start.2 ∙ plain.2.0, plain.2.2)))
