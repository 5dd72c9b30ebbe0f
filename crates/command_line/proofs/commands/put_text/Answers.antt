use Rattle.std.proofs.Common.{subst}
use Rattle.command_line.specs.Endings.{Prints, PutsText}
use Rattle.command_line.proofs.commands.put_text.Goals as goal

pub returns-clause-put : goal.returns-clause-put
returns-clause-put g c = subst (λ text. Prints (PutsText text) (g.S.Sink.told c.args.out.now) (g.S.Sink.told c.put_bytes.new.out) c.put_bytes.result) c.as_bytes.ensures.value c.put_bytes.ensures.put
