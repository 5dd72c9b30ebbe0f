use Rattle.std.proofs.Common.{[], Ok, ap, length, refl, sym, subst, ◌∙◌}
use Rattle.std.proofs.KnownBytes.{Appends-nil}
use Rattle.command_line.specs.Endings.{Prints, PutsText}
use Rattle.command_line.specs.Explained.{counts_line}
use Rattle.command_line.proofs.commands.explain.put_counts.Goals as goal

pub returns-in_ok-line-in-Text : goal.returns-in_ok-line-in-Text
returns-in_ok-line-in-Text g c =
    subst (λ text. Prints (PutsText text) (g.S.Sink.told c.args.out.now) (g.S.Sink.told c.put_text.new.out) c.put_text.result)
    (c.as_str.ensures.value ∙ c.in_ok-line-in-Text.ensures.ok ∙ ap (λ format. counts_line format (length c.args.inputs.now.names.now) c.args.counts.faulty c.args.counts.faults) (sym c.in-Text.is))
    c.put_text.ensures.put

pub returns-in-Json : goal.returns-in-Json
returns-in-Json g c =
    let told = g.S.Sink.told c.args.out.now in
    subst (λ format. Prints (PutsText (counts_line format (length c.args.inputs.now.names.now) c.args.counts.faulty c.args.counts.faults)) told told (Ok tt)) (sym c.in-Json.is)
    (record { part = []; ends = refl; appended = Appends-nil told })
