use Rattle.std.proofs.Common.{append_assoc}
use Rattle.oim_explain.proofs.lines.PrintedFault.text_line.Goals as goal

pub returns : goal.returns
returns c =
    rw (c.in_ok-push_str.ensures.bytes, c.in_ok-push_refusal.ensures, c.in_ok-push_identifier.ensures, c.in_ok-line.ensures.ok) (simp append_assoc)
