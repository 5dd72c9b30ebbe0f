use Rattle.std.proofs.Common.{◌≡◌, ◌⊎◌, ◌∙◌, inl, inr, map, subst}
use Rattle.std.specs.Prelude.{◌≢◌}
use Rattle.clap.specs.Words.{kind_of}
use Rattle.clap.specs.declared.error.kind.ErrorKind.TheVariants as kind
use Rattle.command_line.proofs.Parsed.{other_fault}
use Rattle.command_line.proofs.words.read_words.Goals as goal

pub returns-in-DisplayHelp-clause-ok : goal.returns-in-DisplayHelp-clause-ok
returns-in-DisplayHelp-clause-ok g c =
    let is = subst (λ k. (k ≡ kind.DisplayHelp) ⊎ (k ≡ kind.DisplayVersion)) c.kind.ensures c.in-DisplayHelp.is in
    inr (inl (c.in-Err.ensures.help is, c.alone-in-DisplayHelp.ensures))

pub returns : goal.returns
returns g c =
    let memory : kind_of c.in-Err.error ≢ kind.OutOfMemory = λ is. c.in_default.not-OutOfMemory (c.kind.ensures ∙ is) in
    let help : kind_of c.in-Err.error ≢ kind.DisplayHelp = λ is. c.in_default.not-DisplayHelp (c.kind.ensures ∙ is) in
    let version : kind_of c.in-Err.error ≢ kind.DisplayVersion = λ is. c.in_default.not-DisplayVersion (c.kind.ensures ∙ is) in
    record {
      ok = tt;
      err = (c.from.ensures, inr (other_fault (map g.W.AsStr.text c.args.words.now) (kind_of c.in-Err.error) memory help version c.in-Err.ensures.err));
    }
