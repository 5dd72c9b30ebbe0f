use Rattle.std.proofs.Common.{ap}
use Rattle.command_line.specs.Words.{alone, name_texts, task_of}
use Rattle.command_line.proofs.words.alone.Goals as goal

pub returns : goal.returns
returns c = ap (λ names. record (alone (task_of c.args.request)) { names = name_texts names }) c.new.ensures.items
