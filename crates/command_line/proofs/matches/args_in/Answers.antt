use Rattle.std.proofs.Common.{◌≡◌, ◌∙◌, ◌||◌, Bool, None, Some, ap, ap₂, if◌then◌else◌, sym}
use Rattle.std.specs.Option.{option_map}
use Rattle.clap.specs.Words.{found_of, rows_of}
use Rattle.command_line.specs.declared.request.Args.{Args}
use Rattle.command_line.specs.Words.{asked_of, task_asked, task_of, with_options}
use Rattle.command_line.proofs.matches.args_in.Goals as goal

pub returns : goal.returns
returns c =
    let rows = rows_of (found_of c.args.matches.now) in
    let args : Args = record {
      request = c.in-Some.request;
      reports = c.in_ok-reports.reports;
      list = c.text_in.result;
      is_null = c.flag_in.result;
      output = c.output_in.result;
      most = c.number_in.result;
      is_quiet = c.flag_in-2.result;
      is_verbose = c.flag_in-3.result;
    } in
    let asked = task_asked c.args.name.now rows in
    let same : asked_of args ≡ with_options rows (task_of c.in-Some.request) = λ i. record {
      task = task_of c.in-Some.request;
      names = c.in_ok-reports.ensures i;
      list = c.text_in.ensures i;
      is_null = c.flag_in.ensures i;
      output = c.output_in.ensures i;
      most = c.number_in.ensures i;
      is_quiet = c.flag_in-2.ensures i;
      is_verbose = c.flag_in-3.ensures i;
    } in
    ap Some same
    ∙ ap (option_map (with_options rows)) (ap (option_map task_of) (sym c.in-Some.is) ∙ c.request_in.ensures)
    ∙ ap₂ (λ (a b : Bool). if a || b then None else option_map (with_options rows) asked) (sym c.if-lacks.false ∙ c.lacks.ensures) (sym c.if-lacks-2.false ∙ c.lacks-else-lacks.ensures)
