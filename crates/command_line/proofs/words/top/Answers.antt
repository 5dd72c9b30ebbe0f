use Rattle.std.proofs.Common.{◌∙◌, ap, true}
use Rattle.std.proofs.lemmas.Result.{IfOk-weaker}
use Rattle.clap.specs.Simple.{App, app_of_fields, on_top}
use Rattle.command_line.specs.Arguments.{top_app}
use Rattle.command_line.proofs.words.top.Goals as goal

pub returns : goal.returns
unfolding top_app
returns c = IfOk-weaker c.bin_name.result _ _
    (λ r h. (
      ap app_of_fields h.0 ∙ ap app_of_fields c.after_help.ensures ∙ ap app_of_fields c.about.ensures ∙ ap app_of_fields c.version.ensures
          ∙ ap (λ (a : App). on_top (λ s. record s { has_version = true }) a) (ap app_of_fields c.no_binary_name.ensures)
          ∙ ap (λ (a : App). on_top (λ s. record s { no_binary_name = true; has_version = true }) a) c.new.ensures.app,
      ap (λ f. f.has_globals) h.0 ∙ ap (λ f. f.has_globals) c.after_help.ensures ∙ ap (λ f. f.has_globals) c.about.ensures ∙ ap (λ f. f.has_globals) c.version.ensures
          ∙ ap (λ f. f.has_globals) c.no_binary_name.ensures ∙ c.new.ensures.local,
    ))
    c.bin_name.ensures
