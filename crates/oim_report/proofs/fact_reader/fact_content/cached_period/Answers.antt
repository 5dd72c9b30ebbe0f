use Rattle.oim_report.proofs.Shared.{option_copied, sym, ap, ◌∙◌, result_ok, said_period, seen, TextSaysPeriod}
use Rattle.oim_report.proofs.TextCacheAdds.{still}
use Rattle.oim_report.proofs.fact_reader.fact_content.cached_period.Goals as goal

pub returns-in-Some-clause-said : goal.returns-in-Some-clause-said
returns-in-Some-clause-said c =
    let known = c.requires.known.each c.in-Text.text.now c.in-Some.known.now (sym c.find.ensures ∙ ap option_copied c.in-Some.is) in
    ap (λ m. said_period (seen m)) c.in-Text.is ∙ ap result_ok known

pub returns-in_ok-add-in-Text-clause-known : goal.returns-in_ok-add-in-Text-clause-known
returns-in_ok-add-in-Text-clause-known c =
    let says = sym c.read_period-read.ensures ∙ c.in-Ok.is in
    still TextSaysPeriod c.args.periods.now c.add.new.self c.in-Text.text.now c.in-Ok.period c.requires.known says c.add.ensures

pub returns-in_err-add-in-Text-clause-known : goal.returns-in_err-add-in-Text-clause-known
returns-in_err-add-in-Text-clause-known c =
    let says = sym c.read_period-read.ensures ∙ c.in-Ok.is in
    still TextSaysPeriod c.args.periods.now c.add.new.self c.in-Text.text.now c.in-Ok.period c.requires.known says c.add.ensures
