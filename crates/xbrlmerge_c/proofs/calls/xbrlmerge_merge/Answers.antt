use Rattle.std.proofs.Common.{ap, subst, ◌∙◌}
use Rattle.std.specs.Option.{unwrap_or}
use Rattle.std.specs.Prelude.{IfErr, IfOk}
use Rattle.xbrlmerge_c.specs.Answers.{StopsBy}
use Rattle.xbrlmerge_c.specs.Calls.{IsLoose, IsSheetRefused, Merges}
use Rattle.xbrlmerge_c.specs.code.Reports.{texts_of}
use Rattle.xbrlmerge_c.proofs.Answered as answered
use Rattle.xbrlmerge_c.proofs.calls.xbrlmerge_merge.Goals as goal

pub returns-clause-done : goal.returns-clause-done
returns-clause-done c = λ level is low.
    let same = ap (λ o. unwrap_or o level) (c.in-Some.ensures ∙ is) in
    let sheet = c.args.sheet.now in
    let reports = texts_of c.new-reports.result in
    let merges = subst (λ l. IfOk c.merged-made.result (λ m. Merges sheet reports l m.text.items m.refusals)) same c.merged-made.ensures.ok in
    rw (← c.new-reports.ensures.bytes, ← c.new-reports.ensures.ends) (answered.hands (Merges sheet reports level) c.merged-made.result _ _ _ merges c.answer.ensures low)

pub returns-clause-loose : goal.returns-clause-loose
returns-clause-loose c = λ level is loose.
    let same = ap (λ o. unwrap_or o level) (c.in-Some.ensures ∙ is) in
    let sheet = c.args.sheet.now in
    let reports = texts_of c.new-reports.result in
    let stops = subst (λ l. IfErr c.merged-made.result (StopsBy (IsLoose sheet reports l) (IsSheetRefused sheet))) same c.merged-made.ensures.err in
    rw (← c.new-reports.ensures.bytes, ← c.new-reports.ensures.ends) (answered.tells_first (IsLoose sheet reports level) (IsSheetRefused sheet) c.merged-made.result _ _ _ stops c.answer.ensures loose)

pub returns-clause-short : goal.returns-clause-short
returns-clause-short c = λ level is short.
    let same = ap (λ o. unwrap_or o level) (c.in-Some.ensures ∙ is) in
    let sheet = c.args.sheet.now in
    let reports = texts_of c.new-reports.result in
    let merges = subst (λ l. IfOk c.merged-made.result (λ m. Merges sheet reports l m.text.items m.refusals)) same c.merged-made.ensures.ok in
    let stops = subst (λ l. IfErr c.merged-made.result (StopsBy (IsLoose sheet reports l) (IsSheetRefused sheet))) same c.merged-made.ensures.err in
    rw (← c.new-reports.ensures.bytes, ← c.new-reports.ensures.ends) (answered.asks (IsLoose sheet reports level) (IsSheetRefused sheet) (Merges sheet reports level) c.merged-made.result _ _ _ merges stops c.answer.ensures short)

pub returns-clause-sheet : goal.returns-clause-sheet
returns-clause-sheet c = λ is.
    let sheet = c.args.sheet.now in
    let reports = texts_of c.new-reports.result in
    answered.rejects (IsLoose sheet reports c.in-Some.level) (IsSheetRefused sheet) c.merged-made.result _ _ _ c.merged-made.ensures.err c.answer.ensures is
