use Rattle.oim_merge.proofs.Shared.{◌≡◌, [], Some, get_or, sym, ap, subst, ◌∙◌, rules, IfOk, result_err, IfOk-weaker, on_ok_weaker, outcome, IsReadingOf, read_as, with_read}
use Rattle.oim_merge.proofs.StoredTexts.{kept_is, kept_there, read_default, refusal_is, sheet_is, with_read_is}
use Rattle.oim_merge.proofs.Zips.{zip_set}
use Rattle.oim_merge.proofs.readings.take_at.Goals as goal

pub bounds-kept-index : goal.bounds-kept-index
bounds-kept-index c = kept_there c.args.sheet.now c.args.texts.now c.args.kept.now c.requires.kept c.args.index c.requires.index

pub offset_bounds-kept-index : goal.offset_bounds-kept-index
offset_bounds-kept-index c =
    let within = kept_there c.args.sheet.now c.args.texts.now c.args.kept.now c.requires.kept c.args.index c.requires.index in
    search rules

pub bounds-kept-index-2 : goal.bounds-kept-index-2
bounds-kept-index-2 c = kept_there c.args.sheet.now c.args.texts.now c.args.kept.now c.requires.kept c.args.index c.requires.index

pub offset_bounds-kept-index-2 : goal.offset_bounds-kept-index-2
offset_bounds-kept-index-2 c =
    let within = kept_there c.args.sheet.now c.args.texts.now c.args.kept.now c.requires.kept c.args.index c.requires.index in
    search rules

pub take_read-requires : goal.take_read-requires
take_read-requires c =
    let sheet = c.args.sheet.now in
    let said = outcome sheet (get_or c.args.texts.now c.args.index []) in
    let is = kept_is sheet c.args.texts.now c.args.kept.now c.requires.kept c.args.index c.requires.index c.index-kept-index.result c.in-Some.read c.in-Some.is in
    subst (λ read. IfOk read (λ other. other.sheet ≡ c.args.base.now.sheet)) (sym is)
    (subst (λ s. IfOk (read_as sheet said) (λ other. other.sheet ≡ s)) (sym c.requires.sheet) (sheet_is sheet said))

pub returns-in-Some-clause-base : goal.returns-in-Some-clause-base
returns-in-Some-clause-base c =
    let sheet = c.args.sheet.now in
    let base = c.args.base.now in
    let said = outcome sheet (get_or c.args.texts.now c.args.index []) in
    let is = kept_is sheet c.args.texts.now c.args.kept.now c.requires.kept c.args.index c.requires.index c.index-kept-index.result c.in-Some.read c.in-Some.is in
    on_ok_weaker c.take_read.result (λ new. new ∙ ap (λ read. with_read read base) is ∙ with_read_is sheet said base) c.take_read.ensures.base

pub returns-in-Some-clause-refusal : goal.returns-in-Some-clause-refusal
returns-in-Some-clause-refusal c =
    let sheet = c.args.sheet.now in
    let said = outcome sheet (get_or c.args.texts.now c.args.index []) in
    let is = kept_is sheet c.args.texts.now c.args.kept.now c.requires.kept c.args.index c.requires.index c.index-kept-index.result c.in-Some.read c.in-Some.is in
    IfOk-weaker c.take_read.result (λ told. told ≡ result_err c.in-Some.read) (λ told. told ≡ result_err said) (λ told same. same ∙ ap result_err is ∙ refusal_is sheet said) c.take_read.ensures.refusal

pub returns-clause-kept : goal.returns-clause-kept
returns-clause-kept c =
    let sheet = c.args.sheet.now in
    let texts = c.args.texts.now in
    let bytes = c.as_bytes.ensures ∙ read_default texts c.args.index c.index-texts-index.result [] c.requires.index c.index-texts-index.is in
    zip_set (IsReadingOf sheet) texts c.args.kept.now c.requires.kept c.args.index [] (Some c.in_ok-read.read) (c.in_ok-read.ensures ∙ ap (λ b. read_as sheet (outcome sheet b)) bytes)
