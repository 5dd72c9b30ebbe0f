use Rattle.oim_merge.proofs.Shared.{[], sym, ap, ◌∙◌, get_or-set_other, Contents, base_of, joined_with}
use Rattle.oim_merge.proofs.StoredTexts.{joins_itself, joins_other, read_default}
use Rattle.oim_merge.proofs.replicas.join_at.Goals as goal

pub returns-then-index-other : goal.returns-then-index-other
returns-then-index-other c = joins_itself _ _ _ c.index.result.now (base_of c.args.sheet.now []) c.if-index-other.true c.requires.index_within c.index.ensures c.sheet-sheet.ensures.fits.rises

pub join-requires : goal.join-requires
join-requires c =
    let bases = c.args.bases.now.items in
    let base = c.index_mut-2.result.now in
    let whole = c.in_ok-whole.ensures ∙ c.replace.ensures.value ∙ c.index_mut.ensures.value in
    let mine = c.index_mut-2.ensures.value ∙ get_or-set_other bases c.args.other c.args.index c.replace.new.dest base c.if-index-other.false in
    ap (λ (b : Contents). b.sheet) whole ∙ c.requires.sheets c.args.other _ c.requires.other_within
    ∙ sym (ap (λ (b : Contents). b.sheet) mine ∙ c.requires.sheets c.args.index base c.requires.index_within)

pub returns : goal.returns
returns c =
    let fresh = base_of c.args.sheet.now [] in
    let whole = c.of.ensures ∙ c.in_ok-whole.ensures ∙ c.replace.ensures.value ∙ read_default _ _ _ fresh c.requires.other_within c.index_mut.ensures.value in
    joins_other _ c.args.index c.args.other c.replace.new.dest c.index_mut-2.result.now c.of.result c.join.new.self fresh c.if-index-other.false c.requires.index_within
    whole c.index_mut-2.ensures.value (c.in_ok-join.ensures ∙ ap (joined_with c.index_mut-2.result.now) (sym c.of.ensures))
