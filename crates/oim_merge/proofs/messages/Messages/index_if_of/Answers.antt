use Rattle.oim_merge.proofs.Shared.{◌≡◌, ◌<◌, Some, Ok, length, get_or, sym, ap, subst, ◌∙◌, AreReadings}
use Rattle.oim_merge.proofs.ReadBases.{is_its_text}
use Rattle.oim_merge.proofs.StoredTexts.{kept_is}
use Rattle.oim_merge.proofs.messages.Messages.index_if_of.Goals as goal

pub returns-in-Some-Some-Ok : goal.returns-in-Some-Some-Ok
returns-in-Some-Some-Ok c =
    let base = c.args.base.now in
    let texts = c.args.self.now.texts.items in
    let held = c.requires.held in
    let index = c.index-index.result.now in
    let kept = c.deref.result.now in
    let w = c.in-Some-Some-Ok in
    let within : index < length texts = subst (λ i. i < length texts) (sym c.index-index.ensures) (held.indices c.args.sent_index index c.requires.index) in
    let each = subst (AreReadings base.sheet texts) (sym c.deref.ensures.value) held.kept in
    let found : get_or kept index w.field-0.now ≡ Some (Ok w.read) = sym w.ensures.lookup.1 ∙ w.field-0-is ∙ ap Some w.field-0-0-is in
    is_its_text base.sheet texts index w.read base within held.written
    (kept_is base.sheet texts kept each index within w.field-0.now (Ok w.read) found)
    (c.surely_same_as.ensures c.if-surely_same_as.true)
