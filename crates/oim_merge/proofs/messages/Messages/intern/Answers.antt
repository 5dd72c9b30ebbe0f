use Rattle.oim_merge.proofs.Shared.{◌≡◌, [], ◌∷◌, ◌++◌, length, sym, ap, subst, ◌∙◌, All, All-push, Contents, Fits, canonical, AreWithin, IsTextAt, IsWritten, Stay, texts_at, AreReadings}
use Rattle.oim_merge.proofs.StoredTexts.{among_more, kept_new, stands_last, stay_with_more, within_longer}
use Rattle.oim_merge.proofs.messages.Messages.intern.Goals as goal

pub returns-in_ok-push-in-Err-2-clause-index : goal.returns-in_ok-push-in-Err-2-clause-index
returns-in_ok-push-in-Err-2-clause-index c =
    let texts = c.args.self.now.texts.items in
    let text = c.in_ok-text.text in
    let index_is : c.len-index.result ≡ length texts = c.len-index.ensures ∙ c.args.self.now.texts.ok.0 in
    subst (λ ts. IsTextAt ts (canonical c.args.base.now.body) c.len-index.result) (sym c.in_ok-push-in-Err.ensures.items)
    (subst (λ t. IsTextAt (texts ++ text ∷ []) t c.len-index.result) c.in_ok-text.ensures.text
    (subst (IsTextAt (texts ++ text ∷ []) text) (sym index_is) (stands_last texts c.args.self.now.sent.items text)))

pub returns-in_ok-push-in-Err-2-clause-sent : goal.returns-in_ok-push-in-Err-2-clause-sent
returns-in_ok-push-in-Err-2-clause-sent c =
    let sent = c.args.self.now.sent.items in
    ap (λ ts. texts_at ts sent) c.in_ok-push-in-Err.ensures.items ∙ among_more c.args.self.now.texts.items c.in_ok-text.text sent c.requires.held.indices

pub returns-in_ok-push-in-Err-2-clause-held : goal.returns-in_ok-push-in-Err-2-clause-held
returns-in_ok-push-in-Err-2-clause-held c =
    let sheet = c.args.base.now.sheet in
    let texts = c.args.self.now.texts.items in
    let sent = c.args.self.now.sent.items in
    let text = c.in_ok-text.text in
    let longer = c.in_ok-push-in-Err.ensures.items in
    record {
      indices = subst (λ ts. AreWithin ts sent) (sym longer) (within_longer texts sent text c.requires.held.indices);
      kept = subst (λ ts. AreReadings sheet ts c.push-in-Err.new.self.items) (sym longer)
          (subst (AreReadings sheet (texts ++ text ∷ [])) (sym c.in_ok-push-in-Err-2.ensures.items) (kept_new sheet texts c.args.self.now.kept.items text c.requires.held.kept));
      written = subst (λ ts. All (IsWritten sheet) ts) (sym longer)
          (All-push (IsWritten sheet) texts text c.requires.held.written (record { body = c.args.base.now.body; fits = subst (λ (b : Contents). Fits b.sheet b.body) c.in_ok-text.ensures.base c.sheet-sheet.ensures.fits; written = c.in_ok-text.ensures.text }));
    }

pub returns-in_ok-push-in-Err-2-clause-stay : goal.returns-in_ok-push-in-Err-2-clause-stay
returns-in_ok-push-in-Err-2-clause-stay c =
    let texts = c.args.self.now.texts.items in
    subst (Stay texts) (sym c.in_ok-push-in-Err.ensures.items) (stay_with_more texts c.in_ok-text.text)
