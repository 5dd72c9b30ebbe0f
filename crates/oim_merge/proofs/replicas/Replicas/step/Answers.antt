use Rattle.oim_merge.proofs.Shared.{◌≡◌, ◌-◌, [], length, set, refl, sym, ap, subst, ◌∙◌, arith, AllZip, Contents, AreHeld, IsCurrent, sent_texts, world_in, wire, happens, Receive, AllZip-long, get_or-set_same, with_items_is, AreReadings}
use Rattle.oim_merge.proofs.StoredTexts.{current_after_change, current_after_receive, current_after_send, current_at, kept_long, names_good, receiver_within, receives_text, sender_within, sends_text, set_itself}
use Rattle.oim_merge.proofs.replicas.Replicas.step.Goals as goal

pub returns-in_ok-push-in-Take-clause-kept : goal.returns-in_ok-push-in-Take-clause-kept
returns-in_ok-push-in-Take-clause-kept c =
    let old = c.args.self.now in
    let sheet = c.args.sheet.now in
    let reports = c.args.reports.now in
    let index = c.in-Take.i - 1 in
    let more = c.take_at.new.kept in
    let each = c.in_ok-refusal-in-Take.ensures.kept in
    let long : length more ≡ old.reports.len = kept_long sheet reports old.reports.items more c.requires.kept.taken each ∙ sym old.reports.ok.0 in
    record {
      taken = subst (AreReadings sheet reports) (sym (with_items_is old.reports more long)) each;
      held = c.requires.kept.held;
      current = current_after_change old.messages.texts.items old.bases.items (set old.bases.items index c.take_at.new.base) old.current.items c.forget.new.current.items c.requires.kept.current
          index c.take_at.new.base refl c.forget.ensures;
    }

pub returns-in_default-clause-kept : goal.returns-in_default-clause-kept
returns-in_default-clause-kept c =
    let old = c.args.self.now in
    let sheet = c.args.sheet.now in
    let reports = c.args.reports.now in
    let index = c.in-Take.i - 1 in
    let more = c.take_at.new.kept in
    let each = c.in_ok-refusal-in-Take.ensures.kept in
    let long : length more ≡ old.reports.len = kept_long sheet reports old.reports.items more c.requires.kept.taken each ∙ sym old.reports.ok.0 in
    record {
      taken = subst (AreReadings sheet reports) (sym (with_items_is old.reports more long)) each;
      held = c.requires.kept.held;
      current = current_after_change old.messages.texts.items old.bases.items (set old.bases.items index c.take_at.new.base) old.current.items c.forget.new.current.items c.requires.kept.current
          index c.take_at.new.base refl c.forget.ensures;
    }

pub index_mut-current-requires : goal.index_mut-current-requires
index_mut-current-requires c =
    let old = c.args.self.now in
    let within = sender_within (length old.bases.items) (length c.args.reports.now) (length (sent_texts old.messages)) c.args.event c.in-Send.i c.in-Send.is c.requires.there in
    let long : length old.current.items ≡ length old.bases.items = AllZip-long (IsCurrent old.messages.texts.items) old.bases.items old.current.items c.requires.kept.current in
    omega (arith, within, long, old.current.ok.0)

pub send-requires-clause-current : goal.send-requires-clause-current
send-requires-clause-current c =
    let old = c.args.self.now in
    let within = sender_within (length old.bases.items) (length c.args.reports.now) (length (sent_texts old.messages)) c.args.event c.in-Send.i c.in-Send.is c.requires.there in
    current_at old.messages.texts.items old.bases.items old.current.items c.requires.kept.current (c.in-Send.i - 1) c.index_mut.result.now c.index_mut-current.result.now within c.index_mut.ensures.value c.index_mut-current.ensures.value

pub returns-in_ok-send-in-Send-clause-world : goal.returns-in_ok-send-in-Send-clause-world
returns-in_ok-send-in-Send-clause-world c =
    let old = c.args.self.now in
    let sheet = c.args.sheet.now in
    let reports = c.args.reports.now in
    let sent = c.in_ok-send-in-Send.ensures in
    let within = sender_within (length old.bases.items) (length reports) (length (sent_texts old.messages)) c.args.event c.in-Send.i c.in-Send.is c.requires.there in
    sends_text sheet reports old.bases.items (sent_texts old.messages) c.in-Send.i c.index_mut.result.now c.send.new.base (sent_texts c.send.new.self) within c.index_mut.ensures.value sent.base sent.sent
    ∙ ap (happens (wire sheet [] reports) (world_in old)) (sym c.in-Send.is)

pub returns-in_ok-send-in-Send-clause-kept : goal.returns-in_ok-send-in-Send-clause-kept
returns-in_ok-send-in-Send-clause-kept c =
    let old = c.args.self.now in
    let base = c.index_mut.result.now in
    let index = c.in-Send.i - 1 in
    let read = c.index_mut.ensures.value in
    let sent = c.in_ok-send-in-Send.ensures in
    let texts = c.send.new.self.texts.items in
    let within = sender_within (length old.bases.items) (length c.args.reports.now) (length (sent_texts old.messages)) c.args.event c.in-Send.i c.in-Send.is c.requires.there in
    let of_sheet : base.sheet ≡ c.args.sheet.now = subst (λ (b : Contents). b.sheet ≡ c.args.sheet.now) (sym read) (c.requires.sheets index base within) in
    record {
      taken = c.requires.kept.taken;
      held = subst (λ s. AreHeld s c.send.new.self) of_sheet sent.held;
      current = subst (λ bs. AllZip (IsCurrent texts) bs (set old.current.items index c.send.new.current)) (sym (set_itself old.bases.items index base c.send.new.base within read sent.base))
          (current_after_send old.messages.texts.items texts old.bases.items old.current.items c.requires.kept.current sent.stay index base c.send.new.current read sent.current);
    }

pub returns-in_ok-join_at-in-Join-clause-kept : goal.returns-in_ok-join_at-in-Join-clause-kept
returns-in_ok-join_at-in-Join-clause-kept c =
    let old = c.args.self.now in
    record {
      taken = c.requires.kept.taken;
      held = c.requires.kept.held;
      current = current_after_change old.messages.texts.items old.bases.items c.join_at.new.bases.items old.current.items c.forget-in-Join.new.current.items c.requires.kept.current
          (c.in-Join.i - 1) _ c.in_ok-join_at-in-Join.ensures c.forget-in-Join.ensures;
    }

pub returns-in_ok-give-in-Receive-clause-world : goal.returns-in_ok-give-in-Receive-clause-world
returns-in_ok-give-in-Receive-clause-world c =
    let old = c.args.self.now in
    let sheet = c.args.sheet.now in
    let reports = c.args.reports.now in
    let i = c.in-Receive.i in
    let k = c.in-Receive.k in
    let given = c.give.new.base in
    let inside = names_good (length old.bases.items) (length reports) (length (sent_texts old.messages)) c.args.event (Receive i k) c.in-Receive.is c.requires.there in
    receives_text sheet reports old.bases.items (sent_texts old.messages) i k c.index_mut-base-in-Receive.result.now given (set old.bases.items (i - 1) given) (sent_texts c.give.new.self)
    inside c.index_mut-base-in-Receive.ensures.value c.in_ok-give-in-Receive.ensures.base refl c.in_ok-give-in-Receive.ensures.sent
    ∙ ap (happens (wire sheet [] reports) (world_in old)) (sym c.in-Receive.is)

pub returns-in_ok-give-in-Receive-clause-kept : goal.returns-in_ok-give-in-Receive-clause-kept
returns-in_ok-give-in-Receive-clause-kept c =
    let old = c.args.self.now in
    let bases = old.bases.items in
    let index = c.in-Receive.i - 1 in
    let base = c.give.new.base in
    let texts = c.give.new.self.texts.items in
    let known = c.index_if_of-known.result in
    let within = receiver_within (length bases) (length c.args.reports.now) (length (sent_texts old.messages)) c.args.event c.in-Receive.i c.in-Receive.k c.in-Receive.is c.requires.there in
    let there : c.index-base.result.now ≡ base = c.index-base.ensures ∙ get_or-set_same bases index base c.index-base.result.now within in
    let same : old.messages.texts.items ≡ texts = λ t. ((sym c.in_ok-give-in-Receive.ensures.texts) t).items in
    let before = subst (λ ts. AllZip (IsCurrent ts) bases old.current.items) same c.requires.kept.current in
    record {
      taken = c.requires.kept.taken;
      held = c.in_ok-give-in-Receive.ensures.held;
      current = current_after_receive texts bases (set bases index base) old.current.items c.set_current.new.current.items before index base known
          (subst (λ b. IsCurrent texts b known) there c.index_if_of-known.ensures) refl c.set_current.ensures;
    }

pub returns-in-Restart-clause-kept : goal.returns-in-Restart-clause-kept
returns-in-Restart-clause-kept c =
    let old = c.args.self.now in
    let index = c.in-Restart.i - 1 in
    record {
      taken = c.requires.kept.taken;
      held = c.requires.kept.held;
      current = current_after_change old.messages.texts.items old.bases.items (set old.bases.items index c.new.result) old.current.items c.forget-in-Restart.new.current.items c.requires.kept.current
          index c.new.result refl c.forget-in-Restart.ensures;
    }
