use Rattle.oim_merge.proofs.Shared.{◌≡◌, None, replicate, sym, ap, subst, length, ◌∙◌, AreReadings}
use Rattle.oim_merge.proofs.StoredTexts.{none_is_kept}
use Rattle.oim_merge.proofs.messages.Messages.drop_readings.Goals as goal

pub returns-clause-held : goal.returns-clause-held
returns-clause-held c sheet held =
    let texts = c.args.self.now.texts.items in
    let long : c.len.result ≡ length texts = c.len.ensures ∙ c.args.self.now.texts.ok.0 in
    let emptied : c.in_ok-self.field-0.items ≡ replicate (length texts) None = c.in_ok-self.ensures ∙ ap (λ n. replicate n None) long in
    record {
      indices = held.indices;
      kept = subst (AreReadings sheet texts) (sym emptied) (none_is_kept sheet texts);
      written = held.written;
    }
