use Rattle.oim_write.proofs.Shared.{◌≡◌, ◌<◌, length, get_or, sym, ap, subst, ◌∙◌, Contains, OnTrue}
use Rattle.oim_write.proofs.UriSets.{told_there}
use Rattle.oim_write.proofs.uri_set.UriSet.is_at.Goals as goal

pub returns-in-Some : goal.returns-in-Some
returns-in-Some c =
    let us = c.self.inside.uris.items in
    let index = c.args.index in
    let uri = c.args.uri.now in
    let there : get_or us index uri ≡ c.as_str.result.now = ap (λ vs. get_or vs index uri) (sym c.deref.ensures.value) ∙ sym (c.in-Some.ensures.lookup.3.1 uri) ∙ sym c.as_str.ensures.bytes in
    let within : index < length us = subst (λ vs. index < length vs) c.deref.ensures.value c.in-Some.ensures.lookup.3.0 in
    subst (λ vs. OnTrue c.eq.result (Contains vs uri)) c.self.view_is (told_there us index c.as_str.result.now uri c.eq.result c.eq.ensures within there)
