use Rattle.oim_names.proofs.Shared.{◌≡◌, ◌<◌, length, get_or, sym, ap, subst, ◌∙◌, option_map, Binding, uri_of, uri_at}
use Rattle.std.proofs.lemmas.Option.{slice_get-get_or}
use Rattle.oim_names.proofs.Bytes.{same_bytes}
use Rattle.oim_names.proofs.Lookups.{bound_at}
use Rattle.oim_names.proofs.aliases.Aliases.index_of.Goals as goal

pub returns-in-Some-clause-uri : goal.returns-in-Some-clause-uri
returns-in-Some-clause-uri c =
    let prefix = c.args.prefix.now in
    let bs = c.self.inside.bindings.items in
    let index = c.index_of-index.result in
    let known = c.in-Some.known.now in
    let there : get_or bs index known ≡ known = ap (λ vs. get_or vs index known) (sym c.deref.ensures.value) ∙ sym (c.in-Some.ensures.lookup.3.1 known) in
    let within : index < length bs = subst (λ vs. index < length vs) c.deref.ensures.value c.in-Some.ensures.lookup.3.0 in
    let same = ap (λ b. b.prefix) there ∙ sym c.prefix.ensures ∙ same_bytes c.prefix.result.now prefix (sym c.eq.ensures ∙ c.if-eq.true) in
    ap (λ vs. uri_at vs index) (sym c.self.view_is)
    ∙ ap (option_map (λ (b : Binding). b.uri)) (slice_get-get_or bs index known within)
    ∙ sym (bound_at bs prefix index known c.self.invariant.bindings.distinct within same)
    ∙ ap (λ vs. uri_of vs prefix) c.self.view_is
