use Rattle.oim_write.proofs.Shared.{◌≡◌, ◌-◌, length, get_or, sym, ap, ◌∙◌, arith, same_bytes}
use Rattle.oim_write.proofs.Measures.{share_uri}
use Rattle.oim_write.proofs.uri_set.sharing_uri.Goals as goal

pub returns-then-eq : goal.returns-then-eq
returns-then-eq c =
    let names = c.args.names.now in
    let last = c.index-names-last.result in
    let end : c.in_ok-last.last ≡ length names - 1 = omega arith in
    share_uri names c.requires c.index-names-0.result last (omega arith) c.index-names-0.is (c.index-names-last.is ∙ ap (λ k. get_or names k last) end)
    (sym c.uri.ensures ∙ same_bytes _ _ (sym c.eq.ensures ∙ c.if-eq.true) ∙ c.uri-2.ensures)
