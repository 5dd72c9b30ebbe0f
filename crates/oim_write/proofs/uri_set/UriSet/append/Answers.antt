use Rattle.oim_write.proofs.Shared.{◌≡◌, List, ℕ, [], ◌∷◌, ◌++◌, sym, ap, subst, ◌∙◌, text_cmp, set_of, set_of_set, text_cmp_exact, text_cmp_total, QName, Gains}
use Rattle.oim_write.proofs.UriSets.{gains_one}
use Rattle.oim_write.proofs.uri_set.UriSet.append.Goals as goal

-- pushing the URI of a name adds exactly this URI to the set
gained : (us new old : List (List ℕ)) (n : QName) (uri pushed : List ℕ) → set_of text_cmp us ≡ old → new ≡ us ++ pushed ∷ [] → pushed ≡ uri → uri ≡ n.uri → Gains old (n ∷ []) (set_of text_cmp new)
gained us new old n uri pushed view put made named =
    let is = put ∙ ap (λ u. us ++ u ∷ []) (made ∙ named) in
    subst (λ vs. Gains vs (n ∷ []) (set_of text_cmp new)) view (subst (λ vs. Gains (set_of text_cmp us) (n ∷ []) (set_of text_cmp vs)) (sym is) (gains_one us n))

pub returns-then-index-self : goal.returns-then-index-self
returns-then-index-self c =
    subst (Gains c.args.self.now (c.args.name.now ∷ [])) (sym (ap (set_of text_cmp) c.put_in_order.ensures ∙ set_of_set text_cmp_total text_cmp_exact c.push.new.self.items))
    (gained c.self.inside.uris.items c.push.new.self.items c.args.self.now c.args.name.now c.uri.result.now c.in_ok-new.field-0 c.self.view_is c.in_ok-push.ensures.items c.in_ok-new.ensures c.uri.ensures)

pub returns-else-index-self : goal.returns-else-index-self
returns-else-index-self c =
    gained c.self.inside.uris.items c.push.new.self.items c.args.self.now c.args.name.now c.uri.result.now c.in_ok-new.field-0 c.self.view_is c.in_ok-push.ensures.items c.in_ok-new.ensures c.uri.ensures
