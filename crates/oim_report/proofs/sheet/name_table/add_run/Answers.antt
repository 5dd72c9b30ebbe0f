use Rattle.oim_report.proofs.Shared.{◌≡◌, ◌++◌, ℕ, List, [], ◌∷◌, Vec, slice_get, option_copied, string_bytes, refl, sym, ap, subst, ◌∙◌, Option, Some, None, UpdatesBy, get_by_text, slice_cmp, option_map_or, unwrap_or, nat_cmp, string_cmp, same_Some, QName, SharesUri}
use Rattle.oim_report.proofs.NameLists.{are_added, run_is_added}
use Rattle.oim_report.proofs.sheet.name_table.add_run.Goals as goal

first_shares : {K : Type 0} (u : List ℕ) (es : List (QName × K)) (e : QName × K) → SharesUri u es → slice_get es 0 ≡ Some e → e.0.uri ≡ u
first_shares u [] e h at = absurd (Prim.cc)
first_shares {K} u (x ∷ es) e h at = ap (λ (y : QName × K). y.0.uri) (sym (same_Some x e at)) ∙ h.0

items_of : {K Y : Type 0} (o : Option (Vec (QName × K) Y)) (none : Vec (QName × K) Y) → none.items ≡ [] → (unwrap_or o none).items ≡ option_map_or (λ l. l.items) o []
items_of None none h = h
items_of (Some l) none h = refl

pub returns-clause-added : goal.returns-clause-added
returns-clause-added g c =
    let m = c.args.lists.now in
    let run = c.args.run.items in
    let k = c.in_ok-uri.uri in
    let first : slice_get run 0 ≡ Some c.in-Some.first.now = ap (λ xs. slice_get xs 0) (sym c.as_slice.ensures.value) ∙ sym c.first.ensures.value ∙ ap option_copied c.in-Some.is in
    let here : string_bytes k ≡ c.requires.shared.0 = c.in_ok-uri.ensures.ok ∙ c.uri.ensures ∙ first_shares c.requires.shared.0 run c.in-Some.first.now c.requires.shared.1 first in
    let found = c.remove.ensures.value ∙ ap (get_by_text m) c.as_str.ensures.value in
    let all = c.in_ok-append.ensures.items ∙ ap (λ xs. xs ++ run) (ap (λ v. v.items) c.unwrap_or-list.ensures ∙ items_of c.remove.result c.new.result c.new.ensures.items ∙ ap (λ o. option_map_or (λ l. l.items) o []) found) in
    run_is_added m c.remove.new.self c.insert.new.self run k c.append.new.self _ c.requires.lists
    (subst (λ v. SharesUri v run) (sym here) c.requires.shared.1)
    (subst (λ t. UpdatesBy string_cmp (λ s. slice_cmp nat_cmp t (string_bytes s)) m c.remove.new.self None) c.as_str.ensures.value c.remove.ensures.updates)
    c.remove.ensures.entries
    all
    c.in_ok-insert.ensures.updates
    c.in_ok-insert.ensures.entries

pub returns-clause-lists : goal.returns-clause-lists
returns-clause-lists g c =
    let m = c.args.lists.now in
    let run = c.args.run.items in
    let k = c.in_ok-uri.uri in
    let first : slice_get run 0 ≡ Some c.in-Some.first.now = ap (λ xs. slice_get xs 0) (sym c.as_slice.ensures.value) ∙ sym c.first.ensures.value ∙ ap option_copied c.in-Some.is in
    let here : string_bytes k ≡ c.requires.shared.0 = c.in_ok-uri.ensures.ok ∙ c.uri.ensures ∙ first_shares c.requires.shared.0 run c.in-Some.first.now c.requires.shared.1 first in
    let found = c.remove.ensures.value ∙ ap (get_by_text m) c.as_str.ensures.value in
    let all = c.in_ok-append.ensures.items ∙ ap (λ xs. xs ++ run) (ap (λ v. v.items) c.unwrap_or-list.ensures ∙ items_of c.remove.result c.new.result c.new.ensures.items ∙ ap (λ o. option_map_or (λ l. l.items) o []) found) in
    are_added m c.remove.new.self c.insert.new.self run k c.append.new.self _ c.requires.lists
    (subst (λ v. SharesUri v run) (sym here) c.requires.shared.1)
    (subst (λ t. UpdatesBy string_cmp (λ s. slice_cmp nat_cmp t (string_bytes s)) m c.remove.new.self None) c.as_str.ensures.value c.remove.ensures.updates)
    c.remove.ensures.entries
    all
    c.in_ok-insert.ensures.updates
    c.in_ok-insert.ensures.entries
    c.insert.ensures.ordered
