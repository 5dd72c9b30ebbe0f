use Rattle.oim_write.proofs.Shared.{◌≡◌, ◌++◌, ◌<◌, Some, OnOk, length, get_or, slice_get, option_map, string_bytes, rules, sym, ap, subst, ◌∙◌, unwrap_or, length-map, slice_get-get_or, slice_get-map, same_bytes, prefix}
use Rattle.oim_write.proofs.prefix_table.PrefixTable.push_prefix.Goals as goal

pub returns-in-Some : goal.returns-in-Some
returns-in-Some c =
    let uri = c.args.uri.now in
    let us = c.self.inside.uris.items in
    let index = c.index_of-index.result in
    let same = same_bytes c.as_str.result.now uri (sym c.eq.ensures ∙ c.if-eq.true) in
    let there : get_or us index uri ≡ uri = ap (λ vs. get_or vs index uri) (sym c.deref.ensures.value) ∙ sym (c.in-Some.ensures.lookup.3.1 uri) ∙ sym c.as_str.ensures.bytes ∙ same in
    let within : index < length us = subst (λ vs. index < length vs) c.deref.ensures.value c.in-Some.ensures.lookup.3.0 in
    let own = c.index.result.now in
    let ps = c.self.inside.prefixes.items in
    let as_many : length us ≡ length ps = sym (length-map us (prefix us)) ∙ ap length (sym c.self.invariant.spelled) ∙ length-map ps string_bytes in
    let kept : slice_get ps index ≡ Some own = slice_get-get_or ps index own (subst (λ n. index < n) as_many within) ∙ ap (λ p. Some p) (sym c.index.ensures) in
    let both : Some (string_bytes own) ≡ Some (prefix us uri)
    = sym (slice_get-map string_bytes ps index ∙ ap (option_map string_bytes) kept)
    ∙ ap (λ ps. slice_get ps index) c.self.invariant.spelled
    ∙ slice_get-map (prefix us) us index ∙ ap (option_map (prefix us)) (slice_get-get_or us index uri within ∙ ap (λ u. Some u) there) in
    let text = c.as_str-in-Some.ensures.value ∙ ap (λ o. unwrap_or o uri) both ∙ ap (λ vs. prefix vs uri) c.self.view_is in
    subst (λ s. OnOk c.push_str.result (string_bytes c.push_str.new.self ≡ string_bytes c.args.text.now ++ s)) text (search rules)
