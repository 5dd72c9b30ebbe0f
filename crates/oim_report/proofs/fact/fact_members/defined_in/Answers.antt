use Rattle.oim_report.proofs.Shared.{◌≡◌, ◌++◌, ◌∷◌, true, false, cond, string_bytes, append-nil, subst, sym, ap, ◌∙◌, ◌&&◌, IsUtf8, is_utf8, view, members_view, given, has_colon, defined_in, seen_defined}
use Rattle.oim_report.proofs.MembersPut.{push_defined}
use Rattle.oim_report.proofs.fact.fact_members.defined_in.Goals as goal

pub loop-key-preserved-in-Continue-1 : goal.loop-key-preserved-in-Continue-1
loop-key-preserved-in-Continue-1 c =
    let l = c.loop-key in
    let key = string_bytes c.in-Some.key.now in
    let ms = members_view c.next.new.self in
    let here = c.as_str-key.ensures.value in
    let colon : has_colon key ≡ true = ap has_colon (sym here) ∙ sym c.has_colon.ensures ∙ c.if-has_colon.true in
    ap (λ ds. seen_defined ds ++ defined_in ms) c.in_ok-push.ensures.items
    ∙ push_defined l.defined.items (c.as_str-key.result, c.of_value.result) key (view c.in-Some.value.now) ms here c.of_value.ensures colon (subst IsUtf8 here c.as_str-key.utf8)
    ∙ ap (λ es. seen_defined l.defined.items ++ defined_in (members_view es)) (sym c.in-Some.ensures.steps)
    ∙ l.invariant

pub loop-key-preserved : goal.loop-key-preserved
loop-key-preserved c =
    let l = c.loop-key in
    let key = string_bytes c.in-Some.key.now in
    let ds = defined_in (members_view c.next.new.self) in
    let plain : has_colon key ≡ false = ap has_colon (sym c.as_str-key.ensures.value) ∙ sym c.has_colon.ensures ∙ c.if-has_colon.false in
    ap (λ b. seen_defined l.defined.items ++ cond (b && is_utf8 key) ((key, given (view c.in-Some.value.now)) ∷ ds) ds) (sym plain)
    ∙ ap (λ es. seen_defined l.defined.items ++ defined_in (members_view es)) (sym c.in-Some.ensures.steps)
    ∙ l.invariant

pub returns : goal.returns
returns c =
    let done = seen_defined c.loop-key.defined.items in
    sym (append-nil done) ∙ ap (λ es. done ++ defined_in (members_view es)) (sym c.in-None.ensures.steps.0) ∙ c.loop-key.invariant
