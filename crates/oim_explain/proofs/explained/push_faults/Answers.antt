use Rattle.std.proofs.Common.{◌≡◌, ◌<◌, ◌≤◌, [], ◌∷◌, get_or, length, map, ap, subst, sym, ◌∙◌}
use Rattle.std.proofs.Math.ListN.{get_or-map}
use Rattle.std.proofs.lemmas.List.{length-map, take_all}
use Rattle.serde_json.specs.View.{view}
use Rattle.oim_report.specs.Faults.{refusals_of, tree_faults}
use Rattle.oim_report.specs.Identifiers.{tree_identifiers}
use Rattle.oim_explain.specs.Explained.{printed_fault}
use Rattle.oim_explain.specs.code.Added.{AddsLines}
use Rattle.oim_explain.proofs.Appended.{adds_none, next_line}
use Rattle.oim_explain.proofs.Explaining.{refusal_in, refusals_in}
use Rattle.oim_explain.proofs.explained.push_faults.Goals as goal

pub loop-index-init : goal.loop-index-init
loop-index-init c = adds_none c.args.lines.now

pub loop-index-preserved : goal.loop-index-preserved
loop-index-preserved c =
    let is = tree_identifiers (view c.args.tree) in
    let all = tree_faults c.args.names.now.sheet.now (view c.args.tree) in
    let found = c.as_slice-found.result.now in
    let i = c.loop-index.index in
    let mid = c.loop-index.lines in
    let new = c.push_fault.new.lines in
    let fault = c.index-found-index.result in
    let same : map refusal_in found ≡ all = sym (refusals_in found) ∙ ap refusals_of c.as_slice-found.ensures ∙ c.in_ok-faults.ensures.refusals in
    let within : i < length all = subst (λ n. i < n) (sym (length-map found refusal_in) ∙ ap length same) c.loop-index-test.true in
    let here : refusal_in fault ≡ get_or all i (refusal_in fault) =
    ap refusal_in c.index-found-index.is ∙ sym (get_or-map refusal_in found i fault) ∙ ap (λ faults. get_or faults i (refusal_in fault)) same in
    let line = subst (λ ids. AddsLines mid new (printed_fault ids (refusal_in fault) ∷ [])) c.in_ok-identifiers_of.ensures c.in_ok-push_fault.ensures in
    next_line c.args.lines.now mid new (printed_fault is) all i (refusal_in fault) within c.loop-index.invariant
    (subst (λ refusal. AddsLines mid new (printed_fault is refusal ∷ [])) here line)

pub returns : goal.returns
returns c =
    let all = tree_faults c.args.names.now.sheet.now (view c.args.tree) in
    let found = c.as_slice-found.result.now in
    let same : map refusal_in found ≡ all = sym (refusals_in found) ∙ ap refusals_of c.as_slice-found.ensures ∙ c.in_ok-faults.ensures.refusals in
    let few : length all ≤ c.loop-index.index = subst (λ n. n ≤ c.loop-index.index) (sym (length-map found refusal_in) ∙ ap length same) c.loop-index-test.false in
    subst (λ faults. AddsLines c.args.lines.now c.loop-index.lines (map (printed_fault (tree_identifiers (view c.args.tree))) faults))
    (take_all c.loop-index.index all few) c.loop-index.invariant
