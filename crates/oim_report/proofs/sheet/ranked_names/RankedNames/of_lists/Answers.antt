use Rattle.oim_report.proofs.Shared.{◌≡◌, ◌++◌, String, Global, Vec, Some, length, string_bytes, sym, ap, subst, ◌∙◌, arith, Updates, string_cmp, QName, name_cmp}
use Rattle.std.specs.FinMap as map
use Rattle.oim_report.specs.code.NameLists.{names_in}
use Rattle.oim_report.proofs.NameLists.{AreSoFar, all_found, begun, so_far}
use Rattle.oim_report.proofs.sheet.ranked_names.RankedNames.of_lists.Goals as goal

pub loop-uri-init : goal.loop-uri-init
loop-uri-init g c =
    begun c.into_iter-uri-iterator.result c.args.lists.entries c.new-names.result.items c.new-spans.result c.into_iter-uri-iterator.ensures.into_iter_gives.0 c.new-names.ensures.items c.new-spans.ensures.empty c.requires.ordered c.requires.each

pub loop-uri-preserved : goal.loop-uri-preserved
loop-uri-preserved g c =
    let l = c.loop-uri in
    let e : String Global × Vec (QName × g.row.K.Denot) Global = (c.in-Some.uri, c.in-Some.list) in
    let rest = c.next.new.self in
    let s = subst (λ es. AreSoFar c.into_iter-uri-iterator.result es l.names.items l.spans) c.in-Some.ensures.steps l.invariant in
    let ys = c.put_in_order.new.names.items in
    let all : c.append.new.self.items ≡ l.names.items ++ ys = c.in_ok-append.ensures.items in
    let first : c.len-first.result ≡ length l.names.items = omega arith in
    let long : c.len.result ≡ length c.append.new.self.items = omega arith in
    let ends : (c.len-first.result, c.len.result) ≡ (length l.names.items, length (l.names.items ++ ys)) = λ k. (first k, (long ∙ ap length all) k) in
    subst (λ xs. AreSoFar c.into_iter-uri-iterator.result rest xs c.insert.new.self) (sym all)
    (so_far c.into_iter-uri-iterator.result rest e l.names.items ys l.spans c.insert.new.self s (c.in_ok-put_in_order.ensures (string_bytes c.in-Some.uri) s.named.0)
    (subst (λ v. Updates string_cmp l.spans c.insert.new.self c.in-Some.uri (Some v)) ends c.in_ok-insert.ensures.updates))

pub invariant_of-result : goal.invariant_of-result
invariant_of-result g c = let l = c.loop-uri in (l.invariant.rises, l.invariant.spans)

pub returns : goal.returns
returns g c =
    let l = c.loop-uri in
    all_found c.into_iter-uri-iterator.result l.uri-iterator l.names.items l.spans l.invariant c.in-None.ensures.steps.0 ∙ ap (λ es. map.from_entries {R = name_cmp} (names_in es)) c.into_iter-uri-iterator.ensures.into_iter_gives.0
