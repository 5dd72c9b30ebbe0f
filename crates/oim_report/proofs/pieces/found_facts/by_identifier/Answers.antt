use Rattle.oim_report.proofs.Shared.{rules, ◌≡◌, ◌++◌, ◌∷◌, [], ℕ, ◌≤◌, length, map, string_bytes, Some, option_map, take, slice_get, refl, sym, ap, ◌∙◌, take_all, string_cmp, insert_entry, Fact}
use Rattle.oim_report.proofs.FoundInOrder.{put_one_more, all_kept, taken_one, longer, all_ranked, keys_more}
use Rattle.oim_report.proofs.pieces.found_facts.by_identifier.Goals as goal

pub loop-index-init : goal.loop-index-init
loop-index-init c = ([], [], refl, sym c.into_iter-facts.ensures.rest, sym c.into_iter-ranks.ensures.rest, refl, c.new-found.ensures.empty)

pub loop-index-preserved : goal.loop-index-preserved
loop-index-preserved c =
    let l = c.loop-index in
    let keys = l.invariant.0 in
    let taken = l.invariant.1 in
    let s = c.in_ok-identifier.identifier in
    let v : Fact × ℕ = (c.in-Some-next.fact, c.in-Some-next-2.rank) in
    let key : string_bytes s ≡ c.in-Some.identifier.now = search rules in
    let here : slice_get c.args.read.identifiers l.index ≡ Some c.in-Some.identifier.now = sym c.get.ensures ∙ ap (option_map (λ t. t.now)) c.in-Some.is in
    let entries = c.in_ok-put.ensures ∙ ap (λ es. insert_entry string_cmp es s v) l.invariant.6 ∙ sym (put_one_more keys taken s v [] l.invariant.5) in (
      keys ++ s ∷ [],
      taken ++ v ∷ [],
      keys_more c.args.read.identifiers l.index keys s c.in-Some.identifier.now here key l.invariant.2,
      taken_one (λ w. w.0) c.args.read.facts.items c.next.new.self.rest.items l.facts.rest.items taken v l.invariant.3 c.in-Some-next.ensures.items,
      taken_one (λ w. w.1) c.args.read.ranks.items c.next-in-loop-index.new.self.rest.items l.ranks.rest.items taken v l.invariant.4 c.in-Some-next-2.ensures.items,
      longer taken keys v s l.invariant.5,
      entries,
    )

pub returns-clause-found : goal.returns-clause-found
returns-clause-found c =
    let l = c.loop-index in
    let ids = c.args.read.identifiers in
    let within : length ids ≤ l.index = search rules in
    let all : take l.index ids ≡ ids = take_all l.index ids within in
    let same : ids ≡ map string_bytes l.invariant.0 = sym all ∙ l.invariant.2 in
    λ sheet bs ms h.
    all_kept (λ v. v.0) sheet bs ms ids l.invariant.0 c.args.read.facts.items l.facts.rest.items l.invariant.1 l.found.entries h same l.invariant.3 l.invariant.5 l.invariant.6

pub returns-clause-ranks : goal.returns-clause-ranks
returns-clause-ranks c =
    let l = c.loop-index in
    λ sheet h. all_ranked sheet.concepts l.invariant.0 c.args.read.facts.items l.facts.rest.items c.args.read.ranks.items l.ranks.rest.items l.invariant.1 l.found.entries h l.invariant.3 l.invariant.4 l.invariant.6
