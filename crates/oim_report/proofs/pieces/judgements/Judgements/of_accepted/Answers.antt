use Rattle.oim_report.proofs.Shared.{rules, ◌≡◌, ◌<◌, ◌≤◌, ◌++◌, ◌∷◌, [], Some, None, length, map, option_map, slice_get, string_bytes, string_cmp, subst, refl, sym, ap, ◌∙◌, take_all, insert_entry, no_members, put_all, AreFound, AreJudged}
use Rattle.oim_report.specs.declared.pieces.judgement.Judgement.TheVariants.{Accepted}
use Rattle.oim_report.proofs.FoundInOrder.{keys_more}
use Rattle.oim_report.proofs.Judged.{accepted_one, accepted_put}
use Rattle.oim_report.proofs.TextSpans.{some_within}
use Rattle.oim_report.proofs.pieces.judgements.Judgements.of_accepted.Goals.{in-Some+in_ok-put, in_default}
use Rattle.oim_report.proofs.pieces.judgements.Judgements.of_accepted.Goals as goal

pub loop-index-init : goal.loop-index-init
loop-index-init c = ([], refl, c.new-all.ensures)

pub loop-index-preserved : goal.loop-index-preserved
loop-index-preserved c =
    let l = c.loop-index in
    let ids = c.args.facts.now.identifiers in
    let keys = l.invariant.0 in
    let within : l.index < length ids = search rules in
    elim c.match-get.branch [
      | in-Some+in_ok-put w ↦
          let put = w.in_ok-put.ensures in
          let here : slice_get ids l.index ≡ Some w.in-Some.identifier.now = sym c.get.ensures ∙ ap (option_map (λ t. t.now)) w.in-Some.is in
          let stored : c.match-get.all.by_identifier.entries ≡ insert_entry string_cmp l.all.by_identifier.entries put.0 Accepted = search rules in
          (keys ++ put.0 ∷ [], keys_more ids l.index keys put.0 w.in-Some.identifier.now here put.1 l.invariant.1, stored ∙ ap (λ es. insert_entry string_cmp es put.0 Accepted) l.invariant.2 ∙ sym (accepted_one keys put.0 []))
      | in_default w ↦
          let none : slice_get ids l.index ≡ None = search rules in
          absurd (some_within ids l.index within none)
    ]

pub returns : goal.returns
returns c = λ sheet bs ms found.
    let l = c.loop-index in
    let facts = c.args.facts.now in
    let ids = facts.identifiers in
    let keys = l.invariant.0 in
    let within : length ids ≤ l.index = search rules in
    let same : ids ≡ map string_bytes keys = sym (take_all l.index ids within) ∙ l.invariant.1 in
    subst (AreJudged sheet bs (put_all ms no_members)) (sym l.invariant.2) (accepted_put sheet bs ms no_members keys facts.facts.items [] (subst (λ is. AreFound sheet bs ms is facts.facts.items) same found) tt)
