use Rattle.oim_report.proofs.Shared.{refl, ◌∙◌, subst, no_members, member, IsOneMore, Scope}
use Rattle.oim_report.proofs.FactsSoFar.{both_more, has_one_more, none_more}
use Rattle.oim_report.proofs.TapedFacts.{none_reading, one_read, all_found}
use Rattle.oim_report.proofs.pieces.facts_in_pieces.read_members.Goals as goal

pub loop-key-init : goal.loop-key-init
loop-key-init c = ((λ vs here. none_reading vs c.args.members _ here ((λ e. Prim.cc), none_more c.args.reader.now.sheet c.args.reader.now.aliases c.args.facts.now)), refl)

pub loop-key-preserved : goal.loop-key-preserved
loop-key-preserved c =
    let s = c.args.reader.now in
    let l = c.loop-key in
    let key = c.in-Some.key.now in (
      (λ vs here. one_read vs _ _ _ _ (key, c.in-Some.object) c.in-Some.ensures.value
          (λ v begins.
          let more = subst (λ (r : Scope). IsOneMore r.sheet r.aliases key v l.facts c.add.new.self) l.invariant.1 (c.in_ok-add.ensures.adds v begins) in
          record { found = more.found; reads = more.reads; flat = more.flat; is = λ ms is. ((λ e. has_one_more ms key more.found), both_more s.sheet s.aliases ms (member key more.found no_members) c.args.facts.now l.facts c.add.new.self is.1 more.is) })
          (l.invariant.0 vs here)),
      c.add.ensures.same ∙ l.invariant.1,
    )

pub returns-clause-more : goal.returns-clause-more
returns-clause-more c = λ vs here.
    let all = all_found vs _ c.next.new.self _ c.in_default.ensures.value (c.loop-key.invariant.0 vs here) in
    (all.0, all.1, all.2.0 c.if-is_empty.false, all.2.1)
