use Rattle.oim_report.proofs.Shared.{◌≡◌, ◌+◌, get_or, inr, Err, Some, sym, ap, ◌∙◌, err_from_is_err_and, false_from_ne_true, repeats, named, said_member, dimension_kind}
use Rattle.oim_report.proofs.MembersSay.{found_more, put_in_order, seen_item, unsaid_again}
use Rattle.oim_report.proofs.fact_reader.FactReader.read_members.Goals as goal

pub loop-key-preserved : goal.loop-key-preserved
loop-key-preserved c =
    let l = c.loop-key in
    let own = c.args.self.now in
    let xs = c.args.defined.now in
    let d = seen_item (get_or xs l.key-index _) in
    let e = c.in_ok-entry.entry in
    let here = l.invariant.same in
    let name : named own.aliases d.0 ≡ Some e.0 = ap (λ s. named s.aliases d.0) (sym here) ∙ c.in_ok-entry.ensures.name in
    let said : said_member own.aliases (dimension_kind own.sheet own.aliases d.0) d.1 ≡ Some e.1 = ap (λ s. said_member s.aliases (dimension_kind s.sheet s.aliases d.0) d.1) (sym here) ∙ c.in_ok-entry.ensures.said in
    record {
      same = c.read_defined.ensures.same ∙ here;
      found = found_more own.sheet own.aliases xs l.found.items c.push_reserved.new.self.items l.key-index _ c.loop-key-test.true e.0 e.1 name said c.push_reserved.ensures.items l.invariant.found;
      count = c.push_reserved.ensures.len ∙ ap (λ n. n + 1) l.invariant.count;
      room = rw c.push_reserved.ensures.capacity l.invariant.room;
    }

pub returns-clause-said : goal.returns-clause-said
returns-clause-said c =
    let l = c.loop-key in
    let own = c.args.self.now in
    let once = false_from_ne_true (repeats l.found.items) (λ again. let bad = c.in_ok-set_members.ensures.refused.1 again in cc) in
    put_in_order own.sheet own.aliases c.args.defined.now l.found.items l.key-index c.loop-key-test.false l.invariant.found c.set_members.new.self.members once c.in_ok-set_members.ensures.members c.in_ok-set_members.ensures.sorted

pub returns-in_err-set_members-clause-errors : goal.returns-in_err-set_members-clause-errors
returns-in_err-set_members-clause-errors c =
    let l = c.loop-key in
    let own = c.args.self.now in
    let again = c.in_err-set_members.ensures.refused.0 (ap Err c.in_err-set_members.ensures.errors) in
    let p = err_from_is_err_and c.from_residual-in_err-set_members.result c.from_residual-in_err-set_members.ensures.1 in rw p.1
    (inr (unsaid_again own.sheet own.aliases c.args.defined.now l.found.items l.key-index c.loop-key-test.false l.invariant.found again))
