use Rattle.std.proofs.Common.{◌≡◌, [], Some, sym, subst, ◌∙◌}
use Rattle.xbrlmerge_c.specs.Calls.{IsBeyond, IsTextOf, IsWithin}
use Rattle.xbrlmerge_c.specs.code.Reports.{texts_of}
use Rattle.xbrlmerge_c.specs.code.RowCall.{ListsRowCall}
use Rattle.xbrlmerge_c.proofs.Listings.{too_long, too_much}
use Rattle.xbrlmerge_c.proofs.Said.{lists}
use Rattle.xbrlmerge_c.proofs.row_call.listed.Goals as goal

pub returns-then-is_beyond-clause-beyond : goal.returns-then-is_beyond-clause-beyond
returns-then-is_beyond-clause-beyond c = λ is.
    let reports = texts_of c.args.reports.now in
    let before = c.new-sink.result.sink.writer.items in
    let after = c.write-written.new.out.sink.writer.items in
    let none : before ≡ [] = (λ i. (c.new-sink.ensures.sink i).writer.items) ∙ (λ i. (c.new-2.ensures.writer i).items) ∙ c.new.ensures.items in
    let text : c.into_inner-text.result.items ≡ after = (λ i. (c.into_inner-text.ensures i).items) ∙ (λ i. (c.into_inner.ensures i).writer.items) in
    let beyond = subst (IsBeyond c.args.bound) (c.deref.ensures.value ∙ text) (c.is_beyond.ensures.beyond c.if-is_beyond.true) in
    too_much c.args.sheet.now reports c.in-Ok.sheet c.in-Ok.ensures.ok c.args.bound c.args.call before after none beyond c.write-written.result c.write-written.ensures

pub returns-in-Some-Ok-clause-ok : goal.returns-in-Some-Ok-clause-ok
returns-in-Some-Ok-clause-ok c =
    let reports = texts_of c.args.reports.now in
    let before = c.new-sink.result.sink.writer.items in
    let after = c.write-written.new.out.sink.writer.items in
    let none : before ≡ [] = (λ i. (c.new-sink.ensures.sink i).writer.items) ∙ (λ i. (c.new-2.ensures.writer i).items) ∙ c.new.ensures.items in
    let text : c.into_inner-text.result.items ≡ after = (λ i. (c.into_inner-text.ensures i).items) ∙ (λ i. (c.into_inner.ensures i).writer.items) in
    let writes = subst (ListsRowCall c.args.call c.in-Ok.sheet reports (Some before) (Some after)) c.in-Some-Ok.field-0-is c.in-Some-Ok.ensures in
    let call = lists c.in-Ok.sheet reports before after c.in-Some-Ok.refusals none c.args.call writes in
    record {
      listed = c.in-Ok.sheet;
      read = c.in-Ok.ensures.ok;
      is = subst (IsTextOf c.args.call c.in-Ok.sheet reports) (sym text) call.0;
      within = subst (IsWithin c.args.bound) c.deref.ensures.value (c.is_beyond.ensures.within c.if-is_beyond.false);
      refusals_are = call.1;
    }

pub returns-clause-beyond : goal.returns-clause-beyond
returns-clause-beyond c = λ is.
    too_long c.args.sheet.now (texts_of c.args.reports.now) c.in-Ok.sheet c.in-Ok.ensures.ok c.args.bound c.args.call c.in-None.ensures
