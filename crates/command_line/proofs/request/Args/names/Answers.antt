use Rattle.std.proofs.Common.{◌≡◌, ◌≢◌, ◌++◌, ◌∷◌, ◌∙◌, [], length, ap, map, subst, sym, true}
use Rattle.std.specs.Prelude.{IfSome}
use Rattle.std.specs.Borrow.{Bor}
use Rattle.std.specs.List.{filter}
use Rattle.std.specs.Str.{IsUtf8}
use Rattle.std.proofs.lemmas.Bool.{eqb-false, eqb-true}
use Rattle.std.proofs.lemmas.List.{length-map, map-append, nil_from_length}
use Rattle.std.specs.Option.{option_map}
use Rattle.std.proofs.lemmas.Iterator.Consumers.{YieldsList-at, YieldsList-end}
use Rattle.std.proofs.lemmas.Iterator.Splits.{YieldsList-from_str_split}
use Rattle.clap.specs.Words.{Text}
use Rattle.oim_report.specs.Json.{without_mark}
use Rattle.command_line.specs.ReportNames.{has_text, name_end, without_return}
use Rattle.command_line.specs.Words.{asked_of, name_texts}
use Rattle.command_line.proofs.ListedNames.{ascii_end, name_added, named, names_read}
use Rattle.command_line.proofs.request.Args.names.Goals as goal

pub loop-name-preserved : goal.loop-name-preserved
loop-name-preserved c =
    let is_null = c.args.self.now.is_null in
    let words = name_texts c.args.self.now.reports.items in
    let name = c.without_return-name.result in
    let piece = c.in-Some-name.name in
    let is : has_text name.now ≡ true = named name.now (sym c.is_empty.ensures ∙ c.if-is_empty.false) in
    ap name_texts c.in_ok-push.ensures.items ∙ map-append (λ (n : Bor Text). n.now) c.loop-name.all.items (name ∷ [])
    ∙ name_added is_null words (name_texts c.loop-name.all.items) (name_texts c.loop-name.yielded) piece.now name.now c.without_return-name.ensures is c.loop-name.invariant
    ∙ sym (ap (λ pieces. words ++ filter has_text (map (without_return is_null) pieces)) (map-append (λ (n : Bor Text). n.now) c.loop-name.yielded (piece ∷ [])))

pub returns-then-is_empty-2-clause-err : goal.returns-then-is_empty-2-clause-err
returns-then-is_empty-2-clause-err c =
    let split = c.split-name-items.ensures in
    let end = c.args.self.now.is_null in
    let road = YieldsList-at c.into_iter-name-iterator.ensures.into_iter_gives (YieldsList-from_str_split (name_end end) c.in-Ok.text.now (ascii_end end) split.text split.has_more (split.pattern ∙ c.end.ensures)) in
    let pieces = YieldsList-end road c.loop-name.yielded _ c.loop-name.yielded_by _ _ c.in-None.is c.next.ensures.steps in
    let none : c.loop-name.all.items ≡ [] =
    sym c.as_slice-2.ensures.value ∙ nil_from_length _ (eqb-true _ 0 (sym c.is_empty-2.ensures ∙ c.if-is_empty-2.true)) in (
      ap (option_map (λ (n : Bor Text). n.now)) c.in-Some.is,
      sym (names_read (asked_of c.args.self.now) c.in-Some.list.now _ _ c.in-Ok.text.now c.args.bytes.now (ap (option_map (λ (n : Bor Text). n.now)) c.in-Some.is) (c.in-Ok.ensures.cases.0 ∙ c.after_mark.ensures) pieces.0 c.loop-name.invariant) ∙ ap name_texts none,
    )

pub returns-clause-ok : goal.returns-clause-ok
returns-clause-ok c =
    let split = c.split-name-items.ensures in
    let end = c.args.self.now.is_null in
    let road = YieldsList-at c.into_iter-name-iterator.ensures.into_iter_gives (YieldsList-from_str_split (name_end end) c.in-Ok.text.now (ascii_end end) split.text split.has_more (split.pattern ∙ c.end.ensures)) in
    let pieces = YieldsList-end road c.loop-name.yielded _ c.loop-name.yielded_by _ _ c.in-None.is c.next.ensures.steps in
    let all = c.loop-name.all.items in (
      names_read (asked_of c.args.self.now) c.in-Some.list.now _ _ c.in-Ok.text.now c.args.bytes.now (ap (option_map (λ (n : Bor Text). n.now)) c.in-Some.is) (c.in-Ok.ensures.cases.0 ∙ c.after_mark.ensures) pieces.0 c.loop-name.invariant,
      subst (λ list. IfSome list (λ file. IsUtf8 (without_mark c.args.bytes.now) × (name_texts all ≢ []))) (sym (ap (option_map (λ (n : Bor Text). n.now)) c.in-Some.is))
          (subst IsUtf8 c.after_mark.ensures c.in-Ok.ensures.cases.1, λ is. eqb-false _ 0 (sym c.is_empty-2.ensures ∙ c.if-is_empty-2.false) (ap length c.as_slice-2.ensures.value ∙ sym (length-map all (λ (n : Bor Text). n.now)) ∙ ap length is)),
    )
