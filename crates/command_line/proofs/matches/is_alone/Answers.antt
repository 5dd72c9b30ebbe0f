use Rattle.std.proofs.Common.{◌∙◌, ◌≡◌, ◌==◌, ◌&&◌, not, List, Option, None, Some, [], ap, codes, length, map, ne_eqb, sym}
use Rattle.std.specs.Option.{option_map, unwrap_or}
use Rattle.std.specs.Borrow.{Bor}
use Rattle.clap.specs.Walk.{Text, all_of, rows_of}
use Rattle.clap.specs.Matches.{found_of}
use Rattle.clap.proofs.WalkLemmas.{raw_values-rows}
use Rattle.command_line.specs.Words.{is_alone}
use Rattle.command_line.proofs.RowReads.{alone_is, is_batch}
use Rattle.command_line.proofs.matches.is_alone.Goals as goal

abbrev texts_of : Option (Bor (List (Bor Text))) → Option (List Text)
texts_of = option_map (λ s. map (λ v. v.now) s.now)

pub returns-then-reports-eq1 : goal.returns-then-reports-eq1
returns-then-reports-eq1 c =
    let rows = rows_of (found_of c.args.matches.now) in
    let all : all_of (codes "REPORT") rows ≡ texts_of (Some c.in-Some.reports) =
    sym (raw_values-rows (found_of c.args.matches.now) (codes "REPORT")) ∙ sym c.get_strs.ensures ∙ ap texts_of c.in-Some.is in
    ap not c.is_batch.ensures ∙ sym (ap (λ n. (n == 1) && not (is_batch rows)) c.if-reports-eq1.true) ∙ alone_is rows c.in-Some.reports.now ∙ sym (ap (λ o. is_alone rows (unwrap_or o [])) all)

pub returns-else-reports-eq1 : goal.returns-else-reports-eq1
returns-else-reports-eq1 c =
    let rows = rows_of (found_of c.args.matches.now) in
    let all : all_of (codes "REPORT") rows ≡ texts_of (Some c.in-Some.reports) =
    sym (raw_values-rows (found_of c.args.matches.now) (codes "REPORT")) ∙ sym c.get_strs.ensures ∙ ap texts_of c.in-Some.is in
    let other = ne_eqb (length c.in-Some.reports.now) 1 c.if-reports-eq1.false in
    other ∙ sym (ap (λ b. b && not (is_batch rows)) other) ∙ alone_is rows c.in-Some.reports.now ∙ sym (ap (λ o. is_alone rows (unwrap_or o [])) all)

pub returns-in-None : goal.returns-in-None
returns-in-None c =
    let found = found_of c.args.matches.now in
    let all : all_of (codes "REPORT") (rows_of found) ≡ texts_of None =
    sym (raw_values-rows found (codes "REPORT")) ∙ sym c.get_strs.ensures ∙ ap texts_of c.in-None.is in
    sym (ap (λ o. is_alone (rows_of found) (unwrap_or o [])) all)
