use Rattle.std.proofs.Common.{◌∙◌, ◌≡◌, List, Option, None, Some, [], ap, codes, map, sym}
use Rattle.std.specs.Option.{option_map, unwrap_or}
use Rattle.std.specs.Borrow.{Bor}
use Rattle.std.proofs.lemmas.Result.{IfOk-weaker}
use Rattle.clap.specs.Walk.{Text, all_of, rows_of}
use Rattle.clap.specs.Matches.{found_of}
use Rattle.clap.proofs.WalkLemmas.{raw_values-rows}
use Rattle.command_line.proofs.matches.names_in.Goals as goal

abbrev texts_of : Option (Bor (List (Bor Text))) → Option (List Text)
texts_of = option_map (λ s. map (λ v. v.now) s.now)

pub returns-in-Some : goal.returns-in-Some
returns-in-Some c =
    let found = found_of c.args.matches.now in
    let all : all_of (codes "REPORT") (rows_of found) ≡ texts_of (Some c.in-Some.reports) =
    sym (raw_values-rows found (codes "REPORT")) ∙ sym c.get_strs.ensures ∙ ap texts_of c.in-Some.is in
    IfOk-weaker c.from_slice.result _ _ (λ v h. ap (map (λ s. s.now)) h ∙ sym (ap (λ o. unwrap_or o []) all)) c.from_slice.ensures.items

pub returns-in-None : goal.returns-in-None
returns-in-None c =
    let found = found_of c.args.matches.now in
    let all : all_of (codes "REPORT") (rows_of found) ≡ texts_of None =
    sym (raw_values-rows found (codes "REPORT")) ∙ sym c.get_strs.ensures ∙ ap texts_of c.in-None.is in
    ap (map (λ s. s.now)) c.new.ensures.items ∙ sym (ap (λ o. unwrap_or o []) all)
