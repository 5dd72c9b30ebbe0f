use Rattle.std.proofs.Common.{◌≡◌, ◌≤◌, ◌<◌, ◌+◌, ℕ, suc, List, [], ◌∷◌, ◌++◌, take, drop, length, get_or, set, sym, ap, ◌∙◌, append_assoc, drop-cons, arith}
use Rattle.std.proofs.Math.Seq.{set-append_seam}
use Rattle.std.proofs.lemmas.List.{length-map, length-take-le, map_more}
use Rattle.oim_report.specs.declared.refusal.Refusal.{Refusal}
use Rattle.xbrlmerge_c.specs.Refusals.{refused_report_of, refused_reports}
use Rattle.xbrlmerge_c.specs.declared.output.RefusedReport.{RefusedReport}
use Rattle.xbrlmerge_c.proofs.output.put_refusals.Goals as goal

-- one loop step adds the record of the next refusal to the records at the start of the buffer
refusals_more : (returned : List (ℕ × Refusal)) (old refusals : List RefusedReport) (i : ℕ) (d : ℕ × Refusal) (made : RefusedReport) →
    length returned ≤ length old → i < length returned → made ≡ refused_report_of (get_or returned i d) → refusals ≡ refused_reports (take i returned) ++ drop i old →
    set refusals i made ≡ refused_reports (take (i + 1) returned) ++ drop (i + 1) old
refusals_more returned old refusals i d made room there is before =
    let front = refused_reports (take i returned) in
    let within : i < length old = omega arith in
    let some : i ≤ length returned = omega arith in
    let long : length front ≡ i = length-map (take i returned) refused_report_of ∙ length-take-le i returned some in
    let next : suc i ≡ i + 1 = omega arith in
    ap (λ rs. set rs i made) (before ∙ ap (λ ys. front ++ ys) (drop-cons old i made within))
    ∙ ap (λ n. set (front ++ get_or old i made ∷ drop (suc i) old) n made) (sym long)
    ∙ set-append_seam front (get_or old i made) (drop (suc i) old) made
    ∙ sym (append_assoc front (made ∷ []) (drop (suc i) old))
    ∙ ap (λ rs. rs ++ drop (suc i) old) (ap (λ m. front ++ m ∷ []) is ∙ sym (map_more refused_report_of returned i d there))
    ∙ ap (λ n. refused_reports (take (i + 1) returned) ++ drop n old) next

pub loop-index-preserved : goal.loop-index-preserved
loop-index-preserved c =
    refusals_more c.args.found.now c.args.refusals.now c.loop-index.refusals c.loop-index.index _ c.new.result c.requires c.loop-index-test.true c.new.ensures c.loop-index.invariant
