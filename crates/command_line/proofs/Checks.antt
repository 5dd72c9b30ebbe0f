-- The results of reports that are checked one after another.
use Rattle.std.proofs.Common.{◌≡◌, ◌+◌, ◌<◌, ℕ, suc, List, [], ◌∷◌, ◌++◌, Option, Result, Ok, Err, Bor, take, get_or, length, append-nil, append_assoc, refl, sym, ap, ◌∙◌, arith}
use Rattle.std.proofs.lemmas.List.{length-map, length-take}
use Rattle.std.proofs.lemmas.Slice.Zip.{AllZip-long, all_zipped_more}
use Rattle.oim_report.specs.Outcome.{outcome}
use Rattle.oim_report.specs.Sheet.{Sheet}
use Rattle.oim_report.specs.declared.refusal.Refusal.{Refusal}
use Rattle.oim_merge.specs.Added.{Added}
use Rattle.oim_merge.specs.Reports.{refusal_in, refused}
use Rattle.oim_merge.specs.declared.checked.Checked.{Checked}
use Rattle.oim_merge.proofs.Reports.{added_more}
use Rattle.command_line.specs.Checks.{AddsResult, Checks, IsResult, result_text, result_written, results_header, results_text}
use Rattle.command_line.specs.Outputs.{NumberedRefusals}
use Rattle.command_line.specs.Why.{WithRead}
use Rattle.command_line.specs.Words.{name_texts}
use Rattle.command_line.specs.declared.print_format.PrintFormat.{PrintFormat}
use Rattle.command_line.proofs.Readings.{no_name, read_more}

-- ---- the reports so far

results_more : (written : ℕ → Checked → List ℕ) (n : ℕ) (results : List (Result Checked Refusal)) (result : Result Checked Refusal)
    → results_text written n results ++ result_text written (length results + n) result ≡ results_text written n (results ++ result ∷ [])
results_more written n [] (Ok checked) = let same : 0 + n ≡ n = omega arith in ap (λ k. written k checked) same ∙ sym (append-nil (written n checked))
results_more written n [] (Err refusal) = refl
results_more written n (Ok checked ∷ rs) result =
    let next : length (Ok checked ∷ rs) + n ≡ length rs + suc n = omega arith in
    ap (λ k. (written n checked ++ results_text written (suc n) rs) ++ result_text written k result) next
    ∙ append_assoc (written n checked) (results_text written (suc n) rs) (result_text written (length rs + suc n) result)
    ∙ ap (λ t. written n checked ++ t) (results_more written (suc n) rs result)
results_more written n (Err refusal ∷ rs) result =
    let next : length (Err refusal ∷ rs) + n ≡ length rs + suc n = omega arith in
    ap (λ k. results_text written (suc n) rs ++ result_text written k result) next ∙ results_more written (suc n) rs result

pub none_checked : (gives : List ℕ → List ℕ → Type 0) (format : Option PrintFormat) (names : List (List ℕ)) (sheet : Sheet) (text : List ℕ) (refusals : NumberedRefusals)
    → text ≡ results_header format → refusals ≡ [] → WithRead gives [] (λ reports. Checks format names sheet reports text refusals)
none_checked gives format names sheet text refusals made none = ([], tt, record { results = []; are = tt; text_is = made ∙ sym (append-nil (results_header format)); refusals_are = none })

module _ (gives : List ℕ → List ℕ → Type 0) (names : List (Bor (List ℕ))) (i : ℕ) (bytes : List ℕ) (within : i < length names) (gave : gives (get_or names i no_name).now bytes)
    (format : Option PrintFormat) (sheet : Sheet) where
  abbrev AreChecked : ℕ → List ℕ → NumberedRefusals → Type 0
  AreChecked k text refusals = WithRead gives (name_texts (take k names)) (λ reports. Checks format (name_texts names) sheet reports text refusals)

  pub checks_more : (n : ℕ) (text new : List ℕ) (refusals returned : NumberedRefusals) → n ≡ i + 1 → AddsResult (result_written format (name_texts names)) sheet n bytes text new refusals returned
      → AreChecked i text refusals → AreChecked (i + 1) new returned
  checks_more n text new refusals returned number adds before =
      let reports = before.0 in
      let checks = before.2 in
      let written = result_written format (name_texts names) in
      let header = results_header format in
      let first = results_text written 1 checks.results in
      let read = AllZip-long gives (name_texts (take i names)) reports before.1 in
      let named = length-map (take i names) (λ (name : Bor (List ℕ)). name.now) in
      let results = AllZip-long (IsResult sheet) reports checks.results checks.are in
      let of_report : n ≡ length reports + 1 = omega (arith, number, read, named, length-take i names, within) in
      let of_result : n ≡ length checks.results + 1 = omega (arith, of_report, results) in (
        reports ++ bytes ∷ [],
        read_more gives names i bytes within gave reports before.1,
        record {
          results = checks.results ++ adds.result ∷ [];
          are = all_zipped_more (IsResult sheet) reports checks.results bytes adds.result checks.are adds.is;
          text_is = adds.text_is ∙ ap (λ t. t ++ result_text written n adds.result) checks.text_is ∙ append_assoc header first (result_text written n adds.result)
              ∙ ap (λ t. header ++ t) (ap (λ k. first ++ result_text written k adds.result) of_result ∙ results_more written 1 checks.results adds.result);
          refusals_are = adds.refusals_are ∙ ap (λ rs. rs ++ refusal_in n (outcome sheet bytes)) checks.refusals_are
              ∙ ap (λ k. refused sheet reports ++ refusal_in k (outcome sheet bytes)) of_report ∙ ap (λ (a : Added). a.refusals) (added_more sheet reports bytes);
        },
      )
