-- Reports that are read and added one after another.
use Rattle.std.proofs.Common.{◌≡◌, ◌+◌, ◌<◌, ℕ, List, [], ◌∷◌, ◌++◌, take, get_or, length, Bor, subst, sym, ap, ◌∙◌}
use Rattle.std.specs.List.{AllZip}
use Rattle.std.proofs.lemmas.List.{map-append, take_more}
use Rattle.std.proofs.lemmas.Slice.Zip.{all_zipped_more}
use Rattle.oim_report.specs.Sheet.{Sheet}
use Rattle.oim_merge.specs.Added.{Added, added, with_report}
use Rattle.oim_merge.specs.Traced.{Traced, traced, with_traced}
use Rattle.oim_merge.proofs.Reports.{added_more}
use Rattle.oim_merge.proofs.Traces.{mentions_push}
use Rattle.command_line.specs.Why.{WithRead}
use Rattle.command_line.specs.Words.{name_texts}

-- what an index past the names would give
abbrev pub no_name : Bor (List ℕ)
no_name = record { ref_ptr = (0, 0); now = [] }

traced_more : (sheet : Sheet) (reports : List (List ℕ)) (bytes : List ℕ) → with_traced (traced sheet reports) bytes ≡ traced sheet (reports ++ bytes ∷ [])
traced_more sheet reports bytes = λ i. record { added = added_more sheet reports bytes i; mentions = mentions_push 1 sheet reports bytes i }

module _ (gives : List ℕ → List ℕ → Type 0) (names : List (Bor (List ℕ))) (i : ℕ) (bytes : List ℕ) (within : i < length names) (gave : gives (get_or names i no_name).now bytes) where
  pub read_more : (reports : List (List ℕ)) → AllZip gives (name_texts (take i names)) reports → AllZip gives (name_texts (take (i + 1) names)) (reports ++ bytes ∷ [])
  read_more reports are =
      subst (λ ns. AllZip gives ns (reports ++ bytes ∷ []))
      (sym (ap name_texts (take_more names i no_name within) ∙ map-append (λ (n : Bor (List ℕ)). n.now) (take i names) (get_or names i no_name ∷ [])))
      (all_zipped_more gives (name_texts (take i names)) reports (get_or names i no_name).now bytes are gave)

  pub added_step : (sheet : Sheet) (a new : Added) → new ≡ with_report a bytes → WithRead gives (name_texts (take i names)) (λ reports. a ≡ added sheet reports) → WithRead gives (name_texts (take (i + 1) names)) (λ reports. new ≡ added sheet reports)
  added_step sheet a new stepped before =
      (before.0 ++ bytes ∷ [], read_more before.0 before.1, stepped ∙ ap (λ b. with_report b bytes) before.2 ∙ added_more sheet before.0 bytes)

  pub traced_step : (sheet : Sheet) (t new : Traced) → new ≡ with_traced t bytes → WithRead gives (name_texts (take i names)) (λ reports. t ≡ traced sheet reports) → WithRead gives (name_texts (take (i + 1) names)) (λ reports. new ≡ traced sheet reports)
  traced_step sheet t new stepped before =
      (before.0 ++ bytes ∷ [], read_more before.0 before.1, stepped ∙ ap (λ b. with_traced b bytes) before.2 ∙ traced_more sheet before.0 bytes)
