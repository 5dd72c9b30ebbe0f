-- Two runs of `explain` over the same files, where no key repeats, list the same faults.
use Rattle.std.proofs.Common.{◌≡◌, ◌+◌, ◌∙◌, ℕ, suc, List, [], ◌∷◌, ◌++◌, Option, Some, None, Ok, Bor, length, get_or, refl, sym, ap, subst, append_assoc, append-nil, arith, string_bytes}
use Rattle.std.specs.List.{fold}
use Rattle.std.specs.Prelude.{if◌then◌else◌, nat_lt, replicate}
use Rattle.clap.specs.Words.{Text}
use Rattle.oim_report.specs.Sheet.{Sheet, sheet_outcome}
use Rattle.oim_explain.specs.Explained.{Explains, RepeatsKeys, counted, printed_faults}
use Rattle.oim_explain.specs.Lines.{AreLines, IsLine, Printed, repeated_member}
use Rattle.oim_explain.specs.declared.lines.Explained.{Explained}
use Rattle.oim_explain.specs.declared.lines.Format.{Format}
use Rattle.oim_explain.specs.declared.lines.Format.TheVariants as format
use Rattle.oim_explain.specs.declared.lines.Input.{Input}
use Rattle.command_line.specs.Explained.{AreExplained, ExplainGives, Report, all_faults, counts_line, faulty_reports, names_of, reports_text}
use Rattle.command_line.specs.RunLaws.{ListAlike, ListFaults, holds}
use Rattle.command_line.specs.Words.{name_texts}

-- ---- a line does not depend on where the name lies

abbrev input_of : Option ℕ → Format → ℕ × ℕ → Text → Input
input_of report form pointer name = record { report = report; name = record { ref_ptr = pointer; now = name }; format = form }

line_moved : (report : Option ℕ) (form : Format) (p q : ℕ × ℕ) (name : Text) (printed : Printed) (line : List ℕ) → IsLine (input_of report form p name) printed line → IsLine (input_of report form q name) printed line
line_moved report format.Text p q name printed line x = record { sentence = x.sentence; says = x.says; is = x.is }
line_moved report format.Json p q name printed line x = record { sentence = x.sentence; says = x.says; is = x.is }

lines_moved : (report : Option ℕ) (form : Format) (p q : ℕ × ℕ) (name : Text) (ps : List Printed) (text : List ℕ) → AreLines (input_of report form p name) ps text → AreLines (input_of report form q name) ps text
lines_moved report form p q name [] text are = are
lines_moved report form p q name (x ∷ ps) text (line, rest, is, are, text_is) = (line, rest, line_moved report form p q name x line is, lines_moved report form p q name ps rest are, text_is)

-- the same name at another place
lines_named : (report : Option ℕ) (form : Format) (a b : Bor Text) → b.now ≡ a.now → (ps : List Printed) (text : List ℕ)
    → AreLines (record { report = report; name = b; format = form }) ps text → AreLines (record { report = report; name = a; format = form }) ps text
lines_named report form a b same ps text are =
    lines_moved report form b.ref_ptr a.ref_ptr a.now ps text (subst (λ name. AreLines (input_of report form b.ref_ptr name) ps text) same are)

abbrev rest_of : List Text → List Text
rest_of [] = []
rest_of (x ∷ xs) = xs

module _ (disk : Text → List ℕ) (unique : (name : Text) → ¬ (RepeatsKeys (disk name))) (form : Format) where
  abbrev H : Text → List ℕ → Type 0
  H = holds disk

  -- ---- a file in which no key repeats

  module _ (input : Input) (name : Text) (bytes : List ℕ) (is : bytes ≡ disk name) (found : List Printed) (e : Explained) (x : Explains input bytes found e) where
    none : x.repeated ≡ 0
    none = x.unique (subst (λ bs. ¬ (RepeatsKeys bs)) (sym is) (unique name))

    counts : e.faults ≡ counted (length found + 0)
    counts = x.count ∙ ap (λ n. counted (length found + n)) none

    lines : AreLines input found (string_bytes e.text)
    lines = subst (λ ps. AreLines input ps (string_bytes e.text)) (append-nil found) (subst (λ n. AreLines input (found ++ replicate n repeated_member) (string_bytes e.text)) none x.lines)

  -- ---- the reports

  module _ (s : Sheet) where
    abbrev faults_of : ℕ → List Report → List (Input × List Printed)
    faults_of n [] = []
    faults_of n (r ∷ rs) = (record { report = Some n; name = r.name; format = form }, printed_faults s r.bytes) ∷ faults_of (n + 1) rs

    abbrev Alike : ℕ → List Report → List Report → Type 0
    Alike n rs qs = ListFaults (faults_of n rs) (reports_text qs) × ((g : ℕ → ℕ → ℕ) (x : ℕ) → fold (λ m (r : Report). g m r.explained.faults) x rs ≡ fold (λ m (r : Report). g m r.explained.faults) x qs)

    alike : (n : ℕ) (rs qs : List Report) → name_texts (names_of rs) ≡ name_texts (names_of qs) → AreExplained H form s n rs → AreExplained H form s n qs → Alike n rs qs
    alike n [] [] names are these = (refl, λ g x. refl)
    alike n [] (q ∷ qs) names are these = let none : 0 ≡ suc (length (name_texts (names_of qs))) = ap length names in absurd (omega (arith, none))
    alike n (r ∷ rs) [] names are these = let none : suc (length (name_texts (names_of rs))) ≡ 0 = ap length names in absurd (omega (arith, none))
    alike n (r ∷ rs) (q ∷ qs) names are these =
        let name : r.name.now ≡ q.name.now = ap (λ ns. get_or ns 0 r.name.now) names in
        let bytes : r.bytes ≡ q.bytes = are.0.gave ∙ ap disk name ∙ sym these.0.gave in
        let one : Input = record { report = Some n; name = r.name; format = form } in
        let two : Input = record { report = Some n; name = q.name; format = form } in
        let there = lines two q.name.now q.bytes these.0.gave (printed_faults s q.bytes) q.explained these.0.explains in
        let here = lines_named (Some n) form r.name q.name (sym name) (printed_faults s r.bytes) (string_bytes q.explained.text) (subst (λ bs. AreLines two (printed_faults s bs) (string_bytes q.explained.text)) (sym bytes) there) in
        let faults : r.explained.faults ≡ q.explained.faults =
        counts one r.name.now r.bytes are.0.gave (printed_faults s r.bytes) r.explained are.0.explains ∙ ap (λ bs. counted (length (printed_faults s bs) + 0)) bytes
        ∙ sym (counts two q.name.now q.bytes these.0.gave (printed_faults s q.bytes) q.explained these.0.explains) in
        let rest = alike (n + 1) rs qs (ap rest_of names) are.1 these.1 in (
          (string_bytes q.explained.text, reports_text qs, here, rest.0, refl),
          λ g x. ap (λ k. fold (λ m (p : Report). g m p.explained.faults) (g x k) rs) faults ∙ rest.1 g (g x q.explained.faults),
        )

  -- ---- the whole text

  pub explains_alike : (sheet : Text) (names : List Text) (text other : List ℕ) (n m : ℕ) → ExplainGives H form sheet names text n → ExplainGives H form sheet names other m → (n ≡ m) × ListAlike text other
  explains_alike sheet names text other n m a b =
      let bytes : b.bytes ≡ a.bytes = b.gave ∙ sym a.gave in
      let sheets : Ok b.sheet ≡ Ok a.sheet = sym b.read ∙ ap sheet_outcome bytes ∙ a.read in
      let same : b.sheet ≡ a.sheet = cc in
      let these = subst (λ s. AreExplained H form s 1 b.reports) same b.are in
      let one : Input = record { report = None; name = a.name; format = form } in
      let two : Input = record { report = None; name = b.name; format = form } in
      let here = alike a.sheet 1 a.reports a.reports refl a.are a.are in
      let both = alike a.sheet 1 a.reports b.reports (a.named ∙ sym b.named) a.are these in
      let of_sheet : a.of_sheet.faults ≡ b.of_sheet.faults = counts one sheet a.bytes a.gave [] a.of_sheet a.repeated ∙ sym (counts two sheet b.bytes b.gave [] b.of_sheet b.repeated) in
      let faulty : faulty_reports a.reports ≡ faulty_reports b.reports = both.1 (λ k f. counted (k + (if nat_lt 0 f then 1 else 0))) 0 in
      let faults : n ≡ m = a.faults_are ∙ ap (λ k. all_faults k a.reports) of_sheet ∙ both.1 (λ k f. counted (k + f)) b.of_sheet.faults ∙ sym b.faults_are in (
        faults,
        record {
          faults = (one, []) ∷ faults_of a.sheet 1 a.reports;
          lines = string_bytes a.of_sheet.text ++ reports_text a.reports;
          others = string_bytes b.of_sheet.text ++ reports_text b.reports;
          last = counts_line form (length names) (faulty_reports a.reports) n;
          both_list = (
            (string_bytes a.of_sheet.text, reports_text a.reports, lines one sheet a.bytes a.gave [] a.of_sheet a.repeated, here.0, refl),
            (
              string_bytes b.of_sheet.text,
              reports_text b.reports,
              lines_named None form a.name b.name (b.name_is ∙ sym a.name_is) [] (string_bytes b.of_sheet.text) (lines two sheet b.bytes b.gave [] b.of_sheet b.repeated),
              both.0,
              refl,
            ),
          );
          texts_are = (
            a.text_is ∙ sym (append_assoc (string_bytes a.of_sheet.text) (reports_text a.reports) (counts_line form (length names) (faulty_reports a.reports) n)),
            b.text_is ∙ (λ i. string_bytes b.of_sheet.text ++ (reports_text b.reports ++ counts_line form (length names) (sym faulty i) (sym faults i)))
                ∙ sym (append_assoc (string_bytes b.of_sheet.text) (reports_text b.reports) (counts_line form (length names) (faulty_reports a.reports) n)),
          );
        },
      )
