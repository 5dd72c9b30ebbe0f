-- What `explain` prints (own).
use Rattle.std.specs.Prelude.{◌≡◌, ℕ, ◌+◌, List, [], ◌∷◌, ◌++◌, codes, flat_map, length, map, nat_lt, if◌then◌else◌, None, Some, Ok, string_bytes, ⊤}
use Rattle.std.specs.Borrow.{Bor}
use Rattle.std.specs.Fmt.{decimal}
use Rattle.std.specs.List.{fold}
use Rattle.oim_report.specs.Sheet.{Sheet, sheet_outcome}
use Rattle.oim_explain.specs.Explained.{Explains, counted, printed_faults}
use Rattle.oim_explain.specs.declared.lines.Explained.{Explained}
use Rattle.oim_explain.specs.declared.lines.Format.{Format}
use Rattle.oim_explain.specs.declared.lines.Format.TheVariants.{Text, Json}
use Rattle.command_line.specs.Words.{name_texts}
use Rattle.command_line.specs.declared.commands.explain.Counts.{Counts}
use Rattle.command_line.specs.declared.error.Error.{Error}

-- a report that was read, and what is printed about it; a reference only passes on the name
pub record Report : Type 0 where
  pub name : Bor (List ℕ)
  pub bytes : List ℕ
  pub explained : Explained

abbrev pub names_of : List Report → List (Bor (List ℕ))
names_of reports = map (λ r. r.name) reports

-- the sums are exact as far as 64 bits hold them
abbrev pub all_faults : ℕ → List Report → ℕ
all_faults of_sheet reports = fold (λ n r. counted (n + r.explained.faults)) of_sheet reports

abbrev pub faulty_reports : List Report → ℕ
faulty_reports reports = fold (λ n r. counted (n + (if nat_lt 0 r.explained.faults then 1 else 0))) 0 reports

abbrev pub reports_text : List Report → List ℕ
reports_text reports = flat_map (λ r. string_bytes r.explained.text) reports

abbrev pub counts_line : Format → ℕ → ℕ → ℕ → List ℕ
counts_line Json reports faulty faults = []
counts_line Text reports faulty faults =
    codes "reports: " ++ (decimal reports ++ (codes ", with faults: " ++ (decimal faulty ++ (codes ", faults: " ++ (decimal faults ++ 10 ∷ [])))))

module _ (gives : List ℕ → List ℕ → Type 0) (format : Format) where
  pub record IsExplained (sheet : Sheet) (n : ℕ) (r : Report) : Type 0 where
    pub gave : gives r.name.now r.bytes
    pub explains : Explains (record { report = Some n; name = r.name; format = format }) r.bytes (printed_faults sheet r.bytes) r.explained

  -- the reports are numbered from n
  abbrev pub AreExplained : Sheet → ℕ → List Report → Type 0
  AreExplained sheet n [] = ⊤
  AreExplained sheet n (r ∷ rs) = IsExplained sheet n r × AreExplained sheet (n + 1) rs

  -- `text` contains the lines of the sheet's repeated members, the lines of each report in the order of the names, and the line
  -- with the counts; `faults` is the number of lines before the counts
  pub record ExplainGives (sheet_name : List ℕ) (names : List (List ℕ)) (text : List ℕ) (faults : ℕ) : Type 0 where
    pub name : Bor (List ℕ)
    pub name_is : name.now ≡ sheet_name
    pub bytes : List ℕ
    pub sheet : Sheet
    pub gave : gives sheet_name bytes
    pub read : sheet_outcome bytes ≡ Ok sheet
    pub of_sheet : Explained
    pub repeated : Explains (record { report = None; name = name; format = format }) bytes [] of_sheet
    pub reports : List Report
    pub named : name_texts (names_of reports) ≡ names
    pub are : AreExplained sheet 1 reports
    pub faults_are : faults ≡ all_faults of_sheet.faults reports
    pub text_is : text ≡ string_bytes of_sheet.text ++ (reports_text reports ++ counts_line format (length names) (faulty_reports reports) faults)

-- the lines before the counts; `of_sheet` has those of the sheet's repeated members
module _ (gives : List ℕ → List ℕ → Type 0) (format : Format) (sheet : Sheet) (of_sheet : Explained) where
  pub record Lists (names : List (List ℕ)) (text : List ℕ) (counts : Counts) : Type 0 where
    pub reports : List Report
    pub named : name_texts (names_of reports) ≡ names
    pub are : AreExplained gives format sheet 1 reports
    pub text_is : text ≡ string_bytes of_sheet.text ++ reports_text reports
    pub faulty : counts.faulty ≡ faulty_reports reports
    pub faults : counts.faults ≡ all_faults of_sheet.faults reports

  -- the lines up to those of the first reports
  abbrev pub ListsFirst : List (List ℕ) → Error → List ℕ → Type 0
  ListsFirst names e text = (first : List (List ℕ)) × (others : List (List ℕ)) × (names ≡ first ++ others) × (counts : Counts) × Lists first text counts
