-- The verdict lines, one for each dimension set, in order (own; the words for verdicts are from the XBRL working group note on duplicate
-- facts). In bytes, a space is 32, and a line end is 10.
use Rattle.std.specs.Prelude.{◌≡◌, ◌⊎◌, ℕ, suc, ◌-◌, List, [], ◌∷◌, ◌++◌, map, length, get_or, codes, Contains, Some}
use Rattle.std.specs.Fmt.{decimal}
use Rattle.oim_value.specs.Plain.{plain}
use Rattle.oim_dims.specs.declared.fact.Fact.{Fact}
use Rattle.fact_base.specs.Body.{Body}
use Rattle.fact_base.specs.Entries.{facts_with}
use Rattle.fact_base.specs.Fits.{Fits}
use Rattle.fact_base.specs.Passed.{Sheet}
use Rattle.fact_base.specs.Rows.{Row, rows_of}
use Rattle.fact_base.specs.Verdict.{IsEvidence, verdict}
use Rattle.fact_base.specs.declared.evidence.Evidence.{Evidence}
use Rattle.fact_base.specs.declared.evidence.Evidence.TheVariants.{Alike, Common, Apart}
use Rattle.fact_base.specs.declared.verdict.Verdict.{Verdict}
use Rattle.fact_base.specs.declared.verdict.Verdict.TheVariants.{Complete, Consistent, Inconsistent}
use Rattle.oim_write.specs.Tree.{identifier}

-- the canonical identifier of the fact at an index (from 0) in a dimension set
abbrev pub identifier_at : List Fact → Row → ℕ → List ℕ
identifier_at facts r i = get_or (map (identifier facts) (facts_with r.0 r.1)) i []

-- evidence in words, for facts with these identifiers
abbrev pub evidence_text : (ℕ → List ℕ) → Evidence → List ℕ
evidence_text name Alike = codes "complete"
evidence_text name (Common c) = codes "consistent common " ++ (plain c.low ++ 32 ∷ plain c.high)
evidence_text name (Apart i j) = codes "inconsistent apart " ++ (name i ++ 32 ∷ name j)

-- how to write a row, given the identifiers of its facts, its number, its dimensions and values, and its evidence
abbrev pub RowText : Type 0
RowText = (ℕ → List ℕ) → ℕ → Row → Evidence → List ℕ

-- the line of a dimension set: its number, the identifiers of its first and last facts, and the evidence
abbrev pub line_text : RowText
line_text name number r evidence = decimal number ++ 32 ∷ (name 0 ++ 32 ∷ (name (length r.1 - 1) ++ 32 ∷ (evidence_text name evidence ++ 10 ∷ [])))

-- ---- the rows of a body, in any format

-- the text of the row with this number, with evidence for the row's verdict
pub record IsRow (written : RowText) (facts : List Fact) (number : ℕ) (r : Row) (row : List ℕ) : Type 0 where
  pub evidence : Evidence
  pub shows : IsEvidence r.1 evidence
  pub text : row ≡ written (identifier_at facts r) number r evidence

-- the texts of rows, numbered from n
abbrev pub AreRowsFrom : RowText → List Fact → ℕ → List Row → List ℕ → Type 0
AreRowsFrom written facts n [] text = text ≡ []
AreRowsFrom written facts n (r ∷ rs) text = (row rest : List ℕ) × ((text ≡ row ++ rest) × (IsRow written facts n r row × AreRowsFrom written facts (suc n) rs rest))

abbrev pub AreRowsOf : RowText → Body → List ℕ → Type 0
AreRowsOf written b = AreRowsFrom written b.facts 1 (rows_of b.facts)

-- exactly one text has this property
pub record HasOneText (Is : List ℕ → Type 0) : Type 0 where
  pub text : List ℕ
  pub is : Is text
  pub only : (other : List ℕ) → Is other → other ≡ text

-- ---- verdict lines

abbrev pub AreLines : Body → List ℕ → Type 0
AreLines = AreRowsOf line_text

-- a body that fits a sheet has exactly one list of lines
abbrev pub LinesAreOne : Type 0
LinesAreOne = (sheet : Sheet) (b : Body) → Fits sheet b → HasOneText (AreLines b)

abbrev pub verdict_shown : Evidence → Verdict
verdict_shown Alike = Complete
verdict_shown (Common c) = Consistent
verdict_shown (Apart i j) = Inconsistent

-- in a body that fits a sheet, the evidence in a line shows the verdict on the line's dimension set
abbrev pub LinesTellVerdicts : Type 0
LinesTellVerdicts =
    (sheet : Sheet) (b : Body) → Fits sheet b → (r : Row) → Contains (rows_of b.facts) r →
    (number : ℕ) (line : List ℕ) (is : IsRow line_text b.facts number r line) → verdict b.facts r.0 ≡ Some (verdict_shown is.evidence)

abbrev pub verdict_word : Verdict → List ℕ
verdict_word Complete = codes "complete"
verdict_word Consistent = codes "consistent"
verdict_word Inconsistent = codes "inconsistent"

-- a text is this word, or begins with this word and a space
abbrev pub BeginsWithWord : List ℕ → List ℕ → Type 0
BeginsWithWord word text = (text ≡ word) ⊎ ((more : List ℕ) × (text ≡ word ++ 32 ∷ more))

-- the text of evidence begins with the word for the verdict that the evidence shows
abbrev pub WordsShowVerdicts : Type 0
WordsShowVerdicts = (name : ℕ → List ℕ) (e : Evidence) → BeginsWithWord (verdict_word (verdict_shown e)) (evidence_text name e)
