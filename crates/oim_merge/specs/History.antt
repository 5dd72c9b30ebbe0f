-- The history of a base, and how the text of a body is read (own).
use Rattle.std.specs.Prelude.{◌≡◌, ℕ, List, [], ◌∷◌, ◌++◌, Contains, Ok}
use Rattle.std.specs.List.{All}
use Rattle.merge_laws.specs.Members.{SameMembers}
use Rattle.oim_report.specs.Document.{Document}
use Rattle.oim_report.specs.Outcome.{outcome}
use Rattle.oim_report.specs.Sheet.{Sheet}
use Rattle.fact_base.specs.Body.{Body, body, union}
use Rattle.fact_base.specs.Fits.{Fits, IsAccepted}
use Rattle.oim_write.specs.Bytes.{canonical, earlier}

-- the history of a base: it is new, it took a document, or it joined another base
pub data History : Type 0 where
  fresh : History
  took : History → Document → History
  joined : History → History → History

-- the body of a base with this history, by the contracts of `Base::new`, `take` and `join`
abbrev pub body_of : History → Body
body_of fresh = body []
body_of (took h d) = union (body_of h) (body (d ∷ []))
body_of (joined h k) = union (body_of h) (body_of k)

-- the documents that reached a base, directly or through a base that it joined
abbrev pub documents_of : History → List Document
documents_of fresh = []
documents_of (took h d) = documents_of h ++ d ∷ []
documents_of (joined h k) = documents_of h ++ documents_of k

-- a base has the body of the documents that reached it
abbrev pub HistoriesGiveBodies : Type 0
HistoriesGiveBodies = (h : History) → body_of h ≡ body (documents_of h)

-- if the same documents reached two bases, both have the same body, whatever the order, grouping and repetition
abbrev pub HistoriesAreForgotten : Type 0
HistoriesAreForgotten = (h k : History) → SameMembers (documents_of h) (documents_of k) → body_of h ≡ body_of k

-- ---- round trips

-- the bytes are read as a document with exactly this body
pub record IsReadAsBody (sheet : Sheet) (bytes : List ℕ) (b : Body) : Type 0 where
  pub document : Document
  pub read : outcome sheet bytes ≡ Ok document
  pub same : body (document ∷ []) ≡ b

-- the text of a body that fits a sheet is read as that body
abbrev pub TextsGiveBodies : Type 0
TextsGiveBodies = (sheet : Sheet) (b : Body) → Fits sheet b → IsReadAsBody sheet (canonical b) b

-- if a body fits a sheet, the text of the body in the earlier form is also read as that body
abbrev pub EarlierTextsGiveBodies : Type 0
EarlierTextsGiveBodies = (sheet : Sheet) (b : Body) → Fits sheet b → IsReadAsBody sheet (earlier b) b

-- the merged text of accepted documents does not change if it is merged with itself and with any of the documents
abbrev pub MergedTextsMerge : Type 0
MergedTextsMerge =
    (sheet : Sheet) (docs some : List Document) (merged : Document) → All (IsAccepted sheet) docs → ((d : Document) → Contains some d → Contains docs d) →
    outcome sheet (canonical (body docs)) ≡ Ok merged → canonical (body (merged ∷ merged ∷ some)) ≡ canonical (body docs)
