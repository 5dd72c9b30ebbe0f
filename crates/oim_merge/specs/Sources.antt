-- The sources of a fact: the objects in accepted reports that report the fact (own). In bytes, a space is 32, and a line end is 10.
use Rattle.std.specs.Prelude.{◌≡◌, ℕ, suc, ◌-◌, Bool, Option, Some, None, List, [], ◌∷◌, ◌++◌, map, get_or, filter, flat_map, Contains, Result, Ok, Err}
use Rattle.std.specs.Fmt.{decimal}
use Rattle.std.specs.List.{AllZip}
use Rattle.std.specs.List.Sorted.{IsPermutation}
use Rattle.std.specs.Ordering.{is_eq}
use Rattle.serde_json.specs.Data.{Data, string}
use Rattle.serde_json.specs.Written.{compact_text}
use Rattle.oim_names.specs.Bindings.{Binding}
use Rattle.oim_dims.specs.FactOrder.{fact_cmp}
use Rattle.oim_dims.specs.declared.fact.Fact.{Fact}
use Rattle.oim_report.specs.Document.{Document, ObjectSays}
use Rattle.oim_report.specs.Identifiers.{identifiers}
use Rattle.oim_report.specs.Json.{entries, json}
use Rattle.oim_report.specs.Info.{bindings_of, facts_of}
use Rattle.oim_report.specs.Outcome.{outcome}
use Rattle.oim_report.specs.Sheet.{Sheet}
use Rattle.oim_report.specs.declared.refusal.Refusal.{Refusal}
use Rattle.oim_write.specs.Tree.{identifier}
use Rattle.oim_merge.specs.Reports.{merged}
use Rattle.oim_merge.specs.declared.mentions.Mention.{Mention}

-- the mentions in a report, given its identifiers and facts in the same order
abbrev pub mentions_in : ℕ → List (List ℕ) → List Fact → List Mention
mentions_in n [] facts = []
mentions_in n (i ∷ is) [] = []
mentions_in n (i ∷ is) (f ∷ facts) = record { report = n; identifier = i; fact = f } ∷ mentions_in n is facts

-- the mentions in a report; a refused report has no mentions
abbrev pub mentions_of : ℕ → Option (List (List ℕ)) → Result Document Refusal → List Mention
mentions_of n None said = []
mentions_of n (Some is) (Ok d) = mentions_in n is d.facts
mentions_of n (Some is) (Err r) = []

-- the mentions in reports; the first report has the number n
abbrev pub mentions_from : ℕ → Sheet → List (List ℕ) → List Mention
mentions_from n sheet [] = []
mentions_from n sheet (bytes ∷ reports) = mentions_of n (identifiers bytes) (outcome sheet bytes) ++ mentions_from (suc n) sheet reports

abbrev pub mentions : Sheet → List (List ℕ) → List Mention
mentions sheet reports = mentions_from 1 sheet reports

abbrev pub is_of : Fact → Mention → Bool
is_of f m = is_eq (fact_cmp m.fact f)

-- the mentions in the order of the facts; the mentions of one fact keep their order
abbrev pub by_fact : List Fact → List Mention → List Mention
by_fact facts ms = flat_map (λ f. filter (is_of f) ms) facts

abbrev pub mentions_by_fact : Sheet → List (List ℕ) → List Mention
mentions_by_fact sheet reports = by_fact (merged sheet reports).facts (mentions sheet reports)

-- how to write a mention, given the canonical identifier of its fact, the number of the report, and the object's own identifier
abbrev pub SourceText : Type 0
SourceText = List ℕ → ℕ → List ℕ → List ℕ

-- the line of a mention, with the object's own identifier as a JSON string
abbrev pub source_line : SourceText
source_line fact report own = fact ++ 32 ∷ (decimal report ++ 32 ∷ (compact_text (string own) ++ 10 ∷ []))

abbrev pub mention_text : SourceText → List Fact → Mention → List ℕ
mention_text written facts m = written (identifier facts m.fact) m.report m.identifier

-- the texts of all fact objects in accepted reports, in the order of facts, then reports, then identifiers
abbrev pub sources_by : SourceText → Sheet → List (List ℕ) → List ℕ
sources_by written sheet reports = flat_map (mention_text written (merged sheet reports).facts) (mentions_by_fact sheet reports)

abbrev pub sources : Sheet → List (List ℕ) → List ℕ
sources = sources_by source_line

-- ---- laws

-- an accepted report mentions the fact
pub record IsSaid (sheet : Sheet) (reports : List (List ℕ)) (f : Fact) : Type 0 where
  pub mention : Mention
  pub there : Contains (mentions_by_fact sheet reports) mention
  pub of_fact : mention.fact ≡ f

abbrev pub EachFactIsSaid : Type 0
EachFactIsSaid = (sheet : Sheet) (reports : List (List ℕ)) (f : Fact) → Contains (merged sheet reports).facts f → IsSaid sheet reports f

-- grouping the mentions by fact keeps each mention once and adds none
abbrev pub EachMentionIsTold : Type 0
EachMentionIsTold = (sheet : Sheet) (reports : List (List ℕ)) → IsPermutation (mentions sheet reports) (mentions_by_fact sheet reports)

-- the mention has the number of the report, the identifier of the object, and the object's fact
pub record IsMentionOf (sheet : Sheet) (bs : List Binding) (n : ℕ) (object : List ℕ × Data) (m : Mention) : Type 0 where
  pub report : m.report ≡ n
  pub identifier : m.identifier ≡ object.0
  pub says : ObjectSays sheet bs object.1 m.fact

-- an accepted report has one mention for each fact object, in byte order of the identifiers
abbrev pub EachObjectIsMentioned : Type 0
EachObjectIsMentioned =
    (sheet : Sheet) (n : ℕ) (bytes : List ℕ) (d : Document) (tree : Data) → outcome sheet bytes ≡ Ok d → json bytes ≡ Some tree →
    AllZip (IsMentionOf sheet (bindings_of tree) n) (entries (facts_of tree)) (mentions_of n (identifiers bytes) (outcome sheet bytes))

-- a mention with the bytes of its report instead of the number
pub record Saying : Type 0 where
  pub bytes : List ℕ
  pub identifier : List ℕ
  pub fact : Fact

abbrev pub saying : List (List ℕ) → Mention → Saying
saying reports m = record { bytes = get_or reports (m.report - 1) []; identifier = m.identifier; fact = m.fact }

-- two lists of reports have the same facts and, in any order, the same mentions except for the report numbers
pub record TellTheSame (sheet : Sheet) (reports others : List (List ℕ)) : Type 0 where
  pub facts : (merged sheet reports).facts ≡ (merged sheet others).facts
  pub sayings : IsPermutation (map (saying reports) (mentions_by_fact sheet reports)) (map (saying others) (mentions_by_fact sheet others))

-- reordering the reports changes only the report numbers and the order of the mentions
abbrev pub SourcesIgnoreOrder : Type 0
SourcesIgnoreOrder = (sheet : Sheet) (reports others : List (List ℕ)) → IsPermutation reports others → TellTheSame sheet reports others
