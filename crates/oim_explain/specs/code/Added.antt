-- Lines and tokens that were appended to earlier ones (own).
use Rattle.std.specs.Prelude.{◌≡◌, ℕ, ◌+◌, List, ◌++◌, length, map, replicate, option_map, Option, None, Some, string_bytes}
use Rattle.std.specs.Borrow.{Bor}
use Rattle.json.specs.Token.{Token}
use Rattle.json.specs.Written.{Written}
use Rattle.oim_report.specs.Outcome.{at}
use Rattle.oim_report.specs.declared.place.Place.{Place}
use Rattle.oim_report.specs.declared.place.Place.TheVariants.{Document, Fact}
use Rattle.oim_names.specs.declared.reason.Reason.{Reason}
use Rattle.oim_explain.specs.Explained.{RepeatsKeys, counted}
use Rattle.oim_explain.specs.Lines.{AreLines, Printed, repeated_member}
use Rattle.oim_explain.specs.declared.finding.Finding.{Finding}
use Rattle.oim_explain.specs.declared.lines.PrintedFault.{PrintedFault}
use Rattle.oim_explain.specs.declared.lines.Lines.{Lines}
use Rattle.oim_explain.specs.declared.subject.Subject.{Subject}
use Rattle.oim_explain.specs.declared.subject.Subject.TheVariants as subject

abbrev pub of_fault : PrintedFault → Printed
of_fault fault = record { refusal = fault.refusal; identifier = option_map (λ i. i.now) fault.identifier }

abbrev pub place_of : Subject → Place
place_of (subject.Fact n identifier) = Fact n
place_of subject = Document

abbrev pub identifier_of : Subject → Option (Bor (List ℕ))
identifier_of (subject.Fact n identifier) = Some identifier
identifier_of subject = None

abbrev pub of_subject : Reason → Subject → Printed
of_subject reason subject = record { refusal = Some (at (place_of subject) reason); identifier = option_map (λ i. i.now) (identifier_of subject) }

abbrev pub of_finding : Finding → Printed
of_finding finding = of_subject finding.reason finding.subject

abbrev pub texts_of : List (Bor (List ℕ)) → List (List ℕ)
texts_of texts = map (λ t. t.now) texts

-- these lines were appended
pub record AddsLines (old new : Lines) (printed : List Printed) : Type 0 where
  pub text : List ℕ
  pub lines : AreLines old.input printed text
  pub appended : string_bytes new.explained.text ≡ string_bytes old.explained.text ++ text
  pub count : (n : ℕ) → old.explained.faults ≡ counted n → new.explained.faults ≡ counted (n + length printed)
  pub input : new.input ≡ old.input

-- lines of repeated members were appended
abbrev pub AddsRepeated : Lines → Lines → Type 0
AddsRepeated old new = (n : ℕ) × AddsLines old new (replicate n repeated_member)

-- the lines that were found were appended, and then those of repeated members, if a key is repeated
abbrev pub AddsAll : List ℕ → List Printed → Lines → Lines → Type 0
AddsAll bytes found old new = (n : ℕ) × AddsLines old new (found ++ replicate n repeated_member) × (¬ (RepeatsKeys bytes) → n ≡ 0)

-- these tokens were appended; the bytes before the first token did not change
pub record AddsTokens (old new : Written) (further : List Token) : Type 0 where
  pub tokens : new.tokens ≡ old.tokens ++ further
  pub before : new.before ≡ old.before

abbrev pub AddsSomeTokens : Written → Written → Type 0
AddsSomeTokens old new = (further : List Token) × AddsTokens old new further
