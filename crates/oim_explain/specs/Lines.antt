-- The line that `explain` prints for a fault, up to its sentence (own). In bytes, a line end is 10.
use Rattle.std.specs.Prelude.{◌≡◌, ℕ, List, [], ◌∷◌, ◌++◌, codes, Option, Some, None, option_map, ⊤}
use Rattle.std.specs.Fmt.{decimal}
use Rattle.json.specs.Print.{print}
use Rattle.json.specs.Token.{Token, begin_object, end_object, key, number, string, null}
use Rattle.oim_names.specs.Reasons.{entry_of}
use Rattle.oim_report.specs.declared.place.Place.{Place}
use Rattle.oim_report.specs.declared.place.Place.TheVariants as place
use Rattle.oim_report.specs.declared.refusal.Refusal.{Refusal}
use Rattle.oim_explain.specs.Escaped.{escaped, escaped_name}
use Rattle.oim_explain.specs.Quoted.{quoted_front}
use Rattle.oim_explain.specs.declared.lines.Format.{Format}
use Rattle.oim_explain.specs.declared.lines.Format.TheVariants.{Text, Json}
use Rattle.oim_explain.specs.declared.lines.Input.{Input}

-- what a line is about: a fault, with the identifier of its fact if it is the fault of a fact; or neither, for a repeated member
pub record Printed : Type 0 where
  pub refusal : Option Refusal
  pub identifier : Option (List ℕ)

abbrev pub repeated_member : Printed
repeated_member = record { refusal = None; identifier = None }

-- the sentence about a repeated member contains ` is repeated`; nothing is stated of other sentences
abbrev pub IsSentence : Option Refusal → List ℕ → Type 0
IsSentence None sentence = (before : List ℕ) × (after : List ℕ) × (sentence ≡ before ++ (codes " is repeated" ++ after))
IsSentence (Some refusal) sentence = ⊤

-- ---- as text

abbrev pub identifier_text : Option (List ℕ) → List ℕ
identifier_text None = []
identifier_text (Some identifier) = codes "fact " ++ (quoted_front identifier ++ codes ": ")

abbrev pub refusal_text : Option Refusal → List ℕ
refusal_text None = []
refusal_text (Some refusal) = decimal (entry_of refusal.reason).number ++ 32 ∷ ((entry_of refusal.reason).name ++ codes ": ")

-- the file, the fact, and the number and name of the fault
abbrev pub text_front : Input → Printed → List ℕ
text_front input printed = escaped_name input.name.now ++ (codes ": " ++ (identifier_text printed.identifier ++ refusal_text printed.refusal))

abbrev pub IsTextLine : Input → Printed → List ℕ → List ℕ → Type 0
IsTextLine input printed sentence line = line ≡ text_front input printed ++ sentence

-- ---- as JSON

abbrev pub number_token : Option ℕ → Token
number_token None = null
number_token (Some n) = number (decimal n)

abbrev pub text_token : Option (List ℕ) → Token
text_token None = null
text_token (Some text) = string text

abbrev pub place_text : Place → List ℕ
place_text place.Document = codes "document"
place_text (place.Fact n) = codes "fact " ++ decimal n

abbrev pub place_tokens : Option Refusal → List Token
place_tokens refusal = key (codes "place") ∷ text_token (option_map (λ r. place_text r.place) refusal) ∷ []

abbrev pub reason_tokens : Option Refusal → List Token
reason_tokens refusal =
    key (codes "number") ∷ number_token (option_map (λ r. (entry_of r.reason).number) refusal)
    ∷ key (codes "name") ∷ text_token (option_map (λ r. (entry_of r.reason).name) refusal) ∷ []

-- the members from `report` to `identifier`
abbrev pub object_front : Input → Printed → List Token
object_front input printed =
    begin_object ∷ key (codes "report") ∷ number_token input.report ∷ key (codes "file") ∷ string input.name.now
    ∷ (place_tokens printed.refusal ++ (reason_tokens printed.refusal ++ key (codes "identifier") ∷ text_token printed.identifier ∷ []))

-- the members `part` and `sentence`
abbrev pub object_end : List Token → List ℕ → List Token
object_end part sentence = key (codes "part") ∷ (part ++ key (codes "sentence") ∷ string sentence ∷ end_object ∷ [])

abbrev pub IsJsonLine : Input → Printed → List ℕ → List ℕ → Type 0
IsJsonLine input printed sentence line = (part : List Token) × (line ≡ print (object_front input printed ++ object_end part sentence))

-- ---- several lines

abbrev pub IsLineIn : Format → Input → Printed → List ℕ → List ℕ → Type 0
IsLineIn Text = IsTextLine
IsLineIn Json = IsJsonLine

pub record IsLine (input : Input) (printed : Printed) (line : List ℕ) : Type 0 where
  pub sentence : List ℕ
  pub says : IsSentence printed.refusal sentence
  pub is : IsLineIn input.format input printed sentence line

-- a line for each of `printed`, in this order; each is escaped, so it has no other line end
abbrev pub AreLines : Input → List Printed → List ℕ → Type 0
AreLines input [] text = text ≡ []
AreLines input (p ∷ ps) text =
    (line : List ℕ) × (rest : List ℕ) × IsLine input p line × AreLines input ps rest × (text ≡ escaped line ++ 10 ∷ rest)
