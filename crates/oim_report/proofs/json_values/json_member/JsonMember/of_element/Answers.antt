use Rattle.oim_report.proofs.Shared.{rules, ◌≡◌, ℕ, List, true, Some, option_map, refl, sym, ap, ◌∙◌, arith, option_map_or, Json, depth, Num, null, number, string, as_integer, of_json, number_of, Given, nil, whole, other, given, seen, IsLeaf}
use Rattle.json.specs.Json as j
use Rattle.json.specs.Find as find
use Rattle.oim_report.proofs.json_values.json_member.JsonMember.of_element.Goals as goal

is_string : (v : Json) (s : List ℕ) → find.as_str v ≡ Some s → v ≡ j.string s
is_string (j.string t) s e = let same : t ≡ s = Prim.cc in ap j.string same
is_string v s e = absurd (Prim.cc)

is_number : (v : Json) (s : List ℕ) → find.as_number v ≡ Some s → v ≡ j.number s
is_number (j.number t) s e = let same : t ≡ s = Prim.cc in ap j.number same
is_number v s e = absurd (Prim.cc)

is_null : (v : Json) → find.is_null v ≡ true → v ≡ j.null
is_null j.null e = refl
is_null v e = absurd (Prim.cc)

text_leaf : (v : Json) (s : List ℕ) (g : Given) → find.as_str v ≡ Some s → given (string s) ≡ g → IsLeaf v g
text_leaf v s g e is_g =
    let is = is_string v s e in
    record { found = string s; reads = ap of_json is; is = is_g; flat = omega (arith, ap depth is) }

nil_leaf : (v : Json) → find.is_null v ≡ true → IsLeaf v nil
nil_leaf v e = let is = is_null v e in record { found = null; reads = ap of_json is; is = refl; flat = omega (arith, ap depth is) }

number_leaf : (v : Json) (s : List ℕ) (x : Num) (g : Given) → find.as_number v ≡ Some s → number_of s ≡ Some x → given (number x) ≡ g → IsLeaf v g
number_leaf v s x g e of is_g =
    let is = is_number v s e in
    record { found = number x; reads = ap of_json is ∙ ap (option_map number) of; is = is_g; flat = omega (arith, ap depth is) }

pub returns-in-Some : goal.returns-in-Some
returns-in-Some c = λ v begins. text_leaf v c.in-Some.text.now (seen c.of_text.result) (sym (c.in-Some.ensures v begins)) c.of_text.ensures

pub returns-then-is_null : goal.returns-then-is_null
returns-then-is_null c = λ v begins. nil_leaf v (sym (c.is_null.ensures v begins) ∙ c.if-is_null.true)

pub returns-in-Some-whole_number : goal.returns-in-Some-whole_number
returns-in-Some-whole_number c = λ v begins.
    let s = c.in-Some-as_number.digits.now in
    let text : find.as_number v ≡ Some s = sym (c.in-Some-as_number.ensures v begins) in
    let read = c.in-Some-whole_number.ensures in
    let integer : as_integer read.0 ≡ Some c.in-Some-whole_number.whole = read.2 in
    let given : option_map_or whole (as_integer read.0) other ≡ whole _ = search rules in
    number_leaf v s read.0 _ text read.1 given
