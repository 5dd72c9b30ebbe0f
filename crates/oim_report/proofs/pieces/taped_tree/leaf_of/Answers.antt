use Rattle.oim_report.proofs.Shared.{rules, ◌≡◌, ℕ, List, Bool, true, Some, option_map, string_bytes, sym, ap, ◌∙◌, arith, as_bool, as_number, as_str, is_null, Json, Data, Num, null, boolean, number, string, number_of, number_view, view, IsReadAs}
use Rattle.json.specs.Json as j
use Rattle.serde_json.specs.declared.value.Value.{Bool as BoolValue, Null, Number as NumberValue, String, the_lemmas}
use Rattle.oim_report.proofs.pieces.taped_tree.leaf_of.Goals as goal

text_read : (v : Json) (s : List ℕ) (d : Data) → as_str v ≡ Some s → d ≡ string s → IsReadAs 0 v d
text_read (j.string t) s d e f = let same : t ≡ s = Prim.cc in record { reads = ap (λ x. Some (string x)) same ∙ ap (λ x. Some x) (sym f); flat = omega arith }
text_read v s d e f = absurd (Prim.cc)

boolean_read : (v : Json) (b : Bool) (d : Data) → as_bool v ≡ Some b → d ≡ boolean b → IsReadAs 0 v d
boolean_read (j.boolean a) b d e f = let same : a ≡ b = Prim.cc in record { reads = ap (λ x. Some (boolean x)) same ∙ ap (λ x. Some x) (sym f); flat = omega arith }
boolean_read v b d e f = absurd (Prim.cc)

null_read : (v : Json) (d : Data) → is_null v ≡ true → d ≡ null → IsReadAs 0 v d
null_read j.null d e f = record { reads = ap (λ x. Some x) (sym f); flat = omega arith }
null_read v d e f = absurd (Prim.cc)

number_read : (v : Json) (s : List ℕ) (x : Num) (d : Data) → as_number v ≡ Some s → number_of s ≡ Some x → d ≡ number x → IsReadAs 0 v d
number_read (j.number t) s x d e of f = let same : t ≡ s = Prim.cc in record { reads = ap (λ l. option_map number (number_of l)) same ∙ ap (option_map number) of ∙ ap (λ y. Some y) (sym f); flat = omega arith }
number_read v s x d e of f = absurd (Prim.cc)

pub returns-in-Some : goal.returns-in-Some
returns-in-Some c = λ v begins.
    let copy = c.in_ok-from_str.field-0 in
    let copied : string_bytes copy ≡ c.in-Some.text.now = search rules in
    let seen : view (String copy) ≡ string (string_bytes copy) = search (rules, the_lemmas) in
    text_read v c.in-Some.text.now (view (String copy)) (sym (c.in-Some.ensures v begins)) (seen ∙ ap string copied)

pub returns-in-Some-as_bool : goal.returns-in-Some-as_bool
returns-in-Some-as_bool c = λ v begins.
    let b = c.in-Some-as_bool.is_true in
    let seen : view (BoolValue b) ≡ boolean b = search (rules, the_lemmas) in
    boolean_read v b (view (BoolValue b)) (sym (c.in-Some-as_bool.ensures v begins)) seen

pub returns-then-is_null : goal.returns-then-is_null
returns-then-is_null c = λ v begins.
    let seen : view Null ≡ null = search (rules, the_lemmas) in
    null_read v (view Null) (sym (c.is_null.ensures v begins) ∙ c.if-is_null.true) seen

pub returns-in-Some-read_number : goal.returns-in-Some-read_number
returns-in-Some-read_number c = λ v begins.
    let s = c.in-Some-as_number.digits.now in
    let n = c.in-Some-read_number.number in
    let seen : view (NumberValue n) ≡ number (number_view n) = search (rules, the_lemmas) in
    number_read v s (number_view n) (view (NumberValue n)) (sym (c.in-Some-as_number.ensures v begins)) (sym c.in-Some-read_number.ensures) seen
