-- Lines and tokens that are appended one after another.
use Rattle.std.proofs.Common.{◌≡◌, ℕ, ◌+◌, ◌<◌, List, [], ◌∷◌, ◌++◌, length, map, take, get_or, replicate, refl, sym, ap, subst, ◌∙◌, append-nil, append_assoc, arith, length-append, String, Global, string_bytes}
use Rattle.std.proofs.lemmas.List.{length-replicate, map-append, nil_from_length, take_more, replicate-append-replicate}
use Rattle.json.specs.Token.{Token}
use Rattle.json.specs.Written.{Writes, Written}
use Rattle.std.specs.Prelude.{OnOk, Result, Ok, Err}
use Rattle.oim_report.specs.declared.refusal.Refusal.{Refusal}
use Rattle.oim_explain.specs.Escaped.{escaped}
use Rattle.oim_explain.specs.Explained.{Explains, RepeatsKeys, counted}
use Rattle.oim_explain.specs.Lines.{AreLines, IsLine, Printed, repeated_member}
use Rattle.oim_explain.specs.code.Added.{AddsAll, AddsLines, AddsRepeated, AddsTokens}
use Rattle.oim_explain.specs.declared.lines.Input.{Input}
use Rattle.oim_explain.specs.declared.lines.Lines.{Lines}

-- ---- lines

join : (input : Input) (ps qs : List Printed) (s t : List ℕ) → AreLines input ps s → AreLines input qs t → AreLines input (ps ++ qs) (s ++ t)
join input [] qs s t none lines = subst (λ u. AreLines input qs (u ++ t)) (sym none) lines
join input (p ∷ ps) qs s t (line, rest, is, more, whole) lines = (
  line,
  rest ++ t,
  is,
  join input ps qs rest t more lines,
  ap (λ u. u ++ t) whole ∙ append_assoc (escaped line) (10 ∷ rest) t,
)

sum : {A : Type 0} (m : ℕ) (ps qs : List A) → m + length ps + length qs ≡ m + length (ps ++ qs)
sum m ps qs = omega (arith, length-append ps qs)

pub adds_none : (old : Lines) → AddsLines old old []
adds_none old = record {
  text = [];
  lines = refl;
  appended = sym (append-nil (string_bytes old.explained.text));
  count = λ m is. is ∙ ap counted (omega arith);
  input = refl;
}

-- a line with its line end
one_more : (n : ℕ) → counted (counted n + 1) ≡ counted (n + 1)
one_more n = omega arith

-- a line with its line end
pub adds_line : (old : Lines) (text : String Global) (faults : ℕ) (p : Printed) (line : List ℕ) → faults ≡ counted (old.explained.faults + 1) → IsLine old.input p line
    → string_bytes text ≡ string_bytes old.explained.text ++ (escaped line ++ 10 ∷ []) → AddsLines old (record { alloc = old.alloc; input = old.input; explained = record { text = text; faults = faults } }) (p ∷ [])
adds_line old text faults p line counts is appended = record {
  text = escaped line ++ 10 ∷ [];
  lines = (line, [], is, refl, refl);
  appended = appended;
  count = λ n same. counts ∙ ap (λ m. counted (m + 1)) same ∙ one_more n;
  input = refl;
}

pub adds_then : (a b c : Lines) (ps qs : List Printed) → AddsLines a b ps → AddsLines b c qs → AddsLines a c (ps ++ qs)
adds_then a b c ps qs first second = record {
  text = first.text ++ second.text;
  lines = join a.input ps qs first.text second.text first.lines (subst (λ i. AreLines i qs second.text) first.input second.lines);
  appended = second.appended ∙ ap (λ t. t ++ second.text) first.appended ∙ append_assoc (string_bytes a.explained.text) first.text second.text;
  count = λ m is. second.count (m + length ps) (first.count m is) ∙ ap counted (sum m ps qs);
  input = second.input ∙ first.input;
}

-- ---- lines of repeated members

pub repeated_none : (old : Lines) → AddsRepeated old old
repeated_none old = (0, adds_none old)

pub repeated_one : (a b : Lines) → AddsLines a b (repeated_member ∷ []) → AddsRepeated a b
repeated_one a b adds = (1, adds)

pub repeated_then : (a b c : Lines) → AddsRepeated a b → AddsRepeated b c → AddsRepeated a c
repeated_then a b c first second = (
  first.0 + second.0,
  subst (AddsLines a c) (replicate-append-replicate first.0 second.0 repeated_member)
      (adds_then a b c (replicate first.0 repeated_member) (replicate second.0 repeated_member) first.1 second.1),
)

empty_lines : (input : Input) (ps : List Printed) → AreLines input ps [] → length ps ≡ 0
empty_lines input [] lines = refl
empty_lines input (p ∷ ps) (line, rest, is, more, whole) =
    let longer : 0 ≡ length (escaped line ++ 10 ∷ rest) = ap length whole in omega (arith, length-append (escaped line) (10 ∷ rest), longer)

-- no line was appended, so there was none
pub unrepeated : (a b : Lines) (n : ℕ) → AddsLines a b (replicate n repeated_member) → b ≡ a → n ≡ 0
unrepeated a b n adds same =
    let before = string_bytes a.explained.text in
    let all : length (string_bytes b.explained.text) ≡ length (before ++ adds.text) = ap length adds.appended in
    let kept : length (string_bytes b.explained.text) ≡ length before = ap (λ (l : Lines). length (string_bytes l.explained.text)) same in
    let none : length adds.text ≡ 0 = omega (arith, length-append before adds.text, all, kept) in
    sym (length-replicate n repeated_member)
    ∙ empty_lines a.input (replicate n repeated_member) (subst (AreLines a.input (replicate n repeated_member)) (nil_from_length adds.text none) adds.lines)

pub repeated_in : {E : Type 0} (r : Result (Unit {0}) E) (bytes : List ℕ) (a b : Lines) → OnOk r (AddsRepeated a b) → (¬ (RepeatsKeys bytes) → OnOk r (b ≡ a)) → OnOk r (AddsAll bytes [] a b)
repeated_in (Ok done) bytes a b adds same = (adds.0, adds.1, λ unique. unrepeated a b adds.0 adds.1 (same unique))
repeated_in (Err e) bytes a b adds same = tt

-- ---- the lines of a file

-- the lines of the faults that were found, and then those of repeated members
pub found_then_repeated : (bytes : List ℕ) (a b c : Lines) (found : List Printed) → AddsLines a b found → AddsAll bytes [] b c → AddsAll bytes found a c
found_then_repeated bytes a b c found first second = (second.0, adds_then a b c found (replicate second.0 repeated_member) first second.1, second.2)

-- all lines, if there were none before
pub explained : (input : Input) (bytes : List ℕ) (a b : Lines) (found : List Printed) (n : ℕ) → a.input ≡ input → string_bytes a.explained.text ≡ [] → a.explained.faults ≡ 0
    → AddsLines a b (found ++ replicate n repeated_member) → (¬ (RepeatsKeys bytes) → n ≡ 0) → Explains input bytes found b.explained
explained input bytes a b found n same none zero adds unique =
    let printed = found ++ replicate n repeated_member in
    let sum : 0 + length printed ≡ length found + n = omega (arith, length-append found (replicate n repeated_member), length-replicate n repeated_member) in
    record {
      repeated = n;
      lines = subst (λ i. AreLines i printed (string_bytes b.explained.text)) same
          (subst (AreLines a.input printed) (sym (adds.appended ∙ ap (λ t. t ++ adds.text) none)) adds.lines);
      count = adds.count 0 zero ∙ ap counted sum;
      unique = unique;
    }

-- one fault more
pub next_line : (a b c : Lines) (shown : Refusal → Printed) (found : List Refusal) (i : ℕ) (d : Refusal) → i < length found → AddsLines a b (map shown (take i found)) → AddsLines b c (shown (get_or found i d) ∷ [])
    → AddsLines a c (map shown (take (i + 1) found))
next_line a b c shown found i d within first second =
    subst (AddsLines a c) (sym (ap (map shown) (take_more found i d within) ∙ map-append shown (take i found) (get_or found i d ∷ [])))
    (adds_then a b c (map shown (take i found)) (shown (get_or found i d) ∷ []) first second)

-- ---- tokens

pub tokens_one : {E : Type 0} {a b : Written} {t : Token} {done : Unit {0}} → Writes {E = E} (Ok done) a b t → AddsTokens a b (t ∷ [])
tokens_one written = record { tokens = written.ok; before = written.room.0 }

pub tokens_then : {a b c : Written} {ts us : List Token} → AddsTokens a b ts → AddsTokens b c us → AddsTokens a c (ts ++ us)
tokens_then {a = a} {ts = ts} {us = us} first second = record {
  tokens = second.tokens ∙ ap (λ xs. xs ++ us) first.tokens ∙ append_assoc a.tokens ts us;
  before = second.before ∙ first.before;
}

pub tokens_last : {E : Type 0} {a b c : Written} {ts : List Token} {t : Token} (r : Result (Unit {0}) E) → AddsTokens a b ts → Writes r b c t → OnOk r (AddsTokens a c (ts ++ t ∷ []))
tokens_last (Ok done) first last = tokens_then first (tokens_one last)
tokens_last (Err e) first last = tt
