-- Lemmas for callers that push a text to a sink in parts.
use Rattle.oim_write.proofs.Shared.{◌≡◌, ℕ, ◌+◌, List, [], ◌++◌, Option, Result, Ok, Err, IfErr, length, take, drop, refl, sym, ap, ◌∙◌, append_assoc, append-nil, add-zero, zero-add, arith, length-append, length-take-le, take-append-drop, Appends, Appends-nil, Appends-trans, AppendsFirst, AppendsFront, saturated, written_of, Pending, Passes, Breaks, nothing_yet}
use Rattle.oim_write.specs.declared.write_fault.WriteFault.{WriteFault}

pub Passes-nil : (a : Option (List ℕ)) (p : Pending) → Passes a a p p []
Passes-nil a p = record {
  front = [];
  whole = append-nil p.bytes;
  appended = Appends-nil a;
  count = ap saturated (sym (add-zero p.written));
}

pub Passes-trans : {a b c : Option (List ℕ)} {p q r : Pending} {xs ys : List ℕ} → Passes a b p q xs → Passes b c q r ys → Passes a c p r (xs ++ ys)
Passes-trans {a} {b} {c} {p} {q} {r} {xs} {ys} first second = record {
  front = first.front ++ second.front;
  whole = sym (append_assoc p.bytes xs ys) ∙ ap (λ l. l ++ ys) first.whole ∙ append_assoc first.front q.bytes ys
      ∙ ap (λ l. first.front ++ l) second.whole ∙ sym (append_assoc first.front second.front r.bytes);
  appended = Appends-trans a b c first.front second.front first.appended second.appended;
  count = omega (arith, first.count, second.count, length-append first.front second.front);
}

pub Appends-passed : {a b : Option (List ℕ)} {p q : Pending} {text : List ℕ} → p ≡ nothing_yet → Passes a b p q text → q.bytes ≡ [] → Appends a b text
Appends-passed {text = text} new passed none =
    rw (ap (λ (p : Pending). p.bytes ++ text) (sym new) ∙ passed.whole ∙ ap (λ l. passed.front ++ l) none ∙ append-nil passed.front) passed.appended

pub Breaks-more : {a b : Option (List ℕ)} {p : Pending} {xs : List ℕ} {written : ℕ} (more : List ℕ) → Breaks a b p xs written → Breaks a b p (xs ++ more) written
Breaks-more {p = p} {xs = xs} more broken = record {
  front = broken.front;
  rest = broken.rest ++ more;
  whole = sym (append_assoc p.bytes xs more) ∙ ap (λ l. l ++ more) broken.whole ∙ append_assoc broken.front broken.rest more;
  appended = broken.appended;
  count = broken.count;
}

pub Breaks-trans : {a b c : Option (List ℕ)} {p q : Pending} {xs ys : List ℕ} {written : ℕ} → Passes a b p q xs → Breaks b c q ys written → Breaks a c p (xs ++ ys) written
Breaks-trans {a} {b} {c} {p} {q} {xs} {ys} passed broken = record {
  front = passed.front ++ broken.front;
  rest = broken.rest;
  whole = sym (append_assoc p.bytes xs ys) ∙ ap (λ l. l ++ ys) passed.whole ∙ append_assoc passed.front q.bytes ys
      ∙ ap (λ l. passed.front ++ l) broken.whole ∙ sym (append_assoc passed.front broken.front broken.rest);
  appended = Appends-trans a b c passed.front broken.front passed.appended broken.appended;
  count = omega (arith, passed.count, broken.count, length-append passed.front broken.front);
}

pub AppendsFront-broken : {a b : Option (List ℕ)} {p : Pending} {text : List ℕ} {written : ℕ} → p ≡ nothing_yet → Breaks a b p text written → AppendsFront a b text written
AppendsFront-broken {text = text} new broken = record {
  front = broken.front;
  rest = broken.rest;
  whole = ap (λ (p : Pending). p.bytes ++ text) (sym new) ∙ broken.whole;
  appended = broken.appended;
  count = broken.count ∙ ap (λ (p : Pending). saturated (p.written + length broken.front)) new ∙ ap saturated (zero-add (length broken.front));
}

-- if a text was pushed into a new buffer and flushing fails, the sink took a first part of the text
pub AppendsFront-flushed : {a b : Option (List ℕ)} {p q : Pending} {text : List ℕ} (c : Option (List ℕ)) (r : Result (Unit {0}) WriteFault) → p ≡ nothing_yet → Passes a b p q text
    → IfErr r (λ fault. Breaks b c q [] (written_of fault)) → IfErr r (λ fault. AppendsFront a c text (written_of fault))
AppendsFront-flushed c (Ok x) new passed broken = tt
AppendsFront-flushed c (Err fault) new passed broken =
    let both = AppendsFront-broken new (Breaks-trans passed broken) in rw append-nil at both

pub Passes-waiting : (a : Option (List ℕ)) (p : Pending) (text : List ℕ) → Passes a a p (record { written = p.written; bytes = p.bytes ++ text }) text
Passes-waiting a p text = record {
  front = [];
  whole = refl;
  appended = Appends-nil a;
  count = ap saturated (sym (add-zero p.written));
}

pub Breaks-first : (a b : Option (List ℕ)) (p : Pending) (n : ℕ) → AppendsFirst a b p.bytes n → Breaks a b p [] (saturated (p.written + n))
Breaks-first a b p n put = record {
  front = take n p.bytes;
  rest = drop n p.bytes;
  whole = append-nil p.bytes ∙ sym (take-append-drop n p.bytes);
  appended = put.0;
  count = ap (λ k. saturated (p.written + k)) (sym (length-take-le n p.bytes put.1));
}

-- if flushing fails after a text was appended to the waiting bytes, the fault satisfies the condition for pushing the text
pub Breaks-pushed : (a b : Option (List ℕ)) (p : Pending) (text : List ℕ) (r : Result (Unit {0}) WriteFault)
    → IfErr r (λ fault. Breaks a b (record { written = p.written; bytes = p.bytes ++ text }) [] (written_of fault))
    → IfErr r (λ fault. Breaks a b p text (written_of fault))
Breaks-pushed a b p text (Ok x) broken = tt
Breaks-pushed a b p text (Err fault) broken = record {
  front = broken.front;
  rest = broken.rest;
  whole = sym (append-nil (p.bytes ++ text)) ∙ broken.whole;
  appended = broken.appended;
  count = broken.count;
}
