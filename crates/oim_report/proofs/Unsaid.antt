-- If the code cannot read a part of a fact object, and no request for memory was refused, the part denotes nothing.
use Rattle.oim_report.proofs.Shared.{◌≡◌, ◌⊎◌, inl, inr, ⊎_elim, ℕ, ℤ, List, Bool, true, false, not, ◌&&◌, cond, Ok, refl, sym, ap, ◌∙◌, Option, Some, None, IsTrue, if◌then◌else◌, option_and_then, option_map, not-false, Binding, entity_refusal, name_refusal, refusal_as, is_entity, is_name, Reason, NumberForm, NumberDigits, named_kept, is_number, is_short, number_refusal, units_of, Value, Number, is_language, unit_refusal, Fact, not_refused, Data, ConceptKind, Numeric, DimensionMembers, FactMembers, HasForm, fact_parts, holds, text, least, named, named_as, fact_outcome, fact_of, said_entity, said_fact, said_language, said_unit, text_said, Sheet, Unread}
use Rattle.oim_names.specs.declared.reason.Reason.TheVariants as reasons
use Rattle.oim_report.specs.declared.unread.Unread.TheVariants.{OutOfMemory}
use Rattle.oim_report.proofs.Accepted.{ok_or}
use Rattle.oim_report.proofs.FreeMembers.{language_free}
use Rattle.oim_report.proofs.Naming.{stands}
use Rattle.oim_report.proofs.UnitSays.{unit_says}

abbrev pub Stops : {A : Type 0} → Option A → Unread → Type 0
Stops said e = (e ≡ OutOfMemory) ⊎ (said ≡ None)

pub none_unless : {A : Type 0} (o : Option A) → ((a : A) → o ≡ Some a → ⊥) → o ≡ None
none_unless None never = refl
none_unless (Some a) never = absurd (never a refl)

-- ---- names, entities, units and languages

unnamed_as : (has_form : List ℕ → Bool) (bs : List Binding) (t : List ℕ) (r : Reason) → refusal_as has_form bs t ≡ Some r → named_as has_form bs t ≡ None
unnamed_as has_form bs t r refused = none_unless (named_as has_form bs t) (λ n e. let none = sym (named_kept has_form bs t n (stands has_form bs t n e)) ∙ refused in cc)

pub unnamed : (bs : List Binding) (t : List ℕ) (r : Reason) (e : Unread) → (r ≡ reasons.OutOfMemory → e ≡ OutOfMemory) → (r ≡ reasons.OutOfMemory) ⊎ (name_refusal bs t ≡ Some r) → Stops (named bs t) e
unnamed bs t r e passes stops = ⊎_elim (λ memory. inl (passes memory)) (λ refused. inr (unnamed_as is_name bs t r refused)) stops

pub entity_unsaid : (bs : List Binding) (t : List ℕ) (r : Reason) (e : Unread) → (r ≡ reasons.OutOfMemory → e ≡ OutOfMemory) → (r ≡ reasons.OutOfMemory) ⊎ (entity_refusal bs t ≡ Some r) → Stops (said_entity bs (text t)) e
entity_unsaid bs t r e passes stops = ⊎_elim (λ memory. inl (passes memory)) (λ refused. inr (ap (option_map Some) (unnamed_as is_entity bs t r refused))) stops

pub unit_unsaid : (bs : List Binding) (kind : ConceptKind) (t : List ℕ) (r : Reason) (e : Unread) → (r ≡ reasons.OutOfMemory → e ≡ OutOfMemory) → (r ≡ reasons.OutOfMemory) ⊎ (unit_refusal bs t ≡ Some r) → Stops (said_unit bs kind (text t)) e
unit_unsaid bs kind t r e passes stops =
    ⊎_elim (λ memory. inl (passes memory))
    (λ refused. inr (none_unless (said_unit bs kind (text t)) (λ u says. let none = sym (not_refused bs t u (unit_says bs kind (text t) u says)) ∙ refused in cc)))
    stops

pub language_unsaid : (kind : ConceptKind) (t : List ℕ) → ¬ (IsTrue (is_language t)) → said_language kind (text t) ≡ None
language_unsaid kind t never = none_unless (said_language kind (text t)) (λ l e. never (not-false (is_language t) (language_free kind (text t) l e).form))

number_if : (number short : Bool) (v : Value) (r : Reason) → cond (not number) (Some NumberForm) (cond (not short) (Some NumberDigits) None) ≡ Some r → (if number && short then Some v else None) ≡ None
number_if false short v r e = refl
number_if true false v r e = refl
number_if true true v r e = absurd (cc)

pub number_unsaid : (bs : List Binding) (kind : ConceptKind) (places : Option ℤ) (t : List ℕ) (r : Reason) → kind ≡ Numeric → number_refusal t ≡ Some r → text_said bs kind places t ≡ None
number_unsaid bs kind places t r numeric refused =
    ap (λ k. text_said bs k places t) numeric ∙ number_if (is_number t) (is_short t) (Number (units_of t) places) r refused

-- ---- the dimensions and the fact

pub fact_unsaid : (sheet : Sheet) (bs : List Binding) (d : Data) (p : FactMembers) (ds : DimensionMembers) (f : Fact) → fact_parts d ≡ Some p → HasForm p ds → fact_of sheet bs p ds ≡ None → fact_outcome sheet bs d ≡ Ok f → ⊥
fact_unsaid sheet bs d p ds f are form none said =
    let some = ok_or (least (holds sheet bs d)) (option_and_then (said_fact sheet bs) (fact_parts d)) f said in
    let no : None ≡ Some f = sym (ap (option_and_then (said_fact sheet bs)) are ∙ ap (option_and_then (fact_of sheet bs p)) form.there ∙ none) ∙ some in
    cc
