-- The facts of a report, read one after another.
use Rattle.oim_report.proofs.Shared.{◌≡◌, ℕ, ◌+◌, List, [], ◌∷◌, ◌++◌, map, Result, Ok, Err, append_assoc, append-nil, refl, sym, ap, ◌∙◌, Reason, Data, Fact, AtFact, Refusal, at, all_or_first, map_ok}

abbrev pub facts_step : ℕ → List Fact → Result Fact Reason → (ℕ → List Fact → Result (List Fact) Refusal) → Result (List Fact) Refusal
facts_step n done (Ok fact) more = more (n + 1) (done ++ fact ∷ [])
facts_step n done (Err reason) more = Err (at (AtFact n) reason)

-- the facts so far and the facts of further objects, or the first refusal; the next object has the number n
abbrev pub facts_after : (Data → Result Fact Reason) → ℕ → List Fact → List Data → Result (List Fact) Refusal
facts_after read n done [] = Ok done
facts_after read n done (d ∷ ds) = facts_step n done (read d) (λ m more. facts_after read m more ds)

joined : (done : List Fact) (fact : Fact) (o : Result (List Fact) Refusal) → map_ok (λ fs. (done ++ fact ∷ []) ++ fs) o ≡ map_ok (λ fs. done ++ fs) (map_ok (λ fs. fact ∷ fs) o)
joined done fact (Ok fs) = ap Ok (append_assoc done (fact ∷ []) fs)
joined done fact (Err e) = refl

step_both : (n : ℕ) (done : List Fact) (o : Result Fact Reason) (more : ℕ → List Fact → Result (List Fact) Refusal) (os : List (Result Fact Reason))
    → ((fact : Fact) → more (n + 1) (done ++ fact ∷ []) ≡ map_ok (λ fs. (done ++ fact ∷ []) ++ fs) (all_or_first (n + 1) os))
    → facts_step n done o more ≡ map_ok (λ fs. done ++ fs) (all_or_first n (o ∷ os))
step_both n done (Ok fact) more os then = then fact ∙ joined done fact (all_or_first (n + 1) os)
step_both n done (Err reason) more os then = refl

facts_after_all : (read : Data → Result Fact Reason) (n : ℕ) (done : List Fact) (ds : List Data) → facts_after read n done ds ≡ map_ok (λ fs. done ++ fs) (all_or_first n (map read ds))
facts_after_all read n done [] = ap Ok (sym (append-nil done))
facts_after_all read n done (d ∷ ds) = step_both n done (read d) (λ m more. facts_after read m more ds) (map read ds) (λ fact. facts_after_all read (n + 1) (done ++ fact ∷ []) ds)

same_ok : (o : Result (List Fact) Refusal) → map_ok (λ fs. [] ++ fs) o ≡ o
same_ok (Ok fs) = refl
same_ok (Err e) = refl

pub all_facts : (read : Data → Result Fact Reason) (ds : List Data) → facts_after read 1 [] ds ≡ all_or_first 1 (map read ds)
all_facts read ds = facts_after_all read 1 [] ds ∙ same_ok (all_or_first 1 (map read ds))
