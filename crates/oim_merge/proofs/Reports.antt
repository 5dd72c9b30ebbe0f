-- Reports that are added one after another.
use Rattle.oim_merge.proofs.Shared.{◌≡◌, ◌+◌, ◌<◌, ℕ, suc, List, [], ◌∷◌, ◌++◌, take, get_or, length, append-nil, append_assoc, Ok, Err, refl, sym, ap, ◌∙◌, arith, length_push, take_more, flat_map-append, Refusal, Document, outcome, Sheet, Body, body, union, body_of_both, Added, StepsAreList, added, with_report, with_reports, document_in, accepted, merged, refusal_in, refused_from}

accepted_more : (sheet : Sheet) (reports : List (List ℕ)) (bytes : List ℕ) → accepted sheet (reports ++ bytes ∷ []) ≡ accepted sheet reports ++ document_in (outcome sheet bytes)
accepted_more sheet reports bytes =
    flat_map-append (λ b. document_in (outcome sheet b)) reports (bytes ∷ [])
    ∙ ap (λ ds. accepted sheet reports ++ ds) (append-nil (document_in (outcome sheet bytes)))

merged_more : (sheet : Sheet) (reports : List (List ℕ)) (bytes : List ℕ) → union (merged sheet reports) (body (document_in (outcome sheet bytes))) ≡ merged sheet (reports ++ bytes ∷ [])
merged_more sheet reports bytes =
    sym (body_of_both (accepted sheet reports) (document_in (outcome sheet bytes))) ∙ ap body (sym (accepted_more sheet reports bytes))

refused_more : (n : ℕ) (sheet : Sheet) (reports : List (List ℕ)) (bytes : List ℕ) → refused_from n sheet reports ++ refusal_in (length reports + n) (outcome sheet bytes) ≡ refused_from n sheet (reports ++ bytes ∷ [])
refused_more n sheet [] bytes =
    let same : 0 + n ≡ n = omega arith in
    ap (λ k. refusal_in k (outcome sheet bytes)) same ∙ sym (append-nil (refusal_in n (outcome sheet bytes)))
refused_more n sheet (b ∷ bs) bytes =
    let next : length (b ∷ bs) + n ≡ length bs + suc n = omega arith in
    ap (λ k. refused_from n sheet (b ∷ bs) ++ refusal_in k (outcome sheet bytes)) next
    ∙ append_assoc (refusal_in n (outcome sheet b)) (refused_from (suc n) sheet bs) (refusal_in (length bs + suc n) (outcome sheet bytes))
    ∙ ap (λ rs. refusal_in n (outcome sheet b) ++ rs) (refused_more (suc n) sheet bs bytes)

pub same_added : {sheet : Sheet} {b c : Body} {r s : List (ℕ × Refusal)} {n m : ℕ} → b ≡ c → r ≡ s → n ≡ m → ◌≡◌ {A = Added} (record { sheet = sheet; body = b; refusals = r; reports = n }) (record { sheet = sheet; body = c; refusals = s; reports = m })
same_added {sheet} p q e = λ i. record { sheet = sheet; body = p i; refusals = q i; reports = e i }

pub added_more : (sheet : Sheet) (reports : List (List ℕ)) (bytes : List ℕ) → with_report (added sheet reports) bytes ≡ added sheet (reports ++ bytes ∷ [])
added_more sheet reports bytes = same_added (merged_more sheet reports bytes) (refused_more 1 sheet reports bytes) (sym (length_push reports bytes))

added_then : (sheet : Sheet) (reports others : List (List ℕ)) → with_reports (added sheet reports) others ≡ added sheet (reports ++ others)
added_then sheet reports [] = sym (ap (added sheet) (append-nil reports))
added_then sheet reports (bytes ∷ others) =
    ap (λ a. with_reports a others) (added_more sheet reports bytes)
    ∙ added_then sheet (reports ++ bytes ∷ []) others
    ∙ ap (added sheet) (append_assoc reports (bytes ∷ []) others)

pub steps_are_list : StepsAreList
steps_are_list sheet reports = added_then sheet [] reports

-- the added reports, followed by the remaining ones, are all reports
pub record HasAdded (sheet : Sheet) (a : Added) (left all : List (List ℕ)) : Type 0 where
  pub done : List (List ℕ)
  pub is : a ≡ added sheet done
  pub whole : done ++ left ≡ all

pub has_added_more : (sheet : Sheet) (bytes : List ℕ) (later left all : List (List ℕ)) (a new : Added) → left ≡ bytes ∷ later → new ≡ with_report a bytes → HasAdded sheet a left all → HasAdded sheet new later all
has_added_more sheet bytes later left all a new first is before = record {
  done = before.done ++ bytes ∷ [];
  is = is ∙ ap (λ b. with_report b bytes) before.is ∙ added_more sheet before.done bytes;
  whole = append_assoc before.done (bytes ∷ []) later ∙ ap (λ l. before.done ++ l) (sym first) ∙ before.whole;
}

pub list_step : (sheet : Sheet) (reports : List (List ℕ)) (i : ℕ) (r bytes : List ℕ) (a new : Added) → i < length reports → r ≡ get_or reports i r → bytes ≡ r → new ≡ with_report a bytes → a ≡ added sheet (take i reports) → new ≡ added sheet (take (i + 1) reports)
list_step sheet reports i r bytes a new within at read stepped is =
    stepped ∙ (λ k. with_report (is k) (read k)) ∙ added_more sheet (take i reports) r
    ∙ ap (added sheet) (ap (λ b. take i reports ++ b ∷ []) at ∙ sym (take_more reports i r within))

-- the step for an accepted report, and for a refused one
pub accepted_step : (sheet : Sheet) (bytes : List ℕ) (d : Document) (old new : Body) (returned : List (ℕ × Refusal)) (n : ℕ) → outcome sheet bytes ≡ Ok d → new ≡ union old (body (d ∷ [])) →
    ◌≡◌ {A = Added} (record { sheet = sheet; body = new; refusals = returned; reports = n + 1 }) (with_report (record { sheet = sheet; body = old; refusals = returned; reports = n }) bytes)
accepted_step sheet bytes d old new returned n o is = same_added
    (is ∙ ap (λ x. union old (body (document_in x))) (sym o))
    (sym (append-nil returned) ∙ ap (λ x. returned ++ refusal_in (n + 1) x) (sym o))
    refl

pub refused_step : (sheet : Sheet) (bytes : List ℕ) (r : Refusal) (old : Body) (returned more : List (ℕ × Refusal)) (n : ℕ) → outcome sheet bytes ≡ Err r → old ≡ union old (body []) → more ≡ returned ++ (n + 1, r) ∷ [] →
    ◌≡◌ {A = Added} (record { sheet = sheet; body = old; refusals = more; reports = n + 1 }) (with_report (record { sheet = sheet; body = old; refusals = returned; reports = n }) bytes)
refused_step sheet bytes r old returned more n o is appended = same_added
    (is ∙ ap (λ x. union old (body (document_in x))) (sym o))
    (appended ∙ ap (λ x. returned ++ refusal_in (n + 1) x) (sym o))
    refl
