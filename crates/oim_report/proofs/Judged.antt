-- The judgements of facts, and the first refused fact.
use Rattle.oim_report.proofs.Shared.{◌≡◌, ℕ, ◌+◌, List, [], ◌∷◌, ◌++◌, Result, Err, map, String, Global, string_bytes, string_cmp, refl, ap, ◌∙◌, insert_entry, Binding, Reason, Fact, Data, Members, no_members, member, put, Judgement, AtFact, Refusal, values, at, all_or_first, fact_outcome, put_all, map_ok, Sheet, AreFound, AreJudged, IsJudged}
use Rattle.oim_report.specs.declared.pieces.judgement.Judgement.TheVariants.{Accepted, Refused}
use Rattle.oim_report.proofs.FoundInOrder.{kept_put}

-- the entries after accepted facts with these identifiers
abbrev pub put_accepted : List (String Global) → List (String Global × Judgement) → List (String Global × Judgement)
put_accepted [] es = es
put_accepted (s ∷ ss) es = put_accepted ss (insert_entry string_cmp es s Accepted)

pub accepted_one : (ss : List (String Global)) (s : String Global) (es : List (String Global × Judgement)) → put_accepted (ss ++ s ∷ []) es ≡ insert_entry string_cmp (put_accepted ss es) s Accepted
accepted_one [] s es = refl
accepted_one (t ∷ ss) s es = accepted_one ss s (insert_entry string_cmp es t Accepted)

module _ (sheet : Sheet) (bs : List Binding) where
  pub judged_put : (k : List ℕ) (d : Data) (s : String Global) (j : Judgement) (ms : Members) (es : List (String Global × Judgement)) → string_bytes s ≡ k → IsJudged (fact_outcome sheet bs d) j → AreJudged sheet bs ms es
      → AreJudged sheet bs (put k d ms) (insert_entry string_cmp es s j)
  judged_put k d s j ms es e o h = kept_put (λ d j. IsJudged (fact_outcome sheet bs d) j) (λ j. j) k d s j ms es e o h

  pub accepted_put : (ms onto : Members) (ss : List (String Global)) (fs : List Fact) (es : List (String Global × Judgement)) → AreFound sheet bs ms (map string_bytes ss) fs → AreJudged sheet bs onto es → AreJudged sheet bs (put_all ms onto) (put_accepted ss es)
  accepted_put no_members onto [] [] es h k = k
  accepted_put (member l d ms) onto (s ∷ ss) (f ∷ fs) es h k =
      accepted_put ms (put l d onto) ss fs (insert_entry string_cmp es s Accepted) h.2 (judged_put l d s Accepted onto es h.0 (f, h.1) k)
  accepted_put ms onto ss fs es h k = absurd h

  -- ---- the first refused fact

  abbrev outcomes : Members → List (Result Fact Reason)
  outcomes ms = map (fact_outcome sheet bs) (values ms)

  -- the members of the entries that follow an accepted fact
  pub record AreLater (n : ℕ) (ms : Members) (es : List (String Global × Judgement)) : Type 0 where
    pub later : Members
    pub are : AreJudged sheet bs later es
    pub refuse : (r : Refusal) → all_or_first (n + 1) (outcomes later) ≡ Err r → all_or_first n (outcomes ms) ≡ Err r

  pub accepted_first : (n : ℕ) (ms : Members) (s : String Global) (es : List (String Global × Judgement)) → AreJudged sheet bs ms ((s, Accepted) ∷ es) → AreLater n ms es
  accepted_first n no_members s es h = absurd h
  accepted_first n (member k d ms) s es h = record {
    later = ms;
    are = h.2;
    refuse = λ r later. ap (λ o. all_or_first n (o ∷ outcomes ms)) h.1.1 ∙ ap (map_ok (λ fs. h.1.0 ∷ fs)) later;
  }

  -- the first member denotes no fact
  pub record IsRefused (n : ℕ) (ms : Members) (reason : Reason) : Type 0 where
    pub object : Data
    pub refused : fact_outcome sheet bs object ≡ Err reason
    pub first : all_or_first n (outcomes ms) ≡ Err (at (AtFact n) reason)

  pub refused_first : (n : ℕ) (ms : Members) (s : String Global) (reason : Reason) (es : List (String Global × Judgement)) → AreJudged sheet bs ms ((s, Refused reason) ∷ es) → IsRefused n ms reason
  refused_first n no_members s reason es h = absurd h
  refused_first n (member k d ms) s reason es h = record { object = d; refused = h.1; first = ap (λ o. all_or_first n (o ∷ outcomes ms)) h.1 }
