-- The facts that were read so far, with one more.
use Rattle.oim_report.proofs.Shared.{◌≡◌, ℕ, List, [], ◌∷◌, ◌++◌, Ok, Global, String, string_bytes, string_cmp, refl, sym, ap, subst, insert_entry, Binding, Fact, Data, Members, no_members, member, put, fact_outcome, HasMember, put_all, Sheet, AreMore, AreSoFar, append, AreFound, AreJudged, IsJudged, IsRank, FactsSoFar, Judgement}
use Rattle.oim_report.specs.declared.pieces.facts_so_far.FactsSoFar.TheVariants.{Accepted, Refused}
use Rattle.oim_report.specs.declared.pieces.found_facts.FoundFacts.{FoundFacts}
use Rattle.oim_report.specs.declared.pieces.judgements.Judgements.{Judgements}
use Rattle.oim_report.proofs.FoundInOrder.{found_by, found_one, ranked_by, ranks_append}
use Rattle.oim_report.proofs.Judged.{judged_put}
use Rattle.oim_report.proofs.PiecesInTurn.{put_append}

pub append_append : (ms ns more : Members) → append (append ms ns) more ≡ append ms (append ns more)
append_append no_members ns more = refl
append_append (member k d ms) ns more = ap (member k d) (append_append ms ns more)

pub append_none : (ms : Members) → append ms no_members ≡ ms
append_none no_members = refl
append_none (member k d ms) = ap (member k d) (append_none ms)

pub has_one_more : (ms : Members) (k : List ℕ) (d : Data) → HasMember (append ms (member k d no_members))
has_one_more no_members k d = tt
has_one_more (member l e ms) k d = tt

module _ (sheet : Sheet) (bs : List Binding) where
  pub none_more : (facts : FactsSoFar) → AreMore sheet bs no_members facts facts
  none_more facts = λ ms h. subst (λ ns. AreSoFar sheet bs ns facts) (sym (append_none ms)) h

  pub both_more : (ms ns : Members) (old now new : FactsSoFar) → AreMore sheet bs ms old now → AreMore sheet bs ns now new → AreMore sheet bs (append ms ns) old new
  both_more ms ns old now new h k = λ before are. subst (λ l. AreSoFar sheet bs l new) (append_append before ms ns) (k (append before ms) (h before are))

  pub accepted_more : (k : List ℕ) (d : Data) (fact : Fact) (rank : ℕ) (old new : FoundFacts) → new.identifiers ≡ old.identifiers ++ k ∷ [] → new.facts.items ≡ old.facts.items ++ fact ∷ [] → new.ranks.items ≡ old.ranks.items ++ rank ∷ []
      → fact_outcome sheet bs d ≡ Ok fact → IsRank sheet.concepts fact.dimensions.concept rank → AreMore sheet bs (member k d no_members) (Accepted old) (Accepted new)
  accepted_more k d fact rank old new ids facts ranks said is = λ ms h. (
    found_by sheet bs (append ms (member k d no_members)) _ _ _ _ ids facts (found_one sheet bs ms _ _ k d fact h.0 said),
    ranked_by sheet.concepts _ _ _ _ facts ranks (ranks_append sheet.concepts _ (fact ∷ []) _ (rank ∷ []) h.1 (is, tt)),
  )

  pub judged_more : (k : List ℕ) (d : Data) (s : String Global) (j : Judgement) (old new : Judgements) → string_bytes s ≡ k → new.by_identifier.entries ≡ insert_entry string_cmp old.by_identifier.entries s j → IsJudged (fact_outcome sheet bs d) j
      → AreMore sheet bs (member k d no_members) (Refused old) (Refused new)
  judged_more k d s j old new key stored is = λ ms h.
      subst (λ ns. AreJudged sheet bs ns new.by_identifier.entries) (sym (put_append ms (member k d no_members) no_members))
      (subst (AreJudged sheet bs (put k d (put_all ms no_members))) (sym stored) (judged_put sheet bs k d s j (put_all ms no_members) old.by_identifier.entries key is h))

  pub refused_more : (more : Members) (found : FoundFacts) (all : Judgements) (new : FactsSoFar) → ((ms : Members) → AreFound sheet bs ms found.identifiers found.facts.items → AreJudged sheet bs (put_all ms no_members) all.by_identifier.entries)
      → AreMore sheet bs more (Refused all) new → AreMore sheet bs more (Accepted found) new
  refused_more more found all new judged h = λ ms are. h ms (judged ms are.0)
