-- A verdict line depends on the identifiers of its facts, and on no other identifiers.
use Rattle.std.proofs.Common.{◌≡◌, ℕ, ◌-◌, ◌<◌, List, [], ◌∷◌, ◌++◌, length, codes, refl, arith}
use Rattle.std.specs.Fmt.{decimal}
use Rattle.fact_base.specs.declared.evidence.Evidence.{Evidence}
use Rattle.fact_base.specs.declared.evidence.Evidence.TheVariants.{Alike, Common, Apart}
use Rattle.oim_merge.specs.Lines.{evidence_text, line_text}
use Rattle.oim_merge.specs.Judged.{DependsOnItsNames}
use Rattle.oim_merge.specs.Identifiers.{HasIndices}

same_evidence : (name other : ℕ → List ℕ) (n : ℕ) → ((i : ℕ) → i < n → name i ≡ other i) → (e : Evidence) → HasIndices n e → evidence_text name e ≡ evidence_text other e
same_evidence name other n same Alike within = refl
same_evidence name other n same (Common c) within = refl
same_evidence name other n same (Apart i j) within = λ k. codes "inconsistent apart " ++ (same i within.0 k ++ 32 ∷ same j within.1 k)

pub same_line : DependsOnItsNames line_text
same_line name other number r e some within same =
    let last : length r.1 - 1 < length r.1 = omega (arith, some) in
    λ k. decimal number ++ 32 ∷ (same 0 some k ++ 32 ∷ (same (length r.1 - 1) last k ++ 32 ∷ (same_evidence name other (length r.1) same e within k ++ 10 ∷ [])))
