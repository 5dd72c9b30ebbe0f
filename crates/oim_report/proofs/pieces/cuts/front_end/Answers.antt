use Rattle.oim_report.proofs.Shared.{◌≡◌, ℕ, zero, suc, ◌+◌, ◌<◌, true, List, [], ◌∷◌, length, take, get_or, sym, subst, ◌∙◌, arith, is_space, AreSpaces}
use Rattle.oim_report.proofs.pieces.cuts.front_end.Goals as goal

one_more : (xs : List ℕ) (n d : ℕ) → n < length xs → AreSpaces (take n xs) → is_space (get_or xs n d) ≡ true → AreSpaces (take (suc n) xs)
one_more [] n d l h s = absurd (omega (arith, l))
one_more (x ∷ xs) zero d l h s = (s, tt)
one_more (x ∷ xs) (suc n) d l h s = (h.0, one_more xs n d (omega (arith, l)) h.1 s)

one_space : (xs : List ℕ) (n d : ℕ) → n < length xs → AreSpaces (take n xs) → is_space (get_or xs n d) ≡ true → AreSpaces (take (n + 1) xs)
one_space xs n d l h s = let same : suc n ≡ n + 1 = omega arith in subst (λ m. AreSpaces (take m xs)) same (one_more xs n d l h s)

pub loop-at-preserved : goal.loop-at-preserved
loop-at-preserved c = (omega arith, one_space c.args.bytes.now c.loop-at.at _ c.loop-at-test.true c.loop-at.invariant.1 (sym c.is_space.ensures ∙ c.if-not-is_space.false))
