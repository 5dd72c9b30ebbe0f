-- The text of the member `facts`.
use Rattle.oim_report.proofs.Shared.{ℕ, List, [], ◌∷◌, ◌++◌, facts_key}

-- the member `facts`, with white space where JSON allows it
abbrev pub facts_text : List ℕ → List ℕ → List ℕ → List ℕ → List ℕ
facts_text s3 s4 facts s5 = facts_key ++ (s3 ++ 58 ∷ (s4 ++ 123 ∷ (facts ++ (s5 ++ 125 ∷ []))))
