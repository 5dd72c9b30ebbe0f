-- The prefix that is found for a URI is bound to that URI.
use Rattle.oim_dims.proofs.Shared.{◌≡◌, ◌≢◌, ℕ, suc, true, false, cond, List, [], ◌∷◌, refl, sym, ap, ◌∙◌, arith, Some, All, AllPairs, option_map, find, bytes_eq, Binding, uri_of, prefix_of, same_bytes, bytes_eq-refl, bytes_not_eq}

differs : (bs : List Binding) (p u k : List ℕ) → uri_of bs p ≡ Some u → All (λ b. k ≢ b.prefix) bs → k ≢ p
differs [] p u k e each = absurd (cc)
differs (b ∷ bs) p u k e each =
    elim (bytes_eq b.prefix p) as (λ t. bytes_eq b.prefix p ≡ t → option_map (λ (a : Binding). a.uri) (cond t (Some b) (find (λ a. bytes_eq a.prefix p) bs)) ≡ Some u → k ≢ p) [
      | true ↦ λ same h. λ is. each 0 b (omega arith) (is ∙ sym (same_bytes b.prefix p same))
      | false ↦ λ other h. differs bs p u k h (λ j d less. each (suc j) d (omega arith))
    ] refl e

pub bound_back : (bs : List Binding) (p u : List ℕ) → AllPairs (λ a b. a.prefix ≢ b.prefix) bs → prefix_of bs u ≡ Some p → uri_of bs p ≡ Some u
bound_back [] p u distinct e = absurd (cc)
bound_back (b ∷ bs) p u distinct e =
    elim (bytes_eq b.uri u) as (λ t. bytes_eq b.uri u ≡ t → option_map (λ (a : Binding). a.prefix) (cond t (Some b) (find (λ a. bytes_eq a.uri u) bs)) ≡ Some p → uri_of (b ∷ bs) p ≡ Some u) [
      | true ↦ λ same h.
          let is : b.prefix ≡ p = cc in
          let here : bytes_eq b.prefix p ≡ true = rw is (bytes_eq-refl p) in
          rw here (ap Some (same_bytes b.uri u same))
      | false ↦ λ other h.
          let rest = bound_back bs p u (λ i j d less within. distinct (suc i) (suc j) d (omega arith) (omega arith)) h in
          let ne : b.prefix ≢ p = differs bs p u b.prefix rest (λ j d less. distinct 0 (suc j) d (omega arith) (omega arith)) in
          let there : bytes_eq b.prefix p ≡ false = bytes_not_eq b.prefix p ne in
          rw there rest
    ] refl e
