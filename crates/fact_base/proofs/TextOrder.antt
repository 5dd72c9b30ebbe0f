-- The order of texts.
use Rattle.fact_base.proofs.Shared.{◌≡◌, ℕ, List, IsTotalOrder, Equal, nat_list_cmp_total, text_cmp}
use Rattle.std.proofs.lemmas.Map.Lookups.{exact_bytes}

pub text_cmp_exact : (x y : List ℕ) → text_cmp x y ≡ Equal → x ≡ y
text_cmp_exact = exact_bytes

pub text_cmp_total : IsTotalOrder text_cmp
text_cmp_total = nat_list_cmp_total
