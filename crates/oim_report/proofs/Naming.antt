-- The function `named_as` agrees with the relation `ExpandsAs`.
use Rattle.oim_report.proofs.Shared.{◌≡◌, ◌≢◌, ◌⊎◌, inl, inr, ℕ, List, Bool, true, false, refl, sym, ap, subst, ◌↔◌, if◌then◌else◌, IsTrue, Option, Some, None, option_and_then, bytes_eq, QName, local_part, prefix_part, Binding, uri_of, ExpandsAs, reserved_uri, Reason, OutOfMemory, other_bytes, bytes_not_eq, in_namespace, named_as}

pub expanded : (has_form : List ℕ → Bool) (bs : List Binding) (t : List ℕ) (n : QName) → ExpandsAs has_form bs t n → named_as has_form bs t ≡ Some n
expanded has_form bs t n e =
    let free : bytes_eq n.uri reserved_uri ≡ false = bytes_not_eq n.uri reserved_uri e.allowed in
    rw (e.form, e.uri, free) (λ i. Some (record { uri = n.uri; local_part = sym e.local_part i }))

-- the name of a well-formed text consists of the prefix's URI, which is not reserved, and the text's local part
record IsMade (formed : Bool) (found : Option (List ℕ)) (t : List ℕ) (n : QName) : Type 0 where
  form : IsTrue formed
  uri : found ≡ Some n.uri
  allowed : n.uri ≢ reserved_uri
  part : n.local_part ≡ local_part t

in_allowed : (u t : List ℕ) (n : QName) → in_namespace u t ≡ Some n → (u ≡ n.uri) × (u ≢ reserved_uri) × (n.local_part ≡ local_part t)
in_allowed u t n h =
    elim (bytes_eq u reserved_uri) as (λ b. bytes_eq u reserved_uri ≡ b → (if b then None else Some (record { uri = u; local_part = local_part t })) ≡ Some n → (u ≡ n.uri) × (u ≢ reserved_uri) × (n.local_part ≡ local_part t)) [
      | true ↦ λ same k. absurd (cc)
      | false ↦ λ other k.
          let is : record { uri = u; local_part = local_part t } ≡ n = cc in
          (ap (λ (m : QName). m.uri) is, other_bytes u reserved_uri other, sym (ap (λ (m : QName). m.local_part) is))
    ] refl h

made : (form : Bool) (uri : Option (List ℕ)) (t : List ℕ) (n : QName) → (if form then option_and_then (λ u. in_namespace u t) uri else None) ≡ Some n → IsMade form uri t n
made true (Some u) t n h =
    let is = in_allowed u t n h in
    record { form = refl; uri = ap Some is.0; allowed = subst (λ v. v ≢ reserved_uri) is.0 is.1; part = is.2 }
made form uri t n h = absurd (cc)

pub stands : (has_form : List ℕ → Bool) (bs : List Binding) (t : List ℕ) (n : QName) → named_as has_form bs t ≡ Some n → ExpandsAs has_form bs t n
stands has_form bs t n h =
    let is = made (has_form t) (uri_of bs (prefix_part t)) t n h in
    record { form = is.form; uri = is.uri; allowed = is.allowed; local_part = is.part }

pub named_exactly : (has_form : List ℕ → Bool) (bs : List Binding) (t : List ℕ) (n : QName) → (named_as has_form bs t ≡ Some n) ↔ ExpandsAs has_form bs t n
named_exactly has_form bs t n = (stands has_form bs t n, expanded has_form bs t n)

pub only_memory : (refusal : Option Reason) (r : Reason) → refusal ≡ None → (r ≡ OutOfMemory) ⊎ (refusal ≡ Some r) → r ≡ OutOfMemory
only_memory refusal r none (inl memory) = memory
only_memory refusal r none (inr refused) = absurd (cc)
