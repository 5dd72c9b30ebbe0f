-- A name or an entity is refused for a reason exactly if the test for that reason holds.
use Rattle.oim_names.proofs.Shared.{◌≡◌, ℕ, List, Bool, true, false, not, ◌&&◌, refl, Option, Some, None, is_none, if◌then◌else◌, option_eq, option_map_or, bytes_eq, prefix_part, Binding, uri_of, prefix_refusal, refusal_as, refuses, reserved_uri, Spelled, Reason, NameForm, UnboundPrefix, ReservedNamespace}
use Rattle.oim_names.specs.contracts.reason.ReasonPartialEq.TheImpl.{eq-value as same_reason}

-- whether a text is refused for this reason; `form`: the text has the form; `uri`: the URI that its prefix is bound to, if any
abbrev refuses_so : Reason → Bool → Option (List ℕ) → Bool
refuses_so NameForm form uri = not form
refuses_so UnboundPrefix form uri = form && is_none uri
refuses_so ReservedNamespace form uri = form && option_map_or (λ u. bytes_eq u reserved_uri) uri false
refuses_so r form uri = false

told_so : (r : Reason) (form : Bool) (uri : Option (List ℕ)) → option_eq same_reason.it (if form then prefix_refusal uri else Some NameForm) (Some r) ≡ refuses_so r form uri
told_so NameForm true (Some u) = elim (bytes_eq u reserved_uri) as (λ b. option_eq same_reason.it (if b then Some ReservedNamespace else None) (Some NameForm) ≡ false) [ true ↦ refl | false ↦ refl ]
told_so UnboundPrefix true (Some u) = elim (bytes_eq u reserved_uri) as (λ b. option_eq same_reason.it (if b then Some ReservedNamespace else None) (Some UnboundPrefix) ≡ false) [ true ↦ refl | false ↦ refl ]
told_so ReservedNamespace true (Some u) = elim (bytes_eq u reserved_uri) as (λ b. option_eq same_reason.it (if b then Some ReservedNamespace else None) (Some ReservedNamespace) ≡ b) [ true ↦ refl | false ↦ refl ]
told_so r true (Some u) = elim (bytes_eq u reserved_uri) as (λ b. option_eq same_reason.it (if b then Some ReservedNamespace else None) (Some r) ≡ false) [ true ↦ refl | false ↦ refl ]
told_so r b uri = refl

pub told : (r : Reason) (bs : List Binding) (n : Spelled) → option_eq same_reason.it (refusal_as n.has_form bs n.text) (Some r) ≡ refuses r bs n
told NameForm bs n = told_so NameForm (n.has_form n.text) (uri_of bs (prefix_part n.text))
told UnboundPrefix bs n = told_so UnboundPrefix (n.has_form n.text) (uri_of bs (prefix_part n.text))
told ReservedNamespace bs n = told_so ReservedNamespace (n.has_form n.text) (uri_of bs (prefix_part n.text))
told r bs n = told_so r (n.has_form n.text) (uri_of bs (prefix_part n.text))
