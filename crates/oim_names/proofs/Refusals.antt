-- A text is refused exactly if it does not expand to a name. The refusal is the reason whose test holds.
use Rattle.oim_names.proofs.Shared.{◌≡◌, ◌≢◌, ◌↔◌, ℕ, List, Bool, true, false, refl, sym, ◌∙◌, ap, Option, Some, None, is_none, IsTrue, not, ◌&&◌, if◌then◌else◌, option_map_or, bytes_eq, QName, prefix_part, local_part, Binding, uri_of, ExpandsAs, reserved_uri, refusal_as, NamesUnlessRefused, NamesOne, FormIsTested, PrefixIsTested, NamespaceIsTested, Reason, NameForm, UnboundPrefix, ReservedNamespace}
use Rattle.oim_names.proofs.Bytes.{other_bytes, bytes_not_eq}

-- the refusal in terms of three tests: the text has the form, the prefix is not bound, the URI is reserved
abbrev pub by_tests : Bool → Bool → Bool → Option Reason
by_tests form unbound reserved =
    if form then (if unbound then Some UnboundPrefix else (if reserved then Some ReservedNamespace else None)) else Some NameForm

pub passed : (a b c : Bool) → by_tests a b c ≡ None → (a ≡ true) × (b ≡ false) × (c ≡ false)
passed true false false h = (refl, refl, refl)
passed b c other h = absurd (cc)

there : (u : Option (List ℕ)) → is_none u ≡ false → option_map_or (λ v. bytes_eq v reserved_uri) u false ≡ false → (v : List ℕ) × (u ≡ Some v) × (v ≢ reserved_uri)
there None h k = absurd (cc)
there (Some v) h k = (v, refl, other_bytes v reserved_uri k)

pub named_kept : (has_form : List ℕ → Bool) (bs : List Binding) (t : List ℕ) (n : QName) → ExpandsAs has_form bs t n → refusal_as has_form bs t ≡ None
named_kept has_form bs t n e =
    let differs : bytes_eq n.uri reserved_uri ≡ false = bytes_not_eq n.uri reserved_uri e.allowed in
    rw (e.form, e.uri, differs) refl

pub kept_named : (has_form : List ℕ → Bool) (bs : List Binding) (t : List ℕ) → refusal_as has_form bs t ≡ None → (n : QName) × ExpandsAs has_form bs t n
kept_named has_form bs t none =
    let tests = passed (has_form t) (is_none (uri_of bs (prefix_part t))) (option_map_or (λ v. bytes_eq v reserved_uri) (uri_of bs (prefix_part t)) false) none in
    let bound = there (uri_of bs (prefix_part t)) tests.1 tests.2 in
    (record { uri = bound.0; local_part = local_part t }, record { form = tests.0; uri = bound.1; allowed = bound.2; local_part = refl })

pub names_unless_refused : (has_form : List ℕ → Bool) → NamesUnlessRefused has_form
names_unless_refused has_form bs t = (kept_named has_form bs t, λ some. named_kept has_form bs t some.0 some.1)

same_name : (m n : QName) → m.uri ≡ n.uri → m.local_part ≡ n.local_part → m ≡ n
same_name m n uri part =
    ap (λ u. record { uri = u; local_part = m.local_part }) uri ∙ ap (λ l. record { uri = n.uri; local_part = l }) part

pub names_one : (has_form : List ℕ → Bool) → NamesOne has_form
names_one has_form bs t m n a b =
    let uris : Some m.uri ≡ Some n.uri = sym a.uri ∙ b.uri in
    same_name m n (cc) (a.local_part ∙ sym b.local_part)

form_first : (a b c : Bool) → (by_tests a b c ≡ Some NameForm) ↔ IsTrue (not a)
form_first false b c = (λ h. refl, λ h. refl)
form_first true false true = (λ h. absurd (cc), λ h. absurd (cc))
form_first true b c = (λ h. absurd (cc), λ h. absurd (cc))

unbound_second : (a b c : Bool) → (by_tests a b c ≡ Some UnboundPrefix) ↔ IsTrue (a && b)
unbound_second true true c = (λ h. refl, λ h. refl)
unbound_second true false true = (λ h. absurd (cc), λ h. absurd (cc))
unbound_second b c other = (λ h. absurd (cc), λ h. absurd (cc))

when_reserved : (b : Bool) → ((if b then Some ReservedNamespace else None) ≡ Some ReservedNamespace) ↔ IsTrue b
when_reserved true = (λ h. refl, λ h. refl)
when_reserved false = (λ h. absurd (cc), λ h. absurd (cc))

reserved_third : (a : Bool) (u : Option (List ℕ)) → (by_tests a (is_none u) (option_map_or (λ v. bytes_eq v reserved_uri) u false) ≡ Some ReservedNamespace) ↔ IsTrue (a && option_map_or (λ v. bytes_eq v reserved_uri) u false)
reserved_third true (Some v) = when_reserved (bytes_eq v reserved_uri)
reserved_third b u = (λ h. absurd (cc), λ h. absurd (cc))

pub form_is_tested : (has_form : List ℕ → Bool) → FormIsTested has_form
form_is_tested has_form bs t = form_first (has_form t) _ _

pub prefix_is_tested : (has_form : List ℕ → Bool) → PrefixIsTested has_form
prefix_is_tested has_form bs t = unbound_second (has_form t) (is_none (uri_of bs (prefix_part t))) _

pub namespace_is_tested : (has_form : List ℕ → Bool) → NamespaceIsTested has_form
namespace_is_tested has_form bs t = reserved_third (has_form t) (uri_of bs (prefix_part t))
