-- The references of an accepted report are kept texts.
use Rattle.oim_report.proofs.Shared.{◌≡◌, ℕ, List, [], ◌∷◌, Bool, true, false, cond, Option, Some, None, refl, sym, ap, subst, ◌∙◌, arith, ℤ, All, option_and_then, option_map, All-cons, option_map_or, is_utf8, Data, number, string, Items, no_items, item, as_integer, Parts, accepted_reference, base_url_said, references_said, said_reference, said_references, taxonomy_of, text, whole, other, given, text_of, IsKeptReference, is_reference_refused, kept}
use Rattle.oim_report.proofs.ReferenceLaws.{kept_again, kept_limit, kept_utf8}

no_text : (o : Option ℤ) (t : List ℕ) → text_of (option_map_or whole o other) ≡ Some t → is_utf8 t ≡ true
no_text None t e = absurd (cc)
no_text (Some n) t e = absurd (cc)

string_utf8 : (s t : List ℕ) (b : Bool) → is_utf8 s ≡ b → text_of (cond b (text s) other) ≡ Some t → is_utf8 t ≡ true
string_utf8 s t true u e = let same : s ≡ t = cc in ap is_utf8 (sym same) ∙ u
string_utf8 s t false u e = absurd (cc)

pub text_utf8 : (d : Data) (t : List ℕ) → text_of (given d) ≡ Some t → is_utf8 t ≡ true
text_utf8 (number n) t e = no_text (as_integer n) t e
text_utf8 (string s) t e = string_utf8 s t (is_utf8 s) refl e
text_utf8 d t e = absurd (cc)

accepted_is : (base : Option Parts) (t r : List ℕ) (refused : Bool) → is_reference_refused base t ≡ refused → cond refused None (kept base t) ≡ Some r → (is_reference_refused base t ≡ false) × (kept base t ≡ Some r)
accepted_is base t r true u e = absurd (cc)
accepted_is base t r false u e = (u, e)

one_kept : (base : Option Parts) (t r : List ℕ) → is_utf8 t ≡ true → accepted_reference base t ≡ Some r → IsKeptReference r
one_kept base t r utf8 e =
    let is = accepted_is base t r (is_reference_refused base t) refl e in
    record { kept = kept_again base t r is.1; short = kept_limit base t r is.0 is.1; utf8 = kept_utf8 base t r utf8 is.1 }

of_text : (base : Option Parts) (o : Option (List ℕ)) (r : List ℕ) → ((t : List ℕ) → o ≡ Some t → is_utf8 t ≡ true) → option_and_then (accepted_reference base) o ≡ Some r → IsKeptReference r
of_text base None r utf8 e = absurd (cc)
of_text base (Some t) r utf8 e = one_kept base t r (utf8 t refl) e

item_kept : (base : Option Parts) (d : Data) (r : List ℕ) → said_reference base d ≡ Some r → IsKeptReference r
item_kept base d r e = of_text base (text_of (given d)) r (text_utf8 d) e

both_kept : (o : Option (List ℕ)) (os : Option (List (List ℕ))) (rs : List (List ℕ)) → ((r : List ℕ) → o ≡ Some r → IsKeptReference r) → ((qs : List (List ℕ)) → os ≡ Some qs → All IsKeptReference qs) → option_and_then (λ t. option_map (λ ts. t ∷ ts) os) o ≡ Some rs → All IsKeptReference rs
both_kept (Some r) (Some qs) rs first rest e =
    let same : r ∷ qs ≡ rs = cc in
    subst (All IsKeptReference) same (All-cons IsKeptReference r qs (first r refl) (rest qs refl))
both_kept o os rs first rest e = absurd (cc)

items_kept : (base : Option Parts) (ds : Items) (rs : List (List ℕ)) → said_references base ds ≡ Some rs → All IsKeptReference rs
items_kept base no_items rs e = let same : [] ≡ rs = cc in subst (All IsKeptReference) same (λ k d lt. absurd (omega (arith, lt)))
items_kept base (item d ds) rs e = both_kept (said_reference base d) (said_references base ds) rs (item_kept base d) (items_kept base ds) e

under_base : (o : Option (Option Parts)) (ds : Items) (rs : List (List ℕ)) → option_and_then (λ base. said_references base ds) o ≡ Some rs → All IsKeptReference rs
under_base None ds rs e = absurd (cc)
under_base (Some base) ds rs e = items_kept base ds rs e

pub references_kept : (tree : Data) (rs : List (List ℕ)) → references_said tree ≡ Some rs → All IsKeptReference rs
references_kept tree rs e = under_base (base_url_said tree) (taxonomy_of tree) rs e
