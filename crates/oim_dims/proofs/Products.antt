-- The text of a product of measures, one measure longer.
use Rattle.oim_dims.proofs.Shared.{◌≡◌, ℕ, ◌+◌, ◌<◌, List, [], ◌∷◌, ◌++◌, length, map, take, get_or, refl, sym, ap, ◌∙◌, append_assoc, join_with_byte, take_more, map-append, QName, product_text}

join_push : (c : ℕ) (x y : List ℕ) (xs : List (List ℕ)) → join_with_byte c ((x ∷ xs) ++ y ∷ []) ≡ join_with_byte c (x ∷ xs) ++ c ∷ y
join_push c x y [] = refl
join_push c x y (z ∷ xs) = ap (λ t. x ++ (c ∷ t)) (join_push c z y xs) ∙ sym (append_assoc x (c ∷ join_with_byte c (z ∷ xs)) (c ∷ y))

pub product_next : (f : QName → List ℕ) (m n : QName) (ns : List QName) (i : ℕ) → i < length ns → n ≡ get_or ns i n → product_text f (m ∷ take (i + 1) ns) ≡ product_text f (m ∷ take i ns) ++ 42 ∷ f n
product_next f m n ns i within is =
    ap (λ x. product_text f (m ∷ x)) (take_more ns i n within ∙ ap (λ x. take i ns ++ x ∷ []) (sym is))
    ∙ (ap (λ x. join_with_byte 42 (f m ∷ x)) (map-append f (take i ns) (n ∷ []))
    ∙ join_push 42 (f m) (f n) (map f (take i ns)))

-- appending `*` and one more measure to a text
pub written_on : (new starred text before p q m : List ℕ) → starred ≡ text ++ 42 ∷ [] → new ≡ starred ++ m → text ≡ before ++ p → q ≡ p ++ 42 ∷ m → new ≡ before ++ q
written_on new starred text before p q m star measure so_far next = rw (measure, star, so_far, next) (simp append_assoc)
