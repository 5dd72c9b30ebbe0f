-- New items at the end of a list, and the list of the indices that all items belong at, both written from the end.
use Rattle.merge_laws.proofs.Shared.{◌≡◌, ℕ, zero, suc, ◌+◌, ◌-◌, ◌<◌, ◌≤◌, ◌++◌, List, [], ◌∷◌, All, IsPermutation, append-nil, append_assoc, get_or, length, map, take, drop, refl, sym, ap, subst, ◌∙◌, arith, min, reverse, AllByRecursion, range_with_len, ext_get_or, get_or_append_left, get_or-append-add, get_or-drop, get_or-map, length-append, length-drop, length-map, length-take, map-append, reverse-append, take-append-drop, take-append-le, All-from_get_or, get_or-map-range_with_len, get_or-range_with_len, length-map-range_with_len, length-range_with_len, All-permutation, IsPermutation-append_right, IsPermutation-cons, IsPermutation-refl, IsPermutation-to_front, IsPermutation-trans, picked, inserted}
use Rattle.merge_laws.proofs.Lists.{all_back, all_front}

pub range_down : (a b m n : ℕ) → b ≡ a + 1 → m ≡ suc n → range_with_len a m ≡ a ∷ range_with_len b n
range_down a b m n next more = ap (range_with_len a) more ∙ ap (λ c. a ∷ range_with_len c n) (sym next)

pub none_counted : (a n : ℕ) (ks : List ℕ) → n ≡ 0 → ks ≡ range_with_len a n ++ ks
none_counted a n ks none = ap (λ m. range_with_len a m ++ ks) (sym none)

range_both : (a b m n k : ℕ) → b ≡ a + m → k ≡ m + n → range_with_len a k ≡ range_with_len a m ++ range_with_len b n
range_both a b zero n k next all =
    let start : a ≡ b = omega (arith, next) in
    let same : k ≡ n = omega (arith, all) in
    λ i. range_with_len (start i) (same i)
range_both a b (suc m) n k next all =
    range_down a (a + 1) k (m + n) refl (omega (arith, all))
    ∙ ap (λ r. a ∷ r) (range_both (a + 1) b m n (m + n) (omega (arith, next)) refl)

-- if two lists are equal whenever there is a default, they are equal
pub from_default : {E : Type 0} (xs ys : List E) → ((d : E) → xs ≡ ys) → xs ≡ ys
from_default [] [] same = refl
from_default [] (y ∷ ys) same = same y
from_default (x ∷ xs) ys same = same x

-- a lower bound of all new items bounds the last one and the others
pub last_least : {E : Type 0} (low : ℕ) (news fewer : List (ℕ × E)) (index : ℕ) (item : E) → news ≡ fewer ++ (index, item) ∷ [] → AllByRecursion (λ n. low ≤ n.0) news → (low ≤ index) × AllByRecursion (λ n. low ≤ n.0) fewer
last_least {E} low news fewer index item popped all =
    let each = subst (AllByRecursion (λ (n : ℕ × E). low ≤ n.0)) popped all in
    ((all_back (λ (n : ℕ × E). low ≤ n.0) fewer ((index, item) ∷ []) each).0, all_front (λ (n : ℕ × E). low ≤ n.0) fewer ((index, item) ∷ []) each)

-- the items at indices that start at 0 for the index `first`
abbrev pub reads : {E : Type 0} → ℕ → E → List E → List ℕ → List E
reads first d items ks = map (λ k. get_or items (first + k) d) ks

reads_more : {E : Type 0} (first : ℕ) (d : E) (items more : List E) (ks : List ℕ) → All (λ k. first + k < length items) ks → reads first d (items ++ more) ks ≡ reads first d items ks
reads_more {E} first d items more ks within =
    let f : ℕ → E = λ k. get_or (items ++ more) (first + k) d in
    let g : ℕ → E = λ k. get_or items (first + k) d in
    ext_get_or d (map f ks) (map g ks) (length-map ks f ∙ sym (length-map ks g)) (λ i below.
    let here : i < length ks = omega (arith, below, length-map ks f) in
    get_or-map f ks i 0 d here
    ∙ get_or_append_left items more d (first + get_or ks i 0) (within i 0 here)
    ∙ sym (get_or-map g ks i 0 d here))

reads_left : {E : Type 0} (first : ℕ) (d : E) (left rest : List E) (to index : ℕ) → first ≤ to → to ≡ min (length left) index → reads first d (left ++ rest) (range_with_len (to - first) (length left - to)) ≡ drop index left
reads_left {E} first d left rest to index low is =
    let f : ℕ → E = λ k. get_or (left ++ rest) (first + k) d in
    let a : ℕ = to - first in
    let n : ℕ = length left - to in
    let count = length-map-range_with_len f a n in
    ext_get_or d (map f (range_with_len a n)) (drop index left) (omega (arith, count, length-drop index left, is)) (λ i below.
    let here : i < n = omega (arith, below, count) in
    let at : first + (a + i) ≡ index + i = omega (arith, here, is, low) in
    let inside : index + i < length left = omega (arith, here, is) in
    get_or-map-range_with_len f a n i (a + i) d here refl
    ∙ ap (λ k. get_or (left ++ rest) k d) at
    ∙ get_or_append_left left rest d (index + i) inside
    ∙ sym (get_or-drop index left i d))

-- `left` has the old items before `top`; the order lists the indices of all later items, from the end
pub record Listed {E : Type 0} (first top : ℕ) (whole : List E) (news : List (ℕ × E)) (items : List E) (order : List ℕ) : Type 0 where
  pub left : List E
  pub rest : List E
  pub count : length left ≡ top
  pub split : items ≡ left ++ rest
  pub parts : (d : E) → inserted left (reverse news) ++ reads first d items (reverse order) ≡ whole
  pub each_once : IsPermutation (range_with_len (top - first) (length items - top)) (reverse order)

pub none_listed : {E : Type 0} (first top : ℕ) (items : List E) (news : List (ℕ × E)) (order : List ℕ) → top ≡ length items → order ≡ [] → Listed first top (inserted items (reverse news)) news items order
none_listed first top items news order all none = record {
  left = items;
  rest = [];
  count = sym all;
  split = sym (append-nil items);
  parts = λ d. ap (λ ks. inserted items (reverse news) ++ reads first d items (reverse ks)) none ∙ append-nil (inserted items (reverse news));
  each_once =
      let zero_left : length items - top ≡ 0 = omega (arith, all) in
      subst (λ n. IsPermutation (range_with_len (top - first) n) (reverse order)) (sym zero_left)
      (subst (λ ks. IsPermutation [] (reverse ks)) (sym none) (IsPermutation-refl []));
}

module _ {E : Type 0} {first top : ℕ} {whole : List E} {news : List (ℕ × E)} {items : List E} {order : List ℕ} (l : Listed first top whole news items order) (low : first ≤ top) where
  shape : length items ≡ top + length l.rest
  shape = ap length l.split ∙ length-append l.left l.rest ∙ ap (λ n. n + length l.rest) l.count

  module _ (to index : ℕ) (others : List ℕ) (from : first ≤ index) (is : to ≡ min top index) (down : reverse others ≡ range_with_len (to - first) (top - to) ++ reverse order) where
    -- the indices from `to` on
    pub down_once : IsPermutation (range_with_len (to - first) (length items - to)) (reverse others)
    down_once =
        let more = range_both (to - first) (top - first) (top - to) (length items - top) (length items - to) (omega (arith, is, from, low)) (omega (arith, is, shape)) in
        subst (λ r. IsPermutation r (reverse others)) (sym more)
        (subst (IsPermutation (range_with_len (to - first) (top - to) ++ range_with_len (top - first) (length items - top))) (sym down)
        (IsPermutation-append_right (range_with_len (to - first) (top - to)) (range_with_len (top - first) (length items - top)) (reverse order) l.each_once))

    pub reads_down : (d : E) → reads first d items (reverse others) ≡ drop index l.left ++ reads first d items (reverse order)
    reads_down d =
        let f : ℕ → E = λ k. get_or items (first + k) d in
        let here : reads first d items (range_with_len (to - first) (top - to)) ≡ drop index l.left =
        (λ i. reads first d (l.split i) (range_with_len (to - first) (sym l.count i - to)))
        ∙ reads_left first d l.left l.rest to index (omega (arith, is, from, low)) (is ∙ ap (λ n. min n index) (sym l.count)) in
        ap (map f) down ∙ map-append f (range_with_len (to - first) (top - to)) (reverse order) ∙ ap (λ es. es ++ reads first d items (reverse order)) here

    others_within : All (λ k. first + k < length items) (reverse others)
    others_within =
        let a : ℕ = to - first in
        let n : ℕ = length items - to in
        All-permutation (λ k. first + k < length items) (range_with_len a n) (reverse others) down_once
        (All-from_get_or (λ k. first + k < length items) (range_with_len a n) 0 (λ i within.
        let here : i < n = omega (arith, within, length-range_with_len a n) in
        let at = get_or-range_with_len a n i 0 here in
        omega (arith, at, here, is, from, low, shape)))

    pub one_listed : (item : E) (fewer : List (ℕ × E)) (more : List E) (indices : List ℕ) → news ≡ fewer ++ (index, item) ∷ [] → more ≡ items ++ item ∷ [] → indices ≡ others ++ (length items - first) ∷ [] → Listed first to whole fewer more indices
    one_listed item fewer more indices popped pushed added =
        let turned : reverse indices ≡ (length items - first) ∷ reverse others = ap reverse added ∙ reverse-append others ((length items - first) ∷ []) in
        let long : length more ≡ length items + 1 = ap length pushed ∙ length-append items (item ∷ []) in
        record {
          left = take index l.left;
          rest = drop index l.left ++ (l.rest ++ item ∷ []);
          count = length-take index l.left ∙ omega (arith, is, l.count);
          split =
              pushed ∙ ap (λ es. es ++ item ∷ []) (l.split ∙ ap (λ es. es ++ l.rest) (sym (take-append-drop index l.left)))
              ∙ append_assoc (take index l.left ++ drop index l.left) l.rest (item ∷ [])
              ∙ append_assoc (take index l.left) (drop index l.left) (l.rest ++ item ∷ []);
          parts = λ d.
              let f : ℕ → E = λ k. get_or more (first + k) d in
              let seam : first + (length items - first) ≡ length items + 0 = omega (arith, low, shape) in
              let there : f (length items - first) ≡ item = (λ i. get_or (pushed i) (seam i) d) ∙ get_or-append-add items (item ∷ []) 0 d in
              let kept : reads first d more (reverse others) ≡ reads first d items (reverse others) = (λ i. reads first d (pushed i) (reverse others)) ∙ reads_more first d items (item ∷ []) (reverse others) others_within in
              let now : reads first d more (reverse indices) ≡ item ∷ (drop index l.left ++ reads first d items (reverse order)) = ap (map f) turned ∙ (λ i. there i ∷ (kept ∙ reads_down d) i) in
              ap (λ es. inserted (take index l.left) (reverse fewer) ++ es) now
              ∙ sym (append_assoc (inserted (take index l.left) (reverse fewer)) (item ∷ drop index l.left) (reads first d items (reverse order)))
              ∙ ap (λ ns. inserted l.left ns ++ reads first d items (reverse order)) (sym (ap reverse popped ∙ reverse-append fewer ((index, item) ∷ [])))
              ∙ l.parts d;
          each_once =
              let a : ℕ = to - first in
              let n : ℕ = length items - to in
              let last : length items - first ≡ a + n = omega (arith, is, from, low, shape) in
              let grown : range_with_len a (length more - to) ≡ range_with_len a n ++ (length items - first) ∷ [] = range_both a (length items - first) n 1 (length more - to) last (omega (arith, long, is, shape)) in
              subst (λ r. IsPermutation r (reverse indices)) (sym grown)
              (subst (IsPermutation (range_with_len a n ++ (length items - first) ∷ [])) (sym turned)
              (IsPermutation-trans _ _ _ (IsPermutation-to_front (range_with_len a n) (length items - first)) (IsPermutation-cons (length items - first) (range_with_len a n) (reverse others) down_once)));
        }

-- after the last new item, all items are listed
pub all_listed : {E : Type 0} {first top : ℕ} {whole items : List E} {news : List (ℕ × E)} {order : List ℕ} (l : Listed first top whole news items order) (low : first ≤ top) (others : List ℕ) → news ≡ [] → reverse others ≡ range_with_len (first - first) (top - first) ++ reverse order → (d : E) → picked first d items (reverse others) ≡ whole
all_listed {first = first} {items = items} {order = order} l low others none down d =
    let front : take first items ≡ take first l.left = ap (take first) l.split ∙ take-append-le first l.left l.rest (omega (arith, low, l.count)) in
    (λ i. front i ++ reads_down l low first first others (omega arith) (omega (arith, low)) down d i)
    ∙ sym (append_assoc (take first l.left) (drop first l.left) (reads first d items (reverse order)))
    ∙ ap (λ es. es ++ reads first d items (reverse order)) (take-append-drop first l.left)
    ∙ ap (λ ns. inserted l.left (reverse ns) ++ reads first d items (reverse order)) (sym none)
    ∙ l.parts d
