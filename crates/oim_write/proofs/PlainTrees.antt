-- The tree of a body that fits a sheet is plain: the tree has UTF-8 texts and no float, and the keys of its objects ascend. The
-- tree is at most four levels deep.
use Rattle.oim_write.proofs.Shared.{◌≡◌, ℕ, suc, ◌≤◌, ◌<◌, List, [], ◌∷◌, length, get_or, Option, Some, None, refl, codes, arith, All, IsUtf8, slice_cmp, nat_cmp, Less, nat_list_cmp_total, All-contains, All-head, All-tail, IsUtf8-from_is_utf8, Data, string, array, Items, Members, no_members, items_depth, level_entry, Level, Unique, fact_cmp, Fact, fact_cmp_total, text_cmp, FactFits, IsBefore, IsKeptReference, IsNamespace, IsPlainJson, IsSet, ItemsArePlain, ItemsHaveUtf8, Sheet, fact_object, each_by_there, AreKept, fact_plain, kept_more, none_kept, object_kept, text_kept, TreesArePlain, bindings_of, facts_object, features_member, identifier, info_object, members_before, name_text, namespaces_object, prefix, text_items, xbrl_member, uris}
use Rattle.json.proofs.Printed.Utf8.{IsUtf8-are_ascii}
use Rattle.oim_write.proofs.Namespaces.{uris_are_namespaces, uris_rise}
use Rattle.oim_write.proofs.SpelledFacts.{numbered_rise, numbered_utf8, facts_are_spelled}

-- ---- plain values and members of bounded depth

record ItemsAreKept (ds : Items) (most : ℕ) : Type 0 where
  plain : ItemsArePlain ds
  utf8 : ItemsHaveUtf8 ds
  shallow : items_depth ds ≤ most

array_kept : (ds : Items) (n : ℕ) → ItemsAreKept ds n → IsPlainJson (array ds) (suc n)
array_kept ds n are = record { plain = are.plain; utf8 = are.utf8; shallow = omega (arith, are.shallow) }

deeper : (d : Data) (n : ℕ) → IsPlainJson d n → IsPlainJson d (suc n)
deeper d n is = record { plain = is.plain; utf8 = is.utf8; shallow = omega (arith, is.shallow) }

texts_kept : (ts : List (List ℕ)) (n : ℕ) → All IsUtf8 ts → ItemsAreKept (text_items ts) n
texts_kept [] n are = record { plain = tt; utf8 = tt; shallow = omega arith }
texts_kept (t ∷ ts) n are =
    let rest = texts_kept ts n (All-tail IsUtf8 t ts are) in
    record { plain = (tt, rest.plain); utf8 = (All-head IsUtf8 t ts are, rest.utf8); shallow = omega (arith, rest.shallow) }

-- ---- members with ascending labels, before other members

module _ {A : Type 0} (key : A → List ℕ) (shown : A → Data) (others : Members) where
  before_each : (k : List ℕ) (xs : List A) → IsBefore k others → ((j : ℕ) (d : A) → j < length xs → slice_cmp nat_cmp k (key (get_or xs j d)) ≡ Less) → IsBefore k (members_before key shown xs others)
  before_each k [] last above = last
  before_each k (x ∷ xs) last above = (above 0 x (omega arith), before_each k xs last (λ j d h. above (suc j) d (omega arith)))

  members_kept : (n : ℕ) (xs : List A) → ((i j : ℕ) (d : A) → i < j → j < length xs → slice_cmp nat_cmp (key (get_or xs i d)) (key (get_or xs j d)) ≡ Less) → ((x : A) → IsUtf8 (key x)) → ((x : A) → IsBefore (key x) others) → AreKept others n → All (λ x. IsPlainJson (shown x) n) xs → AreKept (members_before key shown xs others) n
  members_kept n [] before utf8 last kept are = kept
  members_kept n (x ∷ xs) before utf8 last kept are =
      kept_more (key x) (shown x) (members_before key shown xs others) n (before_each (key x) xs (last x) (λ j d h. before 0 (suc j) d (omega arith) (omega arith))) (utf8 x) (All-head (λ y. IsPlainJson (shown y) n) x xs are)
      (members_kept n xs (λ i j d l h. before (suc i) (suc j) d (omega arith) (omega arith)) utf8 last kept (All-tail (λ y. IsPlainJson (shown y) n) x xs are))

-- ---- the declared level

level_utf8 : (l : Level) → IsUtf8 (level_entry l).text
level_utf8 Unique = IsUtf8-are_ascii _ refl
level_utf8 l = IsUtf8-are_ascii _ refl

prefix_before : (declared : Option Level) (us : List (List ℕ)) (u : List ℕ) → IsBefore (prefix us u) (xbrl_member declared)
prefix_before None us u = tt
prefix_before (Some l) us u = (refl, tt)

xbrl_kept : (declared : Option Level) (n : ℕ) → AreKept (xbrl_member declared) n
xbrl_kept None n = none_kept n
xbrl_kept (Some l) n = kept_more (codes "xbrl") _ _ n tt (IsUtf8-are_ascii _ refl) (text_kept _ n (IsUtf8-are_ascii _ refl)) (none_kept n)

features_kept : (declared : Option Level) (others : Members) → IsBefore (codes "features") others → AreKept others 1 → AreKept (features_member declared others) 1
features_kept None others before kept = kept
features_kept (Some l) others before kept =
    kept_more (codes "features") _ others 1 before (IsUtf8-are_ascii _ refl)
    (object_kept _ 0 (kept_more (codes "xbrl:allowedDuplicates") _ _ 0 tt (IsUtf8-are_ascii _ refl) (text_kept _ 0 (level_utf8 l)) (none_kept 0)))
    kept

type_before : (declared : Option Level) (others : Members) → IsBefore (codes "documentType") others → IsBefore (codes "documentType") (features_member declared others)
type_before None others before = before
type_before (Some l) others before = (refl, before)

-- ---- the parts of a tree

namespaces_kept : (declared : Option Level) (us : List (List ℕ)) → IsSet text_cmp us → All IsUtf8 us → IsPlainJson (namespaces_object declared us) 1
namespaces_kept declared us rises utf8 =
    object_kept _ 0 (members_kept (prefix us) string (xbrl_member declared) 0 us (numbered_rise nat_list_cmp_total 110 us rises) (λ u. numbered_utf8 110 text_cmp u us (omega arith))
    (prefix_before declared us) (xbrl_kept declared 0)
    (each_by_there _ us (λ u at. text_kept u 0 (All-contains IsUtf8 us u utf8 at))))

info_kept : (declared : Option Level) (us references : List (List ℕ)) → IsSet text_cmp us → All IsUtf8 us → All IsUtf8 references → IsPlainJson (info_object declared us references) 2
info_kept declared us references rises utf8 texts =
    object_kept _ 1 (
    kept_more (codes "documentType") _ _ 1 (type_before declared _ (refl, (refl, tt))) (IsUtf8-are_ascii _ refl) (text_kept _ 1 (IsUtf8-are_ascii _ refl)) (
    features_kept declared _ (refl, (refl, tt)) (
    kept_more (codes "namespaces") _ _ 1 (refl, tt) (IsUtf8-are_ascii _ refl) (namespaces_kept declared us rises utf8) (
    kept_more (codes "taxonomy") _ _ 1 tt (IsUtf8-are_ascii _ refl) (array_kept _ 0 (texts_kept references 0 texts)) (none_kept 1)))))

facts_kept : (sheet : Sheet) (facts : List Fact) → IsSet fact_cmp facts → All (FactFits sheet) facts → IsPlainJson (facts_object facts) 3
facts_kept sheet facts rises fit =
    object_kept _ 2 (members_kept (identifier facts) (fact_object (name_text (uris facts))) no_members 2 facts (numbered_rise fact_cmp_total 102 facts rises) (λ f. numbered_utf8 102 fact_cmp f facts (omega arith))
    (λ f. tt) (none_kept 2)
    (each_by_there (λ f. IsPlainJson (fact_object (name_text (uris facts)) f) 2) facts (λ f at.
    fact_plain sheet (bindings_of (uris facts)) (name_text (uris facts)) f (All-contains (FactFits sheet) facts f fit at) (facts_are_spelled facts f at))))

pub trees_are_plain : TreesArePlain
trees_are_plain sheet b declared fits =
    let us = uris b.facts in
    let utf8 : All IsUtf8 us = each_by_there IsUtf8 us (λ u at. (All-contains IsNamespace us u (uris_are_namespaces sheet b fits) at).utf8) in
    let texts : All IsUtf8 b.references = each_by_there IsUtf8 b.references (λ r at. IsUtf8-from_is_utf8 r (All-contains IsKeptReference b.references r fits.references at).utf8) in
    object_kept _ 3 (
    kept_more (codes "documentInfo") _ _ 3 (refl, tt) (IsUtf8-are_ascii _ refl) (deeper _ 2 (info_kept declared us b.references (uris_rise b.facts) utf8 texts)) (
    kept_more (codes "facts") _ _ 3 tt (IsUtf8-are_ascii _ refl) (facts_kept sheet b.facts fits.rises.facts fits.facts) (none_kept 3)))
