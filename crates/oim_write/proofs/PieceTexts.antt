-- A JSON writer produces the parts of a text.
use Rattle.oim_write.proofs.Shared.{◌≡◌, ℕ, ◌+◌, ◌<◌, List, [], ◌∷◌, ◌++◌, append_assoc, length, get_or, drop, Bool, true, refl, sym, ap, ◌∙◌, false, ◌||◌, codes, Some, subst, arith, length-append, drop_more, get_or_at, Token, key, Data, Members, no_members, member, string, comma_if, compact_text, items_text, members_text, outline, part, parts, text_parts, facts_text, has_some, head_text, namespace_members, numbered_members, text_items, identifier, members_before, members_by, name_text, prefix, xbrl_member, Contains, level_entry, Level, Unique, IsDimensionSet, fact_cmp, Fact, fact_cmp_total, Body, Fits, IsSet, Sheet, fact_object, level_of, padded, rank, width, uris}
use Rattle.json.specs.Print.{quoted, print, print_from, escape_byte}
use Rattle.json.specs.Tree.{json_tokens}
use Rattle.serde_json.proofs.Texts.{print-outline}
use Rattle.oim_write.specs.Bytes.{canonical}
use Rattle.oim_write.proofs.Ranks.{rank_at}
use Rattle.oim_write.proofs.WrittenOrder.{facts_are_written_in_order}

-- ---- written by a JSON writer

pub behind : (us : List Token) {xs ys zs : List Token} → zs ≡ ys ++ us → ys ≡ xs → zs ≡ xs ++ us
behind us step so_far = step ∙ ap (λ ts. ts ++ us) so_far

print_member : (k : List ℕ) (d : Data) → print (([] ++ key k ∷ []) ++ json_tokens (outline d)) ≡ quoted k ++ 58 ∷ compact_text d
unfolding print_from
print_member k d = append_assoc (quoted k) (58 ∷ []) (print (json_tokens (outline d))) ∙ ap (λ t. quoted k ++ 58 ∷ t) (print-outline d)

-- a writer that writes a key and a value produces a part
pub part_is : (old before : List ℕ) (later : Bool) (k : List ℕ) (d : Data) (ts : List Token) → before ≡ old ++ comma_if later → ts ≡ ([] ++ key k ∷ []) ++ json_tokens (outline d) → before ++ print ts ≡ old ++ part later k d
part_is old before later k d ts front tokens =
    (λ i. front i ++ print (tokens i))
    ∙ append_assoc old (comma_if later) (print (([] ++ key k ∷ []) ++ json_tokens (outline d)))
    ∙ ap (λ t. old ++ (comma_if later ++ t)) (print_member k d)

-- a writer that writes only a value produces the text of the value
pub item_is : (old before : List ℕ) (later : Bool) (d : Data) (ts : List Token) → before ≡ old ++ comma_if later → ts ≡ [] ++ json_tokens (outline d) → before ++ print ts ≡ old ++ (comma_if later ++ compact_text d)
item_is old before later d ts front tokens =
    (λ i. front i ++ print (tokens i))
    ∙ append_assoc old (comma_if later) (print (json_tokens (outline d)))
    ∙ ap (λ t. old ++ (comma_if later ++ t)) (print-outline d)

-- one step of a loop that writes parts
pub next_part : (text new all part more : List ℕ) → new ≡ text ++ part → text ++ (part ++ more) ≡ all → new ++ more ≡ all
next_part text new all part more step so_far = ap (λ t. t ++ more) step ∙ append_assoc text part more ∙ so_far

-- one step of a loop that writes the texts of an array
pub left_texts : (done : List ℕ) {written all : List ℕ} (later : Bool) (ts : List (List ℕ)) (i : ℕ) (t : List ℕ) → i < length ts → t ≡ get_or ts i t → written ≡ comma_if later ++ quoted t → done ++ text_parts later (drop i ts) ≡ all → done ++ (written ++ text_parts true (drop (i + 1) ts)) ≡ all
left_texts done later ts i t within is this so_far =
    let rest = drop (i + 1) ts in
    ap (λ w. done ++ (w ++ text_parts true rest)) this ∙ ap (λ us. done ++ text_parts later us) (ap (λ u. u ∷ rest) is ∙ sym (drop_more ts i t within)) ∙ so_far

pub behind_nothing : {old new part : List ℕ} → new ≡ old ++ part → old ≡ [] → new ≡ part
behind_nothing {part = part} step none = step ∙ ap (λ t. t ++ part) none

-- ---- the members and items of a tree

regroup : (c q t r : List ℕ) → c ++ (q ++ 58 ∷ (t ++ r)) ≡ (c ++ (q ++ 58 ∷ t)) ++ r
regroup c q t r = simp append_assoc

pub members_text-parts : (later : Bool) (ms : Members) → members_text later ms ≡ parts later ms ++ 125 ∷ []
members_text-parts later no_members = refl
members_text-parts later (member k d ms) =
    ap (λ r. comma_if later ++ (quoted k ++ 58 ∷ (compact_text d ++ r))) (members_text-parts true ms)
    ∙ regroup (comma_if later) (quoted k) (compact_text d) (parts true ms ++ 125 ∷ [])
    ∙ sym (append_assoc (part later k d) (parts true ms) (125 ∷ []))

regroup_item : (c q t r : List ℕ) → c ++ (q ++ (t ++ r)) ≡ ((c ++ q) ++ t) ++ r
regroup_item c q t r = simp append_assoc

pub items_text-parts : (later : Bool) (ts : List (List ℕ)) → items_text later (text_items ts) ≡ text_parts later ts ++ 93 ∷ []
items_text-parts later [] = refl
items_text-parts later (t ∷ ts) =
    ap (λ r. comma_if later ++ (quoted t ++ r)) (items_text-parts true ts)
    ∙ regroup_item (comma_if later) (quoted t) (text_parts true ts) (93 ∷ [])

-- ---- the members of facts

module _ (facts : List Fact) (rises : IsSet fact_cmp facts) where
  identifier_at : (i : ℕ) (f : Fact) → i < length facts → get_or facts i f ≡ f → identifier facts f ≡ 102 ∷ padded (width (length facts)) (i + 1)
  identifier_at i f within is = ap (λ n. 102 ∷ padded (width (length facts)) n) (ap (λ g. rank fact_cmp g facts) (sym is) ∙ rank_at fact_cmp_total facts i f rises within)

  module _ (sets : (f : Fact) → Contains facts f → IsDimensionSet f.dimensions) where
    -- the facts after `done` are numbered from the length of `done` plus one, and the members of each fact are in byte order
    numbered_behind : (done left : List Fact) → done ++ left ≡ facts
        → members_by (identifier facts) (fact_object (name_text (uris facts))) left ≡ numbered_members (uris facts) (width (length facts)) (length done) left
    numbered_behind done [] all = refl
    numbered_behind done (f ∷ left) all =
        let within : length done < length facts = omega (arith, ap length all, length-append done (f ∷ left)) in
        let is : get_or facts (length done) f ≡ f = ap (λ fs. get_or fs (length done) f) (sym all) ∙ get_or_at done f left f (length done) refl in
        let there : Contains facts f = (length done, within, is) in
        let count : length (done ++ f ∷ []) ≡ length done + 1 = length-append done (f ∷ []) in
        let rest = numbered_behind (done ++ f ∷ []) left (append_assoc done (f ∷ []) left ∙ all) in
        λ i. member (identifier_at (length done) f within is i) (facts_are_written_in_order facts f there (sets f there) i)
        ((rest ∙ ap (λ n. numbered_members (uris facts) (width (length facts)) n left) count) i)

-- ---- the namespaces

-- the member that binds the prefix `xbrl`
abbrev bound_text : List ℕ
bound_text = codes "\"xbrl\":\"https://xbrl.org/2021\""

-- the member that binds `xbrl` follows the members of the other prefixes, with a comma before it if there are any
names-parts : (later : Bool) (level : Level) (us vs : List (List ℕ)) → parts later (members_before (prefix us) string vs (xbrl_member (Some level))) ≡ parts later (namespace_members us vs) ++ (comma_if (later || has_some vs) ++ bound_text)
unfolding escape_byte
names-parts true level us [] = refl
names-parts false level us [] = refl
names-parts true level us (v ∷ vs) =
    ap (λ t. part true (prefix us v) (string v) ++ t) (names-parts true level us vs)
    ∙ sym (append_assoc (part true (prefix us v) (string v)) (parts true (namespace_members us vs)) (comma_if true ++ bound_text))
names-parts false level us (v ∷ vs) =
    ap (λ t. part false (prefix us v) (string v) ++ t) (names-parts true level us vs)
    ∙ sym (append_assoc (part false (prefix us v) (string v)) (parts true (namespace_members us vs)) (comma_if true ++ bound_text))

-- ---- the whole text

quoted_level : (l : Level) → quoted (level_entry l).text ≡ 34 ∷ ((level_entry l).text ++ 34 ∷ [])
unfolding escape_byte
quoted_level Unique = refl
quoted_level l = refl

rejoin : (level names comma bound references facts : List ℕ) →
    (((34 ∷ (level ++ 34 ∷ [])) ++ 125 ∷ []) ++ (codes ",\"namespaces\":{" ++ (((names ++ (comma ++ bound)) ++ 125 ∷ []) ++ (codes ",\"taxonomy\":[" ++ ((references ++ 93 ∷ []) ++ 125 ∷ []))))) ++ (codes ",\"facts\":{" ++ ((facts ++ 125 ∷ []) ++ 125 ∷ []))
    ≡ (34 ∷ (level ++ (codes "\"},\"namespaces\":{" ++ (names ++ (comma ++ (bound ++ codes "},\"taxonomy\":[")))))) ++ (references ++ (codes "]},\"facts\":{" ++ (facts ++ codes "}}")))
rejoin level names comma bound references facts = simp append_assoc

-- a head, followed by the rest of the text
abbrev parts_text : List ℕ → List (List ℕ) → Body → List ℕ
parts_text head us b = head ++ (text_parts false b.references ++ (codes "]},\"facts\":{" ++ (facts_text us b.facts ++ codes "}}")))

pub canonical_is : (sheet : Sheet) (b : Body) → Fits sheet b → canonical b ≡ parts_text (head_text (level_of b.facts) (uris b.facts)) (uris b.facts) b
unfolding canonical escape_byte
canonical_is sheet b fits =
    let us : List (List ℕ) = uris b.facts in
    let level : Level = level_of b.facts in
    let names : Members = members_before (prefix us) string us (xbrl_member (Some level)) in
    let facts : Members = numbered_members us (width (length b.facts)) 0 b.facts in
    let sets : (f : Fact) → Contains b.facts f → IsDimensionSet f.dimensions = λ f at. subst (λ (g : Fact). IsDimensionSet g.dimensions) at.2 (fits.facts at.0 f at.1).set in
    let numbered = numbered_behind b.facts fits.rises.facts sets [] b.facts refl in
    ap (λ t. codes "{\"documentInfo\":{\"documentType\":\"https://xbrl.org/2021/xbrl-json\",\"features\":{\"xbrl:allowedDuplicates\":" ++ t) (
    (λ i. ((quoted_level level i ++ 125 ∷ []) ++ (codes ",\"namespaces\":{" ++ ((members_text-parts false names ∙ ap (λ t. t ++ 125 ∷ []) (names-parts false level us us)) i ++ (codes ",\"taxonomy\":[" ++ (items_text-parts false b.references i ++ 125 ∷ [])))))
    ++ (codes ",\"facts\":{" ++ ((ap (members_text false) numbered ∙ members_text-parts false facts) i ++ 125 ∷ [])))
    ∙ rejoin (level_entry level).text (parts false (namespace_members us us)) (comma_if (has_some us)) bound_text (text_parts false b.references) (parts false facts))

pub canonical_of : (sheet : Sheet) (b : Body) (level : Level) (us : List (List ℕ)) (head : List ℕ) (references : List (List ℕ)) → Fits sheet b → head ≡ head_text level us → level ≡ level_of b.facts → us ≡ uris b.facts → references ≡ b.references
    → head ++ (text_parts false references ++ (codes "]},\"facts\":{" ++ (facts_text us b.facts ++ codes "}}"))) ≡ canonical b
canonical_of sheet b level us head references fits first declared table read =
    ap (λ rs. head ++ (text_parts false rs ++ (codes "]},\"facts\":{" ++ (facts_text us b.facts ++ codes "}}")))) read
    ∙ ap (λ t. parts_text t us b) first
    ∙ (λ i. parts_text (head_text (declared i) (table i)) (table i) b)
    ∙ sym (canonical_is sheet b fits)
