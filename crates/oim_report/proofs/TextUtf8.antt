-- The compact text of a plain value is read as that value, if the value is at most `max_depth` levels deep.
use Rattle.oim_report.proofs.Shared.{◌≡◌, ℕ, suc, ◌≤◌, negsuc, List, [], Some, option_map, option_and_then, Less, Greater, refl, sym, ap, ◌∙◌, append-nil, ◌∷◌, Bool, true, false, cond, Option, None, IsUtf8, nat_cmp, ⊤, ordering_reverse, slice_cmp, nat_list_cmp_total, IsUtf8-append, IsUtf8-nil, IsUtf8-from_ascii, or_from, is_utf8, tokens, value-json_tokens, ArePrintable-json_tokens, IsUtf8-quoted, IsUtf8-boolean, IsUtf8-are_ascii, number_of, of_json, of_items, of_members, read, max_depth, IsWhole, IsBefore, IsPlain, ItemsArePlain, MembersArePlain, PlainTextReadsBack, HasUtf8, ItemsHaveUtf8, MembersHaveUtf8, without_mark}
use Rattle.std.proofs.lemmas.Fmt.{IsAscii-decimal, IsAscii-signed}
use Rattle.json.proofs.Printed.Tokens.{tokens-print}
use Rattle.json.proofs.Printed.Decimals.{IsNumber-decimal, IsNumber-signed_decimal}
use Rattle.json.specs.Json as json
use Rattle.json.specs.Tree as tree
use Rattle.serde_json.specs.Data.{Num, unsigned, negative, Data, number, array, object, Items, no_items, item, Members, no_members, member, put, depth, items_depth, members_depth, float, null, boolean, string}
use Rattle.serde_json.specs.Written.{number_text, outline, items_outline, members_outline, compact_text, comma_if, items_text, members_text, has_float, items_have_float, members_have_float}
use Rattle.serde_json.proofs.Numbers.{number_of-decimal, number_of-negative}
use Rattle.serde_json.proofs.Texts.{print-outline}
use Rattle.serde_json.proofs.Nesting.{depth-read}
use Rattle.oim_report.specs.Limits.{NestsWithinLimit}
use Rattle.oim_report.proofs.Texts.{passes}

-- ---- the members are added one after another, at the end

abbrev join : Members → Members → Members
join no_members ns = ns
join (member k d ms) ns = member k d (join ms ns)

join-join : (a b c : Members) → join (join a b) c ≡ join a (join b c)
join-join no_members b c = refl
join-join (member k d ms) b c = ap (member k d) (join-join ms b c)

join-none : (a : Members) → join a no_members ≡ a
join-none no_members = refl
join-none (member k d ms) = ap (member k d) (join-none ms)

abbrev AllBelow : Members → List ℕ → Type 0
AllBelow no_members k = ⊤
AllBelow (member l e ms) k = (slice_cmp nat_cmp l k ≡ Less) × AllBelow ms k

abbrev Precedes : Members → Members → Type 0
Precedes found no_members = ⊤
Precedes found (member k d ms) = AllBelow found k × Precedes found ms

put_last : (k : List ℕ) (d : Data) (found : Members) → AllBelow found k → put k d found ≡ join found (member k d no_members)
put_last k d no_members h = refl
put_last k d (member l e ms) h =
    let above : slice_cmp nat_cmp k l ≡ Greater = nat_list_cmp_total.antisymm k l ∙ ap ordering_reverse h.0 in
    rw above (ap (member l e) (put_last k d ms h.1))

below_more : (found : Members) (k l : List ℕ) (d : Data) → AllBelow found l → slice_cmp nat_cmp k l ≡ Less → AllBelow (join found (member k d no_members)) l
below_more no_members k l d h e = (e, tt)
below_more (member m f ms) k l d h e = (h.0, below_more ms k l d h.1 e)

precedes_more : (found : Members) (k : List ℕ) (d : Data) (ms : Members) → Precedes found ms → IsBefore k ms → Precedes (join found (member k d no_members)) ms
precedes_more found k d no_members h b = tt
precedes_more found k d (member l e ms) h b = (below_more found k l d h.0 b.0, precedes_more found k d ms h.1 b.1)

precedes_none : (ms : Members) → Precedes no_members ms
precedes_none no_members = tt
precedes_none (member k d ms) = (tt, precedes_none ms)

-- ---- the outline is read as the value

number_back : (n : Num) → IsWhole n → number_of (number_text n) ≡ Some n
number_back (unsigned n) h = number_of-decimal n h
number_back (negative (negsuc n)) h = number_of-negative n h
number_back n h = absurd h

mutual
  pub of_json-outline : (d : Data) → IsPlain d → of_json (outline d) ≡ Some d
  of_json-outline (number n) h = ap (option_map number) (number_back n h)
  of_json-outline (array ds) h = ap (option_map array) (of_items-outline ds h)
  of_json-outline (object ms) h = ap (option_map object) (of_members-outline ms no_members h (precedes_none ms))
  of_json-outline d h = refl

  of_items-outline : (ds : Items) → ItemsArePlain ds → of_items (items_outline ds) ≡ Some ds
  of_items-outline no_items h = refl
  of_items-outline (item d ds) h =
      ap (option_and_then (λ e. option_map (item e) (of_items (items_outline ds)))) (of_json-outline d h.0) ∙ ap (option_map (item d)) (of_items-outline ds h.1)

  of_members-outline : (ms found : Members) → MembersArePlain ms → Precedes found ms → of_members (members_outline ms) found ≡ Some (join found ms)
  of_members-outline no_members found h p = ap Some (sym (join-none found))
  of_members-outline (member k d ms) found h p =
      let next = join found (member k d no_members) in
      ap (option_and_then (λ e. of_members (members_outline ms) (put k e found))) (of_json-outline d h.0)
      ∙ ap (of_members (members_outline ms)) (put_last k d found p.0)
      ∙ of_members-outline ms next h.2 (precedes_more found k d ms p.1 h.1)
      ∙ ap Some (join-join found (member k d no_members) ms)

-- ---- the outline has numbers that can be written, and the depth of the value

mutual
  numbers : (d : Data) → IsPlain d → tree.HasNumbers (outline d)
  numbers (number (unsigned n)) h = IsNumber-decimal n h
  numbers (number (negative (negsuc n))) h = IsNumber-signed_decimal (negsuc n) h
  numbers (number x) h = absurd h
  numbers (array ds) h = items_numbers ds h
  numbers (object ms) h = members_numbers ms h
  numbers d h = tt

  items_numbers : (ds : Items) → ItemsArePlain ds → tree.ItemsHaveNumbers (items_outline ds)
  items_numbers no_items h = tt
  items_numbers (item d ds) h = (numbers d h.0, items_numbers ds h.1)

  members_numbers : (ms : Members) → MembersArePlain ms → tree.MembersHaveNumbers (members_outline ms)
  members_numbers no_members h = tt
  members_numbers (member k d ms) h = (numbers d h.0, members_numbers ms h.2)

mutual
  depth-outline : (d : Data) → tree.depth (outline d) ≡ depth d
  depth-outline (array ds) = ap suc (items_depth-outline ds)
  depth-outline (object ms) = ap suc (members_depth-outline ms)
  depth-outline d = refl

  items_depth-outline : (ds : Items) → tree.items_depth (items_outline ds) ≡ items_depth ds
  items_depth-outline no_items = refl
  items_depth-outline (item d ds) = rw (depth-outline d, items_depth-outline ds)

  members_depth-outline : (ms : Members) → tree.members_depth (members_outline ms) ≡ members_depth ms
  members_depth-outline no_members = refl
  members_depth-outline (member k d ms) = rw (depth-outline d, members_depth-outline ms)

-- ---- the round trip

pub read-compact_text : (d : Data) → IsPlain d → depth d ≤ max_depth → read (compact_text d) ≡ Some d
read-compact_text d plain shallow =
    let j = outline d in
    let lexed : tokens (compact_text d) ≡ tree.json_tokens j =
    ap tokens (sym (print-outline d)) ∙ tokens-print (tree.json_tokens j) (ArePrintable-json_tokens j (numbers d plain)) in
    let fits : tree.depth j ≤ max_depth = rw (depth-outline d) shallow in
    ap (λ o. option_and_then of_json (option_and_then (λ p. json.if_last p.0 p.1) o))
    (ap (json.value max_depth) (lexed ∙ sym (append-nil (tree.json_tokens j))) ∙ value-json_tokens j max_depth [] fits)
    ∙ of_json-outline d plain

-- ---- The compact text of a plain value with UTF-8 strings and keys is UTF-8. If the value is an object at most `max_depth`
-- levels deep, the text is read back. A plain value has no float.

one : (b : ℕ) (xs : List ℕ) → IsUtf8 (b ∷ []) → IsUtf8 xs → IsUtf8 (b ∷ xs)
one b xs h u = IsUtf8-append (b ∷ []) xs h u

comma : (later : Bool) → IsUtf8 (comma_if later)
comma true = IsUtf8-are_ascii _ refl
comma false = IsUtf8-nil

number_utf8 : (n : Num) → IsWhole n → IsUtf8 (number_text n)
number_utf8 (unsigned n) h = IsUtf8-from_ascii _ (IsAscii-decimal n h)
number_utf8 (negative (negsuc n)) h = IsUtf8-from_ascii _ (IsAscii-signed (negsuc n) h)
number_utf8 n h = absurd h

mutual
  pub IsUtf8-compact_text : (d : Data) → IsPlain d → HasUtf8 d → IsUtf8 (compact_text d)
  IsUtf8-compact_text null h u = IsUtf8-are_ascii _ refl
  IsUtf8-compact_text (boolean b) h u = IsUtf8-boolean b
  IsUtf8-compact_text (number n) h u = number_utf8 n h
  IsUtf8-compact_text (string s) h u = IsUtf8-quoted s u
  IsUtf8-compact_text (array ds) h u = one 91 _ (IsUtf8-are_ascii _ refl) (IsUtf8-items_text false ds h u)
  IsUtf8-compact_text (object ms) h u = one 123 _ (IsUtf8-are_ascii _ refl) (IsUtf8-members_text false ms h u)

  IsUtf8-items_text : (later : Bool) (ds : Items) → ItemsArePlain ds → ItemsHaveUtf8 ds → IsUtf8 (items_text later ds)
  IsUtf8-items_text later no_items h u = IsUtf8-are_ascii _ refl
  IsUtf8-items_text later (item d ds) h u =
      IsUtf8-append _ _ (comma later) (IsUtf8-append _ _ (IsUtf8-compact_text d h.0 u.0) (IsUtf8-items_text true ds h.1 u.1))

  IsUtf8-members_text : (later : Bool) (ms : Members) → MembersArePlain ms → MembersHaveUtf8 ms → IsUtf8 (members_text later ms)
  IsUtf8-members_text later no_members h u = IsUtf8-are_ascii _ refl
  IsUtf8-members_text later (member k d ms) h u =
      IsUtf8-append _ _ (comma later) (IsUtf8-append _ _ (IsUtf8-quoted k u.0)
      (one 58 _ (IsUtf8-are_ascii _ refl) (IsUtf8-append _ _ (IsUtf8-compact_text d h.0 u.1) (IsUtf8-members_text true ms h.2 u.2))))

mutual
  pub has_float-plain : (d : Data) → IsPlain d → has_float d ≡ false
  has_float-plain (number (float x)) h = absurd h
  has_float-plain (array ds) h = items_plain ds h
  has_float-plain (object ms) h = members_plain ms h
  has_float-plain d h = refl

  items_plain : (ds : Items) → ItemsArePlain ds → items_have_float ds ≡ false
  items_plain no_items h = refl
  items_plain (item d ds) h = or_from (has_float d) (items_have_float ds) (has_float-plain d h.0) (items_plain ds h.1)

  members_plain : (ms : Members) → MembersArePlain ms → members_have_float ms ≡ false
  members_plain no_members h = refl
  members_plain (member k d ms) h = or_from (has_float d) (members_have_float ms) (has_float-plain d h.0) (members_plain ms h.2)

pub object_text_back : PlainTextReadsBack
object_text_back ms h = passes (compact_text (object ms)) (read (compact_text (object ms))) (IsUtf8-compact_text (object ms) h.plain h.utf8) ∙ read-compact_text (object ms) h.plain h.shallow

-- ---- A value that was read is not nested deeper than the limit.

by_test : (b : Bool) (o : Option Data) (d : Data) → cond b o None ≡ Some d → o ≡ Some d
by_test true o d e = e
by_test false o d e = absurd (cc)

pub nests_within_limit : NestsWithinLimit
nests_within_limit bytes tree e =
    let text = without_mark bytes in depth-read text tree (by_test (is_utf8 text) (read text) tree e)
