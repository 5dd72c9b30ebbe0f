-- The strings and the keys of a JSON value that was read from UTF-8 are UTF-8.
use Rattle.oim_report.proofs.Shared.{◌≡◌, ℕ, zero, suc, List, [], ◌∷◌, ◌++◌, length, Bool, true, false, cond, ◌==◌, Option, Some, None, option_map, option_and_then, refl, sym, subst, arith, Less, Equal, Greater, IsUtf8, nat_cmp, Ordering, eqb-true, append_assoc, ⊤, match_ordering, slice_cmp, is_utf8, IsUtf8-from_is_utf8, Token, Data, item, Members, no_members, member, put, number, of_json, of_items, of_members, number_of, read, max_depth, json_text, without_mark, HasUtf8, ItemsHaveUtf8, MembersHaveUtf8, ReadHasUtf8}
use Rattle.json.specs.Text.{content, plain}
use Rattle.json.specs.Word.{after_number, ends_word, is_operator, is_space, head, number_before, word}
use Rattle.json.specs.Lex.{Lexeme, token, comma, colon, Class, quote, backslash, operator, space, other, class, operator_lexeme, string_token, Mode, between, in_word, in_string, in_escape, lex_byte, lex, Place, fresh, after_value, after_comma, after_key, begins_colon, may_begin, may_close, if_allowed, place_token, punctuate, tokens}
use Rattle.json.specs.Json as json
use Rattle.json.specs.Json.{Parse, parse_map, after_end_array, read_key, items_step, members_step, items, members, value_with, value, if_last}
use Rattle.oim_report.proofs.StringsUtf8.{IsUtf8Behind, content_utf8}
use Rattle.oim_report.proofs.CutUtf8.{both_utf8}

-- ---- lexemes

abbrev TokenHas : Token → Type 0
TokenHas (Token.key s) = IsUtf8 s
TokenHas (Token.string s) = IsUtf8 s
TokenHas o = ⊤

abbrev LexemeHas : Lexeme → Type 0
LexemeHas (token t) = TokenHas t
LexemeHas o = ⊤

abbrev LexemesHave : List Lexeme → Type 0
LexemesHave [] = ⊤
LexemesHave (l ∷ ls) = LexemeHas l × LexemesHave ls

abbrev TokensHave : List Token → Type 0
TokensHave [] = ⊤
TokensHave (t ∷ ts) = TokenHas t × TokensHave ts

string_has : (o : Option (List ℕ)) → IsUtf8Behind [] o → TokenHas (string_token o)
string_has None h = tt
string_has (Some s) h = h

choose : (P : Token → Type 0) (b : Bool) (x y : Token) → P x → P y → P (cond b x y)
choose P true x y f g = f
choose P false x y f g = g

number_has : (t : List ℕ) (o : Option (List ℕ)) → TokenHas (number_before t o)
number_has t None = tt
number_has t (Some rest) = choose TokenHas (ends_word rest) _ Token.bad tt tt

word_has : (t : List ℕ) → TokenHas (word t)
unfolding word
word_has t =
    choose TokenHas (head t == 116) _ _ (choose TokenHas _ (Token.boolean true) Token.bad tt tt)
    (choose TokenHas (head t == 102) _ _ (choose TokenHas _ (Token.boolean false) Token.bad tt tt)
    (choose TokenHas (head t == 110) _ _ (choose TokenHas _ Token.null Token.bad tt tt) (number_has t (after_number t))))

choose_lexeme : (b : Bool) (x y : Lexeme) → LexemeHas x → LexemeHas y → LexemeHas (cond b x y)
choose_lexeme true x y f g = f
choose_lexeme false x y f g = g

operator_has : (x : ℕ) → LexemeHas (operator_lexeme x)
operator_has x =
    choose_lexeme (x == 123) _ _ tt (choose_lexeme (x == 125) _ _ tt (choose_lexeme (x == 91) _ _ tt (choose_lexeme (x == 93) _ _ tt (choose_lexeme (x == 44) _ _ tt tt))))

byte_has : (m : Mode) (c : Class) (x : ℕ) (xs : List ℕ) (k : Mode → List Lexeme) → (c ≡ quote → IsUtf8 xs) → ((n : Mode) → LexemesHave (k n)) → LexemesHave (lex_byte m c x xs k)
byte_has between quote x xs k u h = (string_has (content plain xs) (content_utf8 plain [] xs tt (u refl)), h in_string)
byte_has between backslash x xs k u h = (tt, h in_word)
byte_has between operator x xs k u h = (operator_has x, h between)
byte_has between space x xs k u h = h between
byte_has between other x xs k u h = (word_has (x ∷ xs), h in_word)
byte_has in_word quote x xs k u h = h in_word
byte_has in_word backslash x xs k u h = h in_word
byte_has in_word operator x xs k u h = (operator_has x, h between)
byte_has in_word space x xs k u h = h between
byte_has in_word other x xs k u h = h in_word
byte_has in_string quote x xs k u h = h between
byte_has in_string backslash x xs k u h = h in_escape
byte_has m c x xs k u h = h in_string

is_quote : (q b o s : Bool) → cond q quote (cond b backslash (cond o operator (cond s space other))) ≡ quote → q ≡ true
is_quote true b o s e = refl
is_quote false true o s e = absurd (cc)
is_quote false false true s e = absurd (cc)
is_quote false false false true e = absurd (cc)
is_quote false false false false e = absurd (cc)

lex_has : (m : Mode) (run xs : List ℕ) → IsUtf8 (run ++ xs) → LexemesHave (lex m xs)
unfolding lex
lex_has m run [] utf8 = tt
lex_has m run (x ∷ xs) utf8 =
    byte_has m (class x) x xs (λ next. lex next xs)
    (λ e. (both_utf8 run xs x (omega (arith, eqb-true x 34 (is_quote (x == 34) (x == 92) (is_operator x) (is_space x) e))) utf8).1)
    (λ n. lex_has n (run ++ x ∷ []) xs (subst IsUtf8 (sym (append_assoc run (x ∷ []) xs)) utf8))

-- ---- tokens

allowed_has : (b : Bool) (t : Token) (k : Place → List Token) (p : Place) → TokenHas t → TokensHave (k p) → TokensHave (if_allowed b t k p)
allowed_has true t k p h r = (h, r)
allowed_has false t k p h r = (tt, tt)

place_has : (p : Place) (t : Token) (b : Bool) (k : Place → List Token) → TokenHas t → ((n : Place) → TokensHave (k n)) → TokensHave (place_token p t b k)
place_has p Token.begin_object b k h r = allowed_has (may_begin p) _ k fresh tt (r fresh)
place_has p Token.end_object b k h r = allowed_has (may_close p) _ k after_value tt (r after_value)
place_has p Token.begin_array b k h r = allowed_has (may_begin p) _ k fresh tt (r fresh)
place_has p Token.end_array b k h r = allowed_has (may_close p) _ k after_value tt (r after_value)
place_has p (Token.key s) b k h r = (tt, tt)
place_has p (Token.string s) true k h r = allowed_has (may_begin p) _ k after_key h (r after_key)
place_has p (Token.string s) false k h r = allowed_has (may_begin p) _ k after_value h (r after_value)
place_has p Token.bad b k h r = (tt, tt)
place_has p t b k h r = allowed_has (may_begin p) _ k after_value tt (r after_value)

punctuate_has : (p : Place) (ls : List Lexeme) → LexemesHave ls → TokensHave (punctuate p ls)
unfolding punctuate
punctuate_has fresh [] h = tt
punctuate_has after_value [] h = tt
punctuate_has after_comma [] h = (tt, tt)
punctuate_has after_key [] h = (tt, tt)
punctuate_has fresh (token t ∷ ls) h = place_has fresh t (begins_colon ls) _ h.0 (λ n. punctuate_has n ls h.1)
punctuate_has after_value (token t ∷ ls) h = place_has after_value t (begins_colon ls) _ h.0 (λ n. punctuate_has n ls h.1)
punctuate_has after_comma (token t ∷ ls) h = place_has after_comma t (begins_colon ls) _ h.0 (λ n. punctuate_has n ls h.1)
punctuate_has after_key (token t ∷ ls) h = place_has after_key t (begins_colon ls) _ h.0 (λ n. punctuate_has n ls h.1)
punctuate_has fresh (comma ∷ ls) h = (tt, tt)
punctuate_has after_value (comma ∷ ls) h = punctuate_has after_comma ls h.1
punctuate_has after_comma (comma ∷ ls) h = (tt, tt)
punctuate_has after_key (comma ∷ ls) h = (tt, tt)
punctuate_has fresh (colon ∷ ls) h = (tt, tt)
punctuate_has after_value (colon ∷ ls) h = (tt, tt)
punctuate_has after_comma (colon ∷ ls) h = (tt, tt)
punctuate_has after_key (colon ∷ ls) h = punctuate_has fresh ls h.1

-- ---- the value of the tokens

abbrev mutual
  JsonHas : json.Json → Type 0
  JsonHas (json.string s) = IsUtf8 s
  JsonHas (json.array js) = JsonItemsHave js
  JsonHas (json.object ms) = JsonMembersHave ms
  JsonHas o = ⊤

  JsonItemsHave : json.Items → Type 0
  JsonItemsHave json.no_items = ⊤
  JsonItemsHave (json.item j js) = JsonHas j × JsonItemsHave js

  JsonMembersHave : json.Members → Type 0
  JsonMembersHave json.no_members = ⊤
  JsonMembersHave (json.member k j ms) = IsUtf8 k × JsonHas j × JsonMembersHave ms

abbrev Read : {A : Type 0} → (A → Type 0) → Option (A × List Token) → Type 0
Read P None = ⊤
Read P (Some p) = P p.0 × TokensHave p.1

abbrev Reads : {A : Type 0} → (A → Type 0) → Parse A → Type 0
Reads P p = (ts : List Token) → TokensHave ts → Read P (p ts)

mapped : {A B : Type 0} (P : A → Type 0) (Q : B → Type 0) (h : A → B) → ((a : A) → P a → Q (h a)) → (o : Option (A × List Token)) → Read P o → Read Q (parse_map h o)
mapped P Q h k None x = tt
mapped P Q h k (Some p) x = (k p.0 x.0, x.1)

and_more : {B : Type 0} (Q : B → Type 0) (h : json.Json → B → B) → ((j : json.Json) (b : B) → JsonHas j → Q b → Q (h j b)) → (more : Parse B) → Reads Q more
    → (o : Option (json.Json × List Token)) → Read JsonHas o → Read Q (option_and_then (λ q. parse_map (h q.0) (more q.1)) o)
and_more Q h is more reads None x = tt
and_more Q h is more reads (Some q) x = mapped Q Q (h q.0) (λ b y. is q.0 b x.0 y) _ (reads q.1 x.1)

abbrev RestHas : Option (List Token) → Type 0
RestHas None = ⊤
RestHas (Some ts) = TokensHave ts

end_has : (ts : List Token) → TokensHave ts → RestHas (after_end_array ts)
end_has (Token.end_array ∷ ts) h = h.1
end_has ts h = tt

abbrev KeyHas : Option (List ℕ) → Type 0
KeyHas None = ⊤
KeyHas (Some k) = IsUtf8 k

key_has : Reads KeyHas read_key
key_has (Token.end_object ∷ ts) h = (tt, h.1)
key_has (Token.key s ∷ ts) h = h
key_has o h = tt

module _ (p : Parse json.Json) (reads : Reads JsonHas p) where
  item_turn : (more : Parse json.Items) → Reads JsonItemsHave more → (ts : List Token) → TokensHave ts → (o : Option (List Token)) → RestHas o → Read JsonItemsHave (items_step p more ts o)
  item_turn more again ts h (Some r) x = (tt, x)
  item_turn more again ts h None x = and_more JsonItemsHave json.item (λ j b y z. (y, z)) more again (p ts) (reads ts h)

  items_have : (n : ℕ) → Reads JsonItemsHave (items p n)
  unfolding items
  items_have zero ts h = tt
  items_have (suc n) ts h = item_turn (items p n) (items_have n) ts h (after_end_array ts) (end_has ts h)

  member_turn : (more : Parse json.Members) → Reads JsonMembersHave more → (o : Option (Option (List ℕ) × List Token)) → Read KeyHas o → Read JsonMembersHave (option_and_then (λ q. members_step p more q.0 q.1) o)
  member_turn more again None x = tt
  member_turn more again (Some (None, s)) x = (tt, x.1)
  member_turn more again (Some (Some k, s)) x = and_more JsonMembersHave (json.member k) (λ j b y z. (x.0, y, z)) more again (p s) (reads s x.1)

  members_have : (n : ℕ) → Reads JsonMembersHave (members p n)
  unfolding members
  members_have zero ts h = tt
  members_have (suc n) ts h = member_turn (members p n) (members_have n) (read_key ts) (key_has ts h)

with_has : (a : Parse json.Items) (o : Parse json.Members) → Reads JsonItemsHave a → Reads JsonMembersHave o → Reads JsonHas (value_with a o)
with_has a o x y (Token.begin_object ∷ ts) h = mapped JsonMembersHave JsonHas json.object (λ m z. z) (o ts) (y ts h.1)
with_has a o x y (Token.begin_array ∷ ts) h = mapped JsonItemsHave JsonHas json.array (λ m z. z) (a ts) (x ts h.1)
with_has a o x y (Token.string s ∷ ts) h = h
with_has a o x y (Token.number s ∷ ts) h = (tt, h.1)
with_has a o x y (Token.boolean b ∷ ts) h = (tt, h.1)
with_has a o x y (Token.null ∷ ts) h = (tt, h.1)
with_has a o x y d h = tt

value_has : (n : ℕ) → Reads JsonHas (value n)
unfolding value
value_has zero = with_has (λ ts. None) (λ ts. None) (λ ts h. tt) (λ ts h. tt)
value_has (suc n) = with_has _ _ (λ ts h. items_have (value n) (value_has n) (length ts) ts h) (λ ts h. members_have (value n) (value_has n) (length ts) ts h)

-- ---- the stored value: members are added one after another

abbrev pub Has : {A : Type 0} → (A → Type 0) → Option A → Type 0
Has P None = ⊤
Has P (Some a) = P a

pub has_mapped : {A B : Type 0} (P : A → Type 0) (Q : B → Type 0) (f : A → B) → ((a : A) → P a → Q (f a)) → (o : Option A) → Has P o → Has Q (option_map f o)
has_mapped P Q f k None x = tt
has_mapped P Q f k (Some a) x = k a x

pub has_then : {A B : Type 0} (P : A → Type 0) (Q : B → Type 0) (f : A → Option B) → ((a : A) → P a → Has Q (f a)) → (o : Option A) → Has P o → Has Q (option_and_then f o)
has_then P Q f k None x = tt
has_then P Q f k (Some a) x = k a x

choose_members : (o : Ordering) (x y z : Members) → MembersHaveUtf8 x → MembersHaveUtf8 y → MembersHaveUtf8 z → MembersHaveUtf8 (match_ordering o x y z)
choose_members Less x y z a b c = a
choose_members Equal x y z a b c = b
choose_members Greater x y z a b c = c

put_has : (k : List ℕ) (d : Data) (ms : Members) → IsUtf8 k → HasUtf8 d → MembersHaveUtf8 ms → MembersHaveUtf8 (put k d ms)
put_has k d no_members key h m = (key, h, tt)
put_has k d (member l e ms) key h m = choose_members (slice_cmp nat_cmp k l) _ _ _ (key, h, m) (m.0, h, m.2) (m.0, m.1, put_has k d ms key h m.2)

pub any : {A : Type 0} (o : Option A) → Has (λ a. ⊤) o
any None = tt
any (Some a) = tt

mutual
  json_has : (j : json.Json) → JsonHas j → Has HasUtf8 (of_json j)
  json_has (json.number s) h = has_mapped (λ n. ⊤) HasUtf8 number (λ n x. tt) (number_of s) (any (number_of s))
  json_has (json.string s) h = h
  json_has (json.array js) h = has_mapped ItemsHaveUtf8 HasUtf8 _ (λ ds x. x) (of_items js) (json_items_have js h)
  json_has (json.object ms) h = has_mapped MembersHaveUtf8 HasUtf8 _ (λ ds x. x) (of_members ms no_members) (json_members_have ms no_members h tt)
  json_has j h = tt

  json_items_have : (js : json.Items) → JsonItemsHave js → Has ItemsHaveUtf8 (of_items js)
  json_items_have json.no_items h = tt
  json_items_have (json.item j js) h = has_then HasUtf8 ItemsHaveUtf8 _ (λ d x. has_mapped ItemsHaveUtf8 ItemsHaveUtf8 (item d) (λ ds y. (x, y)) (of_items js) (json_items_have js h.1)) (of_json j) (json_has j h.0)

  json_members_have : (ms : json.Members) (found : Members) → JsonMembersHave ms → MembersHaveUtf8 found → Has MembersHaveUtf8 (of_members ms found)
  json_members_have json.no_members found h f = f
  json_members_have (json.member k j ms) found h f = has_then HasUtf8 MembersHaveUtf8 _ (λ d x. json_members_have ms (put k d found) h.2 (put_has k d found h.0 x f)) (of_json j) (json_has j h.1)

-- ---- the bytes of a file

last_has : (j : json.Json) (ts : List Token) → JsonHas j → Has JsonHas (if_last j ts)
last_has j [] h = h
last_has j (t ∷ ts) h = tt

parsed_has : (o : Option (json.Json × List Token)) → Read JsonHas o → Has JsonHas (option_and_then (λ p. if_last p.0 p.1) o)
parsed_has None h = tt
parsed_has (Some p) h = last_has p.0 p.1 h.0

read_has : (text : List ℕ) → IsUtf8 text → Has HasUtf8 (read text)
read_has text utf8 =
    has_then JsonHas HasUtf8 of_json json_has _ (parsed_has (value max_depth (tokens text)) (value_has max_depth (tokens text) (punctuate_has fresh (lex between text) (lex_has between [] text utf8))))

by_test : (b : Bool) (o : Option Data) → (b ≡ true → Has HasUtf8 o) → Has HasUtf8 (cond b o None)
by_test true o h = h refl
by_test false o h = tt

text_has : (text : List ℕ) → Has HasUtf8 (json_text text)
text_has text = by_test (is_utf8 text) (read text) (λ e. read_has text (IsUtf8-from_is_utf8 text e))

pub what_is_read_has_utf8 : ReadHasUtf8
what_is_read_has_utf8 bytes d e = subst (Has HasUtf8) e (text_has (without_mark bytes))
