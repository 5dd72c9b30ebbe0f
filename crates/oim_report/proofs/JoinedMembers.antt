-- Two texts of members that a comma joins are read as the members of both. Each text must have a member.
use Rattle.oim_report.proofs.Shared.{◌≡◌, Bool, true, false, List, [], ◌∷◌, ◌++◌, fold, inl, inr, ◌⊎◌, refl, ap, ◌∙◌, subst, ℕ, suc, ◌-◌, ◌≤◌, Some, sym, arith, append_assoc, append-nil, false≢true, ⊤, append_cancel_right, is_good, json_tokens, items_tokens, members_tokens, depth, members_depth, value-json_tokens, value-json_tokens_back, alone, one}
use Rattle.json.specs.Token.{Token, begin_object, end_object, begin_array, end_array, key, string, number, boolean, null, bad}
use Rattle.json.specs.Lex.{Lexeme, token, comma, colon, Place, fresh, after_value, after_comma, after_key, begins_colon, may_begin, may_close, if_allowed, place_token, punctuate, between, lex, tokens}
use Rattle.json.specs.Json.{Json, Items, Members, value}
use Rattle.json.specs.Json as j
use Rattle.json.proofs.Nesting.{value-depth}
use Rattle.oim_report.proofs.JsonLexemes.{NoQuote, AllGood, Delimited, piece_of}

-- ---- the tokens of lexemes do not depend on the text that follows, unless this text begins with a colon or a token is bad

abbrev pub NoBad : List Token → Type 0
NoBad [] = ⊤
NoBad (t ∷ ts) = (is_good t ≡ true) × NoBad ts

-- an opening brace, an opening bracket or a key
abbrev pub opens : Token → Bool
opens begin_object = true
opens begin_array = true
opens (key s) = true
opens o = false

abbrev pub opened : Bool → List Token → Bool
opened o ts = fold (λ _ t. opens t) o ts

-- at the places `fresh` and `after_key`, the last token was a key or an opening brace or bracket
abbrev pub Fits : Place → Bool → Type 0
Fits after_value o = ⊤
Fits after_comma o = ⊤
Fits d o = o ≡ true

-- at the place p, the token t becomes `made` and the next place is `next`, whatever follows; c states whether a colon follows
record Goes (p : Place) (t : Token) (c : Bool) : Type 0 where
  made : Token
  next : Place
  is : (k : Place → List Token) → place_token p t c k ≡ made ∷ k next
  fits : Fits next (opens made)

abbrev Stuck : Place → Token → Bool → Type 0
Stuck p t c = (k : Place → List Token) → place_token p t c k ≡ bad ∷ []

goes_if : (p : Place) (t made : Token) (c b : Bool) (next : Place) → ((k : Place → List Token) → place_token p t c k ≡ if_allowed b made k next) → Fits next (opens made) → Goes p t c ⊎ Stuck p t c
goes_if p t made c true next e f = inl (record { made = made; next = next; is = e; fits = f })
goes_if p t made c false next e f = inr e

outcome : (p : Place) (t : Token) (c : Bool) → Goes p t c ⊎ Stuck p t c
outcome p begin_object c = goes_if p begin_object begin_object c (may_begin p) fresh (λ k. refl) refl
outcome p end_object c = goes_if p end_object end_object c (may_close p) after_value (λ k. refl) tt
outcome p begin_array c = goes_if p begin_array begin_array c (may_begin p) fresh (λ k. refl) refl
outcome p end_array c = goes_if p end_array end_array c (may_close p) after_value (λ k. refl) tt
outcome p (string s) true = goes_if p (string s) (key s) true (may_begin p) after_key (λ k. refl) refl
outcome p (string s) false = goes_if p (string s) (string s) false (may_begin p) after_value (λ k. refl) tt
outcome p (number s) c = goes_if p (number s) (number s) c (may_begin p) after_value (λ k. refl) tt
outcome p (boolean b) c = goes_if p (boolean b) (boolean b) c (may_begin p) after_value (λ k. refl) tt
outcome p null c = goes_if p null null c (may_begin p) after_value (λ k. refl) tt
outcome p t c = inr (λ k. refl)

pub record Split (p : Place) (o : Bool) (ls : List Lexeme) : Type 0 where
  pub ts : List Token
  pub end : Place
  pub goes : (more : List Lexeme) → begins_colon more ≡ false → punctuate p (ls ++ more) ≡ ts ++ punctuate end more
  pub fits : Fits end (opened o ts)

colon_front : (ls more : List Lexeme) → begins_colon more ≡ false → begins_colon (ls ++ more) ≡ begins_colon ls
colon_front [] more e = e
colon_front (token t ∷ ls) more e = refl
colon_front (comma ∷ ls) more e = refl
colon_front (colon ∷ ls) more e = refl

pub at_token : (p : Place) (t : Token) (ls : List Lexeme) → punctuate p (token t ∷ ls) ≡ place_token p t (begins_colon ls) (λ next. punctuate next ls)
unfolding punctuate
at_token fresh t ls = refl
at_token p t ls = refl

token_front : (p : Place) (t : Token) (ls more : List Lexeme) → begins_colon more ≡ false → punctuate p (token t ∷ (ls ++ more)) ≡ place_token p t (begins_colon ls) (λ next. punctuate next (ls ++ more))
token_front p t ls more e = at_token p t (ls ++ more) ∙ ap (λ c. place_token p t c (λ next. punctuate next (ls ++ more))) (colon_front ls more e)

with_token : (p : Place) (o : Bool) (t : Token) (ls more : List Lexeme) → begins_colon more ≡ false → NoBad (punctuate p (token t ∷ (ls ++ more)))
    → ((q : Place) (u : Bool) → Fits q u → NoBad (punctuate q (ls ++ more)) → Split q u ls) → Goes p t (begins_colon ls) ⊎ Stuck p t (begins_colon ls) → Split p o (token t ∷ ls)
with_token p o t ls more e h ih (inl g) =
    let rest = ih g.next (opens g.made) g.fits (subst NoBad (token_front p t ls more e ∙ g.is (λ next. punctuate next (ls ++ more))) h).1 in
    record {
      ts = g.made ∷ rest.ts;
      end = rest.end;
      goes = λ m f. token_front p t ls m f ∙ g.is (λ next. punctuate next (ls ++ m)) ∙ ap (λ l. g.made ∷ l) (rest.goes m f);
      fits = rest.fits;
    }
with_token p o t ls more e h ih (inr s) = absurd (false≢true (subst NoBad (token_front p t ls more e ∙ s (λ next. punctuate next (ls ++ more))) h).0)

pub split : (p : Place) (o : Bool) (ls more : List Lexeme) → Fits p o → begins_colon more ≡ false → NoBad (punctuate p (ls ++ more)) → Split p o ls
unfolding punctuate
split p o [] more f e h = record { ts = []; end = p; goes = λ m g. refl; fits = f }
split p o (token t ∷ ls) more f e h = with_token p o t ls more e h (λ q u g k. split q u ls more g e k) (outcome p t (begins_colon ls))
split after_value o (comma ∷ ls) more f e h =
    let rest = split after_comma o ls more tt e h in
    record { ts = rest.ts; end = rest.end; goes = rest.goes; fits = rest.fits }
split after_key o (colon ∷ ls) more f e h =
    let rest = split fresh o ls more f e h in
    record { ts = rest.ts; end = rest.end; goes = rest.goes; fits = rest.fits }
split p o (l ∷ ls) more f e h = absurd (false≢true h.0)

-- ---- no token of a value is bad

nobad-append : (ts us : List Token) → NoBad ts → NoBad us → NoBad (ts ++ us)
nobad-append [] us h k = k
nobad-append (t ∷ ts) us h k = (h.0, nobad-append ts us h.1 k)

nobad_last : (ts us : List Token) → NoBad (ts ++ us) → NoBad us
nobad_last [] us h = h
nobad_last (t ∷ ts) us h = nobad_last ts us h.1

mutual
  nobad-json : (v : Json) → NoBad (json_tokens v)
  nobad-json (j.array vs) = (refl, nobad-items vs)
  nobad-json (j.object ms) = (refl, nobad-members ms)
  nobad-json v = (refl, tt)

  nobad-items : (vs : Items) → NoBad (items_tokens vs)
  nobad-items j.no_items = (refl, tt)
  nobad-items (j.item v vs) = nobad-append (json_tokens v) (items_tokens vs) (nobad-json v) (nobad-items vs)

  nobad-members : (ms : Members) → NoBad (members_tokens ms)
  nobad-members j.no_members = (refl, tt)
  nobad-members (j.member k v ms) = (refl, nobad-append (json_tokens v) (members_tokens ms) (nobad-json v) (nobad-members ms))

-- ---- lexemes whose tokens are not bad are good

good_or_bad : (t : Token) → (is_good t ≡ true) ⊎ (t ≡ bad)
good_or_bad bad = inr refl
good_or_bad t = inl refl

rest_of : (b : Bool) (t : Token) (k : Place → List Token) (next : Place) → NoBad (if_allowed b t k next) → NoBad (k next)
rest_of true t k next h = h.1
rest_of false t k next h = absurd (false≢true h.0)

behind : (p : Place) (t : Token) (c : Bool) (k : Place → List Token) → NoBad (place_token p t c k) → (q : Place) × NoBad (k q)
behind p begin_object c k h = (fresh, rest_of (may_begin p) begin_object k fresh h)
behind p end_object c k h = (after_value, rest_of (may_close p) end_object k after_value h)
behind p begin_array c k h = (fresh, rest_of (may_begin p) begin_array k fresh h)
behind p end_array c k h = (after_value, rest_of (may_close p) end_array k after_value h)
behind p (string s) true k h = (after_key, rest_of (may_begin p) (key s) k after_key h)
behind p (string s) false k h = (after_value, rest_of (may_begin p) (string s) k after_value h)
behind p (number s) c k h = (after_value, rest_of (may_begin p) (number s) k after_value h)
behind p (boolean b) c k h = (after_value, rest_of (may_begin p) (boolean b) k after_value h)
behind p null c k h = (after_value, rest_of (may_begin p) null k after_value h)
behind p t c k h = absurd (false≢true h.0)

good_token : (p : Place) (t : Token) (ls : List Lexeme) → NoBad (punctuate p (token t ∷ ls)) → (is_good t ≡ true) ⊎ (t ≡ bad) → is_good t ≡ true
good_token p t ls h (inl g) = g
good_token p t ls h (inr e) =
    let k : NoBad (place_token p bad (begins_colon ls) (λ next. punctuate next ls)) = subst NoBad (ap (λ u. punctuate p (token u ∷ ls)) e ∙ at_token p bad ls) h in
    absurd (false≢true k.0)

good_lexemes : (p : Place) (ls : List Lexeme) → NoBad (punctuate p ls) → AllGood ls
unfolding punctuate
good_lexemes p [] h = tt
good_lexemes p (token t ∷ ls) h =
    let next = behind p t (begins_colon ls) (λ q. punctuate q ls) (subst NoBad (at_token p t ls) h) in
    (good_token p t ls h (good_or_bad t), good_lexemes next.0 ls next.1)
good_lexemes after_value (comma ∷ ls) h = good_lexemes after_comma ls h
good_lexemes after_key (colon ∷ ls) h = good_lexemes fresh ls h
good_lexemes p (l ∷ ls) h = absurd (false≢true h.0)

-- ---- members, without the closing brace

abbrev pub body : Members → List Token
body j.no_members = []
body (j.member k v ms) = key k ∷ (json_tokens v ++ body ms)

abbrev pub plus : Members → Members → Members
plus j.no_members ns = ns
plus (j.member k v ms) ns = j.member k v (plus ms ns)

pub closed_body : (ms : Members) → members_tokens ms ≡ body ms ++ end_object ∷ []
closed_body j.no_members = refl
closed_body (j.member k v ms) = ap (λ l. key k ∷ (json_tokens v ++ l)) (closed_body ms) ∙ ap (λ l. key k ∷ l) (sym (append_assoc (json_tokens v) (body ms) (end_object ∷ [])))

pub body-plus : (ms ns : Members) → members_tokens (plus ms ns) ≡ body ms ++ members_tokens ns
body-plus j.no_members ns = refl
body-plus (j.member k v ms) ns = ap (λ l. key k ∷ (json_tokens v ++ l)) (body-plus ms ns) ∙ ap (λ l. key k ∷ l) (sym (append_assoc (json_tokens v) (body ms) (members_tokens ns)))

pub depth-plus : (ms ns : Members) (n : ℕ) → members_depth ms ≤ n → members_depth ns ≤ n → members_depth (plus ms ns) ≤ n
depth-plus j.no_members ns n h k = k
depth-plus (j.member x v ms) ns n h k = let more = depth-plus ms ns n (omega arith) k in omega (arith, more)

opened-append : (o : Bool) (ts us : List Token) → opened o (ts ++ us) ≡ opened (opened o ts) us
opened-append o [] us = refl
opened-append o (t ∷ ts) us = opened-append (opens t) ts us

mutual
  shut-json : (o : Bool) (v : Json) → opened o (json_tokens v) ≡ false
  shut-json o (j.array vs) = shut-items true vs
  shut-json o (j.object ms) = shut-members true ms
  shut-json o v = refl

  shut-items : (o : Bool) (vs : Items) → opened o (items_tokens vs) ≡ false
  shut-items o j.no_items = refl
  shut-items o (j.item v vs) = opened-append o (json_tokens v) (items_tokens vs) ∙ shut-items _ vs

  shut-members : (o : Bool) (ms : Members) → opened o (members_tokens ms) ≡ false
  shut-members o j.no_members = refl
  shut-members o (j.member k v ms) = opened-append true (json_tokens v) (members_tokens ms) ∙ shut-members _ ms

shut-body : (o : Bool) (ms : Members) → o ≡ false → opened o (body ms) ≡ false
shut-body o j.no_members e = e
shut-body o (j.member k v ms) e = opened-append true (json_tokens v) (body ms) ∙ shut-body _ ms (shut-json true v)

-- ---- a text of members, alone and before another

-- the text, inside an object inside an array, is read as these members, and no token is left
abbrev pub Reads : ℕ → List ℕ → Members → Type 0
Reads d a ms = value d (tokens (alone a)) ≡ Some (one ms, [])

abbrev pub HasSome : Members → Type 0
HasSome j.no_members = ⊥
HasSome (j.member k v ms) = ⊤

tokens_alone : (a : List ℕ) → tokens (alone a) ≡ begin_array ∷ begin_object ∷ punctuate fresh (lex between (a ++ 125 ∷ 93 ∷ []))
unfolding lex punctuate
tokens_alone a = refl

abbrev tl : List Token → List Token
tl [] = []
tl (t ∷ ts) = ts

pub inner : (d : ℕ) (a : List ℕ) (ms : Members) → Reads d a ms → punctuate fresh (lex between (a ++ 125 ∷ 93 ∷ [])) ≡ members_tokens ms ++ end_array ∷ []
inner d a ms e = ap (λ l. tl (tl l)) (sym (tokens_alone a) ∙ value-json_tokens_back d (tokens (alone a)) [] (one ms) e) ∙ append-nil (members_tokens ms ++ end_array ∷ [])

inner_good : (ms : Members) → NoBad (members_tokens ms ++ end_array ∷ [])
inner_good ms = nobad-append (members_tokens ms) (end_array ∷ []) (nobad-members ms) (refl, tt)

no_quote : NoQuote (125 ∷ 93 ∷ [])
no_quote = (λ e. Prim.cc, (λ e. Prim.cc, tt))

-- the lexemes of a text give the tokens of the members if no colon follows the text
pub record Members_of (a : List ℕ) (ms : Members) : Type 0 where
  pub ls : List Lexeme
  pub lexed : (b : List ℕ) → Delimited b → lex between (a ++ b) ≡ ls ++ lex between b
  pub goes : (more : List Lexeme) → begins_colon more ≡ false → punctuate fresh (ls ++ more) ≡ body ms ++ punctuate after_value more

abbrev ending : List Lexeme
ending = token end_object ∷ token end_array ∷ []

lex_ending : lex between (125 ∷ 93 ∷ []) ≡ ending
unfolding lex
lex_ending = refl

closes_at : (p : Place) (ms : Members) (ts : List Token) → HasSome ms → (p ≡ fresh → opened true ts ≡ true) → ts ++ punctuate p ending ≡ members_tokens ms ++ end_array ∷ [] → (p ≡ after_value) × (ts ≡ body ms)
unfolding punctuate
closes_at fresh j.no_members ts some f e = absurd some
closes_at fresh (j.member k v ms) ts some f e =
    let all = j.member k v ms in
    let same : ts ≡ body all = append_cancel_right ts (body all) (end_object ∷ end_array ∷ []) (e ∙ ap (λ l. l ++ end_array ∷ []) (closed_body all) ∙ append_assoc (body all) (end_object ∷ []) (end_array ∷ [])) in
    absurd (false≢true (sym (ap (opened true) same ∙ opened-append true (json_tokens v) (body ms) ∙ shut-body _ ms (shut-json true v)) ∙ f refl))
closes_at after_value ms ts some f e =
    (refl, append_cancel_right ts (body ms) (end_object ∷ end_array ∷ []) (e ∙ ap (λ l. l ++ end_array ∷ []) (closed_body ms) ∙ append_assoc (body ms) (end_object ∷ []) (end_array ∷ [])))
closes_at p ms ts some f e = absurd (false≢true (nobad_last ts (bad ∷ []) (subst NoBad (sym e) (inner_good ms))).0)

fresh_opened : (p : Place) (o : Bool) → Fits p o → p ≡ fresh → o ≡ true
fresh_opened fresh o f e = f
fresh_opened p o f e = Prim.cc

pub members_of : (d : ℕ) (a : List ℕ) (ms : Members) → HasSome ms → Reads d a ms → Members_of a ms
members_of d a ms some e =
    let good : NoBad (punctuate fresh (lex between (a ++ 125 ∷ 93 ∷ []))) = subst NoBad (sym (inner d a ms e)) (inner_good ms) in
    let p = piece_of a (125 ∷ 93 ∷ []) no_quote refl (good_lexemes fresh _ good) in
    let front : lex between (a ++ 125 ∷ 93 ∷ []) ≡ p.ls ++ ending = p.lexed (125 ∷ 93 ∷ []) refl ∙ ap (λ l. p.ls ++ l) lex_ending in
    let s = split fresh true p.ls ending refl refl (subst (λ l. NoBad (punctuate fresh l)) front good) in
    let at = closes_at s.end ms s.ts some (fresh_opened s.end (opened true s.ts) s.fits) (sym (s.goes ending refl) ∙ ap (punctuate fresh) (sym front) ∙ inner d a ms e) in
    record {
      ls = p.ls;
      lexed = p.lexed;
      goes = λ more f. s.goes more f ∙ (λ i. at.1 i ++ punctuate (at.0 i) more);
    }

-- ---- the joined text

abbrev pub IsKeyed : List Token → Type 0
IsKeyed (key s ∷ ts) = ⊤
IsKeyed o = ⊥

placed_alike : (t : Token) (c : Bool) (k : Place → List Token) → IsKeyed (place_token fresh t c k) → place_token after_comma t c k ≡ place_token fresh t c k
placed_alike end_object c k h = absurd h
placed_alike end_array c k h = absurd h
placed_alike t c k h = refl

pub behind_comma : (ls : List Lexeme) → IsKeyed (punctuate fresh ls) → punctuate after_comma ls ≡ punctuate fresh ls
unfolding punctuate
behind_comma (token t ∷ ls) h = placed_alike t (begins_colon ls) (λ n. punctuate n ls) h
behind_comma ls h = absurd h

pub keyed : (ms : Members) (ts : List Token) → HasSome ms → IsKeyed (members_tokens ms ++ ts)
keyed j.no_members ts h = absurd h
keyed (j.member k v ms) ts h = tt

pub lex_comma : (b : List ℕ) → lex between (44 ∷ b) ≡ comma ∷ lex between b
unfolding lex
lex_comma b = refl

pub after_one : (ls : List Lexeme) → punctuate after_value (comma ∷ ls) ≡ punctuate after_comma ls
unfolding punctuate
after_one ls = refl

pub room : (d : ℕ) (a : List ℕ) (ms : Members) → Reads d a ms → suc (suc (members_depth ms)) ≤ d
room d a ms e = let deep : depth (one ms) ≤ d = value-depth d (tokens (alone a)) [] (one ms) e in omega (arith, deep)

pub joined : (d : ℕ) (a b : List ℕ) (ms ns : Members) → HasSome ms → HasSome ns → Reads d a ms → Reads d b ns → Reads d (a ++ 44 ∷ b) (plus ms ns)
joined d a b ms ns some more e f =
    let m = members_of d a ms some e in
    let tail = b ++ 125 ∷ 93 ∷ [] in
    let lexemes : lex between ((a ++ 44 ∷ b) ++ 125 ∷ 93 ∷ []) ≡ m.ls ++ comma ∷ lex between tail = ap (lex between) (append_assoc a (44 ∷ b) (125 ∷ 93 ∷ [])) ∙ m.lexed (44 ∷ tail) refl ∙ ap (λ l. m.ls ++ l) (lex_comma tail) in
    let last : punctuate after_comma (lex between tail) ≡ members_tokens ns ++ end_array ∷ [] = behind_comma (lex between tail) (subst IsKeyed (sym (inner d b ns f)) (keyed ns (end_array ∷ []) more)) ∙ inner d b ns f in
    let all : punctuate fresh (lex between ((a ++ 44 ∷ b) ++ 125 ∷ 93 ∷ [])) ≡ members_tokens (plus ms ns) ++ end_array ∷ [] =
    ap (punctuate fresh) lexemes ∙ m.goes (comma ∷ lex between tail) refl ∙ ap (λ l. body ms ++ l) (after_one (lex between tail) ∙ last)
    ∙ sym (append_assoc (body ms) (members_tokens ns) (end_array ∷ [])) ∙ ap (λ l. l ++ end_array ∷ []) (sym (body-plus ms ns)) in
    let deep : members_depth (plus ms ns) ≤ members_depth (plus ms ns) = omega arith in
    let one_room = room d a ms e in
    let other_room = room d b ns f in
    let fits : suc (suc (members_depth (plus ms ns))) ≤ d = within d (members_depth ms) (members_depth ns) (plus ms ns) one_room other_room (depth-plus ms ns) in
    let deepest : depth (one (plus ms ns)) ≤ d = omega (arith, fits) in
    ap (value d) (tokens_alone (a ++ 44 ∷ b) ∙ ap (λ l. begin_array ∷ begin_object ∷ l) all ∙ sym (append-nil _)) ∙ value-json_tokens (one (plus ms ns)) d [] deepest
  where
    within : (d x y : ℕ) (ps : Members) → suc (suc x) ≤ d → suc (suc y) ≤ d → ((n : ℕ) → x ≤ n → y ≤ n → members_depth ps ≤ n) → suc (suc (members_depth ps)) ≤ d
    within d x y ps h k f = let most = f (d - 2) (omega arith) (omega arith) in omega (arith, most)
