-- If the parts of a document can be read, the whole document is read with the members of all parts.
use Rattle.oim_report.proofs.Shared.{◌≡◌, ℕ, ◌≤◌, true, List, [], ◌∷◌, ◌++◌, Some, option_map, option_and_then, refl, sym, ap, ◌∙◌, subst, arith, append_assoc, append-nil, codes, Option, None, is_space, value, json_tokens, members_tokens, depth, members_depth, value-json_tokens, of_json, of_members, max_depth, read, Data, object, Members, no_members, member, put, IsPiece, put_all, Adds, AreSpaces, facts_key, IsLike, IsOutline, AfterSpaces, BeforeSpaces, IsEnd, IsTail, IsSplit, IsBeside, with_before, with_behind, Ascends}
use Rattle.json.specs.Token.{Token, begin_object, end_object, key, string}
use Rattle.json.specs.Text.{content}
use Rattle.json.specs.Lex.{Lexeme, token, comma, colon, between, lex, fresh, after_value, punctuate, tokens}
use Rattle.json.specs.Json as j
use Rattle.serde_json.specs.Data as d
use Rattle.oim_report.proofs.PieceTexts.{facts_text}
use Rattle.oim_report.proofs.JsonWords.{is_end, each_space}
use Rattle.oim_report.proofs.JsonLexemes.{Delimited}
use Rattle.oim_report.proofs.JoinedMembers.{body, plus, closed_body, depth-plus, HasSome, Members_of, members_of, IsKeyed, behind_comma, lex_comma, after_one, room}
use Rattle.oim_report.proofs.PiecesInTurn.{some_read, read_as}
use Rattle.oim_report.proofs.PutMembers.{both_found, rising_found, rising_stays}
use Rattle.oim_report.proofs.BesideFacts.{facts_added}

-- ---- a document's text denotes the members before and after `facts`, and the member `facts` with the members of all pieces

punctuate_open : (k : List ℕ) (ls : List Lexeme) → punctuate fresh (token (string k) ∷ colon ∷ token begin_object ∷ ls) ≡ key k ∷ begin_object ∷ punctuate fresh ls
unfolding punctuate
punctuate_open k ls = refl

punctuate_close : (ls : List Lexeme) → punctuate after_value (token end_object ∷ ls) ≡ end_object ∷ punctuate after_value ls
unfolding punctuate
punctuate_close ls = refl

lex_close : (b : List ℕ) → lex between (125 ∷ b) ≡ token end_object ∷ lex between b
unfolding lex
lex_close b = refl

lex_open : (b : List ℕ) → tokens (123 ∷ b) ≡ begin_object ∷ punctuate fresh (lex between b)
unfolding lex punctuate
lex_open b = refl

lex_nothing : lex between [] ≡ []
unfolding lex
lex_nothing = refl

ended : punctuate after_value [] ≡ []
unfolding punctuate
ended = refl

-- ---- white space

lex_space : (x : ℕ) → is_space x ≡ true → (b : List ℕ) → lex between (x ∷ b) ≡ lex between b
unfolding lex
lex_space = each_space (λ x. (b : List ℕ) → lex between (x ∷ b) ≡ lex between b) (λ b. refl) (λ b. refl) (λ b. refl) (λ b. refl)

pub lex_spaces : (s b : List ℕ) → AreSpaces s → lex between (s ++ b) ≡ lex between b
lex_spaces [] b h = refl
lex_spaces (x ∷ s) b h = lex_space x h.0 (s ++ b) ∙ lex_spaces s b h.1

pub tokens_spaces : (s b : List ℕ) → AreSpaces s → tokens (s ++ b) ≡ tokens b
tokens_spaces s b h = ap (punctuate fresh) (lex_spaces s b h)

lex_facts : (b : List ℕ) → lex between (facts_key ++ b) ≡ token (string (codes "facts")) ∷ lex between b
unfolding lex content
lex_facts b = refl

lex_colon : (b : List ℕ) → lex between (58 ∷ b) ≡ colon ∷ lex between b
unfolding lex
lex_colon b = refl

lex_brace : (b : List ℕ) → lex between (123 ∷ b) ≡ token begin_object ∷ lex between b
unfolding lex
lex_brace b = refl

lex_end : (s : List ℕ) → AreSpaces s → lex between s ≡ []
lex_end s h = ap (lex between) (sym (append-nil s)) ∙ lex_spaces s [] h ∙ lex_nothing

behind_spaces : (s b : List ℕ) → AreSpaces s → Delimited b → Delimited (s ++ b)
behind_spaces [] b h d = d
behind_spaces (x ∷ s) b h d = space_ends x h.0
  where
    space_ends : (x : ℕ) → is_space x ≡ true → is_end x ≡ true
    space_ends = each_space (λ x. is_end x ≡ true) refl refl refl refl

-- ---- texts of members, by their tokens

led : (s a : List ℕ) (ms : j.Members) → AreSpaces s → Members_of a ms → Members_of (s ++ a) ms
led s a ms h m = record {
  ls = m.ls;
  lexed = λ b d. ap (lex between) (append_assoc s a b) ∙ lex_spaces s (a ++ b) h ∙ m.lexed b d;
  goes = m.goes;
}

body_both : (ms ns : j.Members) → body (plus ms ns) ≡ body ms ++ body ns
body_both j.no_members ns = refl
body_both (j.member k v ms) ns = ap (λ l. key k ∷ (json_tokens v ++ l)) (body_both ms ns) ∙ ap (λ l. key k ∷ l) (sym (append_assoc (json_tokens v) (body ms) (body ns)))

keyed_body : (ms : j.Members) (ts : List Token) → HasSome ms → IsKeyed (body ms ++ ts)
keyed_body j.no_members ts h = absurd h
keyed_body (j.member k v ms) ts h = tt

both_members : (a s b : List ℕ) (ms ns : j.Members) → AreSpaces s → HasSome ns → Members_of a ms → Members_of b ns → Members_of (a ++ (s ++ 44 ∷ b)) (plus ms ns)
both_members a s b ms ns h some m n = record {
  ls = m.ls ++ comma ∷ n.ls;
  lexed = λ c d.
      ap (lex between) (append_assoc a (s ++ 44 ∷ b) c ∙ ap (λ l. a ++ l) (append_assoc s (44 ∷ b) c)) ∙ m.lexed (s ++ 44 ∷ (b ++ c)) (behind_spaces s _ h refl)
      ∙ ap (λ l. m.ls ++ l) (lex_spaces s _ h ∙ lex_comma (b ++ c) ∙ ap (λ l. comma ∷ l) (n.lexed c d)) ∙ sym (append_assoc m.ls (comma ∷ n.ls) (lex between c));
  goes = λ more f.
      let last = n.goes more f in
      let is_keyed : IsKeyed (punctuate fresh (n.ls ++ more)) = subst IsKeyed (sym last) (keyed_body ns (punctuate after_value more) some) in
      ap (punctuate fresh) (append_assoc m.ls (comma ∷ n.ls) more) ∙ m.goes (comma ∷ (n.ls ++ more)) refl
      ∙ ap (λ l. body ms ++ l) (after_one (n.ls ++ more) ∙ behind_comma (n.ls ++ more) is_keyed ∙ last)
      ∙ sym (append_assoc (body ms) (body ns) (punctuate after_value more)) ∙ ap (λ l. l ++ punctuate after_value more) (sym (body_both ms ns));
}

wrapped : (s3 s4 f s5 : List ℕ) (fs : j.Members) → AreSpaces s3 → AreSpaces s4 → AreSpaces s5 → Members_of f fs → Members_of (facts_text s3 s4 f s5) (j.member (codes "facts") (j.object fs) j.no_members)
wrapped s3 s4 f s5 fs h3 h4 h5 m =
    let k = codes "facts" in
    let shut = s5 ++ 125 ∷ [] in
    let inside = f ++ shut in
    let opened = s4 ++ 123 ∷ inside in
    record {
      ls = token (string k) ∷ colon ∷ token begin_object ∷ (m.ls ++ token end_object ∷ []);
      lexed = λ c d.
          ap (lex between) (append_assoc facts_key (s3 ++ 58 ∷ opened) c) ∙ lex_facts ((s3 ++ 58 ∷ opened) ++ c) ∙ ap (λ l. token (string k) ∷ l)
          (ap (lex between) (append_assoc s3 (58 ∷ opened) c) ∙ lex_spaces s3 _ h3 ∙ lex_colon (opened ++ c) ∙ ap (λ l. colon ∷ l)
          (ap (lex between) (append_assoc s4 (123 ∷ inside) c) ∙ lex_spaces s4 _ h4 ∙ lex_brace (inside ++ c) ∙ ap (λ l. token begin_object ∷ l)
          (ap (lex between) (append_assoc f shut c) ∙ m.lexed (shut ++ c) (subst Delimited (sym (append_assoc s5 (125 ∷ []) c)) (behind_spaces s5 _ h5 refl))
          ∙ ap (λ l. m.ls ++ l) (ap (lex between) (append_assoc s5 (125 ∷ []) c) ∙ lex_spaces s5 _ h5 ∙ lex_close c)
          ∙ sym (append_assoc m.ls (token end_object ∷ []) (lex between c)))));
      goes = λ more e.
          let last = token end_object ∷ [] in
          punctuate_open k ((m.ls ++ last) ++ more) ∙ ap (λ l. key k ∷ begin_object ∷ l)
          (ap (punctuate fresh) (append_assoc m.ls last more) ∙ m.goes (token end_object ∷ more) refl ∙ ap (λ l. body fs ++ l) (punctuate_close more)
          ∙ sym (append_assoc (body fs) (end_object ∷ []) (punctuate after_value more)) ∙ ap (λ l. l ++ punctuate after_value more) (sym (closed_body fs) ∙ sym (append-nil (members_tokens fs))));
    }

-- ---- the data that texts denote

-- the text is read as these members, nested at most n levels deep
pub record Gives (text : List ℕ) (n : ℕ) (found : d.Members) : Type 0 where
  pub ms : j.Members
  pub members : Members_of text ms
  pub some : HasSome ms
  pub gives : of_members ms d.no_members ≡ Some found
  pub shallow : members_depth ms ≤ n

-- a piece is read inside an array and an object, so its members are nested at most 125 levels deep
pub piece_gives : (a : List ℕ) (found : d.Members) → IsPiece a found → Gives a 125 found
piece_gives a found p =
    let r = read_as a found p.reads in
    let some = some_read r.ms found r.gives p.some in
    let deep = room max_depth a r.ms r.reads in
    record { ms = r.ms; members = members_of max_depth a r.ms some r.reads; some = some; gives = r.gives; shallow = omega (arith, deep) }

pub less_deep : (a : List ℕ) (found : d.Members) → Gives a 125 found → Gives a 126 found
less_deep a found g = let deep = g.shallow in record { ms = g.ms; members = g.members; some = g.some; gives = g.gives; shallow = omega (arith, deep) }

pub led_gives : (s a : List ℕ) (n : ℕ) (found : d.Members) → AreSpaces s → Gives a n found → Gives (s ++ a) n found
led_gives s a n found h g = record { ms = g.ms; members = led s a g.ms h g.members; some = g.some; gives = g.gives; shallow = g.shallow }

some_plus : (ms ns : j.Members) → HasSome ms → HasSome (plus ms ns)
some_plus j.no_members ns h = absurd h
some_plus (j.member k v ms) ns h = tt

pub both_give : (a s b : List ℕ) (n : ℕ) (found more : d.Members) → AreSpaces s → Gives a n found → Gives b n more → Gives (a ++ (s ++ 44 ∷ b)) n (put_all more found)
both_give a s b n found more h g k = record {
  ms = plus g.ms k.ms;
  members = both_members a s b g.ms k.ms h k.some g.members k.members;
  some = some_plus g.ms k.ms g.some;
  gives = both_found g.ms k.ms found more g.gives k.gives;
  shallow = depth-plus g.ms k.ms n g.shallow k.shallow;
}

pub facts_give : (s3 s4 f s5 : List ℕ) (found : d.Members) → AreSpaces s3 → AreSpaces s4 → AreSpaces s5 → Gives f 125 found → Gives (facts_text s3 s4 f s5) 126 (d.member (codes "facts") (d.object found) d.no_members)
facts_give s3 s4 f s5 found h3 h4 h5 g =
    let deep = g.shallow in
    record {
      ms = j.member (codes "facts") (j.object g.ms) j.no_members;
      members = wrapped s3 s4 f s5 g.ms h3 h4 h5 g.members;
      some = tt;
      gives = ap (λ o. option_and_then (λ x. Some (d.member (codes "facts") x d.no_members)) (option_map d.object o)) g.gives;
      shallow = omega (arith, deep);
    }

pub document_gives : (s0 m s7 s8 : List ℕ) (found : d.Members) → AreSpaces s0 → AreSpaces s7 → AreSpaces s8 → Gives m 126 found → read (s0 ++ 123 ∷ (m ++ (s7 ++ 125 ∷ s8))) ≡ Some (d.object found)
document_gives s0 m s7 s8 found h0 h7 h8 g =
    let all = j.object g.ms in
    let deep = g.shallow in
    let deepest : depth all ≤ max_depth = omega (arith, deep) in
    let shut : lex between (s7 ++ 125 ∷ s8) ≡ token end_object ∷ [] = lex_spaces s7 _ h7 ∙ lex_close s8 ∙ ap (λ l. token end_object ∷ l) (lex_end s8 h8) in
    let inside : punctuate fresh (lex between (m ++ (s7 ++ 125 ∷ s8))) ≡ members_tokens g.ms =
    ap (punctuate fresh) (g.members.lexed _ (behind_spaces s7 _ h7 refl) ∙ ap (λ l. g.members.ls ++ l) shut) ∙ g.members.goes (token end_object ∷ []) refl
    ∙ ap (λ l. body g.ms ++ l) (punctuate_close [] ∙ ap (λ l. end_object ∷ l) ended) ∙ sym (closed_body g.ms) in
    let parsed : value max_depth (tokens (s0 ++ 123 ∷ (m ++ (s7 ++ 125 ∷ s8)))) ≡ Some (all, []) =
    ap (value max_depth) (tokens_spaces s0 _ h0 ∙ lex_open _ ∙ ap (λ l. begin_object ∷ l) inside ∙ sym (append-nil _)) ∙ value-json_tokens all max_depth [] deepest in
    ap (λ o. option_and_then of_json (option_and_then (λ p. j.if_last p.0 p.1) o)) parsed ∙ ap (option_map d.object) g.gives

-- ---- the steps of the split

pub tail_is : (text t1 t2 front facts rest : List ℕ) (behind : Option (List ℕ)) → AfterSpaces text (58 ∷ t1) → AfterSpaces t1 (123 ∷ t2) → t2 ≡ front ++ 125 ∷ rest → BeforeSpaces front facts → IsEnd rest behind → IsTail text facts behind
tail_is text t1 t2 front facts rest behind a b s t ends = record {
  s3 = a.spaces;
  s4 = b.spaces;
  s5 = t.spaces;
  rest = rest;
  are = (a.are, b.are, t.are);
  splits =
      a.splits ∙ ap (λ l. a.spaces ++ 58 ∷ l)
      (b.splits ∙ ap (λ l. b.spaces ++ 123 ∷ l) (s ∙ ap (λ l. l ++ 125 ∷ rest) t.splits ∙ append_assoc facts t.spaces (125 ∷ rest)));
  ends = ends;
}

-- ---- the whole document

pub rising_piece : (a : List ℕ) (found : Members) → IsPiece a found → Ascends found
rising_piece a found p = let r = read_as a found p.reads in rising_found r.ms no_members found r.gives tt

own_rest : (s3 s4 f s5 r : List ℕ) → facts_text s3 s4 f s5 ++ r ≡ facts_key ++ (s3 ++ 58 ∷ (s4 ++ 123 ∷ (f ++ (s5 ++ 125 ∷ r))))
own_rest s3 s4 f s5 r =
    let inside = f ++ (s5 ++ 125 ∷ []) in
    append_assoc facts_key (s3 ++ 58 ∷ (s4 ++ 123 ∷ inside)) r
    ∙ ap (λ l. facts_key ++ l)
    (append_assoc s3 (58 ∷ (s4 ++ 123 ∷ inside)) r ∙ ap (λ l. s3 ++ 58 ∷ l)
    (append_assoc s4 (123 ∷ inside) r ∙ ap (λ l. s4 ++ 123 ∷ l) (append_assoc f (s5 ++ 125 ∷ []) r ∙ ap (λ l. f ++ l) (append_assoc s5 (125 ∷ []) r))))

behind_rest : (own s6 r : List ℕ) (e : Option (List ℕ)) → own ++ (with_behind [] s6 e ++ r) ≡ with_behind own s6 e ++ r
behind_rest own s6 r None = refl
behind_rest own s6 r (Some b) = sym (append_assoc own (s6 ++ 44 ∷ b) r)

before_rest : (b : Option (List ℕ)) (s1 x q : List ℕ) → with_before b s1 x ++ q ≡ with_before b s1 (x ++ q)
before_rest None s1 x q = refl
before_rest (Some b) s1 x q = append_assoc b (s1 ++ 44 ∷ x) q ∙ ap (λ l. b ++ l) (append_assoc s1 (44 ∷ x) q)

-- the text of all members
abbrev inside_of : {text facts : List ℕ} {before behind : Option (List ℕ)} → IsSplit text before facts behind → List ℕ
inside_of {text} {facts} {before} {behind} s =
    let t = s.tail_is in
    with_behind (with_before before s.head_is.s1 (s.head_is.s2 ++ facts_text t.s3 t.s4 facts t.s5)) t.ends.s6 behind

together : (text facts : List ℕ) (before behind : Option (List ℕ)) (s : IsSplit text before facts behind) → text ≡ s.head_is.s0 ++ 123 ∷ (inside_of s ++ (s.tail_is.ends.s7 ++ 125 ∷ s.tail_is.ends.s8))
together text facts before behind s =
    let h = s.head_is in
    let t = s.tail_is in
    let z = t.ends in
    let own = facts_text t.s3 t.s4 facts t.s5 in
    let r = z.s7 ++ 125 ∷ z.s8 in
    let rest = with_behind [] z.s6 behind ++ r in
    let front = with_before before h.s1 h.s2 in
    let last : facts_key ++ s.tail ≡ own ++ rest = ap (λ l. facts_key ++ l) t.splits ∙ sym (own_rest t.s3 t.s4 facts t.s5 t.rest) ∙ ap (λ l. own ++ l) z.splits in
    s.splits ∙ (λ i. h.splits i ++ last i) ∙ append_assoc h.s0 (123 ∷ front) (own ++ rest)
    ∙ ap (λ l. h.s0 ++ 123 ∷ l) (sym (append_assoc front own rest) ∙ ap (λ l. l ++ rest) (before_rest before h.s1 h.s2 own) ∙ behind_rest (with_before before h.s1 (h.s2 ++ own)) z.s6 r behind)

front_gives : (before : Option (List ℕ)) (s1 s2 own : List ℕ) (ms : Members) (d : Data) → AreSpaces s1 → AreSpaces s2 → IsBeside before ms → Gives own 126 (member (codes "facts") d no_members)
    → Gives (with_before before s1 (s2 ++ own)) 126 (put (codes "facts") d ms)
front_gives None s1 s2 own ms d h1 h2 e g = subst (λ l. Gives (s2 ++ own) 126 (put (codes "facts") d l)) (sym e) (led_gives s2 own 126 _ h2 g)
front_gives (Some b) s1 s2 own ms d h1 h2 p g = both_give b s1 (s2 ++ own) 126 ms _ h1 (less_deep b ms (piece_gives b ms p)) (led_gives s2 own 126 _ h2 g)

back_gives : (behind : Option (List ℕ)) (s6 a : List ℕ) (found ns : Members) → AreSpaces s6 → IsBeside behind ns → Gives a 126 found → Gives (with_behind a s6 behind) 126 (put_all ns found)
back_gives None s6 a found ns h e g = subst (λ l. Gives a 126 (put_all l found)) (sym e) g
back_gives (Some b) s6 a found ns h p g = both_give a s6 b 126 found ns h g (less_deep b ns (piece_gives b ns p))

document_read : (text facts : List ℕ) (before behind : Option (List ℕ)) (ms ns fs : Members) → IsSplit text before facts behind → IsBeside before ms → IsBeside behind ns → IsPiece facts fs
    → read text ≡ Some (object (put_all ns (put (codes "facts") (object fs) ms)))
document_read text facts before behind ms ns fs s is also p =
    let h = s.head_is in
    let t = s.tail_is in
    let z = t.ends in
    let own = facts_give t.s3 t.s4 facts t.s5 fs t.are.0 t.are.1 t.are.2 (piece_gives facts fs p) in
    ap read (together text facts before behind s)
    ∙ document_gives h.s0 _ z.s7 z.s8 _ h.are.0 z.are.1 z.are.2 (back_gives behind z.s6 _ _ ns z.are.0 also (front_gives before h.s1 h.s2 _ ms (object fs) h.are.1 h.are.2 is own))

stays : (before : Option (List ℕ)) (ms : Members) → IsBeside before ms → put_all ms no_members ≡ ms
stays None ms e = ap (λ l. put_all l no_members) e ∙ sym e
stays (Some b) ms p = rising_stays ms (rising_piece b ms p)

pub outline_is : (text facts : List ℕ) (before behind : Option (List ℕ)) (ms ns one kept : Members) (tree : Data) → IsSplit text before facts behind → IsBeside before ms → Adds ms no_members one → IsBeside behind ns → Adds ns one kept → tree ≡ object kept
    → IsOutline text tree facts
outline_is text facts before behind ms ns one kept tree s is adds also more e =
    let first = subst (λ l. IsLike l one None) (stays before ms is) (adds no_members None (record { known = refl; info = refl; facts = refl })) in (
      kept,
      e,
      (λ fs p. (
        put_all ns (put (codes "facts") (object fs) ms),
        document_read text facts before behind ms ns fs s is also p,
        more (put (codes "facts") (object fs) ms) (Some (object fs)) (facts_added (object fs) ms one first),
      )),
    )
