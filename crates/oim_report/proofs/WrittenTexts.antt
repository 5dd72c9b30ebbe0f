-- If a name satisfies `FitsName`, the text that spells it expands to it, is UTF-8 and has a colon. Different names have different
-- texts.
use Rattle.oim_report.proofs.Shared.{◌≡◌, ◌≢◌, ◌<◌, ℕ, List, [], ◌∷◌, length, true, not, Some, refl, sym, ap, ◌∙◌, arith, ◌++◌, Bool, false, cond, None, ◌==◌, IsUtf8, ℤ, All, IfSome, nat_lt, ◌&&◌, zip, IsAscii, eqb-true, list_all, slice_split, onto_first, is_ascii_alphanumeric, and_parts, and_from, or_right, nat_tests, list_any-append, IsUtf8-append, IsUtf8-from_ascii, IsUtf8-nil, is_in_range, All-head, All-tail, QName, is_name_byte, is_colon, is_part, is_name, is_entity, prefix_part, local_part, Binding, uri_of, Expands, ExpandsEntity, prefix_part-spelled, local_part-spelled, filled, IsShort, is_hyphen, is_group, is_language, period_text, HasMoments, Period, Forever, Instant, Duration, has_colon, named, entity_named, FitsName, FitsEntity, SpellsName}
use Rattle.std.proofs.lemmas.Str.Ascii.{IsAscii-nil, IsAscii-cons}
use Rattle.oim_value.specs.Plain.{plain}
use Rattle.oim_value.proofs.PlainLaws.{plain_is_ascii, short_is_writable}
use Rattle.oim_dims.specs.DateTime.{picture, matches_picture, has_picture, second_at, is_date_time, moment_text, IsMoment}
use Rattle.oim_dims.specs.Unit.{Measures, product_text, side_text, unit_text}
use Rattle.oim_dims.proofs.MomentText.{moment_back}
use Rattle.oim_report.proofs.Naming.{expanded}

simple_byte : (c : ℕ) → is_ascii_alphanumeric c ≡ true → is_name_byte c ≡ true
simple_byte c h = grind (arith, nat_tests)

pub simple_small : (c : ℕ) → is_ascii_alphanumeric c ≡ true → c < 128
simple_small c h = grind (arith, nat_tests)

simple_bytes : (p : List ℕ) → list_all is_ascii_alphanumeric p ≡ true → list_all is_name_byte p ≡ true
simple_bytes [] h = refl
simple_bytes (c ∷ cs) h =
    let b = and_parts (is_ascii_alphanumeric c) (list_all is_ascii_alphanumeric cs) h in
    and_from (is_name_byte c) (list_all is_name_byte cs) (simple_byte c b.0) (simple_bytes cs b.1)

pub simple_ascii : (p : List ℕ) → list_all is_ascii_alphanumeric p ≡ true → IsAscii p
simple_ascii [] h = IsAscii-nil
simple_ascii (c ∷ cs) h =
    let b = and_parts (is_ascii_alphanumeric c) (list_all is_ascii_alphanumeric cs) h in
    IsAscii-cons c cs (simple_small c b.0) (simple_ascii cs b.1)

prefix_form : (p : List ℕ) → p ≢ [] → list_all is_ascii_alphanumeric p ≡ true → is_part p ≡ true
prefix_form p some h = and_from (list_all is_name_byte p) (not (length p == 0)) (simple_bytes p h) (filled p some)

module _ (bs : List Binding) (spelled : QName → List ℕ) (n : QName) (s : SpellsName bs spelled n) where
  before : is_part s.prefix ≡ true
  before = prefix_form s.prefix s.filled s.simple

  its_prefix : prefix_part (spelled n) ≡ s.prefix
  its_prefix = ap prefix_part s.text ∙ prefix_part-spelled s.prefix n.local_part before

  its_local : local_part (spelled n) ≡ n.local_part
  its_local = ap local_part s.text ∙ local_part-spelled s.prefix n.local_part before

  its_uri : uri_of bs (prefix_part (spelled n)) ≡ Some n.uri
  its_uri = ap (uri_of bs) its_prefix ∙ s.bound

  pub expands : FitsName n → Expands bs (spelled n) n
  expands fits = record {
    form = and_from (is_part (prefix_part (spelled n))) (is_part (local_part (spelled n))) (ap is_part its_prefix ∙ before) (ap is_part its_local ∙ fits.form);
    uri = its_uri;
    allowed = fits.namespace.allowed;
    local_part = sym its_local;
  }

  pub expands_entity : FitsEntity n → ExpandsEntity bs (spelled n) n
  expands_entity fits = record {
    form = and_from (is_part (prefix_part (spelled n))) (not (length (local_part (spelled n)) == 0)) (ap is_part its_prefix ∙ before) (ap (λ l. not (length l == 0)) its_local ∙ filled n.local_part fits.some);
    uri = its_uri;
    allowed = fits.scheme.allowed;
    local_part = sym its_local;
  }

  pub spelled_utf8 : IsUtf8 n.local_part → IsUtf8 (spelled n)
  spelled_utf8 utf8 =
      rw s.text (IsUtf8-append s.prefix (58 ∷ n.local_part) (IsUtf8-from_ascii s.prefix (simple_ascii s.prefix s.simple)) (IsUtf8-append (58 ∷ []) n.local_part (IsUtf8-from_ascii (58 ∷ []) (IsAscii-cons 58 [] (omega arith) IsAscii-nil)) utf8))

  pub spelled_colon : has_colon (spelled n) ≡ true
  spelled_colon = rw s.text (list_any-append is_colon s.prefix (58 ∷ n.local_part) ∙ or_right _ _ refl)

pub name_back : (bs : List Binding) (spelled : QName → List ℕ) (n : QName) → FitsName n → SpellsName bs spelled n → named bs (spelled n) ≡ Some n
name_back bs spelled n fits s = expanded is_name bs (spelled n) n (expands bs spelled n s fits)

pub entity_back : (bs : List Binding) (spelled : QName → List ℕ) (n : QName) → FitsEntity n → SpellsName bs spelled n → entity_named bs (spelled n) ≡ Some n
entity_back bs spelled n fits s = expanded is_entity bs (spelled n) n (expands_entity bs spelled n s fits)

pub spelled_apart : (bs : List Binding) (spelled : QName → List ℕ) (m n : QName) → FitsName m → FitsName n → SpellsName bs spelled m → SpellsName bs spelled n → m ≢ n → spelled m ≢ spelled n
spelled_apart bs spelled m n fm fn sm sn other same =
    let one : Some m ≡ Some n = sym (name_back bs spelled m fm sm) ∙ ap (named bs) same ∙ name_back bs spelled n fn sn in
    other (cc)

-- ---- The texts of a written fact are UTF-8.

byte_utf8 : (c : ℕ) (t : List ℕ) → c < 128 → IsUtf8 t → IsUtf8 (c ∷ t)
byte_utf8 c t small h = IsUtf8-append (c ∷ []) t (IsUtf8-from_ascii (c ∷ []) (IsAscii-cons c [] small IsAscii-nil)) h

pub plain_utf8 : (units : ℤ) → IsShort units → IsUtf8 (plain units)
plain_utf8 units h = IsUtf8-from_ascii (plain units) (plain_is_ascii units (short_is_writable units h))

matched_small : (c x : ℕ) → matches_picture (c, x) ≡ true → c < 128 → x < 128
matched_small c x h small = grind (arith, nat_tests)

abbrev is_small : ℕ → Bool
is_small c = nat_lt c 128

small_is : (c : ℕ) → is_small c ≡ true → c < 128
small_is c h = grind (arith, nat_tests)

matched_ascii : (p t : List ℕ) → length t ≡ length p → list_all matches_picture (zip p t) ≡ true → list_all is_small p ≡ true → IsAscii t
matched_ascii p [] same h small = IsAscii-nil
matched_ascii [] (x ∷ xs) same h small = absurd (omega arith)
matched_ascii (c ∷ cs) (x ∷ xs) same h small =
    let b = and_parts (matches_picture (c, x)) (list_all matches_picture (zip cs xs)) h in
    let s = and_parts (is_small c) (list_all is_small cs) small in
    IsAscii-cons x xs (matched_small c x b.0 (small_is c s.0)) (matched_ascii cs xs (omega arith) b.1 s.1)

pictured_ascii : (t : List ℕ) → has_picture t ≡ true → IsAscii t
unfolding has_picture
pictured_ascii t h =
    let b = and_parts (length t == 19) (list_all matches_picture (zip picture t)) h in
    matched_ascii picture t (eqb-true (length t) 19 b.0) b.1 refl

denoted : (b : Bool) (z m : ℤ) → cond b (Some z) None ≡ Some m → b ≡ true
denoted true z m h = refl
denoted false z m h = cc

moment_ascii : (m : ℤ) → IsMoment m → IsAscii (moment_text m)
moment_ascii m h =
    let t = moment_text m in
    let passes : is_date_time t ≡ true = denoted (is_date_time t) (second_at t) m (moment_back m h) in
    pictured_ascii t (first_of_four (has_picture t) _ _ _ passes)
  where
    first_of_four : (a b c d : Bool) → (a && b && c && d) ≡ true → a ≡ true
    first_of_four a b c d e = (and_parts a b (and_parts (a && b) c (and_parts (a && b && c) d e).0).0).0

pub period_utf8 : (p : Period) → HasMoments p → IfSome (period_text p) IsUtf8
period_utf8 Forever h = tt
period_utf8 (Instant m) h = IsUtf8-from_ascii (moment_text m) (moment_ascii m h)
period_utf8 (Duration start end) h =
    IsUtf8-append (moment_text start) (47 ∷ moment_text end) (IsUtf8-from_ascii (moment_text start) (moment_ascii start h.0)) (byte_utf8 47 (moment_text end) (omega arith) (IsUtf8-from_ascii (moment_text end) (moment_ascii end h.1)))

abbrev is_simple : List ℕ → Bool
is_simple = list_all is_ascii_alphanumeric

hyphen_small : (c : ℕ) → is_hyphen c ≡ true → c < 128
hyphen_small c h = grind (arith, nat_tests)

onto_simple : (c : ℕ) (gs : List (List ℕ)) → list_all is_simple (onto_first c gs) ≡ true → (is_ascii_alphanumeric c ≡ true) × (list_all is_simple gs ≡ true)
onto_simple c [] h = ((and_parts (is_ascii_alphanumeric c) true (and_parts (is_simple (c ∷ [])) true h).0).0, refl)
onto_simple c (g ∷ gs) h =
    let b = and_parts (is_simple (c ∷ g)) (list_all is_simple gs) h in
    let d = and_parts (is_ascii_alphanumeric c) (is_simple g) b.0 in
    (d.0, and_from (is_simple g) (list_all is_simple gs) d.1 b.1)

groups_ascii : (t : List ℕ) → list_all is_simple (slice_split is_hyphen t) ≡ true → IsAscii t
groups_ascii [] h = IsAscii-nil
groups_ascii (c ∷ cs) h =
    elim (is_hyphen c) as (λ b. is_hyphen c ≡ b → list_all is_simple (cond b ([] ∷ slice_split is_hyphen cs) (onto_first c (slice_split is_hyphen cs))) ≡ true → IsAscii (c ∷ cs)) [
      | true ↦ λ is e. IsAscii-cons c cs (hyphen_small c is) (groups_ascii cs e)
      | false ↦ λ is e. let b = onto_simple c (slice_split is_hyphen cs) e in IsAscii-cons c cs (simple_small c b.0) (groups_ascii cs b.1)
    ] refl h

groups_simple : (gs : List (List ℕ)) → list_all is_group gs ≡ true → list_all is_simple gs ≡ true
groups_simple [] h = refl
groups_simple (g ∷ gs) h =
    let b = and_parts (is_group g) (list_all is_group gs) h in
    and_from (is_simple g) (list_all is_simple gs) (and_parts (is_in_range 1 8 (length g)) (is_simple g) b.0).1 (groups_simple gs b.1)

pub language_utf8 : (t : List ℕ) → is_language t ≡ true → IsUtf8 t
language_utf8 t h =
    let b = and_parts (list_all is_group (slice_split is_hyphen t)) _ h in
    IsUtf8-from_ascii t (groups_ascii t (groups_simple (slice_split is_hyphen t) b.0))

module _ (f : QName → List ℕ) where
  abbrev HasUtf8 : QName → Type 0
  HasUtf8 n = IsUtf8 (f n)

  product_utf8 : (ns : List QName) → All HasUtf8 ns → IsUtf8 (product_text f ns)
  product_utf8 [] h = IsUtf8-nil
  product_utf8 (n ∷ []) h = All-head HasUtf8 n [] h
  product_utf8 (n ∷ m ∷ ns) h = IsUtf8-append (f n) (42 ∷ product_text f (m ∷ ns)) (All-head HasUtf8 n (m ∷ ns) h) (byte_utf8 42 (product_text f (m ∷ ns)) (omega arith) (product_utf8 (m ∷ ns) (All-tail HasUtf8 n (m ∷ ns) h)))

  side_utf8 : (ns : List QName) → All HasUtf8 ns → IsUtf8 (side_text f ns)
  side_utf8 ns h =
      elim (length ns == 1) as (λ b. IsUtf8 (cond b (product_text f ns) (40 ∷ product_text f ns ++ 41 ∷ []))) [
        | true ↦ product_utf8 ns h
        | false ↦ byte_utf8 40 (product_text f ns ++ 41 ∷ []) (omega arith) (IsUtf8-append (product_text f ns) (41 ∷ []) (product_utf8 ns h) (byte_utf8 41 [] (omega arith) IsUtf8-nil))
      ]

  pub unit_utf8 : (m : Measures) → All HasUtf8 m.numerators → All HasUtf8 m.denominators → IsUtf8 (unit_text f m)
  unfolding unit_text
  unit_utf8 m up down =
      elim (length m.denominators == 0) as (λ b. IsUtf8 (cond b (product_text f m.numerators) (side_text f m.numerators ++ 47 ∷ side_text f m.denominators))) [
        | true ↦ product_utf8 m.numerators up
        | false ↦ IsUtf8-append (side_text f m.numerators) (47 ∷ side_text f m.denominators) (side_utf8 m.numerators up) (byte_utf8 47 (side_text f m.denominators) (omega arith) (side_utf8 m.denominators down))
      ]
