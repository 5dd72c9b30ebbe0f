-- A text of JSON or CSV is at least as long as the strings or fields in it.
use Rattle.row_formats.proofs.Shared.{◌≡◌, ℕ, ◌+◌, ◌≤◌, ◌&&◌, if◌then◌else◌, Bool, true, false, List, [], ◌∷◌, ◌++◌, length, refl, ap, arith, length-append, Data, null, boolean, number, string, array, object, Items, no_items, item, Members, no_members, member, comma_if, compact_text, items_text, members_text, WriterBuilder, begins_formula, cell, guarded_inside, is_separator, marked, field_bytes, items_strings, members_strings, strings}
use Rattle.json.specs.Print.{escape, escape_byte, quoted}
use Rattle.csv.specs.Writing.{end_text, escaped, field_text, fields_text, is_blank, row_body, row_text}

escaped_one : (b : ℕ) → 1 ≤ length (escape_byte b)
escaped_one b = unfold escape_byte in grind arith

escape_longer : (s : List ℕ) → length s ≤ length (escape s)
escape_longer [] = omega arith
escape_longer (b ∷ s) = omega (arith, escaped_one b, escape_longer s, length-append (escape_byte b) (escape s))

quoted_longer : (s : List ℕ) → length s ≤ length (quoted s)
quoted_longer s = omega (arith, escape_longer s, length-append (escape s) (34 ∷ []))

mutual
  pub strings_within : (d : Data) → strings d ≤ length (compact_text d)
  strings_within null = omega arith
  strings_within (boolean b) = omega arith
  strings_within (number n) = omega arith
  strings_within (string s) = quoted_longer s
  strings_within (array ds) = let rest = items_within false ds in omega (arith, rest)
  strings_within (object ms) = let rest = members_within false ms in omega (arith, rest)

  items_within : (later : Bool) (ds : Items) → items_strings ds ≤ length (items_text later ds)
  items_within later no_items = omega arith
  items_within later (item d ds) =
      omega (arith, strings_within d, items_within true ds, length-append (comma_if later) (compact_text d ++ items_text true ds), length-append (compact_text d) (items_text true ds))

  members_within : (later : Bool) (ms : Members) → members_strings ms ≤ length (members_text later ms)
  members_within later no_members = omega arith
  members_within later (member k d ms) =
      omega (
        arith,
        quoted_longer k,
        strings_within d,
        members_within true ms,
        length-append (comma_if later) (quoted k ++ 58 ∷ (compact_text d ++ members_text true ms)),
        length-append (quoted k) (58 ∷ (compact_text d ++ members_text true ms)),
        length-append (compact_text d) (members_text true ms),
      )

-- ---- CSV

escaped_step : (cfg : WriterBuilder) (b : ℕ) (t : List ℕ) (n : ℕ) → n ≤ length (escaped cfg t) → n + 1 ≤ length (escaped cfg (b ∷ t))
escaped_step cfg b t n rest = unfold escaped in grind arith

escaped_longer : (cfg : WriterBuilder) (t : List ℕ) → length t ≤ length (escaped cfg t)
escaped_longer cfg [] = omega arith
escaped_longer cfg (b ∷ t) = omega (arith, escaped_step cfg b t (length t) (escaped_longer cfg t))

field_longer : (cfg : WriterBuilder) (t : List ℕ) → length t ≤ length (field_text cfg t)
field_longer cfg t = let inside = escaped_longer cfg t in let joined = length-append (escaped cfg t) (cfg.quote ∷ []) in grind arith

fields_are : (cfg : WriterBuilder) (t : List ℕ) (ts : List (List ℕ)) → fields_text cfg (t ∷ ts) ≡ cfg.delimiter ∷ (field_text cfg t ++ fields_text cfg ts)
fields_are cfg t ts = unfold fields_text in refl

fields_longer : (cfg : WriterBuilder) (ts : List (List ℕ)) → field_bytes ts ≤ length (fields_text cfg ts)
fields_longer cfg [] = omega arith
fields_longer cfg (t ∷ ts) =
    omega (arith, field_longer cfg t, fields_longer cfg ts, ap (λ (x : List ℕ). length x) (fields_are cfg t ts), length-append (field_text cfg t) (fields_text cfg ts))

pub record_longer : (cfg : WriterBuilder) (ts : List (List ℕ)) → field_bytes ts ≤ length (row_text cfg ts)
record_longer cfg [] = omega arith
record_longer cfg (t ∷ ts) =
    let end = (if is_blank cfg (t ∷ ts) then cfg.quote ∷ cfg.quote ∷ [] else []) ++ end_text cfg.terminator in
    omega (arith, field_longer cfg t, fields_longer cfg ts, length-append (field_text cfg t) (fields_text cfg ts), length-append (row_body cfg (t ∷ ts)) end)

marked_longer : (test : Bool) (t : List ℕ) → length t ≤ length (marked test t)
marked_longer true t = omega arith
marked_longer false t = omega arith

inside_longer : (t : List ℕ) → length t ≤ length (guarded_inside t)
inside_longer [] = omega arith
inside_longer (b ∷ t) =
    let rest = inside_longer t in
    let mark = marked_longer (begins_formula t && is_separator b) (guarded_inside t) in
    omega (arith, rest, mark)

pub cell_longer : (spreadsheet : Bool) (t : List ℕ) → length t ≤ length (cell spreadsheet t)
cell_longer true t =
    let inside = inside_longer t in
    let mark = marked_longer (begins_formula t) (guarded_inside t) in
    omega (arith, inside, mark)
cell_longer false t = omega arith
