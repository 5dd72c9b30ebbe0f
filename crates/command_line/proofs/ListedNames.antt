-- Names in a file of names, one after another.
use Rattle.std.proofs.Common.{◌≡◌, ◌≢◌, ◌<◌, ◌-◌, ◌+◌, ◌∙◌, ◌==◌, ℕ, Bool, true, false, List, Option, Some, None, [], ◌∷◌, ◌++◌, length, take, get_or, ap, sym, refl, map, cond, eqb, eq-eqb, ne_eqb, append_assoc, lit<, arith}
use Rattle.std.proofs.lemmas.Bool.{eqb-false}
use Rattle.std.proofs.lemmas.List.{map-append, take_more}
use Rattle.std.proofs.lemmas.List.Elements.{filter-append}
use Rattle.std.proofs.lemmas.Grind.{common_steps}
use Rattle.std.proofs.Math.Seq.{take-length}
use Rattle.std.specs.Borrow.{Bor}
use Rattle.std.specs.List.{filter, slice_split}
use Rattle.std.specs.Option.{MatchOption, option_map_or, unwrap_or}
use Rattle.clap.specs.Words.{Text}
use Rattle.std.specs.Str.Lines.{strip_carriage_return}
use Rattle.oim_report.specs.Json.{without_mark}
use Rattle.command_line.specs.ReportNames.{has_text, name_end, names_in_file, report_names, without_return}
use Rattle.command_line.specs.Words.{Asked}

with_return : (name front : List ℕ) → name ≡ front ++ 13 ∷ [] → front ≡ strip_carriage_return name
with_return name front e =
    let last : get_or name (length name - 1) 0 ≡ 13 = grind (arith, common_steps) in
    let before : take (length name - 1) name ≡ front = grind (arith, common_steps) in
    sym (ap (λ t. cond t (take (length name - 1) name) name) (eq-eqb _ 13 last) ∙ before)

last_byte : (name : List ℕ) → 0 < length name → take (length name - 1) name ++ get_or name (length name - 1) 0 ∷ [] ≡ name
last_byte name some =
    let n : length name - 1 + 1 ≡ length name = omega arith in
    sym (take_more name (length name - 1) 0 (omega arith)) ∙ ap (λ k. take k name) n ∙ take-length name

no_return : (name : List ℕ) → ((front : List ℕ) → name ≢ front ++ 13 ∷ []) → name ≡ strip_carriage_return name
no_return [] none = refl
no_return (x ∷ xs) none =
    let name : List ℕ = x ∷ xs in
    let other : get_or name (length name - 1) 0 ≢ 13 =
    λ is. none (take (length name - 1) name) (sym (last_byte name (omega arith)) ∙ ap (λ b. take (length name - 1) name ++ b ∷ []) is) in
    sym (ap (λ t. cond t (take (length name - 1) name) name) (ne_eqb _ 13 other))

-- the text before the carriage return at the end of a name, or the name
pub return_stripped : (name : Bor (List ℕ)) (before : Option (Bor (List ℕ)))
    → MatchOption before ((front : List ℕ) → name.now ≢ front ++ 13 ∷ []) (λ b. name.now ≡ b.now ++ 13 ∷ []) → (unwrap_or before name).now ≡ strip_carriage_return name.now
return_stripped name None none = no_return name.now none
return_stripped name (Some before) some = with_return name.now before.now some

pub named : (name : Text) → eqb (length name) 0 ≡ false → has_text name ≡ true
named [] e = absurd (eqb-false 0 0 e refl)
named (x ∷ xs) e = refl

-- one more piece of the file is a name
pub name_added : (is_null : Bool) (words all pieces : List Text) (piece name : Text) → name ≡ without_return is_null piece → has_text name ≡ true
    → all ≡ words ++ filter has_text (map (without_return is_null) pieces) → all ++ name ∷ [] ≡ words ++ filter has_text (map (without_return is_null) (pieces ++ piece ∷ []))
name_added is_null words all pieces piece name same is before =
    let stripped = without_return is_null in
    let so_far = filter has_text (map stripped pieces) in
    let kept : filter has_text (stripped piece ∷ []) ≡ name ∷ [] =
    ap (λ n. filter has_text (n ∷ [])) (sym same) ∙ ap (λ b. cond b (name ∷ []) []) is in
    ap (λ a. a ++ name ∷ []) before ∙ append_assoc words so_far (name ∷ [])
    ∙ ap (λ more. words ++ more) (sym (ap (filter has_text) (map-append stripped pieces (piece ∷ [])) ∙ filter-append has_text (map stripped pieces) (stripped piece ∷ []) ∙ ap (λ more. so_far ++ more) kept))

pub ascii_end : (is_null : Bool) → name_end is_null < 128
ascii_end true = lit< tt
ascii_end false = lit< tt

-- all pieces of the file were read
pub names_read : (a : Asked) (file : Text) (all pieces : List Text) (text bytes : List ℕ) → a.list ≡ Some file → text ≡ without_mark bytes → pieces ≡ slice_split (λ b. b == name_end a.is_null) text
    → all ≡ a.names ++ filter has_text (map (without_return a.is_null) pieces) → all ≡ report_names a bytes
names_read a file all pieces text bytes listed same split whole =
    whole ∙ ap (λ ps. a.names ++ filter has_text (map (without_return a.is_null) ps)) split ∙ ap (λ bs. a.names ++ filter has_text (map (without_return a.is_null) (slice_split (λ b. b == name_end a.is_null) bs))) same
    ∙ ap (λ list. a.names ++ option_map_or (λ (f : Text). names_in_file a.is_null bytes) list []) (sym listed)
