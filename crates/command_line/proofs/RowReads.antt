-- What the getters of the matches read, by the rows.
use Rattle.std.proofs.Common.{◌≡◌, ◌∙◌, ◌==◌, ◌&&◌, ◌||◌, not, codes, ℕ, Bool, List, [], ◌∷◌, length, map, ne_eqb, Bor, Option, Some, None, Result, Ok, Err, true, false, refl, ap, sym, arith}
use Rattle.std.specs.Result.{result_ok}
use Rattle.std.specs.Prelude.{find, option_and_then, option_map}
use Rattle.std.specs.Str.Parse.{ParsesUnsigned}
use Rattle.clap.specs.Facts.{Entry}
use Rattle.clap.specs.Matches.{matched_of}
use Rattle.clap.specs.Walk.{Row, Text, row_of, rows_of}
use Rattle.clap.specs.ValueTests.{is_unsigned_in}
use Rattle.clap.specs.declared.builder.value_parser.ValueParser.TheVariants as parser
use Rattle.clap.specs.declared.parser.matches.Found.{Found}
use Rattle.clap.specs.declared.parser.matches.MatchedArg.{MatchedArg}
use Rattle.clap.proofs.ValueTestLemmas.{Accepts-accepts, accepts-Accepts}
use Rattle.clap.proofs.WalkLemmas.{find_row}
use Rattle.std.specs.Str.{bytes_eq}
use Rattle.command_line.specs.Words.{is_alone, is_from_words, number_of, source_of}

pub source-rows : (f : Found) (id : Text) → option_and_then (λ (a : MatchedArg). a.source) (matched_of f id) ≡ source_of id (rows_of f)
source-rows f id = go (find (λ (e : Entry). bytes_eq e.0.now id) f.entries.items) ∙ ap (option_and_then (λ (r : Row). r.source)) (sym (find_row f.entries.items id))
  where
    go : (o : Option Entry) → option_and_then (λ (a : MatchedArg). a.source) (option_map (λ (e : Entry). e.1) o) ≡ option_and_then (λ (r : Row). r.source) (option_map row_of o)
    go None = refl
    go (Some e) = refl

abbrev pub is_batch : List Row → Bool
is_batch rows = is_from_words (source_of (codes "format") rows) || is_from_words (source_of (codes "reports-from") rows)

pub alone_is : (rows : List Row) (names : List (Bor Text)) → ((length names == 1) && not (is_batch rows)) ≡ is_alone rows (map (λ (name : Bor Text). name.now) names)
alone_is rows [] = refl
alone_is rows (x ∷ []) = refl
alone_is rows (x ∷ y ∷ more) = ap (λ b. b && not (is_batch rows)) (ne_eqb (length (x ∷ y ∷ more)) 1 (λ same. omega (arith, same)))

-- a text is parsed as its number, or as nothing
pub parsed_number : {E : Type 0} (text : Text) (r : Result ℕ E) → ParsesUnsigned 64 10 text r → result_ok r ≡ number_of text
parsed_number text (Ok n) read =
    let passes : is_unsigned_in 0 18446744073709551615 text ≡ true =
    Accepts-accepts false (parser.Unsigned 0 18446744073709551615) text (read.0.0, read.0.1, omega arith, omega (arith, read.0.1)) in
    rw passes (ap Some read.1)
parsed_number text (Err e) read = go (is_unsigned_in 0 18446744073709551615 text) refl
  where
    go : (b : Bool) → is_unsigned_in 0 18446744073709551615 text ≡ b → None ≡ number_of text
    go false e = rw e refl
    go true e =
        let parts = accepts-Accepts false (parser.Unsigned 0 18446744073709551615) text e in
        absurd (read (parts.0, parts.1))
