-- Where a walk over words comes to, without a fault.
use Rattle.std.proofs.Common.{◌∙◌, ◌≡◌, ◌≢◌, ◌<◌, ◌^◌, ◌==◌, ◌&&◌, ◌++◌, ◌∷◌, [], ℕ, List, Option, Some, None, true, false, ap, ap₂, append-nil, append_assoc, arith, codes, if◌then◌else◌, length, refl, sym}
use Rattle.std.proofs.lemmas.Bool.{le-ltb, ne_eqb}
use Rattle.std.specs.List.{fold}
use Rattle.std.specs.Option.{option_map, option_map_or}
use Rattle.std.specs.Prelude.{find, is_some, option_and_then}
use Rattle.std.specs.Str.{bytes_eq}
use Rattle.clap.specs.Lexer.{long_of, long_of_rest, short_of, short_of_rest, strip_byte}
use Rattle.clap.specs.Kinds.{Kinds, or_else, range_kinds, values_kinds}
use Rattle.clap.specs.Faults.{bundle_fault, check_fault, defaults_fault, entered_fault, flag_word_fault, level_fault, other_fault, positional_fault, settle_fault, step_fault, stray_fault, turn_fault, use_fault, walk_fault}
use Rattle.clap.specs.Simple.{App, Shape, built, entered, filled, label_of, names_of, rows_at, with_index}
use Rattle.clap.specs.Walk.{Held, Row, Rule, Step, Text, Waiting, Walk, after_step, answers_to, arg_by_id, arg_by_index, finished, idle, is_empty, is_pending, long_or_other, nothing_held, option, option_word, plain_word, positional, pushed, rows_after, settled, short_or_plain, subcommand_met, subcommand_or_other, to_positional, trailing, value, walk_from, walked}
use Rattle.clap.specs.declared.builder.value_parser.ValueParser.TheVariants.{String}
use Rattle.clap.specs.declared.error.kind.ErrorKind.TheVariants as kind
use Rattle.clap.proofs.FaultLemmas.{stopped_fault}
use Rattle.clap.proofs.WalkLemmas.{walk_stopped}
use Rattle.command_line.specs.Arguments.{Tables, program_app, reports_rule}
use Rattle.command_line.specs.Words.{Asked, asked, asked_by, asked_with}
use Rattle.command_line.specs.WordLaws.{AreNames, IsName}
use Rattle.command_line.proofs.Parsed.{program_on_literals}

-- ---- a word that is no option

no_hyphen : (x : ℕ) → x ≢ 45 → (x == 45) ≡ false
no_hyphen x plain = ne_eqb x 45 plain

no_dashes : (word : Text) → IsName word → bytes_eq word (45 ∷ 45 ∷ []) ≡ false
no_dashes [] plain = refl
no_dashes (x ∷ xs) plain = rw (no_hyphen x plain) refl

pub not_hyphen : (word : Text) → IsName word → bytes_eq word (45 ∷ []) ≡ false
not_hyphen [] plain = refl
not_hyphen (x ∷ xs) plain = rw (no_hyphen x plain) refl

no_long : (word : Text) → IsName word → long_of word ≡ None
no_long [] plain = refl
no_long (x ∷ xs) plain = ap (λ b. option_and_then long_of_rest (option_and_then (strip_byte 45) (if b then Some xs else None))) (no_hyphen x plain)

no_short : (word : Text) → IsName word → short_of word ≡ None
no_short [] plain = refl
no_short (x ∷ xs) plain = ap (λ b. option_and_then short_of_rest (if b then Some xs else None)) (no_hyphen x plain)

plain_met : (c : List Rule) (waiting : Waiting) (n : ℕ) (word : Text) (h : Held) → IsName word
    → subcommand_or_other c None waiting n word h ≡ plain_word c waiting word h
plain_met c waiting n word h plain =
    ap (λ b. if b then (h, trailing n) else long_or_other c waiting word (long_of word) h) (no_dashes word plain)
    ∙ ap (λ o. long_or_other c waiting word o h) (no_long word plain)
    ∙ ap (λ o. short_or_plain c waiting word o h) (no_short word plain)

plain_fault : (s : Shape) (word : Text) (h : Held) → IsName word → other_fault s None word h ≡ []
plain_fault s word h plain =
    ap (λ b. if b then [] else flag_word_fault s.rules s.args_override_self (long_of word) word h) (no_dashes word plain)
    ∙ ap (λ o. flag_word_fault s.rules s.args_override_self o word h) (no_long word plain)
    ∙ ap (λ o. option_map_or (λ flags. bundle_fault s.rules s.args_override_self flags h) o []) (no_short word plain)

-- ---- the walk

abbrev pub at : Waiting → ℕ → Held → Walk
at waiting n h = record { held = h; waiting = waiting; position = n; is_trailing = false; stopped = None }

-- the words lead from the first state to the second, and none has a fault
pub record Reaches (s : Shape) (from : Walk) (words : List Text) (to : Walk) : Type 0 where
  pub walk : fold (walked s.rules []) from words ≡ to
  pub fault : walk_fault s [] from words ≡ []

pub joined : (s : Shape) (a b d : Walk) (xs ys : List Text) → Reaches s a xs b → Reaches s b ys d → Reaches s a (xs ++ ys) d
unfolding walk_fault
joined s a b d [] ys first second = record {
  walk = ap (λ w. fold (walked s.rules []) w ys) first.walk ∙ second.walk;
  fault = ap (λ w. walk_fault s [] w ys) first.walk ∙ second.fault;
}
joined s a b d (x ∷ xs) ys first second =
    let turn = first_empty (turn_fault s [] a x) _ first.fault in
    let rest = joined s (walked s.rules [] a x) b d xs ys (record { walk = first.walk; fault = turn.1 }) second in
    record { walk = rest.walk; fault = ap₂ or_else turn.0 rest.fault }
  where
    first_empty : (ks ls : Kinds) → or_else ks ls ≡ [] → (ks ≡ []) × (ls ≡ [])
    first_empty [] ls e = (refl, e)
    first_empty (k ∷ ks) ls e = cc

-- the word is the value of the option that waits
pub value_reached : (s : Shape) (id : Text) (h after : Held) (word : Text) → IsName word
    → option_word (arg_by_id s.rules id) id word h ≡ (after, idle) → Reaches s (at (option id) 1 h) (word ∷ []) (at idle 1 after)
unfolding walked walk_fault
value_reached s id h after word plain met =
    let c = s.rules in
    record {
      walk = ap (λ (m : Held × Step). after_step c word (at (option id) 1 h) m.0 m.1) (plain_met c (option id) 1 word h plain)
          ∙ ap (λ (m : Held × Waiting). at m.1 1 m.0) met;
      fault = ap (λ (m : Held × Step). or_else (or_else (other_fault s None word h) (step_fault s 1 m.0 m.1)) []) (plain_met c (option id) 1 word h plain)
          ∙ ap (λ k. or_else (or_else k []) []) (plain_fault s word h plain);
    }

-- the word goes to a positional, and what was pending has no fault
positional_reached : (s : Shape) (waiting : Waiting) (h : Held) (word : Text) → IsName word
    → plain_word s.rules waiting word h ≡ (h, value) → subcommand_met [] waiting word ≡ None
    → step_fault s 1 h value ≡ []
    → Reaches s (at waiting 1 h) (word ∷ []) (to_positional s.rules (arg_by_index s.rules 1) word (at waiting 1 h) h)
unfolding walked walk_fault
positional_reached s waiting h word plain goes none settles =
    let c = s.rules in
    let met : subcommand_or_other c (subcommand_met [] waiting word) waiting 1 word h ≡ (h, value) =
    ap (λ o. subcommand_or_other c o waiting 1 word h) none ∙ plain_met c waiting 1 word h plain ∙ goes in
    record {
      walk = ap (λ (m : Held × Step). after_step c word (at waiting 1 h) m.0 m.1) met;
      fault = ap (λ (m : Held × Step). or_else (or_else (other_fault s (subcommand_met [] waiting word) word h) (step_fault s 1 m.0 m.1)) []) met
          ∙ ap₂ (λ k l. or_else (or_else k l) []) (ap (λ o. other_fault s o word h) none ∙ plain_fault s word h plain) settles;
    }

-- ---- any number of reports

abbrev pub reports_built : Rule
reports_built = with_index 1 (filled reports_rule)

abbrev REPORT : Text
REPORT = codes "REPORT"

abbrev reading : List Row → List Text → ℕ → Held
reading rows seen skip = record { rows = rows; pending = Some (REPORT, seen); skip = skip }

more_reached : (s : Shape) (rows : List Row) (seen rs : List Text) (skip : ℕ) → arg_by_index s.rules 1 ≡ Some reports_built → AreNames rs
    → Reaches s (at positional 1 (reading rows seen skip)) rs (at positional 1 (reading rows (seen ++ rs) skip))
unfolding walk_fault
more_reached s rows seen [] skip is plain = record { walk = ap (λ xs. at positional 1 (reading rows xs skip)) (sym (append-nil seen)); fault = refl }
more_reached s rows seen (x ∷ xs) skip is plain =
    let h = reading rows seen skip in
    let one = positional_reached s positional h x plain.0 refl refl
    (ap (λ o. option_map_or (λ a. positional_fault s.rules s.args_override_self a h) o (stray_fault s)) is) in
    let here : Reaches s (at positional 1 h) (x ∷ []) (at positional 1 (reading rows (seen ++ x ∷ []) skip)) =
    record { walk = one.walk ∙ ap (λ o. to_positional s.rules o x (at positional 1 h) h) is; fault = one.fault } in
    let rest = more_reached s rows (seen ++ x ∷ []) xs skip is plain.1 in
    joined s _ _ _ (x ∷ []) xs here (record { walk = rest.walk ∙ ap (λ ys. at positional 1 (reading rows ys skip)) (append_assoc seen (x ∷ []) xs); fault = rest.fault })

pub reports_reached : (s : Shape) (h : Held) (r : Text) (rs : List Text) → arg_by_index s.rules 1 ≡ Some reports_built → is_pending reports_built h.pending ≡ false
    → settle_fault s.rules s.args_override_self h ≡ [] → AreNames (r ∷ rs)
    → Reaches s (at idle 1 h) (r ∷ rs) (at positional 1 (reading (settled s.rules h).rows (r ∷ rs) h.skip))
reports_reached s h r rs is other settles plain =
    let one = positional_reached s idle h r plain.0 refl refl
    (ap (λ o. option_map_or (λ a. positional_fault s.rules s.args_override_self a h) o (stray_fault s)) is
    ∙ ap (λ b. if b && true then [] else settle_fault s.rules s.args_override_self h) other ∙ settles) in
    let here : Reaches s (at idle 1 h) (r ∷ []) (at positional 1 (reading (settled s.rules h).rows (r ∷ []) h.skip)) = record {
      walk = one.walk ∙ ap (λ o. to_positional s.rules o r (at idle 1 h) h) is
          ∙ ap (λ b. at positional 1 (pushed REPORT r (if b && true then h else settled s.rules h))) other;
      fault = one.fault;
    } in
    joined s _ _ _ (r ∷ []) rs here (more_reached s (settled s.rules h).rows (r ∷ []) rs h.skip is plain.1)

-- ---- what a command's words ask for

-- a list of texts passes, and its length fits
strings_pass : (vs : List Text) → values_kinds false String vs ≡ []
strings_pass [] = refl
strings_pass (v ∷ vs) = strings_pass vs

-- the command ends in this state, where what is pending has the faults f, and the words before have the faults k
abbrev ends : Shape → Walk → Kinds → Kinds → Option Asked
ends s w k f =
    let rows = (settled s.rules w.held).rows in
    if is_empty (or_else k (or_else [] (or_else f (or_else (defaults_fault rows s.rules) (check_fault s (finished s.rules w.held) false)))))
    then asked_by s.name (finished s.rules w.held) else None

-- what the words after the name of a command ask for
abbrev pub asked_after : Shape → List Text → Option Asked
asked_after s words = if is_empty (level_fault s [] nothing_held words false []) then asked_by s.name (rows_after s.rules [] words) else None

ends_at : (s : Shape) (words : List Text) (w : Walk) → Reaches s (walk_from nothing_held) words w → settle_fault s.rules s.args_override_self w.held ≡ []
    → asked_after s words ≡ ends s w [] []
ends_at s words w there settles =
    ap₂ (λ (x : Walk) k. ends s x k (settle_fault s.rules s.args_override_self x.held)) there.walk there.fault ∙ ap (ends s w []) settles

-- the same where these reports follow
abbrev pub ends_with : Shape → Held → List Text → Option Asked
ends_with s h reports = ends s (at positional 1 (reading (settled s.rules h).rows reports h.skip)) [] []

-- the words to this state, and then reports
pub ends_with_reports : (s : Shape) (words : List Text) (h : Held) (r : Text) (rs : List Text) → Reaches s (walk_from nothing_held) words (at idle 1 h)
    → arg_by_index s.rules 1 ≡ Some reports_built → arg_by_id s.rules REPORT ≡ Some reports_built → is_pending reports_built h.pending ≡ false
    → settle_fault s.rules s.args_override_self h ≡ [] → AreNames (r ∷ rs) → length (r ∷ rs) < 2 ^ 64
    → asked_after s (words ++ r ∷ rs) ≡ ends_with s h (r ∷ rs)
ends_with_reports s words h r rs there is found other settles plain few =
    ends_at s (words ++ r ∷ rs) _ (joined s _ _ _ words (r ∷ rs) there (reports_reached s h r rs is other settles plain))
    (ap (λ o. option_map_or (λ a. use_fault s.args_override_self a (r ∷ rs) (settled s.rules h).rows) o []) found
    ∙ ap₂ or_else few_enough (strings_pass (r ∷ rs)))
  where
    few_enough : range_kinds 0 18446744073709551615 (length (r ∷ rs)) ≡ []
    few_enough =
        ap₂ (λ b d. if b then kind.TooFewValues ∷ [] else (if d then kind.TooManyValues ∷ [] else []))
        (le-ltb (length (r ∷ rs)) 0 (omega arith)) (le-ltb 18446744073709551615 (length (r ∷ rs)) (omega (arith, few)))

-- ---- the command that the words name

or_nothing : (ks : Kinds) → or_else ks [] ≡ ks
or_nothing [] = refl
or_nothing (k ∷ ks) = refl

abbrev pub above : Tables → App
above t = built (program_app false t)

-- the whole parse, where the walk ends so, and the words have the faults k
abbrev parse_ends : Tables → Walk → Kinds → Option Asked
parse_ends t w k =
    let top = (above t).top in
    if is_empty (or_else k (or_else (entered_fault (above t) w.stopped) (or_else (settle_fault top.rules top.args_override_self w.held)
    (or_else (defaults_fault (settled top.rules w.held).rows top.rules) (check_fault top (finished top.rules w.held) (is_some (entered (above t) w.stopped)))))))
    then asked (entered (above t) w.stopped) else None

-- the same in the command that was found
abbrev parse_in : Tables → List Text → Option Shape → Option Asked
parse_in t words found =
    let top = (above t).top in
    if is_empty (or_else (option_map_or (λ s. level_fault s [] nothing_held words false []) found []) (or_else (settle_fault top.rules top.args_override_self nothing_held)
    (or_else (defaults_fault [] top.rules) (check_fault top (finished top.rules nothing_held) (is_some (option_map (λ s. rows_at s words) found))))))
    then asked (option_map (λ s. rows_at s words) found) else None

pub command_named : (t : Tables) (name : Text) (s : Shape) (words : List Text)
    → ◌≡◌ {A = Walk} (walked (above t).top.rules (names_of (above t)) (walk_from nothing_held) name) (record (walk_from nothing_held) { stopped = Some (name, []) })
    → turn_fault (above t).top (names_of (above t)) (walk_from nothing_held) name ≡ []
    → find (λ x. answers_to name (label_of x)) (above t).subs ≡ Some s
    → asked_with t (name ∷ words) ≡ asked_after s words
unfolding program_on_literals
command_named t name s words stops turns found =
    let a = above t in
    let w₀ : Walk = walk_from nothing_held in
    ap₂ (parse_ends t)
    (ap (λ w. fold (walked a.top.rules (names_of a)) w words) stops ∙ sym (walk_stopped a.top.rules (names_of a) w₀ name [] words))
    (ap₂ or_else turns (ap (λ w. walk_fault a.top (names_of a) w words) stops ∙ stopped_fault a.top (names_of a) w₀ (name, []) words))
    ∙ ap (parse_in t words) found
    ∙ ap (λ k. if is_empty k then asked_by s.name (rows_after s.rules [] words) else None) (or_nothing (level_fault s [] nothing_held words false []))
