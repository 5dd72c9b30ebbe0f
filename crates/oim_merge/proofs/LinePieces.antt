-- The lines of a bundle, and those of a schedule.
use Rattle.oim_merge.proofs.Shared.{◌≡◌, ◌<◌, ◌≤◌, ◌+◌, ℕ, List, [], ◌∷◌, ◌++◌, length, drop, filter, true, false, cond, not, inl, inr, sym, ap, ◌∙◌, arith, length-drop, Option, Ok, subst, refl, ⊎_elim, Some, None, ◌==◌, position, before_first, after_first, position_or_len, AllZip, cases_lt, ne_eqb, lt-ltb, take_all, drop_all, append-nil, append_assoc, filter-append, fails_before_first, position_or_len_is, is_line_end, is_filled, line_pieces, filled_pieces, report_pieces, AllLevel, Sheet, sheet_outcome, Refusal, Added, added, merged, refused, BundleStops, ConsolidatesBundle, IsSheetOf, Stops, StopsBehindSheet, Writes, AllZip-long, all_zipped_more, Event, IsBadLine, IsEventLine, IsFirstBadLine, lines_of, without_empty_last, position-Some}
use Rattle.std.proofs.lemmas.List.Splits.{slice_split_first, slice_split_none, length-slice_split}
use Rattle.oim_merge.specs.declared.fault.Fault.{Fault}
use Rattle.oim_merge.specs.declared.fault.Fault.TheVariants.{OutOfMemory, Sheet as SheetFault}

-- the list of one piece, or no piece if it is empty
abbrev pub if_filled : List ℕ → List (List ℕ)
if_filled piece = filter is_filled (piece ∷ [])

pub no_line_end : (bytes : List ℕ) → length bytes ≤ position_or_len is_line_end bytes → line_pieces bytes ≡ bytes ∷ []
no_line_end bytes h = slice_split_none is_line_end bytes (λ k d less. fails_before_first is_line_end bytes k d (omega arith))

pub at_end : (bytes : List ℕ) → length bytes ≤ position_or_len is_line_end bytes → after_first is_line_end bytes ≡ []
at_end bytes h = drop_all (position_or_len is_line_end bytes + 1) bytes (omega arith)

pub whole : (bytes : List ℕ) → length bytes ≤ position_or_len is_line_end bytes → before_first is_line_end bytes ≡ bytes
whole bytes h = take_all (position_or_len is_line_end bytes) bytes h

pub found_end : (bytes : List ℕ) (end : ℕ) → Some end ≡ position is_line_end bytes → position_or_len is_line_end bytes ≡ end
found_end bytes end found =
    let first = position-Some is_line_end bytes end 0 (sym found) in
    position_or_len_is is_line_end bytes end 0 (omega (arith, first.0)) first.2 (λ _. first.1)

pub none_found : (bytes : List ℕ) → None ≡ position is_line_end bytes → length bytes ≤ position_or_len is_line_end bytes
none_found bytes none = ⊎_elim
    (λ less. let found : position is_line_end bytes ≡ Some (position_or_len is_line_end bytes) = ap (λ b. cond b (Some (position_or_len is_line_end bytes)) None) (lt-ltb _ _ less) in absurd (cc))
    (λ past. past)
    (cases_lt (position_or_len is_line_end bytes) (length bytes))

pub report_pieces-filled : (bytes : List ℕ) → report_pieces bytes ≡ filled_pieces (after_first is_line_end bytes)
report_pieces-filled bytes =
    elim (cases_lt (position_or_len is_line_end bytes) (length bytes)) [
      | inl less ↦ ap (λ ps. filter is_filled (drop 1 ps)) (slice_split_first is_line_end bytes 0 less)
      | inr more ↦ ap (λ ps. filter is_filled (drop 1 ps)) (no_line_end bytes more) ∙ sym (ap filled_pieces (at_end bytes more))
    ]

pub filled_pieces-first : (bytes : List ℕ) → filled_pieces bytes ≡ if_filled (before_first is_line_end bytes) ++ filled_pieces (after_first is_line_end bytes)
filled_pieces-first bytes =
    elim (cases_lt (position_or_len is_line_end bytes) (length bytes)) [
      | inl less ↦ ap (filter is_filled) (slice_split_first is_line_end bytes 0 less)
          ∙ filter-append is_filled (before_first is_line_end bytes ∷ []) (line_pieces (after_first is_line_end bytes))
      | inr more ↦ ap (filter is_filled) (no_line_end bytes more)
          ∙ sym (ap (λ ps. if_filled (before_first is_line_end bytes) ++ ps) (ap filled_pieces (at_end bytes more)) ∙ append-nil (if_filled (before_first is_line_end bytes)) ∙ ap if_filled (whole bytes more))
    ]

pub filled_pieces-filled : (bytes : List ℕ) → (length (before_first is_line_end bytes) == 0) ≡ false → filled_pieces bytes ≡ before_first is_line_end bytes ∷ filled_pieces (after_first is_line_end bytes)
filled_pieces-filled bytes some = filled_pieces-first bytes ∙ ap (λ b. cond (not b) (before_first is_line_end bytes ∷ []) [] ++ filled_pieces (after_first is_line_end bytes)) some

pub filled_pieces-empty : (bytes : List ℕ) → (length (before_first is_line_end bytes) == 0) ≡ true → filled_pieces bytes ≡ filled_pieces (after_first is_line_end bytes)
filled_pieces-empty bytes none = filled_pieces-first bytes ∙ ap (λ b. cond (not b) (before_first is_line_end bytes ∷ []) [] ++ filled_pieces (after_first is_line_end bytes)) none

pub fewer_left : (bytes : List ℕ) → 0 < length bytes → length (after_first is_line_end bytes) < length bytes
fewer_left bytes some = omega (arith, length-drop (position_or_len is_line_end bytes + 1) bytes)

-- ---- the result of merging a bundle follows from its steps

pub behind_sheet : (bytes : List ℕ) (old new : Option (List ℕ)) (fault : Fault) → StopsBehindSheet bytes old new fault → BundleStops bytes old new fault
behind_sheet bytes old new (OutOfMemory written) h = inr h
behind_sheet bytes old new (SheetFault reason) h = absurd h.stops
behind_sheet bytes old new fault h = h

-- the sheet was read from the first line, and the other lines that are not empty were added
pub record HasRead (bytes : List ℕ) (sheet : Sheet) (a : Added) : Type 0 where
  pub line : List ℕ
  pub rest : List ℕ
  pub first : line ≡ before_first is_line_end bytes
  pub others : rest ≡ after_first is_line_end bytes
  pub sheet_is : sheet_outcome line ≡ Ok sheet
  pub added_is : a ≡ added sheet (filled_pieces rest)

module _ (bytes : List ℕ) (sheet : Sheet) (a : Added) (h : HasRead bytes sheet a) where
  lines_are : filled_pieces h.rest ≡ report_pieces bytes
  lines_are = ap filled_pieces h.others ∙ sym (report_pieces-filled bytes)

  is_sheet : IsSheetOf bytes sheet
  is_sheet = ap sheet_outcome (sym h.first) ∙ h.sheet_is

  body_is : a.body ≡ merged sheet (report_pieces bytes)
  body_is = ap (λ (x : Added). x.body) h.added_is ∙ ap (merged sheet) lines_are

  refusals_are : a.refusals ≡ refused sheet (report_pieces bytes)
  refusals_are = ap (λ (x : Added). x.refusals) h.added_is ∙ ap (refused sheet) lines_are

  pub consolidated : (old new : Option (List ℕ)) (answer : List (ℕ × Refusal)) → Writes AllLevel a.body a.refusals old new answer → ConsolidatesBundle bytes old new answer
  consolidated old new answer writes = record {
    sheet = sheet;
    read = is_sheet;
    consolidates = subst (λ b. Writes AllLevel b (refused sheet (report_pieces bytes)) old new answer) body_is (subst (λ rs. Writes AllLevel a.body rs old new answer) refusals_are writes);
  }

  pub stopped : (old new : Option (List ℕ)) (fault : Fault) → Stops AllLevel a.body a.refusals old new fault → BundleStops bytes old new fault
  stopped old new fault stops = behind_sheet bytes old new fault (record {
    sheet = sheet;
    read = is_sheet;
    stops = subst (λ b. Stops AllLevel b (refused sheet (report_pieces bytes)) old new fault) body_is (subst (λ rs. Stops AllLevel a.body rs old new fault) refusals_are stops);
  })

-- ---- reading the lines of a schedule one after another

-- ---- the lines

without_empty_last-cons : (line : List ℕ) (lines : List (List ℕ)) → 0 < length lines → without_empty_last (line ∷ lines) ≡ line ∷ without_empty_last lines
without_empty_last-cons line [] some = absurd (omega arith)
without_empty_last-cons line (next ∷ lines) some = refl

lines_of-first : (bytes : List ℕ) → 0 < length bytes → lines_of bytes ≡ before_first is_line_end bytes ∷ lines_of (after_first is_line_end bytes)
lines_of-first bytes some =
    elim (cases_lt (position_or_len is_line_end bytes) (length bytes)) [
      | inl less ↦ ap without_empty_last (slice_split_first is_line_end bytes 0 less)
          ∙ without_empty_last-cons (before_first is_line_end bytes) (line_pieces (after_first is_line_end bytes))
          (omega (arith, length-slice_split is_line_end (after_first is_line_end bytes)))
      | inr more ↦
          let kept : lines_of bytes ≡ bytes ∷ [] = ap without_empty_last (no_line_end bytes more) ∙ ap (λ b. cond b [] (bytes ∷ [])) (ne_eqb (length bytes) 0 (λ e. omega arith)) in
          kept ∙ (λ i. sym (whole bytes more) i ∷ lines_of (sym (at_end bytes more) i))
    ]

-- ---- the events

-- the lines before the rest spell these events
pub record HasReadEvents (bytes rest : List ℕ) (events : List Event) : Type 0 where
  pub before : List (List ℕ)
  pub lines : lines_of bytes ≡ before ++ lines_of rest
  pub says : AllZip IsEventLine before events

pub has_read_more : (bytes rest : List ℕ) (events : List Event) (event : Event) → 0 < length rest → HasReadEvents bytes rest events → IsEventLine (before_first is_line_end rest) event → HasReadEvents bytes (after_first is_line_end rest) (events ++ event ∷ [])
has_read_more bytes rest events event some read is =
    let line = before_first is_line_end rest in
    let behind = after_first is_line_end rest in
    record {
      before = read.before ++ line ∷ [];
      lines = read.lines ∙ ap (λ ls. read.before ++ ls) (lines_of-first rest some) ∙ sym (append_assoc read.before (line ∷ []) (lines_of behind));
      says = all_zipped_more IsEventLine read.before events line event read.says is;
    }

pub has_read_bad : (bytes rest : List ℕ) (events : List Event) → 0 < length rest → HasReadEvents bytes rest events → IsBadLine (before_first is_line_end rest) → IsFirstBadLine bytes (length events + 1)
has_read_bad bytes rest events some read is =
    record {
      before = read.before;
      line = before_first is_line_end rest;
      behind = lines_of (after_first is_line_end rest);
      lines = read.lines ∙ ap (λ ls. read.before ++ ls) (lines_of-first rest some);
      number_is = ap (λ n. n + 1) (AllZip-long IsEventLine read.before events read.says);
      bad = is;
      events = events;
      earlier = read.says;
    }
