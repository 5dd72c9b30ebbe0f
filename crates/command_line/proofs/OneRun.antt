-- Two runs for one request over the same files end alike.
use Rattle.std.proofs.Common.{◌≡◌, ◌⊎◌, ◌<◌, ◌+◌, ◌∙◌, ℕ, suc, Bool, true, false, codes, List, [], ◌∷◌, ◌++◌, length, get_or, Option, Some, None, Result, Ok, Err, refl, sym, ap, subst, inl, inr, arith, cond, ne_eqb, true≢false}
use Rattle.std.specs.Prelude.{◌≢◌, ◌↔◌, IsErrAnd, IsTrue, if◌then◌else◌, ⊤}
use Rattle.std.specs.List.{All, AllZip}
use Rattle.std.specs.Option.{MatchOption, unwrap_or}
use Rattle.std.specs.Str.{bytes_eq}
use Rattle.clap.specs.Kinds.{IsAmong, Kinds}
use Rattle.clap.specs.Walk.{is_empty}
use Rattle.clap.specs.Words.{Text, fault_of, subcommand_of}
use Rattle.clap.specs.declared.error.kind.ErrorKind.{ErrorKind}
use Rattle.clap.specs.declared.error.kind.ErrorKind.TheVariants as kind
use Rattle.oim_value.specs.declared.level.Level.{Level}
use Rattle.oim_report.specs.Duplicates.{level_of}
use Rattle.oim_report.specs.Outcome.{outcome}
use Rattle.oim_report.specs.Sheet.{Sheet, sheet_outcome}
use Rattle.oim_report.specs.declared.refusal.Refusal.{Refusal}
use Rattle.fact_base.specs.Body.{Body}
use Rattle.fact_base.specs.Contents.{Contents}
use Rattle.fact_base.specs.Rows.{Row, rows_of}
use Rattle.oim_merge.specs.Above.{IsFirstAbove, StaysWithin, row_is_above}
use Rattle.oim_merge.specs.Bundle.{sheet_piece}
use Rattle.oim_merge.specs.Checked.{IsCanonicalOf}
use Rattle.oim_merge.specs.declared.checked.Checked.{Checked}
use Rattle.oim_merge.specs.EventLines.{IsEventLine, lines_of}
use Rattle.oim_merge.specs.Lines.{AreRowsFrom, RowText, identifier_at}
use Rattle.oim_merge.specs.Replay.{refused_takes}
use Rattle.oim_merge.specs.Replicas.{wire}
use Rattle.oim_merge.specs.Reports.{merged, refused}
use Rattle.oim_merge.specs.Schedule.{World as Wired, world_after}
use Rattle.oim_merge.proofs.EventTexts.{lines_say_one_event}
use Rattle.oim_merge.proofs.Evidenced.{one_evidence}
use Rattle.oim_explain.specs.Explained.{RepeatsKeys}
use Rattle.oim_explain.specs.declared.lines.Format.{Format}
use Rattle.command_line.specs.Arguments.{program_app}
use Rattle.command_line.specs.RunLaws.{Agree, AskedIsMeant, IsSaid, ListAlike, MeanOnly, RunsAreOne, holds}
use Rattle.command_line.specs.Outputs.{IsLoose, IsMerge, NumberedRefusals, Replays, replica_lines, verdict_written, verdicts_header}
use Rattle.command_line.specs.Page.{Because, EndsWith, Gives, InputEnd, IsExplain, IsFrom, IsInput, IsInputError, IsNotFrom, IsWordsError, Loose, NamesEnd, Says, WordsEnd, World, input_of}
use Rattle.command_line.specs.Checks.{Checks, IsResult, result_written, results_header, results_text}
use Rattle.command_line.specs.Printed.{status_of}
use Rattle.command_line.specs.ReportNames.{IsNameError, report_names}
use Rattle.command_line.specs.Why.{WithRead, WithSheet}
use Rattle.command_line.specs.WordLaws.{Ask}
use Rattle.command_line.specs.Words.{Asked, Mean, Task, Work, asked, bundle, check, explain, help, merge, replay, sources, under, verdicts}
use Rattle.command_line.specs.declared.print_format.PrintFormat.{PrintFormat}
use Rattle.command_line.specs.declared.error.Error.{Error}
use Rattle.command_line.specs.declared.error.Error.TheVariants as error
use Rattle.command_line.specs.declared.error.Success.{Success}
use Rattle.command_line.specs.declared.error.Success.TheVariants.{Faults, Refusals}
use Rattle.command_line.proofs.OneExplained.{explains_alike}

zips_same : {A B : Type 0} (R : A → B → Type 0) → ((x : A) (y z : B) → R x y → R x z → y ≡ z) → (xs : List A) (ys zs : List B) → AllZip R xs ys → AllZip R xs zs → ys ≡ zs
zips_same R one [] [] [] are these = refl
zips_same R one [] [] (z ∷ zs) are these = absurd these
zips_same R one [] (y ∷ ys) zs are these = absurd are
zips_same R one (x ∷ xs) [] zs are these = absurd are
zips_same R one (x ∷ xs) (y ∷ ys) [] are these = absurd these
zips_same R one (x ∷ xs) (y ∷ ys) (z ∷ zs) are these =
    let first = one x y z are.0 these.0 in let rest = zips_same R one xs ys zs are.1 these.1 in λ i. first i ∷ rest i

bools_same : (P : Type 0) (a b : Bool) → IsTrue a ↔ P → IsTrue b ↔ P → a ≡ b
bools_same P true true f g = refl
bools_same P false false f g = refl
bools_same P true false f g = absurd (true≢false (sym (g.1 (f.0 refl))))
bools_same P false true f g = absurd (true≢false (sym (f.1 (g.0 refl))))

rows_agree : (written : RowText) (b : Body) (n : ℕ) (rows : List Row) (s t : List ℕ) → AreRowsFrom written b.facts n rows s → AreRowsFrom written b.facts n rows t → s ≡ t
rows_agree written b n [] s t h g = h ∙ sym g
rows_agree written b n (r ∷ rs) s t h g =
    let same = one_evidence r.1 h.2.1.0.evidence g.2.1.0.evidence h.2.1.0.shows g.2.1.0.shows in
    let row : h.0 ≡ g.0 = h.2.1.0.text ∙ ap (written (identifier_at b.facts r) n r) same ∙ sym g.2.1.0.text in
    let rest : h.1 ≡ g.1 = rows_agree written b (suc n) rs h.1 g.1 h.2.1.1 g.2.1.1 in
    h.2.0 ∙ (λ i. row i ++ rest i) ∙ sym g.2.0

-- ---- the first row above a level

abbrev rest_of : List Row → List Row
rest_of [] = []
rest_of (x ∷ xs) = xs

first_same : (level : Level) (before other : List Row) (r q : Row) (behind rest : List Row) → before ++ r ∷ behind ≡ other ++ q ∷ rest → row_is_above level r ≡ true → row_is_above level q ≡ true
    → All (λ x. row_is_above level x ≡ false) before → All (λ x. row_is_above level x ≡ false) other → length before ≡ length other
first_same level [] [] r q behind rest e here there all every = refl
first_same level [] (w ∷ ws) r q behind rest e here there all every =
    absurd (true≢false (sym here ∙ ap (row_is_above level) (ap (λ l. get_or l 0 r) e) ∙ every 0 w (omega arith)))
first_same level (z ∷ zs) [] r q behind rest e here there all every =
    absurd (true≢false (sym there ∙ ap (row_is_above level) (sym (ap (λ l. get_or l 0 q) e)) ∙ all 0 z (omega arith)))
first_same level (z ∷ zs) (w ∷ ws) r q behind rest e here there all every =
    ap (λ n. suc n) (first_same level zs ws r q behind rest (ap (λ l. rest_of l) e) here there (λ k d lt. all (suc k) d (omega (arith, lt))) (λ k d lt. every (suc k) d (omega (arith, lt))))

one_row : (level : Level) (b : Body) (row other : ℕ) → IsFirstAbove level b row → IsFirstAbove level b other → row ≡ other
one_row level b row other one two =
    one.number_is ∙ ap (λ n. n + 1) (first_same level one.before two.before one.row two.row one.behind two.behind (sym one.rows ∙ two.rows) one.above two.above one.earlier two.earlier) ∙ sym two.number_is

holds_there : (level : Level) (before : List Row) (r : Row) (behind : List Row) → All (λ x. row_is_above level x ≡ false) (before ++ r ∷ behind) → row_is_above level r ≡ false
holds_there level [] r behind all = all 0 r (omega arith)
holds_there level (z ∷ zs) r behind all = holds_there level zs r behind (λ k d lt. all (suc k) d (omega (arith, lt)))

within_or_above : (level : Level) (b : Body) (row : ℕ) → StaysWithin level b → IsFirstAbove level b row → ⊥
within_or_above level b row within first =
    true≢false (sym first.above ∙ holds_there level first.before first.row first.behind (subst (All (λ x. row_is_above level x ≡ false)) first.rows within))

-- ---- one text

merge_same : (level : Level) (b : Body) (refusals : NumberedRefusals) (text other : List ℕ) (rs qs : NumberedRefusals) → IsMerge level b refusals text rs → IsMerge level b refusals other qs → (text ≡ other) × (rs ≡ qs)
merge_same level b refusals text other rs qs one two = (one.text_is ∙ sym two.text_is, one.refusals_are ∙ sym two.refusals_are)

one_result : (s : Sheet) (bytes : List ℕ) (x y : Result Checked Refusal) → IsResult s bytes x → IsResult s bytes y → x ≡ y
one_result s bytes (Ok a) (Ok b) one two =
    let both : Ok one.document ≡ Ok two.document = sym one.read ∙ two.read in
    let same : one.document ≡ two.document = cc in
    let canonical = bools_same (IsCanonicalOf two.document bytes) a.canonical b.canonical (subst (λ d. IsTrue a.canonical ↔ IsCanonicalOf d bytes) same one.canonical_is) two.canonical_is in
    let facts = one.facts ∙ ap (λ d. length d.facts) same ∙ sym two.facts in
    let level = one.level ∙ ap (λ d. level_of d.facts) same ∙ sym two.level in
    λ i. Ok (record { facts = facts i; level = level i; canonical = canonical i })
one_result s bytes (Ok a) (Err e) one two = let none : Ok one.document ≡ Err e = sym one.read ∙ two in cc
one_result s bytes (Err e) (Ok b) one two = let none : Err e ≡ Ok two.document = sym one ∙ two.read in cc
one_result s bytes (Err e) (Err d) one two = let both : Err e ≡ Err d = sym one ∙ two in let same : e ≡ d = cc in ap (λ r. Err r) same

checks_same : (format : Option PrintFormat) (names : List Text) (s : Sheet) (reports : List (List ℕ)) (text other : List ℕ) (rs qs : NumberedRefusals) → Checks format names s reports text rs → Checks format names s reports other qs → (text ≡ other) × (rs ≡ qs)
checks_same format names s reports text other rs qs a b =
    let results = zips_same (IsResult s) (one_result s) reports a.results b.results a.are b.are in
    (a.text_is ∙ ap (λ results. results_header format ++ results_text (result_written format names) 1 results) results ∙ sym b.text_is, a.refusals_are ∙ sym b.refusals_are)

replays_same : (s : Sheet) (n : ℕ) (lines : List ℕ) (reports : List (List ℕ)) (text other : List ℕ) (rs qs : NumberedRefusals) → Replays s n lines reports text rs → Replays s n lines reports other qs → (text ≡ other) × (rs ≡ qs)
replays_same s n lines reports text other rs qs a b =
    let events = zips_same IsEventLine lines_say_one_event (lines_of lines) a.events b.events a.says b.says in (
      a.printed.0 ∙ ap (λ (w : Wired Contents (List ℕ)). replica_lines w.replicas) (a.is.world ∙ ap (world_after (wire s [] reports) n) events ∙ sym b.is.world) ∙ sym b.printed.0,
      a.printed.1 ∙ a.is.refusals ∙ ap (refused_takes s reports) events ∙ sym b.is.refusals ∙ sym b.printed.1,
    )

-- neither help nor `explain`
abbrev IsTold : Task → Type 0
IsTold help = ⊥
IsTold (under sheet (explain format)) = ⊥
IsTold task = ⊤

-- a read of a file may fail
abbrev E : Text → Type 0
E name = ⊤

module _ (disk : Text → List ℕ) where
  abbrev H : Text → List ℕ → Type 0
  H = holds disk

  one_content : (name : Text) (b d : List ℕ) → H name b → H name d → b ≡ d
  one_content name b d is so = is ∙ sym so

  -- both properties hold of one list of reports
  one_list : (names : List Text) (P Q : List (List ℕ) → Type 0) → WithRead H names P → WithRead H names Q → (reports : List (List ℕ)) × P reports × Q reports
  one_list names P Q (xs, are, p) (ys, those, q) = (xs, p, subst Q (zips_same H one_content names ys xs those are) q)

  one_sheet : (name : Text) (P Q : Sheet → Type 0) → WithSheet H name P → WithSheet H name Q → (s : Sheet) × P s × Q s
  one_sheet name P Q (xs, gave, s, read, p) (ys, given, t, so, q) =
      let both : Ok s ≡ Ok t = sym read ∙ ap sheet_outcome (one_content name xs ys gave given) ∙ so in
      let same : t ≡ s = cc in
      (s, p, subst Q same q)

  says_same : (names : List Text) (s : Sheet) (work : Work) (text other : List ℕ) (rs qs : NumberedRefusals) → Says H names s work text rs → Says H names s work other qs → (text ≡ other) × (rs ≡ qs)
  says_same names s (merge level) text other rs qs one two = let both = one_list names _ _ one two in merge_same level _ _ text other rs qs both.1 both.2
  says_same names s (verdicts format) text other rs qs one two =
      let both = one_list names _ _ one two in
      let a = both.1 in
      let b = both.2 in
      let body = merged s both.0 in
      let rows = rows_agree (verdict_written format) body 1 (rows_of body.facts) a.rows b.rows a.are b.are in
      (a.text_is ∙ ap (λ r. verdicts_header format ++ r) rows ∙ sym b.text_is, a.refusals_are ∙ sym b.refusals_are)
  says_same names s (sources format) text other rs qs one two =
      let both = one_list names _ _ one two in (both.1.text_is ∙ sym both.2.text_is, both.1.refusals_are ∙ sym both.2.refusals_are)
  says_same names s (check format) text other rs qs one two = let both = one_list names _ _ one two in checks_same format names s both.0 text other rs qs both.1 both.2
  says_same names s (replay n events) text other rs qs (xs, gave, one) (ys, given, two) =
      let both = one_list names _ (λ reports. Replays s n xs reports other qs) one (subst (λ lines. WithRead H names (λ reports. Replays s n lines reports other qs)) (one_content events ys xs given gave) two) in
      replays_same s n xs both.0 text other rs qs both.1 both.2
  says_same names s (explain format) text other rs qs one two = absurd one

  loose_same : (names : List Text) (s : Sheet) (work : Work) (row other : ℕ) (rs qs : NumberedRefusals) → Loose H names s work row rs → Loose H names s work other qs → (row ≡ other) × (rs ≡ qs)
  loose_same names s (merge level) row other rs qs one two =
      let both = one_list names _ _ one two in (one_row level (merged s both.0) row other both.1.first both.2.first, both.1.refusals_are ∙ sym both.2.refusals_are)
  loose_same names s _ row other rs qs one two = absurd one

  said_or_loose : (names : List Text) (s : Sheet) (work : Work) (text : List ℕ) (row : ℕ) (rs qs : NumberedRefusals) → Says H names s work text rs → Loose H names s work row qs → ⊥
  said_or_loose names s (merge level) text row rs qs one two = let both = one_list names _ _ one two in within_or_above level (merged s both.0) row both.1.within both.2.first
  said_or_loose names s _ text row rs qs one two = absurd two

  module _ (input : List ℕ) (names : List Text) where
    gives_same : (task : Task) → IsTold task → (text other : List ℕ) (rs qs : NumberedRefusals) → Gives H E input task names text (Refusals rs) → Gives H E input task names other (Refusals qs) → (text ≡ other) × (rs ≡ qs)
    gives_same (under sheet work) is text other rs qs one two = let both = one_sheet sheet _ _ one two in says_same names both.0 work text other rs qs both.1 both.2
    gives_same bundle is text other rs qs one two =
        let sheets : Ok one.sheet ≡ Ok two.sheet = sym one.read ∙ two.read in
        let same : two.sheet ≡ one.sheet = cc in
        merge_same _ _ _ text other rs qs one.is (subst (λ s. IsMerge _ (merged s _) (refused s _) other qs) same two.is)
    gives_same help is text other rs qs one two = absurd is

    no_faults : (task : Task) → IsTold task → (text : List ℕ) (n : ℕ) → Gives H E input task names text (Faults n) → ⊥
    no_faults (under sheet (explain format)) is text n gives = is
    no_faults _ is text n gives = gives

    abbrev IsLooseIn : Task → ℕ → NumberedRefusals → Type 0
    IsLooseIn (under sheet work) row rs = WithSheet H sheet (λ s. Loose H names s work row rs)
    IsLooseIn task row rs = ⊥

    loose_in : (output : Option Text) (task : Task) (row : ℕ) (rs : NumberedRefusals) → Because H E input names output task (error.TooLoose row rs) → IsLooseIn task row rs
    loose_in None task row rs (inl fault) = absurd fault
    loose_in (Some name) task row rs (inl fault) = absurd fault
    loose_in output (under sheet work) row rs (inr (inl (inl none))) = absurd none
    loose_in output (under sheet work) row rs (inr (inl (inr (bytes, gave, none)))) = absurd none
    loose_in output (under sheet work) row rs (inr (inr loose)) = loose
    loose_in output bundle row rs (inr none) = none
    loose_in output help row rs (inr none) = none

    both_loose : (task : Task) (row other : ℕ) (rs qs : NumberedRefusals) → IsLooseIn task row rs → IsLooseIn task other qs → (row ≡ other) × (rs ≡ qs)
    both_loose (under sheet work) row other rs qs one two = let both = one_sheet sheet _ _ one two in loose_same names both.0 work row other rs qs both.1 both.2
    both_loose _ row other rs qs one two = absurd one

    not_both : (task : Task) (text : List ℕ) (row : ℕ) (rs qs : NumberedRefusals) → Gives H E input task names text (Refusals rs) → IsLooseIn task row qs → ⊥
    not_both (under sheet work) text row rs qs one two = let both = one_sheet sheet _ _ one two in said_or_loose names both.0 work text row rs qs both.1 both.2
    not_both _ text row rs qs one two = two

    module _ (output : Option Text) (task : Task) (said : IsTold task) where
      abbrev Ends : List ℕ → Result Success Error → Type 0
      Ends = EndsWith H E input names output task

      -- nothing is printed behind a row that is too loose
      no_text : (task : Task) → IsTold task → (part : List ℕ) (row : ℕ) (rs : NumberedRefusals) → EndsWith H E input names output task part (Err (error.TooLoose row rs)) → part ≡ []
      no_text task said part row rs (why, inl none) = none
      no_text task said part row rs (why, inr (text, rest, begun, whole)) = absurd (never task said begun.cut)
        where
          never : (task : Task) → IsTold task → IsExplain task ⊎ (⊥ × (begun.others ≡ [])) → ⊥
          never (under sheet (explain format)) said cut = said
          never _ said (inl explains) = explains
          never _ said (inr cut) = cut.0

      -- only a row that is too loose gives a status below 3
      ends_same : (part other : List ℕ) (d e : Result Success Error) → status_of d < 3 → status_of e < 3 → Ends part d → Ends other e → (part ≡ other) × (d ≡ e)
      ends_same part other (Ok (Refusals rs)) (Ok (Refusals qs)) a b one two = let same = gives_same task said part other rs qs one two in (same.0, ap (λ x. Ok (Refusals x)) same.1)
      ends_same part other (Ok (Faults n)) e a b one two = absurd (no_faults task said part n one)
      ends_same part other d (Ok (Faults n)) a b one two = absurd (no_faults task said other n two)
      ends_same part other (Ok (Refusals rs)) (Err (error.TooLoose row qs)) a b one two = absurd (not_both task part row rs qs one (loose_in output task row qs two.0))
      ends_same part other (Err (error.TooLoose row qs)) (Ok (Refusals rs)) a b one two = absurd (not_both task other row rs qs two (loose_in output task row qs one.0))
      ends_same part other (Err (error.TooLoose row rs)) (Err (error.TooLoose next qs)) a b one two =
          let same = both_loose task row next rs qs (loose_in output task row rs one.0) (loose_in output task next qs two.0) in (no_text task said part row rs one ∙ sym (no_text task said other next qs two), λ i. Err (error.TooLoose (same.0 i) (same.1 i)))
      ends_same part other (Err (error.TooLoose row rs)) (Err _) a b one two = absurd (omega (arith, b))
      ends_same part other (Ok (Refusals rs)) (Err _) a b one two = absurd (omega (arith, b))
      ends_same part other (Err _) e a b one two = absurd (omega (arith, a))

  -- ---- what is read before

  module _ (all : List ℕ) (a : Asked) where
    one_input : (o : Option Text) (b d : List ℕ) → IsInput H (Some all) o b → IsInput H (Some all) o d → b ≡ d
    one_input None b d is so = is ∙ sym so
    one_input (Some name) b d is so = from (bytes_eq name (codes "-")) is so
      where
        from : (x : Bool) → IsFrom H (Some all) x name b → IsFrom H (Some all) x name d → b ≡ d
        from true is so = is ∙ sym so
        from false is so = is ∙ sym so

    -- the task ended so, for the bytes and the names that it was given
    abbrev Reached : List ℕ → Result Success Error → Type 0
    Reached part done = (bytes : List ℕ) × IsInput H (Some all) (input_of a.task a.list) bytes × EndsWith H E bytes (report_names a bytes) a.output a.task part done

    module _ (empty : Option (List ℕ)) (free : Text → Type 0) (old new : World) (part : List ℕ) (done : Result Success Error) (low : status_of done < 3) where
      -- no step before the task fails with a row that is too loose
      never : (F : Error → Type 0) → ((row : ℕ) (rs : NumberedRefusals) → F (error.TooLoose row rs) → ⊥) → IsErrAnd done F → ⊥
      never F none fails = go done low fails
        where
          go : (d : Result Success Error) → status_of d < 3 → IsErrAnd d F → ⊥
          go (Ok success) low fails = fails
          go (Err (error.TooLoose row rs)) low fails = none row rs fails
          go (Err _) low fails = omega (arith, low)

      no_input_error : (o : Option Text) (row : ℕ) (rs : NumberedRefusals) → IsInputError E (Some all) o (error.TooLoose row rs) → ⊥
      no_input_error None row rs fails = fails
      no_input_error (Some name) row rs fails = from (bytes_eq name (codes "-")) fails
        where
          from : (x : Bool) → IsNotFrom E (Some all) x name (error.TooLoose row rs) → ⊥
          from true fails = fails
          from false fails = fails

      names_reached : (bytes : List ℕ) → IsInput H (Some all) (input_of a.task a.list) bytes → NamesEnd empty free old new H E a bytes part done → Reached part done
      names_reached bytes is (inl (names, are, ends)) = (bytes, is, subst (λ ns. EndsWith H E bytes ns a.output a.task part done) are.0 ends.0)
      names_reached bytes is (inr (fails, none, out, files)) = absurd (never (IsNameError a bytes) (λ row rs f. f) fails)

      reached : InputEnd empty free old new H E (Some all) a part done → Reached part done
      reached (inl (bytes, is, ends)) = names_reached bytes is ends
      reached (inr (fails, none, out, files)) = absurd (never (IsInputError E (Some all) (input_of a.task a.list)) (no_input_error (input_of a.task a.list)) fails)

      words_reached : (words : List Text) → MeanOnly words a → WordsEnd empty free old new H E (Some all) words part done → Reached part done
      words_reached words only (inl (b, mean, ends)) = reached (subst (λ b. InputEnd empty free old new H E (Some all) b part done) (only b mean) ends)
      words_reached words only (inr (fails, none, out, files)) = absurd (never (IsWordsError words) (λ row rs f. f.0) fails)

-- the end of `explain`
explains_agree : (disk : Text → List ℕ) (input : List ℕ) (names : List Text) (output : Option Text) (sheet : Text) (format : Format) (part other : List ℕ) (d e : Result Success Error) → status_of d < 3 → status_of e < 3
    → EndsWith (holds disk) E input names output (under sheet (explain format)) part d → EndsWith (holds disk) E input names output (under sheet (explain format)) other e → ((name : Text) → ¬ (RepeatsKeys (disk name))) → (d ≡ e) × ListAlike part other
explains_agree disk input names output sheet format part other (Ok (Faults n)) (Ok (Faults m)) low least one two unique = let same = explains_alike disk unique format sheet names part other n m one two in (ap (λ x. Ok (Faults x)) same.0, same.1)
explains_agree disk input names output sheet format part other (Ok (Refusals rs)) e low least one two unique = absurd one.4
explains_agree disk input names output sheet format part other d (Ok (Refusals rs)) low least one two unique = absurd two.4
explains_agree disk input names output sheet format part other (Err (error.TooLoose row rs)) e low least one two unique = let loose = loose_in disk input names output (under sheet (explain format)) row rs one.0 in absurd loose.4
explains_agree disk input names output sheet format part other d (Err (error.TooLoose row rs)) low least one two unique = let loose = loose_in disk input names output (under sheet (explain format)) row rs two.0 in absurd loose.4
explains_agree disk input names output sheet format part other (Ok (Faults n)) (Err _) low least one two unique = absurd (omega (arith, least))
explains_agree disk input names output sheet format part other (Err _) e low least one two unique = absurd (omega (arith, low))

agree : (disk : Text → List ℕ) (input : List ℕ) (names : List Text) (output : Option Text) (task : Task) → IsSaid task → (part other : List ℕ) (d e : Result Success Error) → status_of d < 3 → status_of e < 3
    → EndsWith (holds disk) E input names output task part d → EndsWith (holds disk) E input names output task other e → Agree disk task part other d e
agree disk input names output (under sheet (explain format)) said part other d e low least one two = explains_agree disk input names output sheet format part other d e low least one two
agree disk input names output task said part other d e low least one two = ends_same disk input names output task said part other d e low least one two

pub runs_are_one : RunsAreOne
runs_are_one disk all a said words others means only empty blank old new before after part other done end one two low least =
    let first = words_reached disk all a empty E old new part done low words means one in
    let second = words_reached disk all a blank E before after other end least others only two in
    let same = one_input disk all a (input_of a.task a.list) second.0 first.0 second.1 first.1 in
    let ends = subst (λ bytes. EndsWith (holds disk) (λ name. ⊤) bytes (report_names a bytes) a.output a.task other end) same second.2 in
    agree disk first.0 (report_names a first.0) a.output a.task said part other done end low least first.2 ends

-- ---- words that ask for a command

none_some : {A : Type 0} (x : A) → None ≡ Some x → ⊥
none_some x e = subst (λ o. MatchOption o ⊤ (λ y. ⊥)) e tt

not_help : (ks : Kinds) (k : ErrorKind) (x : Option Asked) (a : Asked) → IsAmong k ks → (if is_empty ks then x else None) ≡ Some a → ⊥
not_help [] k x a among e = among
not_help (y ∷ ys) k x a among e =
    let other : length (y ∷ ys) ≢ 0 = λ is. omega (arith, is) in
    none_some a (sym (ap (λ b. cond b x None) (ne_eqb (length (y ∷ ys)) 0 other)) ∙ e)

pub asked_is_meant : AskedIsMeant
asked_is_meant words a some asks b (inl (none, is)) = absurd (some none)
asked_is_meant words a some asks b (inr (inl (inl (t, are, among), is))) = absurd (not_help (fault_of (program_app false t) words) kind.DisplayHelp (asked (subcommand_of (program_app false t) words)) a among (asks t are))
asked_is_meant words a some asks b (inr (inl (inr (t, are, among), is))) = absurd (not_help (fault_of (program_app false t) words) kind.DisplayVersion (asked (subcommand_of (program_app false t) words)) a among (asks t are))
asked_is_meant words a some asks b (inr (inr (t, are, is))) = let both : Some b ≡ Some a = sym is ∙ asks t are in cc
