-- What `explain` prints, report by report, and the end of its run.
use Rattle.std.proofs.Common.{◌≡◌, ℕ, ◌+◌, ◌<◌, ◌≤◌, List, [], ◌∷◌, ◌++◌, Option, None, Some, Result, Ok, Err, Bor, take, drop, get_or, length, refl, sym, ap, subst, inl, inr, ◌∙◌, arith, append_assoc, append-nil, take-append-drop, string_bytes}
use Rattle.std.specs.Prelude.{nat_lt, if◌then◌else◌}
use Rattle.std.specs.Io.KnownBytes.{Appends}
use Rattle.std.proofs.KnownBytes.{Appends-trans}
use Rattle.std.proofs.lemmas.Grind.{flat_map-append, fold-append}
use Rattle.std.proofs.lemmas.List.{length-map, length-take, map-append, take_all, take_more}
use Rattle.clap.specs.Words.{Text}
use Rattle.oim_report.specs.Sheet.{Sheet, sheet_outcome}
use Rattle.oim_explain.specs.Explained.{Explains, counted, printed_faults}
use Rattle.oim_explain.specs.declared.lines.Explained.{Explained}
use Rattle.oim_explain.specs.declared.lines.Format.{Format}
use Rattle.command_line.specs.Endings.{Begins, Is, IsCut, Prints, PutsText}
use Rattle.command_line.specs.Explained.{AreExplained, ExplainGives, IsExplained, Lists, ListsFirst, Report, counts_line, faulty_reports, names_of, reports_text}
use Rattle.command_line.specs.Faults.{IsOutputError}
use Rattle.command_line.specs.Page.{Because, EachEnds, EndsWith, Gives, IsBegun, Under}
use Rattle.command_line.specs.Words.{Task, explain, name_texts, under}
use Rattle.command_line.specs.declared.commands.explain.Counts.{Counts}
use Rattle.command_line.specs.declared.error.Error.{Error}
use Rattle.command_line.specs.declared.error.Success.{Success}
use Rattle.command_line.specs.declared.error.Success.TheVariants.{Faults}
use Rattle.command_line.proofs.Ends.{begins, stops_behind, stops_first}
use Rattle.command_line.proofs.Readings.{no_name}
use Rattle.command_line.proofs.Why.{output_under}

reports_more : (rs : List Report) (r : Report) → reports_text (rs ++ r ∷ []) ≡ reports_text rs ++ string_bytes r.explained.text
reports_more rs r = flat_map-append (λ (r : Report). string_bytes r.explained.text) rs (r ∷ []) ∙ ap (λ t. reports_text rs ++ t) (append-nil (string_bytes r.explained.text))

pub explained_report : (gives : Text → List ℕ → Type 0) (format : Format) (sheet : Sheet) (name : Bor Text) (bytes same : List ℕ) (e : Explained) (m n : ℕ) → gives name.now bytes → m ≡ n → same ≡ bytes
    → Explains (record { report = Some m; name = name; format = format }) same (printed_faults sheet same) e → IsExplained gives format sheet n (record { name = name; bytes = bytes; explained = e })
explained_report gives format sheet name bytes same e m n gave number is explains = record {
  gave = gave;
  explains = subst (λ k. Explains (record { report = Some k; name = name; format = format }) bytes (printed_faults sheet bytes) e) number
      (subst (λ bs. Explains (record { report = Some m; name = name; format = format }) bs (printed_faults sheet bs) e) is explains);
}

are_more : (gives : Text → List ℕ → Type 0) (format : Format) (sheet : Sheet) (n : ℕ) (rs : List Report) (r : Report) → AreExplained gives format sheet n rs → IsExplained gives format sheet (n + length rs) r → AreExplained gives format sheet n (rs ++ r ∷ [])
are_more gives format sheet n [] r are one = (subst (λ m. IsExplained gives format sheet m r) (omega arith) one, tt)
are_more gives format sheet n (s ∷ rs) r are one = (are.0, are_more gives format sheet (n + 1) rs r are.1 (subst (λ m. IsExplained gives format sheet m r) (omega arith) one))

module _ (gives : Text → List ℕ → Type 0) (format : Format) (sheet : Sheet) (of_sheet : Explained) (fails : Text → Type 0) (names : List (Bor Text)) where
  abbrev texts : List Text
  texts = name_texts names

  -- the lines for the first reports
  abbrev ListsTo : ℕ → List ℕ → Counts → Type 0
  ListsTo i = Lists gives format sheet of_sheet (name_texts (take i names))

  -- these lines were printed
  abbrev pub HasListed : ℕ → Option (List ℕ) → Option (List ℕ) → Counts → Type 0
  HasListed i old new counts = (text : List ℕ) × ListsTo i text counts × Appends old new text

  abbrev Each : Option (List ℕ) → Option (List ℕ) → Result Counts Error → Type 0
  Each = Prints (EachEnds gives format sheet of_sheet fails texts)

  abbrev Because_of : Error → Type 0
  Because_of = Under gives fails texts sheet (explain format)

  lists_begin : (i : ℕ) (text : List ℕ) (counts : Counts) → ListsTo i text counts → (e : Error) → Begins (ListsFirst gives format sheet of_sheet texts) e text
  lists_begin i text counts lists e =
      let split : texts ≡ name_texts (take i names) ++ name_texts (drop i names) = ap name_texts (sym (take-append-drop i names)) ∙ map-append (λ (n : Bor Text). n.now) (take i names) (drop i names) in
      begins (ListsFirst gives format sheet of_sheet texts) e text (name_texts (take i names), name_texts (drop i names), split, counts, lists)

  pub stops_here : (i : ℕ) (old new : Option (List ℕ)) (counts : Counts) → HasListed i old new counts → (e : Error) → Because_of e → Each old new (Err e)
  stops_here i old new counts (text, lists, appended) e why = record { part = text; ends = (why, inr (lists_begin i text counts lists e)); appended = appended }

  -- ---- the sheet

  abbrev pub at_first : Counts
  at_first = record { faulty = 0; faults = of_sheet.faults }

  no_reports : (text : List ℕ) → text ≡ string_bytes of_sheet.text → ListsTo 0 text at_first
  no_reports text is = record { reports = []; named = refl; are = tt; text_is = is ∙ sym (append-nil (string_bytes of_sheet.text)); faulty = refl; faults = refl }

  pub sheet_stops : (old new : Option (List ℕ)) (e : Error) → Prints (PutsText (string_bytes of_sheet.text)) old new (Err e) → Each old new (Err e)
  sheet_stops old new e p =
      stops_first (Is (string_bytes of_sheet.text)) IsOutputError (IsCut (Is (string_bytes of_sheet.text))) (Lists gives format sheet of_sheet texts) Because_of (ListsFirst gives format sheet of_sheet texts) e
      (output_under gives fails texts sheet (explain format) e) (λ text cut. lists_begin 0 text at_first (no_reports text cut.2) e) old new p

  pub sheet_listed : (old new : Option (List ℕ)) (done : Unit {0}) → Prints (PutsText (string_bytes of_sheet.text)) old new (Ok done) → HasListed 0 old new at_first
  sheet_listed old new done p = (p.part, no_reports p.part p.ends, p.appended)

  -- ---- a report

  module _ (i : ℕ) (within : i < length names) (r : Report) (named : r.name ≡ get_or names i no_name) (is : IsExplained gives format sheet (1 + i) r) where
    names_more : (rs : List Report) → name_texts (names_of rs) ≡ name_texts (take i names) → name_texts (names_of (rs ++ r ∷ [])) ≡ name_texts (take (i + 1) names)
    names_more rs are =
        ap name_texts (map-append (λ (r : Report). r.name) rs (r ∷ [])) ∙ map-append (λ (n : Bor Text). n.now) (names_of rs) (r.name ∷ []) ∙ ap (λ ns. ns ++ r.name.now ∷ []) are
        ∙ ap (λ (n : Bor Text). name_texts (take i names) ++ n.now ∷ []) named ∙ sym (map-append (λ (n : Bor Text). n.now) (take i names) (get_or names i no_name ∷ []))
        ∙ ap name_texts (sym (take_more names i no_name within))

    count : (rs : List Report) → name_texts (names_of rs) ≡ name_texts (take i names) → 1 + length rs ≡ 1 + i
    count rs are =
        let all : length rs ≡ length (take i names) = sym (length-map rs (λ (r : Report). r.name)) ∙ sym (length-map (names_of rs) (λ (n : Bor Text). n.now)) ∙ ap length are ∙ length-map (take i names) (λ (n : Bor Text). n.now) in
        let same : length rs ≡ i = all ∙ omega (arith, length-take i names, within) in ap (λ n. 1 + n) same

    module _ (counts next : Counts) (faulty : next.faulty ≡ counted (counts.faulty + (if nat_lt 0 r.explained.faults then 1 else 0))) (faults : next.faults ≡ counted (counts.faults + r.explained.faults)) where
      lists_more : (text : List ℕ) → ListsTo i text counts → ListsTo (i + 1) (text ++ string_bytes r.explained.text) next
      lists_more text lists = record {
        reports = lists.reports ++ r ∷ [];
        named = names_more lists.reports lists.named;
        are = are_more gives format sheet 1 lists.reports r lists.are (subst (λ n. IsExplained gives format sheet n r) (sym (count lists.reports lists.named)) is);
        text_is = ap (λ t. t ++ string_bytes r.explained.text) lists.text_is ∙ append_assoc (string_bytes of_sheet.text) (reports_text lists.reports) (string_bytes r.explained.text)
            ∙ ap (λ t. string_bytes of_sheet.text ++ t) (sym (reports_more lists.reports r));
        faulty = faulty
            ∙ ap (λ n. counted (n + (if nat_lt 0 r.explained.faults then 1 else 0))) lists.faulty
            ∙ sym (fold-append (λ n (r : Report). counted (n + (if nat_lt 0 r.explained.faults then 1 else 0))) 0 lists.reports (r ∷ []));
        faults = faults
            ∙ ap (λ n. counted (n + r.explained.faults)) lists.faults
            ∙ sym (fold-append (λ n (r : Report). counted (n + r.explained.faults)) of_sheet.faults lists.reports (r ∷ []));
      }

      pub report_listed : (old mid new : Option (List ℕ)) → HasListed i old mid counts → (done : Unit {0}) → Prints (PutsText (string_bytes r.explained.text)) mid new (Ok done) → HasListed (i + 1) old new next
      report_listed old mid new (text, lists, appended) done p =
          (text ++ string_bytes r.explained.text, lists_more text lists, Appends-trans old mid new text (string_bytes r.explained.text) appended (subst (Appends mid new) p.ends p.appended))

    pub report_stops : (counts : Counts) (old mid new : Option (List ℕ)) → HasListed i old mid counts → (e : Error) → Prints (PutsText (string_bytes r.explained.text)) mid new (Err e) → Each old new (Err e)
    report_stops counts old mid new (before, lists, appended) e p =
        let text = string_bytes r.explained.text in
        let next : Counts = record { faulty = counted (counts.faulty + (if nat_lt 0 r.explained.faults then 1 else 0)); faults = counted (counts.faults + r.explained.faults) } in
        stops_behind (Is text) IsOutputError (IsCut (Is text)) (Lists gives format sheet of_sheet texts) Because_of (ListsFirst gives format sheet of_sheet texts) e
        (output_under gives fails texts sheet (explain format) e) before (λ why. lists_begin i before counts lists e)
        (λ t cut. lists_begin (i + 1) (before ++ t) next (subst (λ t. ListsTo (i + 1) (before ++ t) next) (sym cut.2) (lists_more counts next refl refl before lists)) e) old mid new appended p

  pub all_listed : (i : ℕ) → length names ≤ i → (old new : Option (List ℕ)) (counts : Counts) → HasListed i old new counts → Each old new (Ok counts)
  all_listed i past old new counts (text, lists, appended) =
      record { part = text; ends = subst (λ ns. Lists gives format sheet of_sheet (name_texts ns) text counts) (take_all i names past) lists; appended = appended }

  -- ---- the whole output

  module _ (input : List ℕ) (name : Bor Text) (bytes : List ℕ) (gave : gives name.now bytes) (read : sheet_outcome bytes ≡ Ok sheet) (repeated : Explains (record { report = None; name = name; format = format }) bytes [] of_sheet) where
    abbrev task : Task
    task = under name.now (explain format)

    abbrev Whole : Option (List ℕ) → Option (List ℕ) → Result Success Error → Type 0
    Whole = Prints (EndsWith gives fails input texts None task)

    abbrev line : ℕ → Counts → List ℕ
    line reports counts = counts_line format reports counts.faulty counts.faults

    given : (ns : List Text) (text : List ℕ) (counts : Counts) → Lists gives format sheet of_sheet ns text counts → ExplainGives gives format name.now ns (text ++ line (length ns) counts) counts.faults
    given ns text counts lists = record {
      name = name;
      name_is = refl;
      bytes = bytes;
      sheet = sheet;
      gave = gave;
      read = read;
      of_sheet = of_sheet;
      repeated = repeated;
      reports = lists.reports;
      named = lists.named;
      are = lists.are;
      faults_are = lists.faults;
      text_is = (λ i. lists.text_is i ++ counts_line format (length ns) (lists.faulty i) counts.faults)
          ∙ append_assoc (string_bytes of_sheet.text) (reports_text lists.reports) (counts_line format (length ns) (faulty_reports lists.reports) counts.faults);
    }

    begun : (e : Error) (text : List ℕ) → ListsFirst gives format sheet of_sheet texts e text → Begins (IsBegun gives fails input texts task) e text
    begun e text (first, others, split, counts, lists) = (
      text ++ line (length first) counts,
      line (length first) counts,
      record { first = first; others = others; split = split; cut = inl tt; success = Faults counts.faults; gives_text = given first text counts lists },
      refl,
    )

    pub each_stops : (old new : Option (List ℕ)) (e : Error) → Each old new (Err e) → Whole old new (Err e)
    each_stops old new e p =
        stops_first (Lists gives format sheet of_sheet texts) Because_of (ListsFirst gives format sheet of_sheet texts) (Gives gives fails input task texts) (Because gives fails input texts None task) (IsBegun gives fails input texts task) e
        (λ why. inr (inr (bytes, gave, sheet, read, why))) (begun e) old new p

    module _ (old mid new : Option (List ℕ)) (counts : Counts) (p : Each old mid (Ok counts)) where
      all_begun : (e : Error) (t : List ℕ) → t ≡ line (length names) counts → Begins (IsBegun gives fails input texts task) e (p.part ++ t)
      all_begun e t is =
          let same : t ≡ line (length texts) counts = is ∙ ap (λ n. line n counts) (sym (length-map names (λ (n : Bor Text). n.now))) in
          begins (IsBegun gives fails input texts task) e (p.part ++ t) (record {
            first = texts;
            others = [];
            split = sym (append-nil texts);
            cut = inl tt;
            success = Faults counts.faults;
            gives_text = subst (λ t. ExplainGives gives format name.now texts (p.part ++ t) counts.faults) (sym same) (given texts p.part counts p.ends);
          })

      pub line_stops : (e : Error) → Prints (PutsText (line (length names) counts)) mid new (Err e) → Whole old new (Err e)
      line_stops e last =
          stops_behind (Is (line (length names) counts)) IsOutputError (IsCut (Is (line (length names) counts))) (Gives gives fails input task texts) (Because gives fails input texts None task) (IsBegun gives fails input texts task) e
          (λ why. inl why) p.part (λ why. begun e p.part (texts, [], sym (append-nil texts), counts, p.ends)) (λ t cut. all_begun e t cut.2) old mid new p.appended last

      pub whole : (done : Unit {0}) → Prints (PutsText (line (length names) counts)) mid new (Ok done) → Whole old new (Ok (Faults counts.faults))
      whole done last =
          let same : last.part ≡ line (length texts) counts = last.ends ∙ ap (λ n. line n counts) (sym (length-map names (λ (n : Bor Text). n.now))) in
          record {
            part = p.part ++ last.part;
            ends = subst (λ t. ExplainGives gives format name.now texts (p.part ++ t) counts.faults) (sym same) (given texts p.part counts p.ends);
            appended = Appends-trans old mid new p.part last.part p.appended last.appended;
          }
