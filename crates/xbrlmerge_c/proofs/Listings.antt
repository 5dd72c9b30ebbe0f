-- What a call appended of its listing. If this is longer than the bound, so is the listing.
use Rattle.std.proofs.Common.{◌≡◌, ◌⊎◌, inl, inr, ℕ, List, [], ◌++◌, length, Option, Some, None, Result, Ok, Err, refl, ap, subst, ◌∙◌, arith}
use Rattle.std.proofs.lemmas.List.{length-append}
use Rattle.std.specs.Prelude.{IfErr, IfOk}
use Rattle.std.specs.Io.KnownBytes.{Appends}
use Rattle.fact_base.specs.Body.{Body}
use Rattle.oim_report.specs.Sheet.{Sheet, sheet_outcome}
use Rattle.oim_report.specs.declared.refusal.Refusal.{Refusal}
use Rattle.oim_merge.specs.Lines.{RowText, line_text}
use Rattle.oim_merge.specs.Added.{Added, added}
use Rattle.oim_merge.specs.VerdictCalls.{AppendsFrontOfRows, RowsStop, ListsRows}
use Rattle.oim_merge.specs.Reports.{merged, refused}
use Rattle.oim_merge.specs.SourceCalls.{AppendsMentions, MentionsStop}
use Rattle.oim_merge.specs.Sources.{SourceText, source_line}
use Rattle.oim_merge.specs.Traced.{Traced, traced}
use Rattle.oim_merge.specs.declared.fault.Fault.{Fault}
use Rattle.oim_merge.specs.declared.fault.Fault.TheVariants.{OutOfMemory, Device, TooLoose, Sheet as SheetFault}
use Rattle.oim_write.specs.Sink.{AppendsFront}
use Rattle.row_formats.specs.Rows.{AreRows, header, row_text}
use Rattle.row_formats.specs.SourceRows.{source_header, source_text}
use Rattle.row_formats.specs.declared.row_format.RowFormat.TheVariants.{Json}
use Rattle.xbrlmerge_c.specs.Answers.{NoReason, NoRow, StopsBy}
use Rattle.xbrlmerge_c.specs.Calls.{IsBeyond, IsTextOf, IsTooMuch}
use Rattle.xbrlmerge_c.specs.code.RowCall.{AppendsFrontOfListing, AreLong, IsLongListing, ListsRowCall, StopsRowCall, WritesRowCall}
use Rattle.xbrlmerge_c.proofs.Said.{lists}
use Rattle.xbrlmerge_c.specs.declared.row_call.RowCall.{RowCall}
use Rattle.xbrlmerge_c.specs.declared.row_call.RowCall.TheVariants.{Sources, SourcesJson, Verdicts, VerdictsJson}

module _ (old new : Option (List ℕ)) where
  rows_stop : (head : List ℕ) (written : RowText) (b : Body) (fault : Fault) → RowsStop head written b old new fault → Appends old new [] ⊎ ((count : ℕ) × AppendsFrontOfRows head written b old new count)
  rows_stop head written b (OutOfMemory count) (inl before) = inl before.1
  rows_stop head written b (OutOfMemory count) (inr front) = inr (count, front)
  rows_stop head written b (Device count) front = inr (count, front)
  rows_stop head written b (TooLoose row returned) s = absurd s
  rows_stop head written b (SheetFault reason) s = absurd s

  front_of : (call : RowCall) (sheet : Sheet) (reports : List (List ℕ)) (text : List ℕ) (count : ℕ) → IsTextOf call sheet reports text → AppendsFront old new text count → AppendsFrontOfListing call sheet reports old new
  front_of call sheet reports text count is front = record { text = text; is = is; front = front.front; rest = front.rest; whole = front.whole; appended = front.appended }

  lines_front : (sheet : Sheet) (reports : List (List ℕ)) → Appends old new [] ⊎ ((count : ℕ) × AppendsFrontOfRows [] line_text (merged sheet reports) old new count) → StopsRowCall Verdicts sheet reports old new
  lines_front sheet reports (inl before) = inl before
  lines_front sheet reports (inr f) = inr (front_of Verdicts sheet reports f.1.rows f.0 f.1.are f.1.front)

  pub lines_stop : (sheet : Sheet) (reports : List (List ℕ)) (fault : Fault) → RowsStop [] line_text (merged sheet reports) old new fault → StopsRowCall Verdicts sheet reports old new
  lines_stop sheet reports fault stops = lines_front sheet reports (rows_stop [] line_text (merged sheet reports) fault stops)

  json_front : (sheet : Sheet) (reports : List (List ℕ)) → Appends old new [] ⊎ ((count : ℕ) × AppendsFrontOfRows (header Json) (row_text Json) (merged sheet reports) old new count) → StopsRowCall VerdictsJson sheet reports old new
  json_front sheet reports (inl before) = inl before
  json_front sheet reports (inr f) = inr (front_of VerdictsJson sheet reports f.1.rows f.0 (record { rows = f.1.rows; are = f.1.are; whole = refl }) f.1.front)

  pub json_rows_stop : (sheet : Sheet) (reports : List (List ℕ)) (fault : Fault) → RowsStop (header Json) (row_text Json) (merged sheet reports) old new fault → StopsRowCall VerdictsJson sheet reports old new
  json_rows_stop sheet reports fault stops = json_front sheet reports (rows_stop (header Json) (row_text Json) (merged sheet reports) fault stops)

  pub sources_stop : (sheet : Sheet) (reports : List (List ℕ)) (fault : Fault) → MentionsStop [] source_line (traced sheet reports) old new fault → StopsRowCall Sources sheet reports old new
  sources_stop sheet reports (OutOfMemory count) front = inr (front_of Sources sheet reports _ count refl front)
  sources_stop sheet reports (Device count) front = inr (front_of Sources sheet reports _ count refl front)
  sources_stop sheet reports (TooLoose row returned) s = absurd s
  sources_stop sheet reports (SheetFault reason) s = absurd s

  pub json_sources_stop : (sheet : Sheet) (reports : List (List ℕ)) (fault : Fault) → MentionsStop (source_header Json) (source_text Json []) (traced sheet reports) old new fault → StopsRowCall SourcesJson sheet reports old new
  json_sources_stop sheet reports (OutOfMemory count) front = inr (front_of SourcesJson sheet reports _ count refl front)
  json_sources_stop sheet reports (Device count) front = inr (front_of SourcesJson sheet reports _ count refl front)
  json_sources_stop sheet reports (TooLoose row returned) s = absurd s
  json_sources_stop sheet reports (SheetFault reason) s = absurd s

-- ---- the result of a call

rows_fault : (head : List ℕ) (written : RowText) (b : Body) (old new : Option (List ℕ)) (fault : Fault) → RowsStop head written b old new fault → StopsBy NoRow NoReason fault
rows_fault head written b old new (OutOfMemory count) s = tt
rows_fault head written b old new (Device count) s = tt
rows_fault head written b old new (TooLoose row returned) s = s
rows_fault head written b old new (SheetFault reason) s = s

mentions_fault : (head : List ℕ) (written : SourceText) (t : Traced) (old new : Option (List ℕ)) (fault : Fault) → MentionsStop head written t old new fault → StopsBy NoRow NoReason fault
mentions_fault head written t old new (OutOfMemory count) s = tt
mentions_fault head written t old new (Device count) s = tt
mentions_fault head written t old new (TooLoose row returned) s = s
mentions_fault head written t old new (SheetFault reason) s = s

module _ (sheet : Sheet) (reports : List (List ℕ)) (old new : Option (List ℕ)) where
  pub lines_listed : (a : Added) → a ≡ added sheet reports → (result : Result (List (ℕ × Refusal)) Fault) →
      IfOk result (ListsRows [] line_text a.body a.refusals old new) → IfErr result (RowsStop [] line_text a.body old new) → ListsRowCall Verdicts sheet reports old new result
  lines_listed a is (Ok returned) ok err = subst (λ (x : Added). ListsRows [] line_text x.body x.refusals old new returned) is ok
  lines_listed a is (Err fault) ok err =
      (rows_fault [] line_text a.body old new fault err, lines_stop old new sheet reports fault (subst (λ (x : Added). RowsStop [] line_text x.body old new fault) is err))

  pub rows_listed : (b : Body) (refusals : List (ℕ × Refusal)) → b ≡ merged sheet reports → refusals ≡ refused sheet reports → (result : Result (List (ℕ × Refusal)) Fault) →
      IfOk result (ListsRows (header Json) (row_text Json) b refusals old new) → IfErr result (RowsStop (header Json) (row_text Json) b old new) → ListsRowCall VerdictsJson sheet reports old new result
  rows_listed b refusals is are (Ok returned) ok err =
      subst (λ (rs : List (ℕ × Refusal)). ListsRows (header Json) (row_text Json) (merged sheet reports) rs old new returned) are
      (subst (λ (x : Body). ListsRows (header Json) (row_text Json) x refusals old new returned) is ok)
  rows_listed b refusals is are (Err fault) ok err =
      (rows_fault (header Json) (row_text Json) b old new fault err, json_rows_stop old new sheet reports fault (subst (λ (x : Body). RowsStop (header Json) (row_text Json) x old new fault) is err))

  pub sources_listed : (t : Traced) → t ≡ traced sheet reports → (result : Result (List (ℕ × Refusal)) Fault) →
      IfOk result (AppendsMentions [] source_line t old new) → IfErr result (MentionsStop [] source_line t old new) → ListsRowCall Sources sheet reports old new result
  sources_listed t is (Ok returned) ok err = subst (λ (x : Traced). AppendsMentions [] source_line x old new returned) is ok
  sources_listed t is (Err fault) ok err =
      (mentions_fault [] source_line t old new fault err, sources_stop old new sheet reports fault (subst (λ (x : Traced). MentionsStop [] source_line x old new fault) is err))

  pub json_sources_listed : (t : Traced) → t ≡ traced sheet reports → (result : Result (List (ℕ × Refusal)) Fault) →
      IfOk result (AppendsMentions (source_header Json) (source_text Json []) t old new) → IfErr result (MentionsStop (source_header Json) (source_text Json []) t old new) → ListsRowCall SourcesJson sheet reports old new result
  json_sources_listed t is (Ok returned) ok err = subst (λ (x : Traced). AppendsMentions (source_header Json) (source_text Json []) x old new returned) is ok
  json_sources_listed t is (Err fault) ok err =
      (mentions_fault (source_header Json) (source_text Json []) t old new fault err, json_sources_stop old new sheet reports fault (subst (λ (x : Traced). MentionsStop (source_header Json) (source_text Json []) x old new fault) is err))

-- ---- a listing that is longer than its bound

longer : (bound : Option ℕ) (front rest text : List ℕ) → text ≡ front ++ rest → IsBeyond bound front → IsBeyond bound text
longer None front rest text whole beyond = beyond
longer (Some bound) front rest text whole beyond = omega (arith, beyond, ap (λ (t : List ℕ). length t) whole, length-append front rest)

nothing_beyond : (bound : Option ℕ) (before after : List ℕ) → before ≡ [] → after ≡ before ++ [] → IsBeyond bound after → ⊥
nothing_beyond None before after none is beyond = beyond
nothing_beyond (Some bound) before after none is beyond =
    omega (arith, beyond, ap (λ (t : List ℕ). length t) is, length-append before [], ap (λ (t : List ℕ). length t) none)

-- a long row makes the listing longer than the bound
pub long_rows : (sheet : Sheet) (reports : List (List ℕ)) (bound : Option ℕ) (b : Body) → b ≡ merged sheet reports → AreLong bound b → IsLongListing VerdictsJson bound sheet reports
long_rows sheet reports None b is long = absurd long
long_rows sheet reports (Some bound) b is long = record { text = long.text; is = subst (λ x. AreRows Json x long.text) is long.are; beyond = long.beyond }

module _ (sheet : List ℕ) (reports : List (List ℕ)) (listed : Sheet) (read : sheet_outcome sheet ≡ Ok listed) (bound : Option ℕ) (call : RowCall) where
  pub too_long : IsLongListing call bound listed reports → IsTooMuch call bound sheet reports
  too_long long = record { listed = listed; read = read; text = long.text; is = long.is; beyond = long.beyond }

  stopped : (before after : List ℕ) → before ≡ [] → IsBeyond bound after → StopsRowCall call listed reports (Some before) (Some after) → IsTooMuch call bound sheet reports
  stopped before after none beyond (inl nothing) = absurd (nothing_beyond bound before after none nothing beyond)
  stopped before after none beyond (inr f) = record {
    listed = listed;
    read = read;
    text = f.text;
    is = f.is;
    beyond = longer bound f.front f.rest f.text f.whole (subst (IsBeyond bound) (f.appended ∙ ap (λ b. b ++ f.front) none) beyond);
  }

  -- the written bytes are beyond the bound, so the listing is
  pub too_much : (before after : List ℕ) → before ≡ [] → IsBeyond bound after → (written : Option (Result (List (ℕ × Refusal)) Fault)) → WritesRowCall call bound listed reports (Some before) (Some after) written → IsTooMuch call bound sheet reports
  too_much before after none beyond None writes = too_long writes
  too_much before after none beyond (Some (Ok returned)) writes =
      record { listed = listed; read = read; text = after; is = (lists listed reports before after returned none call writes).0; beyond = beyond }
  too_much before after none beyond (Some (Err fault)) writes = stopped before after none beyond writes.1
