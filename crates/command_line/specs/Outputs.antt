-- The text that each command prints, and its refusals, from the bytes of the files that it names (own).
use Rattle.std.specs.Prelude.{◌≡◌, ℕ, List, [], ◌∷◌, ◌++◌, flat_map}
use Rattle.clap.specs.Words.{Text}
use Rattle.oim_value.specs.declared.level.Level.{Level}
use Rattle.oim_value.specs.declared.level.Level.TheVariants.{All}
use Rattle.oim_report.specs.Sheet.{Sheet}
use Rattle.oim_report.specs.declared.refusal.Refusal.{Refusal}
use Rattle.fact_base.specs.Body.{Body}
use Rattle.fact_base.specs.Contents.{Contents}
use Rattle.oim_write.specs.Bytes.{canonical}
use Rattle.oim_merge.specs.Above.{IsFirstAbove, StaysWithin}
use Rattle.oim_merge.specs.Bundle.{report_pieces}
use Rattle.oim_merge.specs.EventLines.{SaysEvents}
use Rattle.oim_merge.specs.Lines.{AreRowsOf, RowText, line_text}
use Rattle.oim_merge.specs.Replay.{IsReplayOf, Replay}
use Rattle.oim_merge.specs.Reports.{merged, refused}
use Rattle.oim_merge.specs.Run.{IsSheetOf}
use Rattle.oim_merge.specs.SourceCalls.{mention_texts}
use Rattle.oim_merge.specs.Sources.{SourceText, source_line}
use Rattle.oim_merge.specs.Traced.{Traced}
use Rattle.oim_merge.specs.declared.event.Event.{Event}
use Rattle.row_formats.specs.Rows.{header, row_text}
use Rattle.row_formats.specs.SourceRows.{source_header, source_text}
use Rattle.command_line.specs.declared.print_format.PrintFormat.{PrintFormat}
use Rattle.command_line.specs.declared.print_format.PrintFormat.TheVariants.{Lines, Rows}

-- refusals with the numbers of their reports
abbrev pub NumberedRefusals : Type 0
NumberedRefusals = List (ℕ × Refusal)

-- ---- `merge`

-- the canonical text of a body that stays within the level
pub record IsMerge (level : Level) (b : Body) (refusals : NumberedRefusals) (text : List ℕ) (returned : NumberedRefusals) : Type 0 where
  pub within : StaysWithin level b
  pub text_is : text ≡ canonical b
  pub refusals_are : returned ≡ refusals

-- the row with this number is the first above the level
pub record IsLoose (level : Level) (b : Body) (refusals : NumberedRefusals) (row : ℕ) (returned : NumberedRefusals) : Type 0 where
  pub first : IsFirstAbove level b row
  pub refusals_are : returned ≡ refusals

-- ---- `verdicts` and `sources`

abbrev pub verdicts_header : PrintFormat → List ℕ
verdicts_header Lines = []
verdicts_header (Rows format) = header format

abbrev pub verdict_written : PrintFormat → RowText
verdict_written Lines = line_text
verdict_written (Rows format) = row_text format

-- the rows of a body, each with its verdict
pub record AreVerdicts (format : PrintFormat) (b : Body) (refusals : NumberedRefusals) (text : List ℕ) (returned : NumberedRefusals) : Type 0 where
  pub rows : List ℕ
  pub are : AreRowsOf (verdict_written format) b rows
  pub text_is : text ≡ verdicts_header format ++ rows
  pub refusals_are : returned ≡ refusals

abbrev pub sources_header : PrintFormat → List ℕ
sources_header Lines = []
sources_header (Rows format) = source_header format

-- how to write a source, given the files of the reports
abbrev pub source_written : PrintFormat → List Text → SourceText
source_written Lines names = source_line
source_written (Rows format) names = source_text format names

-- the fact objects of the accepted reports, in the order of facts, then reports, then identifiers
pub record AreSources (format : PrintFormat) (names : List Text) (t : Traced) (text : List ℕ) (returned : NumberedRefusals) : Type 0 where
  pub text_is : text ≡ sources_header format ++ mention_texts (source_written format names) t
  pub refusals_are : returned ≡ t.added.refusals

-- ---- `replay`

-- the canonical text of each replica, one a line
abbrev pub replica_line : Contents → List ℕ
replica_line base = canonical base.body ++ 10 ∷ []

abbrev pub replica_lines : List Contents → List ℕ
replica_lines bases = flat_map replica_line bases

abbrev pub PrintsReplay : Replay → List ℕ → NumberedRefusals → Type 0
PrintsReplay replay text returned = (text ≡ replica_lines replay.world.replicas) × (returned ≡ replay.refused)

pub record Replays (sheet : Sheet) (replicas : ℕ) (lines : List ℕ) (reports : List (List ℕ)) (text : List ℕ) (returned : NumberedRefusals) : Type 0 where
  pub events : List Event
  pub says : SaysEvents lines events
  pub replay : Replay
  pub is : IsReplayOf sheet replicas reports events replay
  pub printed : PrintsReplay replay text returned

-- ---- the bundle

-- the merge of a bundle, which allows all duplicates
pub record MergesBundle (bundle text : List ℕ) (returned : NumberedRefusals) : Type 0 where
  pub sheet : Sheet
  pub read : IsSheetOf bundle sheet
  pub is : IsMerge All (merged sheet (report_pieces bundle)) (refused sheet (report_pieces bundle)) text returned
