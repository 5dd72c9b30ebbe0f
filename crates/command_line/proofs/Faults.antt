-- Results and faults of the libraries as the ends of commands.
use Rattle.std.proofs.Common.{◌≡◌, ℕ, List, ◌++◌, Option, Result, Err, refl, subst, inl, inr}
use Rattle.clap.specs.Words.{Text}
use Rattle.oim_value.specs.declared.level.Level.{Level}
use Rattle.oim_report.specs.Sheet.{Sheet}
use Rattle.fact_base.specs.Body.{Body}
use Rattle.oim_write.specs.Bytes.{canonical}
use Rattle.oim_merge.specs.Added.{Added, added}
use Rattle.oim_merge.specs.Reports.{merged, refused}
use Rattle.oim_merge.specs.Run.{Stops as MergeStops, StopsWithin}
use Rattle.oim_merge.specs.SourceCalls.{MentionsStop, mention_texts}
use Rattle.oim_merge.specs.Traced.{Traced, traced}
use Rattle.oim_merge.specs.VerdictCalls.{AppendsFrontOfRows, RowsStop}
use Rattle.oim_merge.specs.declared.fault.Fault.{Fault}
use Rattle.oim_merge.specs.declared.fault.Fault.TheVariants as fault
use Rattle.command_line.specs.Endings.{Prints, Puts}
use Rattle.command_line.specs.Faults.{IsOutputError, error_of}
use Rattle.command_line.specs.Outputs.{AreSources, AreVerdicts, IsLoose, IsMerge, NumberedRefusals, source_written, sources_header, verdict_written, verdicts_header}
use Rattle.command_line.specs.Page.{CommandEnds, Says, Under}
use Rattle.command_line.specs.Why.{WithRead}
use Rattle.command_line.specs.Words.{merge, sources, verdicts}
use Rattle.command_line.specs.declared.error.Error.{Error}
use Rattle.command_line.specs.declared.error.Error.TheVariants as error
use Rattle.command_line.specs.declared.print_format.PrintFormat.{PrintFormat}
use Rattle.command_line.proofs.Ends.{cut_at, puts_more, unprinted}
use Rattle.command_line.proofs.Why.{output_under}

module _ (gives : List ℕ → List ℕ → Type 0) (names : List Text) (sheet : Sheet) where
  -- what holds of the state after all reports holds of the reports
  pub of_added : (P : Body → NumberedRefusals → Type 0) (a : Added) → WithRead gives names (λ reports. a ≡ added sheet reports) → P a.body a.refusals → WithRead gives names (λ reports. P (merged sheet reports) (refused sheet reports))
  of_added P a read p = (read.0, read.1, subst (λ (b : Added). P b.body b.refusals) read.2 p)

  pub of_traced : (P : Traced → Type 0) (t : Traced) → WithRead gives names (λ reports. t ≡ traced sheet reports) → P t → WithRead gives names (λ reports. P (traced sheet reports))
  of_traced P t read p = (read.0, read.1, subst P read.2 p)

module _ (old new : Option (List ℕ)) where
  module _ (level : Level) (b : Body) (refusals : NumberedRefusals) where
    -- the output failed, or a row is too loose
    abbrev pub IsFailure : Error → Type 0
    IsFailure (error.TooLoose row returned) = IsLoose level b refusals row returned
    IsFailure e = IsOutputError e

    merge_cut : (e : Error) → IsOutputError e → IsFailure e → (n : ℕ) → StopsWithin level b old new n → Prints (Puts (IsMerge level b refusals) IsFailure) old new (Err e)
    merge_cut e is why n w = cut_at (IsMerge level b refusals) IsFailure old new e why is (canonical b) refusals (record { within = w.within; text_is = refl; refusals_are = refl }) n w.front

    pub merge_stops : (f : Fault) → MergeStops level b refusals old new f → Prints (Puts (IsMerge level b refusals) IsFailure) old new (Err (error_of f))
    merge_stops (fault.OutOfMemory n) (inl before) = unprinted error.OutOfMemory tt before.1
    merge_stops (fault.OutOfMemory n) (inr within) = merge_cut error.OutOfMemory tt tt n within
    merge_stops (fault.Device n) within = merge_cut (error.Device n) tt tt n within
    merge_stops (fault.TooLoose row returned) loose = unprinted (error.TooLoose row returned) (record { first = loose.first; refusals_are = loose.refusals_are }) loose.appended
    merge_stops (fault.Sheet reason) stops = absurd stops

  -- ---- rows

  module _ (format : PrintFormat) (b : Body) (refusals : NumberedRefusals) where
    abbrev Listed : List ℕ → NumberedRefusals → Type 0
    Listed = AreVerdicts format b refusals

    verdicts_cut : (e : Error) → IsOutputError e → (n : ℕ) → AppendsFrontOfRows (verdicts_header format) (verdict_written format) b old new n → Prints (Puts Listed IsOutputError) old new (Err e)
    verdicts_cut e is n w =
        cut_at Listed IsOutputError old new e is is (verdicts_header format ++ w.rows) refusals (record { rows = w.rows; are = w.are; text_is = refl; refusals_are = refl }) n w.front

    pub verdicts_stop : (f : Fault) → RowsStop (verdicts_header format) (verdict_written format) b old new f → Prints (Puts Listed IsOutputError) old new (Err (error_of f))
    verdicts_stop (fault.OutOfMemory n) (inl before) = unprinted error.OutOfMemory tt before.1
    verdicts_stop (fault.OutOfMemory n) (inr w) = verdicts_cut error.OutOfMemory tt n w
    verdicts_stop (fault.Device n) w = verdicts_cut (error.Device n) tt n w
    verdicts_stop (fault.TooLoose row returned) stops = absurd stops
    verdicts_stop (fault.Sheet reason) stops = absurd stops

  module _ (format : PrintFormat) (names : List Text) (t : Traced) where
    abbrev text : List ℕ
    text = sources_header format ++ mention_texts (source_written format names) t

    pub sources_stop : (f : Fault) → MentionsStop (sources_header format) (source_written format names) t old new f → Prints (Puts (AreSources format names t) IsOutputError) old new (Err (error_of f))
    sources_stop (fault.OutOfMemory n) front = cut_at (AreSources format names t) IsOutputError old new error.OutOfMemory tt tt text t.added.refusals (record { text_is = refl; refusals_are = refl }) n front
    sources_stop (fault.Device n) front = cut_at (AreSources format names t) IsOutputError old new (error.Device n) tt tt text t.added.refusals (record { text_is = refl; refusals_are = refl }) n front
    sources_stop (fault.TooLoose row returned) stops = absurd stops
    sources_stop (fault.Sheet reason) stops = absurd stops

-- ---- commands under a sheet

module _ (gives : Text → List ℕ → Type 0) (fails : Text → Type 0) (names : List Text) (sheet : Sheet) where
  merge_under : (level : Level) (a : Added) → WithRead gives names (λ reports. a ≡ added sheet reports) → (old new : Option (List ℕ)) (e : Error) → IsFailure old new level a.body a.refusals e → Under gives fails names sheet (merge level) e
  merge_under level a read old new (error.TooLoose row returned) loose = of_added gives names sheet (λ b refusals. IsLoose level b refusals row returned) a read loose
  merge_under level a read old new e why = output_under gives fails names sheet (merge level) e why

  module _ (old new : Option (List ℕ)) where
    pub merge_ends : (level : Level) (a : Added) → WithRead gives names (λ reports. a ≡ added sheet reports) → (done : Result NumberedRefusals Error) → Prints (Puts (IsMerge level a.body a.refusals) (IsFailure old new level a.body a.refusals)) old new done
        → Prints (CommandEnds gives fails names sheet (merge level)) old new done
    merge_ends level a read done ends =
        puts_more (IsMerge level a.body a.refusals) (Says gives names sheet (merge level)) (IsFailure old new level a.body a.refusals) (Under gives fails names sheet (merge level))
        (λ text returned is. of_added gives names sheet (λ b refusals. IsMerge level b refusals text returned) a read is) (merge_under level a read old new) old new done ends

    pub verdicts_end : (format : PrintFormat) (a : Added) → WithRead gives names (λ reports. a ≡ added sheet reports) → (done : Result NumberedRefusals Error) → Prints (Puts (AreVerdicts format a.body a.refusals) IsOutputError) old new done
        → Prints (CommandEnds gives fails names sheet (verdicts format)) old new done
    verdicts_end format a read done ends =
        puts_more (AreVerdicts format a.body a.refusals) (Says gives names sheet (verdicts format)) IsOutputError (Under gives fails names sheet (verdicts format))
        (λ text returned are. of_added gives names sheet (λ b refusals. AreVerdicts format b refusals text returned) a read are) (output_under gives fails names sheet (verdicts format)) old new done ends

    pub sources_end : (format : PrintFormat) (t : Traced) → WithRead gives names (λ reports. t ≡ traced sheet reports) → (done : Result NumberedRefusals Error) → Prints (Puts (AreSources format names t) IsOutputError) old new done
        → Prints (CommandEnds gives fails names sheet (sources format)) old new done
    sources_end format t read done ends =
        puts_more (AreSources format names t) (Says gives names sheet (sources format)) IsOutputError (Under gives fails names sheet (sources format))
        (λ text returned are. of_traced gives names sheet (λ u. AreSources format names u text returned) t read are) (output_under gives fails names sheet (sources format)) old new done ends
