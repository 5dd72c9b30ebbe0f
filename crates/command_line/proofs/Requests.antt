-- The end of a part of a run as the end of the task, and of its output.
use Rattle.std.proofs.Common.{◌≡◌, ◌⊎◌, ℕ, List, [], true, Option, Some, None, Result, Ok, Err, refl, sym, subst, inl, inr, append-nil, true≢false}
use Rattle.std.specs.Prelude.{IsErrAnd, MatchResult}
use Rattle.std.specs.Io.KnownBytes.{Appends, Keeps}
use Rattle.std.proofs.KnownBytes.{Appends-kept, Appends-nil}
use Rattle.clap.specs.Words.{Text}
use Rattle.oim_value.specs.declared.level.Level.TheVariants.{All}
use Rattle.fact_base.specs.Body.{Body}
use Rattle.fact_base.specs.Verdict.{verdict_of}
use Rattle.fact_base.specs.declared.verdict.Verdict.{Verdict}
use Rattle.oim_write.specs.Bytes.{canonical}
use Rattle.oim_merge.specs.Above.{some_above}
use Rattle.oim_merge.specs.Bundle.{report_pieces}
use Rattle.oim_merge.specs.Reports.{merged, refused}
use Rattle.oim_merge.specs.Run.{BundleStops, ConsolidatesBundle, StopsBehindSheet}
use Rattle.oim_merge.specs.declared.fault.Fault.{Fault}
use Rattle.oim_merge.specs.declared.fault.Fault.TheVariants as fault
use Rattle.command_line.specs.Endings.{Begins, IsCut, Prints, Puts}
use Rattle.command_line.specs.Faults.{IsDoneOrFault, IsDoneOrUnwritten, IsOutputError, IsWriteError, error_of}
use Rattle.command_line.specs.Outputs.{IsMerge, NumberedRefusals}
use Rattle.command_line.specs.Page.{Because, EndsWith, Gives, Helps, IsBegun, IsExplain, IsFault, IsPlaced, World}
use Rattle.command_line.specs.Why.{LacksSheet}
use Rattle.command_line.specs.Words.{Task, Work, bundle, help, task_of, under}
use Rattle.command_line.specs.declared.error.Error.{Error}
use Rattle.command_line.specs.declared.error.Error.TheVariants as error
use Rattle.command_line.specs.declared.error.Success.{Success}
use Rattle.command_line.specs.declared.error.Success.TheVariants.{Refusals}
use Rattle.command_line.specs.declared.request.Request.{Request}
use Rattle.command_line.proofs.Ends.{begins, of_error, stops_first, unprinted}
use Rattle.command_line.proofs.Faults.{IsFailure, merge_stops}

module _ (gives : Text → List ℕ → Type 0) (fails : Text → Type 0) (input : List ℕ) (names : List Text) where
  -- the request failed with the error of a call
  pub failed : {old new : Option (List ℕ)} {request other : Request} → request ≡ other → (done : Result Success Error) (e : Error) → IsErrAnd done (λ x. x ≡ e)
      → Prints (EndsWith gives fails input names None (task_of other)) old new (Err e) → Prints (EndsWith gives fails input names None (task_of request)) old new done
  failed {old} {new} {request} is done e was p =
      of_error (Prints (EndsWith gives fails input names None (task_of request)) old new) done e was
      (subst (λ r. Prints (EndsWith gives fails input names None (task_of r)) old new (Err e)) (sym is) p)

  module _ (task : Task) where
    abbrev Ended : Option Text → List ℕ → Result Success Error → Type 0
    Ended output = EndsWith gives fails input names output task

    abbrev Begun : Error → List ℕ → Type 0
    Begun = IsBegun gives fails input names task

    begun : (e : Error) → IsOutputError e → (text : List ℕ) (success : Success) → Gives gives fails input task names text success → Begins Begun e text
    begun e is text success gives_text =
        begins Begun e text (record { first = names; others = []; split = sym (append-nil names); cut = inr (is, refl); success = success; gives_text = gives_text })

    -- a part of the run stopped
    pub task_stops : {T : Type 0} (Part : List ℕ → T → Type 0) (Why : Error → Type 0) (result_of : T → Success) → ((text : List ℕ) (result : T) → Part text result → Gives gives fails input task names text (result_of result))
        → (e : Error) → (Why e → Because gives fails input names None task e) → (old new : Option (List ℕ)) → Prints (Puts Part Why) old new (Err e) → Prints (Ended None) old new (Err e)
    task_stops Part Why result_of whole e because old new p =
        stops_first Part Why (IsCut Part) (Gives gives fails input task names) (Because gives fails input names None task) Begun e because
        (λ text cut. begun e cut.0 text (result_of cut.1) (whole text cut.1 cut.2)) old new p

    -- ---- the end of a run

    -- a beginning of the text stands there if the output failed, whatever the end was before
    stood : (done : Result Success Error) (part : List ℕ) → Ended None part done → (e : Error) → IsOutputError e → (part ≡ []) ⊎ Begins Begun e part
    stood (Ok success) part gives_text e is = inr (begun e is part success gives_text)
    stood (Err x) part (why, inl none) e is = inl none
    stood (Err x) part (why, inr (text, rest, b, whole)) e is =
        inr (text, rest, record { first = b.first; others = b.others; split = b.split; cut = cut b.cut; success = b.success; gives_text = b.gives_text }, whole)
      where
        cut : IsExplain task ⊎ (IsOutputError x × (b.others ≡ [])) → IsExplain task ⊎ (IsOutputError e × (b.others ≡ []))
        cut (inl explains) = inl explains
        cut (inr c) = inr (is, c.1)

    pub faulted : (done result : Result Success Error) → IsDoneOrFault done result → (part : List ℕ) → Ended None part done → Ended None part result
    faulted done result (inl is) part ends = subst (Ended None part) (sym is) ends
    faulted done (Err (error.Device written)) (inr fault) part ends = (inl tt, stood done part ends (error.Device written) tt)
    faulted done (Err (error.TooMuch most)) (inr fault) part ends = (inl tt, stood done part ends (error.TooMuch most) tt)
    faulted done _ (inr fault) part ends = absurd fault

    module _ (name : Text) where
      named_fault : (e : Error) → IsFault None e → IsFault (Some name) e
      named_fault (error.Unwritten file cause) is = absurd is
      named_fault e is = is

      to_file : (done : Result Success Error) (part : List ℕ) → Ended None part done → Ended (Some name) part done
      to_file (Ok success) part gives_text = gives_text
      to_file (Err e) part (inl fault, there) = (inl (named_fault e fault), there)
      to_file (Err e) part (inr why, there) = (inr why, there)

      -- the file was not written
      pub unwritten : (e : Error) → IsWriteError name e → Ended (Some name) [] (Err e)
      unwritten (error.Unwritten file cause) is = (inl is, inl refl)
      unwritten error.OutOfMemory is = (inl tt, inl refl)
      unwritten _ is = absurd is

      -- the run ended so before its file was put in place
      module _ (empty mid : Option (List ℕ)) (free : Text → Type 0) (old new : World) where
        pub settled : (done result : Result Success Error) → IsDoneOrUnwritten name done result → MatchResult result (λ success. Keeps mid (new.file name)) (λ e. new.file name ≡ old.file name)
            → (part : List ℕ) → Ended None part done → Appends empty mid part → (part : List ℕ) × Ended (Some name) part result × IsPlaced empty free old new name part result
        settled done (Ok success) (inl is) placed part ends appended = (part, to_file (Ok success) part (subst (Ended None part) (sym is) ends), Appends-kept empty mid (new.file name) part appended placed)
        settled done (Err e) (inl is) placed part ends appended = (part, to_file (Err e) part (subst (Ended None part) (sym is) ends), placed)
        settled done (Err e) (inr fault) placed part ends appended = ([], unwritten e fault, placed)
        settled done (Ok success) (inr fault) placed part ends appended = absurd fault

  -- ---- the bundle

  module _ (old new : Option (List ℕ)) where
    pub bundle_prints : (returned : NumberedRefusals) → ConsolidatesBundle input old new returned → Prints (EndsWith gives fails input names None bundle) old new (Ok (Refusals returned))
    bundle_prints returned w =
        let is = w.consolidates in
        record { part = canonical (merged w.sheet (report_pieces input)); ends = record { sheet = w.sheet; read = w.read; is = record { within = is.within; text_is = refl; refusals_are = is.refusals_are } }; appended = is.appended }

    none_above : (v : Option Verdict) → some_above All v ≡ true → ⊥
    none_above None above = true≢false (sym above)
    none_above (Some v) above = true≢false (sym above)

    merge_because : (b : Body) (refusals : NumberedRefusals) (e : Error) → IsFailure old new All b refusals e → Because gives fails input names None bundle e
    merge_because b refusals (error.TooLoose row returned) loose = absurd (none_above (verdict_of loose.first.row.1) loose.first.above)
    merge_because b refusals e why = inl why

    behind_sheet : (f : Fault) → StopsBehindSheet input old new f → Prints (EndsWith gives fails input names None bundle) old new (Err (error_of f))
    behind_sheet f w =
        let b = merged w.sheet (report_pieces input) in
        let refusals = refused w.sheet (report_pieces input) in
        task_stops bundle (IsMerge All b refusals) (IsFailure old new All b refusals) Refusals (λ text returned is. record { sheet = w.sheet; read = w.read; is = is }) (error_of f) (merge_because b refusals (error_of f)) old new
        (merge_stops old new All b refusals f w.stops)

    pub bundle_stops : (f : Fault) → BundleStops input old new f → Prints (EndsWith gives fails input names None bundle) old new (Err (error_of f))
    bundle_stops (fault.OutOfMemory n) (inl before) = unprinted error.OutOfMemory (inl tt) before.1
    bundle_stops (fault.OutOfMemory n) (inr behind) = behind_sheet (fault.OutOfMemory n) behind
    bundle_stops (fault.Device n) behind = behind_sheet (fault.Device n) behind
    bundle_stops (fault.TooLoose row returned) behind = behind_sheet (fault.TooLoose row returned) behind
    bundle_stops (fault.Sheet reason) stops = unprinted (error.Sheet reason None None) (inr stops.0) stops.1

    -- help
    pub help_stops : (e : Error) → Prints (Puts Helps IsOutputError) old new (Err e) → Prints (EndsWith gives fails input names None help) old new (Err e)
    help_stops e p = task_stops help Helps IsOutputError Refusals (λ text returned none. none) e (λ why. inl why) old new p

  pub sheet_stops : (sheet : Text) (work : Work) (old : Option (List ℕ)) (e : Error) → LacksSheet gives fails sheet e → Prints (EndsWith gives fails input names None (under sheet work)) old old (Err e)
  sheet_stops sheet work old e why = unprinted e (inr (inl why)) (Appends-nil old)
