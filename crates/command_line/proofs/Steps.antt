-- How the end of a part of a run becomes the end of the run.
use Rattle.std.proofs.Common.{◌≡◌, ℕ, List, [], Option, Result, Err, inr, refl}
use Rattle.std.specs.Prelude.{IfSome}
use Rattle.std.specs.Io.KnownBytes.{Appends}
use Rattle.clap.specs.Words.{Text}
use Rattle.command_line.specs.Page.{GoesOn, Goes, IsRun, world}
use Rattle.command_line.specs.Printed.{lines_of, status_of}
use Rattle.command_line.specs.declared.error.Error.{Error}
use Rattle.command_line.specs.declared.error.Success.{Success}

pub runs_more : {Part Whole : List ℕ → Result Success Error → Type 0} {status : ℕ} {Plain : Type 0} {err_old err_new : Option (List ℕ)}
    → ((part : List ℕ) (done : Result Success Error) → Part part done → Whole part done) → IsRun Part Plain err_old err_new status → IsRun Whole Plain err_old err_new status
runs_more wider run = record { part = run.part; done = run.done; ends = wider run.part run.done run.ends; status_is = run.status_is; lines = run.lines }

-- a step failed, and nothing was written
pub step_failed : {T : Type 0} (empty : Option (List ℕ)) (free : Text → Type 0) {out_old out_new : Option (List ℕ)} {file : Text → Option (List ℕ)} {Steps : T → Type 0} {Fails : Error → Type 0} {Rest : T → List ℕ → Result Success Error → Type 0}
    {status : ℕ} {Plain : Type 0} {err_old err_new : Option (List ℕ)} → (e : Error) → Fails e → out_new ≡ out_old → status ≡ status_of (Err e) → (Plain → IfSome (lines_of (Err e)) (Appends err_old err_new))
    → IsRun (GoesOn empty free (world out_old file) (world out_new file) Steps Fails Rest) Plain err_old err_new status
step_failed empty free e fails same status_is lines =
    record { part = []; done = Err e; ends = inr (fails, refl, same, λ name. refl); status_is = status_is; lines = lines }
