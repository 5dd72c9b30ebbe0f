-- The caller's memory after a call, by status.
use Rattle.std.proofs.Common.{◌≡◌, ◌≤◌, ◌<◌, ◌⊎◌, inl, inr, ℕ, List, [], Result, Ok, Err, refl, arith}
use Rattle.std.specs.Prelude.{IfOk, IfErr}
use Rattle.oim_names.specs.declared.reason.Reason.{Reason}
use Rattle.oim_report.specs.declared.refusal.Refusal.{Refusal}
use Rattle.oim_merge.specs.declared.fault.Fault.{Fault}
use Rattle.oim_merge.specs.declared.fault.Fault.TheVariants.{OutOfMemory, Device, TooLoose, Sheet as SheetFault}
use Rattle.xbrlmerge_c.specs.Answers.{NoRow, StopsBy}
use Rattle.xbrlmerge_c.specs.code.Answers.{Answers}
use Rattle.xbrlmerge_c.specs.CallerMemory.{Asks, CallerMemory, Hands, HasNoText, Rejects, TellsFirst}
use Rattle.xbrlmerge_c.specs.Statuses.{done, no_memory, refused_some, sheet_refused, too_loose, too_short}
use Rattle.xbrlmerge_c.specs.declared.output.Made.{Made}

pub within : (made : Result Made Fault) (old new : CallerMemory) (status : ℕ) → Answers made old new status → status ≤ no_memory
within (Ok made) old new status s = grind arith
within (Err (TooLoose number returned)) old new status s = grind arith
within (Err (SheetFault reason)) old new status s = omega (arith, s.0)
within (Err (OutOfMemory written)) old new status s = omega (arith, s.0)
within (Err (Device written)) old new status s = omega (arith, s.0)

pub hands : (Says : List ℕ → List (ℕ × Refusal) → Type 0) (made : Result Made Fault) (old new : CallerMemory) (status : ℕ) →
    IfOk made (λ m. Says m.text.items m.refusals) → Answers made old new status → status ≤ refused_some → Hands Says old new
hands Says (Ok made) old new status says (inl s) low = absurd (omega (arith, s.0, low))
hands Says (Ok made) old new status says (inr (inl s)) low = record { text = made.text.items; returned = made.refusals; says = says; handed = s.1.1 }
hands Says (Ok made) old new status says (inr (inr s)) low = record { text = made.text.items; returned = made.refusals; says = says; handed = s.1.1 }
hands Says (Err (TooLoose number returned)) old new status says s low = grind arith
hands Says (Err (SheetFault reason)) old new status says s low = absurd (omega (arith, s.0, low))
hands Says (Err (OutOfMemory written)) old new status says s low = absurd (omega (arith, s.0, low))
hands Says (Err (Device written)) old new status says s low = absurd (omega (arith, s.0, low))

pub none_refused : (made : Result Made Fault) (old new : CallerMemory) (status : ℕ) → Answers made old new status → status ≡ done → new.refused ≡ 0
none_refused (Ok made) old new status s is = grind arith
none_refused (Err (TooLoose number returned)) old new status s is = grind arith
none_refused (Err (SheetFault reason)) old new status s is = absurd (omega (arith, s.0, is))
none_refused (Err (OutOfMemory written)) old new status s is = absurd (omega (arith, s.0, is))
none_refused (Err (Device written)) old new status s is = absurd (omega (arith, s.0, is))

pub some_refused : (made : Result Made Fault) (old new : CallerMemory) (status : ℕ) → Answers made old new status → status ≡ refused_some → 0 < new.refused
some_refused (Ok made) old new status s is = grind arith
some_refused (Err (TooLoose number returned)) old new status s is = grind arith
some_refused (Err (SheetFault reason)) old new status s is = absurd (omega (arith, s.0, is))
some_refused (Err (OutOfMemory written)) old new status s is = absurd (omega (arith, s.0, is))
some_refused (Err (Device written)) old new status s is = absurd (omega (arith, s.0, is))

pub kept : (made : Result Made Fault) (old new : CallerMemory) (status : ℕ) → Answers made old new status → no_memory ≤ status → new ≡ old
kept (Ok made) old new status s high = grind arith
kept (Err (TooLoose number returned)) old new status s high = grind arith
kept (Err (SheetFault reason)) old new status s high = absurd (omega (arith, s.0, high))
kept (Err (OutOfMemory written)) old new status s high = s.1
kept (Err (Device written)) old new status s high = s.1

module _ (IsRow : ℕ → List (ℕ × Refusal) → Type 0) (IsSheet : Reason → Type 0) where
  pub tells_first : (made : Result Made Fault) (old new : CallerMemory) (status : ℕ) →
      IfErr made (StopsBy IsRow IsSheet) → Answers made old new status → status ≡ too_loose → TellsFirst IsRow old new
  tells_first (Ok made) old new status stops s is = grind arith
  tells_first (Err (TooLoose number returned)) old new status stops (inl s) is = absurd (omega (arith, s.0, is))
  tells_first (Err (TooLoose number returned)) old new status stops (inr s) is = record { number = number; returned = returned; is = stops; row = s.1 }
  tells_first (Err (SheetFault reason)) old new status stops s is = absurd (omega (arith, s.0, is))
  tells_first (Err (OutOfMemory written)) old new status stops s is = absurd (omega (arith, s.0, is))
  tells_first (Err (Device written)) old new status stops s is = absurd (omega (arith, s.0, is))

  pub rejects : (made : Result Made Fault) (old new : CallerMemory) (status : ℕ) →
      IfErr made (StopsBy IsRow IsSheet) → Answers made old new status → status ≡ sheet_refused → Rejects IsSheet old new
  rejects (Ok made) old new status stops s is = grind arith
  rejects (Err (TooLoose number returned)) old new status stops s is = grind arith
  rejects (Err (SheetFault reason)) old new status stops s is = record { reason = reason; is = stops; tells = s.1 }
  rejects (Err (OutOfMemory written)) old new status stops s is = absurd (omega (arith, s.0, is))
  rejects (Err (Device written)) old new status stops s is = absurd (omega (arith, s.0, is))

  pub asks : (Says : List ℕ → List (ℕ × Refusal) → Type 0) (made : Result Made Fault) (old new : CallerMemory) (status : ℕ) →
      IfOk made (λ m. Says m.text.items m.refusals) → IfErr made (StopsBy IsRow IsSheet) → Answers made old new status → status ≡ too_short →
      Asks (λ text returned. Says text returned ⊎ HasNoText IsRow text returned) old new
  asks Says (Ok made) old new status says stops (inl s) is = record { text = made.text.items; returned = made.refusals; says = inl says; short = s.1 }
  asks Says (Ok made) old new status says stops (inr (inl s)) is = absurd (omega (arith, s.0, is))
  asks Says (Ok made) old new status says stops (inr (inr s)) is = absurd (omega (arith, s.0, is))
  asks Says (Err (TooLoose number returned)) old new status says stops (inl s) is =
      record { text = []; returned = returned; says = inr (record { number = number; is = stops; text_is = refl }); short = s.1 }
  asks Says (Err (TooLoose number returned)) old new status says stops (inr s) is = absurd (omega (arith, s.0, is))
  asks Says (Err (SheetFault reason)) old new status says stops s is = absurd (omega (arith, s.0, is))
  asks Says (Err (OutOfMemory written)) old new status says stops s is = absurd (omega (arith, s.0, is))
  asks Says (Err (Device written)) old new status says stops s is = absurd (omega (arith, s.0, is))

-- ---- calls without a level

pub never_loose : (IsSheet : Reason → Type 0) (made : Result Made Fault) (old new : CallerMemory) (status : ℕ) →
    IfErr made (StopsBy NoRow IsSheet) → Answers made old new status → status ≡ too_loose → ⊥
never_loose IsSheet made old new status stops s is = (tells_first NoRow IsSheet made old new status stops s is).is

text_alone : {A : Type 0} (returned : List (ℕ × Refusal)) (text : List ℕ) → A ⊎ HasNoText NoRow text returned → A
text_alone returned text (inl a) = a
text_alone returned text (inr h) = absurd h.is

pub asks_text : (IsSheet : Reason → Type 0) (Says : List ℕ → List (ℕ × Refusal) → Type 0) (made : Result Made Fault) (old new : CallerMemory) (status : ℕ) →
    IfOk made (λ m. Says m.text.items m.refusals) → IfErr made (StopsBy NoRow IsSheet) → Answers made old new status → status ≡ too_short → Asks Says old new
asks_text IsSheet Says made old new status says stops s is =
    let a = asks NoRow IsSheet Says made old new status says stops s is in
    record { text = a.text; returned = a.returned; says = text_alone a.returned a.text a.says; short = a.short }
