-- How the end of a part becomes the end of the whole.
use Rattle.std.proofs.Common.{◌≡◌, ◌∙◌, ℕ, List, [], ◌++◌, Option, Result, Ok, Err, refl, sym, ap, subst, inl, inr, append_assoc, append-nil}
use Rattle.std.specs.Prelude.{IsErrAnd}
use Rattle.std.specs.Io.KnownBytes.{Appends}
use Rattle.std.proofs.KnownBytes.{Appends-nil, Appends-trans}
use Rattle.oim_write.specs.Sink.{AppendsFront}
use Rattle.command_line.specs.Endings.{Begins, Ends, IsCut, Prints, Puts}
use Rattle.command_line.specs.Faults.{IsOutputError}
use Rattle.command_line.specs.declared.error.Error.{Error}

-- what holds of the error that a call returned holds of the result
pub of_error : {T E : Type 0} (P : Result T E → Type 0) (r : Result T E) (e : E) → IsErrAnd r (λ x. x ≡ e) → P (Err e) → P r
of_error P (Ok x) e is p = absurd is
of_error P (Err x) e is p = subst (λ y. P (Err y)) (sym is) p

module _ (Begun : Error → List ℕ → Type 0) (e : Error) where
  -- a text that was begun begins
  pub begins : (text : List ℕ) → Begun e text → Begins Begun e text
  begins text begun = (text, [], begun, sym (append-nil text))

  -- a shorter part begins too
  pub shorter : (part rest text : List ℕ) → text ≡ part ++ rest → Begins Begun e text → Begins Begun e part
  shorter part rest text is (longer, more, begun, whole) = (longer, rest ++ more, begun, whole ∙ ap (λ t. t ++ more) is ∙ append_assoc part rest more)

-- nothing was printed before the error
pub unprinted : {T : Type 0} {Gives : List ℕ → T → Type 0} {Why : Error → Type 0} {Begun : Error → List ℕ → Type 0} {old new : Option (List ℕ)} → (e : Error) → Why e → Appends old new [] → Prints (Ends Gives Why Begun) old new (Err e)
unprinted e why none = record { part = []; ends = (why, inl refl); appended = none }

-- nothing was printed before a call failed
pub failed_first : {T : Type 0} {Gives : List ℕ → T → Type 0} {Why : Error → Type 0} {Begun : Error → List ℕ → Type 0} {old : Option (List ℕ)} → (done : Result T Error) (e : Error) → IsErrAnd done (λ x. x ≡ e) → Why e → Prints (Ends Gives Why Begun) old old done
failed_first {Gives} {Why} {Begun} {old} done e was why = of_error (Prints (Ends Gives Why Begun) old old) done e was (unprinted e why (Appends-nil old))

-- a first part of a text was printed
pub cut_at : {T : Type 0} (Gives : List ℕ → T → Type 0) (Why : Error → Type 0) (old new : Option (List ℕ)) (e : Error) → Why e → IsOutputError e → (text : List ℕ) (result : T) → Gives text result → (n : ℕ) → AppendsFront old new text n → Prints (Puts Gives Why) old new (Err e)
cut_at Gives Why old new e why is text result gives n front = record { part = front.front; ends = (why, inr (text, front.rest, (is, result, gives), front.whole)); appended = front.appended }

-- a part that stopped, and the whole that stopped with it
module _ {T U : Type 0} (Gives : List ℕ → T → Type 0) (Why : Error → Type 0) (Begun : Error → List ℕ → Type 0) (Whole : List ℕ → U → Type 0) (Because : Error → Type 0) (Begin : Error → List ℕ → Type 0)
    (e : Error) (because : Why e → Because e) where
  -- nothing precedes the part
  pub stops_first : ((text : List ℕ) → Begun e text → Begins Begin e text) → (old new : Option (List ℕ)) → Prints (Ends Gives Why Begun) old new (Err e) → Prints (Ends Whole Because Begin) old new (Err e)
  stops_first begin old new p = record { part = p.part; ends = more p.ends; appended = p.appended }
    where
      more : Ends Gives Why Begun p.part (Err e) → Ends Whole Because Begin p.part (Err e)
      more (why, inl none) = (because why, inl none)
      more (why, inr (text, rest, begun, whole)) = (because why, inr (shorter Begin e p.part rest text whole (begin text begun)))

  -- this text precedes it
  pub stops_behind : (before : List ℕ) → (Why e → Begins Begin e before) → ((text : List ℕ) → Begun e text → Begins Begin e (before ++ text)) → (old mid new : Option (List ℕ)) → Appends old mid before
      → Prints (Ends Gives Why Begun) mid new (Err e) → Prints (Ends Whole Because Begin) old new (Err e)
  stops_behind before start begin old mid new first p = record { part = before ++ p.part; ends = more p.ends; appended = Appends-trans old mid new before p.part first p.appended }
    where
      more : Ends Gives Why Begun p.part (Err e) → Ends Whole Because Begin (before ++ p.part) (Err e)
      more (why, inl none) = (because why, inr (subst (Begins Begin e) (sym (ap (λ t. before ++ t) none ∙ append-nil before)) (start why)))
      more (why, inr (text, rest, begun, whole)) =
          (because why, inr (shorter Begin e (before ++ p.part) rest (before ++ text) (ap (λ t. before ++ t) whole ∙ sym (append_assoc before p.part rest)) (begin text begun)))

-- the same for a result that stays
module _ {T : Type 0} (Gives Whole : List ℕ → T → Type 0) (Why Because : Error → Type 0) (whole : (text : List ℕ) (result : T) → Gives text result → Whole text result) (because : (e : Error) → Why e → Because e) where
  pub puts_more : (old new : Option (List ℕ)) (done : Result T Error) → Prints (Puts Gives Why) old new done → Prints (Puts Whole Because) old new done
  puts_more old new (Ok result) p = record { part = p.part; ends = whole p.part result p.ends; appended = p.appended }
  puts_more old new (Err e) p =
      stops_first Gives Why (IsCut Gives) Whole Because (IsCut Whole) e (because e) (λ text cut. begins (IsCut Whole) e text (cut.0, cut.1, whole text cut.1 cut.2)) old new p
