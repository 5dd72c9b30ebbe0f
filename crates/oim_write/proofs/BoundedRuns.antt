-- A sink that is given bytes again and again stays within its bound.
use Rattle.oim_write.proofs.Shared.{◌≡◌, ℕ, ◌<◌, List, [], ◌∷◌, ◌++◌, take, append-nil, ⊎_elim, Option, Some, None, Result, Ok, Err, sym, subst, ◌∙◌, arith, Appends-nil, Appends-trans, cases_lt, length-take-le, length-append, Appends, Keeps}
use Rattle.oim_write.specs.BoundedSink.{Bounded, Puts, RunsStayBounded, StaysBounded, overruns}
use Rattle.oim_write.specs.declared.sink.SinkError.{SinkError}

kept_appends : (old new : Option (List ℕ)) → Keeps old new → Appends old new []
kept_appends None new keeps = tt
kept_appends (Some xs) None keeps = keeps
kept_appends (Some xs) (Some ys) keeps = keeps ∙ sym (append-nil xs)

counts_full : (old new : Bounded) (bytes : List ℕ) (result : Result ℕ SinkError) → Puts old new bytes result → old.overruns < new.overruns → old.left ≡ 0
counts_full old new bytes result puts more = grind arith

put_stays : (old new : Bounded) (bytes : List ℕ) (result : Result ℕ SinkError) → Puts old new bytes result → StaysBounded old new
put_stays old new bytes (Ok n) puts = record {
  taken = take n bytes;
  appended = puts.appended;
  within = omega (arith, puts.left, length-take-le n bytes puts.count);
  full = λ more. let none = counts_full old new bytes (Ok n) puts more in omega (arith, none, puts.left);
}
put_stays old new bytes (Err e) puts = record {
  taken = [];
  appended = kept_appends old.told new.told puts.appended;
  within = omega (arith, puts.kept);
  full = λ more. let none = counts_full old new bytes (Err e) puts more in omega (arith, none, puts.kept);
}

joined : (old mid new : Bounded) → StaysBounded old mid → StaysBounded mid new → StaysBounded old new
joined old mid new first second = record {
  taken = first.taken ++ second.taken;
  appended = Appends-trans old.told mid.told new.told first.taken second.taken first.appended second.appended;
  within = omega (arith, first.within, second.within, length-append first.taken second.taken);
  full = λ more. ⊎_elim (λ later. second.full later)
      (λ none. let full = first.full (omega (arith, more, none)) in omega (arith, full, second.within)) (cases_lt mid.overruns new.overruns);
}

pub runs_stay_bounded : RunsStayBounded
runs_stay_bounded old new [] runs = subst (StaysBounded old) runs (record {
  taken = [];
  appended = Appends-nil old.told;
  within = omega arith;
  full = λ more. absurd (omega (arith, more));
})
runs_stay_bounded old new (call ∷ calls) runs =
    joined old call.after new (put_stays old call.after call.bytes call.result runs.0) (runs_stay_bounded call.after new calls runs.1)
