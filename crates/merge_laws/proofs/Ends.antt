-- The contents of a summary.
use Rattle.merge_laws.proofs.Shared.{◌≡◌, ℕ, zero, suc, ◌<◌, Bool, true, false, List, [], ◌∷◌, length, get_or, Option, Some, None, refl, sym, ap, subst, ◌∙◌, arith, ◌||◌, true≢false, Contains, IfSome, is_some, list_any, common_part, interval, Value, ends_of_one, ends_of_more, summary_of_all, SummaryTellsAll, either_or_both}
use Rattle.oim_value.specs.declared.interval.Interval.{Interval}
use Rattle.oim_value.specs.declared.value.Value.TheVariants.{Nil, Number}
use Rattle.oim_value.specs.Ends.{AreEnds, intervals_of, has_interval}

-- the recorded ends are the ends of the intervals; if no ends are recorded, there is no interval
abbrev Kept : Option Interval → List Interval → Type 0
Kept None is = is ≡ []
Kept (Some e) is = AreEnds e is

kept_more : (i : Interval) (a : Option Interval) (is : List Interval) → Kept a is → Kept (either_or_both common_part (Some i) a) (i ∷ is)
kept_more i None is none = subst (λ js. AreEnds i (i ∷ js)) (sym none) (ends_of_one i)
kept_more i (Some e) is ends = ends_of_more i e is ends

keeps_ends : (vs : List Value) → Kept (summary_of_all vs).ends (intervals_of vs)
keeps_ends [] = refl
keeps_ends (Number m d ∷ vs) = kept_more (interval m d) (summary_of_all vs).ends (intervals_of vs) (keeps_ends vs)
keeps_ends (v ∷ vs) = keeps_ends vs

ends_told : (a : Option Interval) (is : List Interval) → Kept a is → IfSome a (λ e. AreEnds e is)
ends_told None is k = tt
ends_told (Some e) is k = k

number_seen : (vs : List Value) → is_some (summary_of_all vs).ends ≡ list_any has_interval vs
number_seen [] = refl
number_seen (Number m d ∷ vs) = elim (summary_of_all vs).ends as (λ a. is_some (either_or_both common_part (Some (interval m d)) a) ≡ true) [ None ↦ refl | Some e ↦ refl ]
number_seen (v ∷ vs) = number_seen vs

abbrev is_nil : Value → Bool
is_nil Nil = true
is_nil other = false

nil_seen : (vs : List Value) → (summary_of_all vs).nil ≡ list_any is_nil vs
nil_seen [] = refl
nil_seen (Nil ∷ vs) = refl
nil_seen (v ∷ vs) = nil_seen vs

nil_there : (vs : List Value) → list_any is_nil vs ≡ true → Contains vs Nil
nil_there [] h = absurd (true≢false (sym h))
nil_there (Nil ∷ vs) h = (zero, omega arith, refl)
nil_there (v ∷ vs) h = let a = nil_there vs h in (suc a.0, omega (arith, a.1), a.2)

nil_found : (vs : List Value) (k : ℕ) → k < length vs → get_or vs k Nil ≡ Nil → list_any is_nil vs ≡ true
nil_found [] k lt is = absurd (omega (arith, lt))
nil_found (v ∷ vs) zero lt is = ap (λ w. is_nil w || list_any is_nil vs) is
nil_found (v ∷ vs) (suc k) lt is = elim (is_nil v) as (λ b. (b || list_any is_nil vs) ≡ true) [ true ↦ refl | false ↦ nil_found vs k (omega (arith, lt)) is ]

pub summary_tells_all : SummaryTellsAll
summary_tells_all vs = record {
  nil = (λ h. nil_there vs (sym (nil_seen vs) ∙ h), λ one. nil_seen vs ∙ nil_found vs one.0 one.1 one.2);
  number = number_seen vs;
  ends = ends_told (summary_of_all vs).ends (intervals_of vs) (keeps_ends vs);
}
