-- If the URIs of all bindings are namespaces and `fact_outcome` returns a fact, the object denotes this fact, and the fact
-- fits the sheet.
use Rattle.oim_report.proofs.Shared.{◌≡◌, ℕ, ◌+◌, List, [], ◌∷◌, each_of, Some, Result, Ok, Err, refl, sym, ap, subst, ◌∙◌, arith, All, option_and_then, AllZip, All-cons, Binding, Reason, IsDimensionSet, Fact, Data, Members, Refusal, ObjectSays, SaysFact, SaysValue, FactFits, values, all_or_first, fact_outcome, facts_said, DimensionMembers, FactMembers, map_ok, Sheet}
use Rattle.std.specs.FinMap as map
use Rattle.oim_report.proofs.Accepted.{IsSaid, accepted}
use Rattle.oim_report.proofs.Fitting.{AreNamespaces, AreCleanDimensions, AreClean, are_clean, concept_fits, said_entity_fits, said_language_fits, said_period_is, value_fits, concept_says, entity_says, language_says, period_says, value_says}
use Rattle.oim_report.proofs.MembersSay.{members_fit, members_rise, members_say}
use Rattle.oim_report.proofs.UnitSays.{unit_fits, unit_is_one, unit_says}

module _ (sheet : Sheet) (bs : List Binding) (are : AreNamespaces bs) (p : FactMembers) (ds : DimensionMembers) (f : Fact) (clean : AreClean p) (there : p.dimensions ≡ Some ds) (is : IsSaid sheet bs p ds f) where
  listed : map.get sheet.concepts f.dimensions.concept ≡ Some is.kind
  listed = sym (ap (option_and_then (map.get sheet.concepts)) is.each.concept) ∙ is.listed

  clean_dimensions : AreCleanDimensions ds
  clean_dimensions = clean.dimensions ds there

  is_set : IsDimensionSet f.dimensions
  is_set = record {
    members = members_rise sheet bs ds.defined f.dimensions.members is.each.members;
    unit = unit_is_one bs is.kind ds.unit f.dimensions.unit are clean_dimensions.unit is.each.unit;
    period = (said_period_is ds.period f.dimensions.period is.each.period).moments;
  }

  value_is : SaysValue bs is.kind p.value p.decimals f.value
  value_is = value_says bs is.kind p.value p.decimals f.value is.value

  accepted_says : SaysFact sheet bs p f
  accepted_says = record {
    parts = ds;
    there = there;
    dimensions = record {
      concept = concept_says bs ds.concept f.dimensions.concept is.each.concept;
      entity = entity_says bs ds.entity f.dimensions.entity is.each.entity;
      period = period_says ds.period f.dimensions.period is.each.period;
      unit = unit_says bs is.kind ds.unit f.dimensions.unit is.each.unit;
      language = language_says is.kind ds.language f.dimensions.language is.each.language;
      members = members_say sheet bs ds.defined f.dimensions.members is.each.members;
      set = is_set;
    };
    kind = is.kind;
    listed = listed;
    value = value_is;
  }

  accepted_fits : FactFits sheet f
  accepted_fits = record {
    set = is_set;
    concept = concept_fits bs ds.concept f.dimensions.concept are clean_dimensions.concept is.each.concept;
    kind = is.kind;
    listed = listed;
    entity = said_entity_fits bs ds.entity f.dimensions.entity are clean_dimensions.entity is.each.entity;
    period = (said_period_is ds.period f.dimensions.period is.each.period).forward;
    unit = unit_fits bs is.kind ds.unit f.dimensions.unit are clean_dimensions.unit is.each.unit;
    language = said_language_fits is.kind ds.language f.dimensions.language is.each.language;
    members = members_fit sheet bs ds.defined f.dimensions.members are clean_dimensions.defined is.each.members;
    value = value_fits bs is.kind p.value p.decimals f.value are clean.value value_is;
  }

pub fact_said : (sheet : Sheet) (bs : List Binding) (d : Data) (f : Fact) → AreNamespaces bs → fact_outcome sheet bs d ≡ Ok f → ObjectSays sheet bs d f
fact_said sheet bs d f are e =
    let has = accepted sheet bs d f e in
    record { parts = has.parts; are = has.are; says = accepted_says sheet bs are has.parts has.dimensions f (are_clean d has.parts has.are) has.there has.said }

pub fact_fits : (sheet : Sheet) (bs : List Binding) (d : Data) (f : Fact) → AreNamespaces bs → fact_outcome sheet bs d ≡ Ok f → FactFits sheet f
fact_fits sheet bs d f are e =
    let has = accepted sheet bs d f e in
    accepted_fits sheet bs are has.parts has.dimensions f (are_clean d has.parts has.are) has.there has.said

pub ok_of : {A B : Type 0} (g : A → B) (r : Result A Refusal) (b : B) → map_ok g r ≡ Ok b → (a : A) × (r ≡ Ok a) × (g a ≡ b)
ok_of g (Ok a) b e = (a, refl, cc)
ok_of g (Err q) b e = absurd (cc)

pub next : (n : ℕ) (o : Result Fact Reason) (os : List (Result Fact Reason)) (fs : List Fact) → all_or_first n (o ∷ os) ≡ Ok fs → (f : Fact) × (gs : List Fact) × (o ≡ Ok f) × (all_or_first (n + 1) os ≡ Ok gs) × (f ∷ gs ≡ fs)
next n (Ok f) os fs e = let a = ok_of (λ gs. f ∷ gs) (all_or_first (n + 1) os) fs e in (f, a.0, refl, a.1, a.2)
next n (Err r) os fs e = absurd (cc)

all_said : (sheet : Sheet) (bs : List Binding) (n : ℕ) (ds : List Data) (fs : List Fact) → AreNamespaces bs → all_or_first n (each_of (fact_outcome sheet bs) ds) ≡ Ok fs → AllZip (ObjectSays sheet bs) ds fs
all_said sheet bs n [] fs are e = let same : [] ≡ fs = cc in subst (AllZip (ObjectSays sheet bs) []) same tt
all_said sheet bs n (d ∷ ds) fs are e =
    let a = next n (fact_outcome sheet bs d) (each_of (fact_outcome sheet bs) ds) fs e in
    subst (AllZip (ObjectSays sheet bs) (d ∷ ds)) a.4 (fact_said sheet bs d a.0 are a.2, all_said sheet bs (n + 1) ds a.1 are a.3)

all_fit : (sheet : Sheet) (bs : List Binding) (n : ℕ) (ds : List Data) (fs : List Fact) → AreNamespaces bs → all_or_first n (each_of (fact_outcome sheet bs) ds) ≡ Ok fs → All (FactFits sheet) fs
all_fit sheet bs n [] fs are e = let same : [] ≡ fs = cc in subst (All (FactFits sheet)) same (λ k d lt. absurd (omega (arith, lt)))
all_fit sheet bs n (d ∷ ds) fs are e =
    let a = next n (fact_outcome sheet bs d) (each_of (fact_outcome sheet bs) ds) fs e in
    subst (All (FactFits sheet)) a.4 (All-cons (FactFits sheet) a.0 a.1 (fact_fits sheet bs d a.0 are a.2) (all_fit sheet bs (n + 1) ds a.1 are a.3))

pub facts_are_said : (sheet : Sheet) (bs : List Binding) (objects : Members) (fs : List Fact) → AreNamespaces bs → facts_said sheet bs objects ≡ Ok fs → AllZip (ObjectSays sheet bs) (values objects) fs
facts_are_said sheet bs objects fs are e = all_said sheet bs 1 (values objects) fs are e

pub facts_fit : (sheet : Sheet) (bs : List Binding) (objects : Members) (fs : List Fact) → AreNamespaces bs → facts_said sheet bs objects ≡ Ok fs → All (FactFits sheet) fs
facts_fit sheet bs objects fs are e = all_fit sheet bs 1 (values objects) fs are e
