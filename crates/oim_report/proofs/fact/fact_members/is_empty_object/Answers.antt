use Rattle.std.proofs.Common.{◌≡◌, Option, Some, None, MatchOption, option_map, false, rules, ap, ◌∙◌, is_some}
use Rattle.json.specs.Json.{object}
use Rattle.oim_report.proofs.fact.fact_members.is_empty_object.Goals as goal

where_none : {A B : Type 0} (f : A → B) (r : Option A) (P : Type 0) (Q : B → Type 0) → is_some r ≡ false → MatchOption (option_map f r) P Q → P
where_none f None P Q e h = h
where_none f (Some x) P Q e h = absurd (Prim.cc)

pub returns-in-Some : goal.returns-in-Some
returns-in-Some c = λ v begins none.
    let m = c.in-Some.ensures v begins in
    let last : is_some c.next.result ≡ false = search rules in
    m.1 ∙ ap object (where_none _ c.next.result _ _ last (c.next.ensures.value m.0 m.2))
