use Rattle.fact_base.proofs.Shared.{◌≡◌, suc, length, sym, ap, ◌∙◌, ◌<◌, ◌++◌, ◌∷◌, [], arith, is_eq, get_or_default, on_ok_weaker, dimensions_cmp, equal_dimensions, equal_dimensions_tie, Entry}
use Rattle.fact_base.proofs.Stored.{AllBelow, all_below, none_below, put_behind, put_last}
use Rattle.fact_base.proofs.entries.push_given.Goals as goal
use Rattle.fact_base.proofs.entries.push_given.Goals.{in_default-via-in-Some+else-eq, in_default-via-in_default}

pub returns-in-Some : goal.returns-in-Some
returns-in-Some c =
    let x : Entry = c.index_mut.result.now in
    let y : Entry = c.index.result.now in
    let count : suc c.in-Some.last ≡ length c.args.entries.now.items = omega (arith, (c.in-Some.ensures).0, (c.in-Some.ensures).1, c.len.ensures) in
    let within : c.in-Some.last < length c.args.entries.now.items = omega (arith, count) in
    let one : x ≡ y = c.index_mut.ensures.value ∙ get_or_default c.args.entries.now.items c.in-Some.last x y within ∙ sym c.index.ensures in
    let same : x.0 ≡ c.args.fact.dimensions = ap (λ (e : Entry). e.0) one ∙ equal_dimensions y.0 c.args.fact.dimensions (sym c.eq.ensures ∙ c.if-eq.true) in
    on_ok_weaker c.add.result (put_last c.args.entries.now.items c.args.fact c.in-Some.last x c.add.new.kept c.requires.rise count c.index_mut.ensures.value same) c.add.ensures

pub returns-in_ok-push-in_default : goal.returns-in_ok-push-in_default
returns-in_ok-push-in_default c =
    let es = c.args.entries.now.items in
    let s = c.args.fact.dimensions in
    let below : AllBelow s es = elim c.in_default.branch [
      | in_default-via-in-Some+else-eq w ↦
          let y : Entry = w.index.result.now in
          let count : suc w.in-Some.last ≡ length es = omega (arith, (w.in-Some.ensures).0, (w.in-Some.ensures).1, c.len.ensures) in
          let other : is_eq (dimensions_cmp y.0 s) ≡ _ = sym (equal_dimensions_tie y.0 s) ∙ sym w.eq.ensures ∙ w.if-eq.false in
          all_below es s w.in-Some.last y c.requires.rise c.requires.below count w.index.ensures other
      | in_default-via-in_default w ↦ let none = w.in_default.ensures in none_below es s (omega (arith, none, c.len.ensures))
    ] in
    c.in_ok-push-in_default.ensures.items ∙ (λ i. es ++ (s, (c.of_one.ensures i, c.of-summary.ensures i)) ∷ []) ∙ put_behind es c.args.fact below
