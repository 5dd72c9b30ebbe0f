use Rattle.oim_merge.proofs.Shared.{arith, sym, ◌∙◌, ParsesUnsigned, nat_tests}
use Rattle.oim_merge.proofs.EventTexts.{looks_like_number, parses_number}
use Rattle.oim_merge.proofs.event.read_number.Goals as goal
use Rattle.oim_merge.proofs.event.read_number.Goals.{then-is_empty-via-then-is_empty, then-is_empty-via-else-is_empty+then-text-eq43, then-is_empty-via-else-is_empty+else-text-eq43+then-text-eq48}

pub returns-then-is_empty : goal.returns-then-is_empty
returns-then-is_empty c = λ n is.
    let looks = looks_like_number c.args.text.now n is in
    elim c.then-is_empty.branch [
      | then-is_empty-via-then-is_empty w ↦ (let none = sym c.is_empty.ensures ∙ w.if-is_empty.true in grind (arith, nat_tests))
      | then-is_empty-via-else-is_empty+then-text-eq43 w ↦ omega arith
      | then-is_empty-via-else-is_empty+else-text-eq43+then-text-eq48 w ↦ omega arith
    ]

pub returns-in_default : goal.returns-in_default
returns-in_default c = λ n is. c.in_default.ensures.cases.0 (looks_like_number c.args.text.now n is).characters

pub returns : goal.returns
returns c =
    let text = c.args.text.now in
    let unsigned : ParsesUnsigned 32 10 text c.parse.result = rw c.in-Ok.ensures.cases.0 at c.parse.ensures.value.0 in
    let read = parses_number text c.parse.result unsigned c.if-text-eq43.false c.if-text-eq48.false in
    rw c.ok.ensures.value read
