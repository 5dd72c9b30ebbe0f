use Rattle.oim_report.proofs.Shared.{◌≡◌, ℕ, List, Option, Some, None, true, option_map, is_some, sym, ap, ◌∙◌, arith, Num, number, number_of, number_view}
use Rattle.serde_json.specs.declared.number.Number.{Number}
use Rattle.oim_report.proofs.json_values.skipped.skip_number.Goals as goal

read_as : (o : Option Number) (s : List ℕ) → option_map number_view o ≡ number_of s → is_some o ≡ true → (x : Num) × (number_of s ≡ Some x)
read_as None s e some = absurd (Prim.cc)
read_as (Some n) s e some = (number_view n, sym e)

pub returns-then-is_some : goal.returns-then-is_some
returns-then-is_some c =
    let read = read_as c.read_number.result c.args.digits.now c.read_number.ensures (sym c.is_some.ensures ∙ c.if-is_some.true) in
    record { found = number read.0; reads = ap (option_map number) read.1; flat = omega arith }
