use Rattle.oim_report.proofs.Shared.{◌≡◌, ℕ, ℤ, List, Option, Some, None, IfSome, sym, Num, as_integer, number_of, number_view}
use Rattle.oim_report.proofs.json_values.json_member.whole_number.Goals as goal

whole_of : (r : Option ℤ) (x : Num) (s : List ℕ) → r ≡ as_integer x → Some x ≡ number_of s → IfSome r (λ n. (found : Num) × (number_of s ≡ Some found) × (as_integer found ≡ Some n))
whole_of None x s e f = tt
whole_of (Some n) x s e f = (x, sym f, sym e)

pub returns : goal.returns
returns c = whole_of c.as_i128.result (number_view c.in_ok-number.number) c.args.digits.now c.as_i128.ensures c.in_ok-number.ensures
