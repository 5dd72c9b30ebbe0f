-- A look-up or a test in an absent object gives the same result as in an object without members.
use Rattle.oim_report.proofs.Shared.{◌≡◌, ℕ, List, Bool, refl, Option, Some, None, option_and_then, Data, Members, null, boolean, number, string, array, object, as_object, get, get_member, any_in, any_member, members}

pub member_within : (key : List ℕ) (o : Option Data) → option_and_then (get key) o ≡ get_member key (members (option_and_then as_object o))
member_within key None = refl
member_within key (Some null) = refl
member_within key (Some (boolean b)) = refl
member_within key (Some (number n)) = refl
member_within key (Some (string s)) = refl
member_within key (Some (array ds)) = refl
member_within key (Some (object ms)) = refl

pub any_members : (test : List ℕ → Data → Bool) (o : Option Members) → any_in test o ≡ any_member test (members o)
any_members test None = refl
any_members test (Some ms) = refl
