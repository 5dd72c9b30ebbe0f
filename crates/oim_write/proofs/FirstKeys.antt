-- The second key of `documentInfo` is `namespaces` in the earlier form and `features` in the canonical form.
use Rattle.oim_write.proofs.Shared.{◌≡◌, ℕ, get_or, refl, Body}
use Rattle.json.specs.Print.{escape_byte}
use Rattle.oim_write.specs.Bytes.{canonical, earlier}

-- the index, in the text of a body, of the first letter of the second key
abbrev pub behind_type : ℕ
behind_type = 67

pub earlier_letter : (b : Body) → get_or (earlier b) behind_type 0 ≡ 110
unfolding earlier escape_byte
earlier_letter b = refl

pub present_letter : (c : Body) → get_or (canonical c) behind_type 0 ≡ 102
unfolding canonical escape_byte
present_letter c = refl
