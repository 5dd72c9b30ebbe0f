-- The sheet and the prefixes under which the texts of a fact are read (own).
use Rattle.std.specs.Prelude.{ℕ, List, refl}
use Rattle.std.specs.Coded.{Coded, code_by, coded×, coded_ℕ, coded_list}
use Rattle.oim_names.specs.Bindings.{Binding}
use Rattle.oim_report.specs.code.SheetCode.{sheet_code}
use Rattle.oim_report.specs.Sheet.{Sheet}

pub record Scope : Type 0 where
  pub sheet : Sheet
  pub aliases : List Binding

abbrev binding_code : Coded Binding
binding_code = code_by (List ℕ × List ℕ) (coded× (coded_list coded_ℕ) (coded_list coded_ℕ)) (λ b. (b.prefix, b.uri)) (λ p. record { prefix = p.0; uri = p.1 }) (λ _. refl)

abbrev pub scope_code : Coded Scope
scope_code = code_by (Sheet × List Binding) (coded× sheet_code (coded_list binding_code)) (λ s. (s.sheet, s.aliases)) (λ p. record { sheet = p.0; aliases = p.1 }) (λ _. refl)
