use Rattle.std.proofs.Common.{◌≡◌, ℕ, List, [], Some, Ok, refl, subst}
use Rattle.std.specs.Prelude.{codes, string_bytes}
use Rattle.oim_report.specs.Sheet.{Sheet, sheet_outcome}
use Rattle.oim_explain.specs.Explained.{Explains, printed_faults}
use Rattle.oim_explain.specs.declared.lines.Explained.{Explained}
use Rattle.oim_explain.specs.declared.lines.Input.{Input}
use Rattle.xbrlmerge_c.specs.Explained.{IsExplained}
use Rattle.xbrlmerge_c.proofs.explain.explained.Goals as goal

is_explained : (sheet report : List ℕ) (listed of_names : Sheet) (input : Input) (explained : Explained) → sheet_outcome sheet ≡ Ok listed → of_names ≡ listed →
    input.report ≡ Some 1 → input.name.now ≡ codes "report" →
    Explains input report (printed_faults of_names report) explained → IsExplained input.format sheet report (string_bytes explained.text) []
is_explained sheet report listed of_names input explained read same number name explains = record {
  listed = listed;
  read = read;
  input = input;
  number = number;
  name = name;
  format_is = refl;
  explained = explained;
  explains = subst (λ s. Explains input report (printed_faults s report) explained) same explains;
  text_is = refl;
  none = refl;
}

pub returns-clause-ok : goal.returns-clause-ok
returns-clause-ok c =
    is_explained c.args.sheet.now c.args.report.now c.in_ok-listed.listed c.in_ok-names.names.sheet.now _ c.in_ok-explain.field-0 c.in_ok-listed.ensures.ok c.in_ok-names.ensures refl refl c.in_ok-explain.ensures
