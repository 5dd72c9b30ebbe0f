use Rattle.oim_dims.proofs.Shared.{◌≡◌, List, ℕ, sym, subst, ◌∙◌, rules, IfOk-weaker, DenotesUnit, measure_text, unit_text}
use Rattle.std.specs.String.{string_bytes}
use Rattle.oim_dims.proofs.UnitText.{bindings_spell, unit_back}
use Rattle.oim_dims.proofs.unit_text.write_unit.Goals as goal

pub returns-clause-reads_back : goal.returns-clause-reads_back
returns-clause-reads_back c =
    let written : string_bytes c.spell_unit.new.text ≡ unit_text (measure_text c.args.aliases.now) c.args.unit.now = search rules in
    let unit = c.known-2.ensures in
    let spells = bindings_spell c.args.aliases.now c.args.unit.now c.known.ensures unit c.requires in
    let P : List ℕ → Type 0 = λ t. DenotesUnit c.args.aliases.now t c.args.unit.now in
    IfOk-weaker c.from_string.result _ P (λ t e. subst P (sym (e ∙ written)) (unit_back c.args.aliases.now (measure_text c.args.aliases.now) c.args.unit.now unit spells)) c.from_string.ensures
