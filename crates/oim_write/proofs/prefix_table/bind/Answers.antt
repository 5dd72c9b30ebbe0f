use Rattle.oim_write.proofs.Shared.{◌≡◌, ◌≢◌, ⊎_elim, Err, true, false, rules, sym, ap, ◌∙◌, is_refused_binding, prefix}
use Rattle.oim_names.specs.declared.reason.Reason.TheVariants.{OutOfMemory}
use Rattle.oim_write.proofs.prefix_table.bind.Goals as goal

pub unreachable-requires : goal.unreachable-requires
unreachable-requires c =
    let other : c.in-Err.field-0 ≢ OutOfMemory = search rules in
    let spelled : c.deref.result.now ≡ prefix c.args.table.now c.args.uri.now = search rules in
    ⊎_elim
    (λ refused.
    let no : true ≡ false = sym (c.in-Err.ensures.refused.0 (ap Err refused)) ∙ ap (λ p. is_refused_binding c.args.aliases.now p c.args.uri.now) spelled ∙ c.requires in
    absurd (cc))
    other
    c.in-Err.ensures.errors
