use Rattle.oim_dims.proofs.Shared.{◌≡◌, true, false, refl, sym, ap, ◌∙◌, rises, repeats}
use Rattle.oim_dims.proofs.Rising.{once_where_it_rises, repeated_where_it_does_not}
use Rattle.oim_dims.proofs.dimensions.Dimensions.set_members.Goals as goal

pub returns-then-not-do_names_rise-clause-refused : goal.returns-then-not-do_names_rise-clause-refused
returns-then-not-do_names_rise-clause-refused c =
    let rises_not : rises c.sort_unstable.new.self.items ≡ false = ap rises (sym c.as_slice.ensures.value) ∙ sym c.do_names_rise.ensures ∙ c.if-not-do_names_rise.true in
    let repeated = repeated_where_it_does_not c.args.members.items c.sort_unstable.new.self.items c.sort_unstable.ensures.permutation c.sort_unstable.ensures.sorted rises_not in
    (λ e. repeated, λ t. refl)

pub returns-clause-refused : goal.returns-clause-refused
returns-clause-refused c =
    let up : rises c.sort_unstable.new.self.items ≡ true = ap rises (sym c.as_slice.ensures.value) ∙ sym c.do_names_rise.ensures ∙ c.if-not-do_names_rise.false in
    let once : repeats c.args.members.items ≡ false = once_where_it_rises c.args.members.items c.sort_unstable.new.self.items c.sort_unstable.ensures.permutation up in
    (λ e. cc, λ t. cc (rw t at once))
