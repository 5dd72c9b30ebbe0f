use Rattle.oim_write.proofs.Shared.{[], sym, ap, subst, ◌∙◌, length, arith, Contains, flat_map, text_cmp, IsSet, HoldForUris, rows_left, Gains, row_names}
use Rattle.oim_write.proofs.UriSets.{uris_gained, gains_both, gains_none}
use Rattle.oim_write.proofs.prefix_table.PrefixTable.of.Goals as goal

pub loop-row-init : goal.loop-row-init
loop-row-init c = record {
  rest = λ new gained.
      subst (λ rs. Gains [] (flat_map row_names rs) new) c.rows-rows.ensures
      (subst (λ us. Gains us (flat_map row_names (rows_left c.rows-rows.result)) new) c.new-set.ensures gained);
  known = λ k d within. absurd (omega (arith, within));
}

pub add_row-requires : goal.add_row-requires
add_row-requires c = subst (HoldForUris (Contains c.loop-row.set) c.loop-row.known) c.in-Some.ensures.steps c.loop-row.invariant.known

pub loop-row-preserved : goal.loop-row-preserved
loop-row-preserved c = record {
  rest = λ new gained.
      c.loop-row.invariant.rest new (subst (λ rs. Gains c.loop-row.set (flat_map row_names rs) new) (sym c.in-Some.ensures.steps) (gains_both c.in_ok-known.ensures.gains gained));
  known = c.in_ok-known.ensures.known;
}

pub loop-row-smaller : goal.loop-row-smaller
loop-row-smaller c = omega (arith, ap length c.in-Some.ensures.steps)

pub returns : goal.returns
returns c =
    let set = c.loop-row.set in
    let all = c.loop-row.invariant.rest set (subst (λ rs. Gains set (flat_map row_names rs) set) (sym c.in_default.ensures.steps.0) (gains_none set)) in
    c.into_uris-uris.ensures.uris ∙ uris_gained c.args.base.now.body.facts set (subst (IsSet text_cmp) c.into_uris-uris.ensures.uris c.into_uris-uris.ensures.rises) all
