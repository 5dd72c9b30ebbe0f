use Rattle.oim_dims.proofs.Shared.{◌≡◌, pos, FitsSigned, w64, arith, to_z-of_z, signed_arith, epoch_day}
use Rattle.jiff.proofs.SpanFacts.{date_add-days, can_add-days}
use Rattle.oim_dims.proofs.Calendar.{epoch_is_zero, text_of_date}
use Rattle.oim_dims.proofs.moment.date_of.Goals as goal

pub unwrap-requires : goal.unwrap-requires
unwrap-requires c =
    let fits : FitsSigned w64 c.args.day = c.ranges.day in
    let only = simp to_z-of_z at c.days.ensures in
    let zero : epoch_day c.date.result ≡ pos 0 = epoch_is_zero c.date.result c.date.ensures in
    let can = can_add-days c.date.result c.args.day c.days.result only in
    c.checked_add.ensures.succeeds.1 (can.1 (omega (arith, signed_arith, zero, c.requires.0), omega (arith, signed_arith, zero, c.requires.1)))

pub returns : goal.returns
returns c =
    let fits : FitsSigned w64 c.args.day = c.ranges.day in
    let only = simp to_z-of_z at c.days.ensures in
    let zero : epoch_day c.date.result ≡ pos 0 = epoch_is_zero c.date.result c.date.ensures in
    let sum = date_add-days c.date.result c.args.day c.days.result only in
    let value = c.checked_add.ensures.value in
    let was = c.unwrap.ensures in
    let there = rw was at value in
    text_of_date c.unwrap.result c.args.day (omega (arith, signed_arith, there, sum, zero)) c.requires.0
