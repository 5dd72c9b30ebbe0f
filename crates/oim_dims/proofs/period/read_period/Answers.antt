use Rattle.oim_dims.proofs.Shared.{◌≡◌, length, arith, sym, position_or_len, is_slash}
use Rattle.oim_dims.proofs.Periods.{alone}
use Rattle.oim_dims.proofs.period.read_period.Goals as goal

pub returns-in-Some-read_moment : goal.returns-in-Some-read_moment
returns-in-Some-read_moment c =
    let whole : position_or_len is_slash c.args.text.now ≡ length c.args.text.now = c.in-None.ensures.byte (omega arith) (λ w o h. h) in
    alone c.args.text.now c.in-Some-read_moment.moment whole (rw c.as_bytes-in-None.ensures.value at (sym c.in-Some-read_moment.ensures))
