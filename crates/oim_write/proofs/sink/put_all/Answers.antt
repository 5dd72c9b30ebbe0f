use Rattle.oim_write.proofs.Shared.{◌≡◌, ℕ, ◌-◌, ◌≤◌, List, length, take, drop, sym, subst, ◌∙◌, arith, length-drop, take_all, Appends-trans, Appends}
use Rattle.std.proofs.Math.Seq.{take-add}
use Rattle.oim_write.proofs.sink.put_all.Goals as goal

pub loop-taken-preserved : goal.loop-taken-preserved
loop-taken-preserved g c =
    let told = g.S.Sink.told in
    let bytes = c.args.bytes.now in
    let taken = c.loop-taken.taken in
    let n = c.in-Ok.n in
    let rest : List ℕ = drop taken bytes in
    let whole : take (length bytes - taken) rest ≡ rest = take_all (length bytes - taken) rest (omega (arith, length-drop taken bytes)) in
    let within : n ≤ length rest = subst (λ (s : List ℕ). n ≤ length s) whole c.in-Ok.ensures.count.0 in
    let more : Appends (told c.loop-taken.sink) (told c.put.new.self) (take n rest) =
    subst (λ (s : List ℕ). Appends (told c.loop-taken.sink) (told c.put.new.self) (take n s)) whole c.in-Ok.ensures.bytes in
    record {
      appended = subst (Appends (told c.args.sink.now) (told c.put.new.self)) (sym (take-add taken n bytes))
          (Appends-trans _ _ _ (take taken bytes) (take n rest) c.loop-taken.invariant.appended more);
      within = omega (arith, length-drop taken bytes, within);
      failures = c.in-Ok.ensures.failures ∙ c.loop-taken.invariant.failures;
    }
