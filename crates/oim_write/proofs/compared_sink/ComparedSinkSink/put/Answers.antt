use Rattle.oim_write.proofs.Shared.{◌≡◌, ℕ, ◌+◌, ◌-◌, ◌++◌, List, Option, None, Some, take, drop, length, sym, subst, arith, length-drop, take_all, held}
use Rattle.oim_write.proofs.Compared.{held_last, held_more}
use Rattle.oim_write.proofs.compared_sink.ComparedSinkSink.put.Goals as goal

pub returns-in-Some-get-clause-bytes : goal.returns-in-Some-get-clause-bytes
returns-in-Some-get-clause-bytes c =
    let text = c.args.self.now.text.now in
    let equal = c.args.self.now.equal in
    let n = c.common_front-same.result in
    let byte = c.in-Some-get.byte.now in
    let found = c.in-Some-get.ensures.lookup.3 in
    let none : c.args.self.now.difference ≡ None = c.in_default.is in
    let whole : take (length text - equal) (drop equal text) ≡ drop equal text = take_all (length text - equal) (drop equal text) (omega (arith, length-drop equal text)) in
    let same : take n (drop equal text) ≡ take n c.args.bytes.now = subst (λ (s : List ℕ). take n s ≡ take n c.args.bytes.now) whole c.common_front-same.ensures.same in
    subst (λ (d : Option (ℕ × ℕ)). held text (equal + n) (Some (byte, 0)) ≡ held text equal d ++ take (n + 1) c.args.bytes.now) (sym none)
    (held_last text c.args.bytes.now equal n byte same (found.1 byte) found.0)

pub returns-in-None-clause-bytes : goal.returns-in-None-clause-bytes
returns-in-None-clause-bytes c =
    let text = c.args.self.now.text.now in
    let equal = c.args.self.now.equal in
    let n = c.common_front-same.result in
    let none : c.args.self.now.difference ≡ None = c.in_default.is in
    let whole : take (length text - equal) (drop equal text) ≡ drop equal text = take_all (length text - equal) (drop equal text) (omega (arith, length-drop equal text)) in
    let same : take n (drop equal text) ≡ take n c.args.bytes.now = subst (λ (s : List ℕ). take n s ≡ take n c.args.bytes.now) whole c.common_front-same.ensures.same in
    subst (λ (d : Option (ℕ × ℕ)). held text (equal + n) d ≡ held text equal d ++ take n c.args.bytes.now) (sym none)
    (held_more text c.args.bytes.now equal n same)
