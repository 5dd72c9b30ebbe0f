use Rattle.oim_write.proofs.Shared.{◌≡◌, ◌++◌, ◌∷◌, [], ◌%◌, ◌^◌, ◌<◌, take, ap, arith, ◌∙◌, string_bytes, unsigned_abs, nat_tests, UNIT_PLACES, without_trailing, sign_text, all_places, all_places_ascii, plain_cut, padded}
use Rattle.std.proofs.lemmas.Int.{to_z-of_z}
use mir.Val.{to_z, of_z}
use mir.Syntax.{w128}
use Rattle.oim_value.proofs.PlainLaws.{fitting_is_writable}
use Rattle.oim_write.proofs.Padded.{places_are, whole_is}
use Rattle.oim_write.proofs.fixed_text.spell_units.Goals as goal

pub returns-then-rest-eq0 : goal.returns-then-rest-eq0
returns-then-rest-eq0 c =
    let units : to_z w128 (of_z w128 c.args.units) ≡ c.args.units = to_z-of_z w128 c.args.units c.ranges.units in
    let size : c.unsigned_abs-size.result ≡ unsigned_abs c.args.units = c.unsigned_abs-size.ensures.value ∙ ap unsigned_abs units in
    let sign : c.sign_of-sign.result.now ≡ sign_text c.args.units = c.sign_of-sign.ensures ∙ ap sign_text units in
    let front = c.in_ok-push_str.ensures.bytes ∙ ap (λ t. t ++ c.sign_of-sign.result.now) c.clear.ensures.bytes in
    c.in_ok-push_str-2.ensures.bytes ∙ ap (λ t. t ++ c.format.result.now) front
    ∙ whole_is c.args.units _ _ _ size sign (rw c.pow.ensures at c.format.ensures.text) (rw c.pow-2.ensures at c.if-rest-eq0.true)

pub truncate-requires : goal.truncate-requires
truncate-requires c =
    let units : to_z w128 (of_z w128 c.args.units) ≡ c.args.units = to_z-of_z w128 c.args.units c.ranges.units in
    let size : c.unsigned_abs-size.result ≡ unsigned_abs c.args.units = c.unsigned_abs-size.ensures.value ∙ ap unsigned_abs units in
    let sign : c.sign_of-sign.result.now ≡ sign_text c.args.units = c.sign_of-sign.ensures ∙ ap sign_text units in
    let front = c.in_ok-push_str.ensures.bytes ∙ ap (λ t. t ++ c.sign_of-sign.result.now) c.clear.ensures.bytes in
    let digits = c.in_ok-push_str-2.ensures.bytes ∙ ap (λ t. t ++ c.format.result.now) front in
    let point = c.in_ok-push_str-3.ensures.bytes ∙ ap (λ t. t ++ 46 ∷ []) digits in
    let text : string_bytes c.push_padded.new.text ≡ all_places c.args.units = c.in_ok-push_padded.ensures ∙ ap (λ t. t ++ padded UNIT_PLACES (c.unsigned_abs-size.result % c.pow-2.result)) point
    ∙ places_are c.args.units _ _ _ size sign (rw c.pow.ensures at c.format.ensures.text) _ (ap (λ p. padded UNIT_PLACES (c.unsigned_abs-size.result % p)) c.pow-2.ensures) in
    let small = all_places_ascii c.args.units (fitting_is_writable c.args.units c.ranges.units) c.significant-kept.result in
    let here = rw (← text) at small in
    λ within. (omega arith, λ some inside high. absurd (omega arith))

pub returns : goal.returns
returns c =
    let units : to_z w128 (of_z w128 c.args.units) ≡ c.args.units = to_z-of_z w128 c.args.units c.ranges.units in
    let size : c.unsigned_abs-size.result ≡ unsigned_abs c.args.units = c.unsigned_abs-size.ensures.value ∙ ap unsigned_abs units in
    let sign : c.sign_of-sign.result.now ≡ sign_text c.args.units = c.sign_of-sign.ensures ∙ ap sign_text units in
    let front = c.in_ok-push_str.ensures.bytes ∙ ap (λ t. t ++ c.sign_of-sign.result.now) c.clear.ensures.bytes in
    let digits = c.in_ok-push_str-2.ensures.bytes ∙ ap (λ t. t ++ c.format.result.now) front in
    let point = c.in_ok-push_str-3.ensures.bytes ∙ ap (λ t. t ++ 46 ∷ []) digits in
    let text : string_bytes c.push_padded.new.text ≡ all_places c.args.units = c.in_ok-push_padded.ensures ∙ ap (λ t. t ++ padded UNIT_PLACES (c.unsigned_abs-size.result % c.pow-2.result)) point
    ∙ places_are c.args.units _ _ _ size sign (rw c.pow.ensures at c.format.ensures.text) _ (ap (λ p. padded UNIT_PLACES (c.unsigned_abs-size.result % p)) c.pow-2.ensures) in
    let some : 0 < unsigned_abs c.args.units % 10 ^ UNIT_PLACES = (let other = rw (c.pow-2.ensures, size) at c.if-rest-eq0.false in grind (arith, nat_tests)) in
    let kept : take c.significant-kept.result (string_bytes c.push_padded.new.text) ≡ without_trailing (string_bytes c.push_padded.new.text) = rw c.as_bytes.ensures.value at c.significant-kept.ensures.front in
    c.truncate.ensures.bytes ∙ kept ∙ ap without_trailing text ∙ plain_cut c.args.units some
