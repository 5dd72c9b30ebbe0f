use Rattle.oim_merge.proofs.Shared.{◌≡◌, ℕ, ◌+◌, List, Option, ◌++◌, take, drop, sym, ap, subst, ◌∙◌, rules, length-take-le, take-add, Consumes, with_items_is, places}
use Rattle.std.proofs.KnownBytes.{Consumes-kept, Consumes-trans}
use Rattle.oim_merge.proofs.source_reader.read_all.Goals as goal

-- if one call consumed the first i bytes of the buffer and the next call n more, together they consumed the first i + n bytes
Consumes-more : (a b c : Option (List ℕ)) (xs ys : List ℕ) (i n : ℕ) → take i ys ≡ take i xs
    → Consumes a b (take i xs) → Consumes b c (take n (drop i ys)) → Consumes a c (take (i + n) ys)
Consumes-more a b c xs ys i n front before read =
    subst (Consumes a c) (sym (take-add i n ys ∙ ap (λ l. l ++ take n (drop i ys)) front))
    (Consumes-trans a b c (take i xs) (take n (drop i ys)) before read)

pub loop-filled-preserved : goal.loop-filled-preserved
loop-filled-preserved g c =
    let told = g.S.Source.told in
    let before = c.loop-filled.invariant in
    let now = c.get_behind.new.bytes in
    let kept = c.in-Ok-get_behind.ensures.front ∙ ap (take c.loop-filled.filled) c.as_mut_slice.ensures.value ∙ c.make_room.ensures.front in
    let items = with_items_is c.make_room.new.bytes now (search (rules, places)) in
    record {
      given = rw items (Consumes-more (told c.args.source.now) (told c.loop-filled.source) (told c.get_behind.new.source) c.loop-filled.bytes.items now c.loop-filled.filled c.in-Ok-get_behind.n kept before.given c.in-Ok-get_behind.ensures.ok);
      filled = search rules;
      within = search rules;
      failures = c.in-Ok-get_behind.ensures.failures ∙ before.failures;
    }

pub returns-in-Err-get_behind-clause-err : goal.returns-in-Err-get_behind-clause-err
returns-in-Err-get_behind-clause-err g c =
    let told = g.S.Source.told in
    let given = take c.loop-filled.filled c.loop-filled.bytes.items in (
      given,
      Consumes-kept (told c.args.source.now) (told c.loop-filled.source) (told c.get_behind.new.source) given c.loop-filled.invariant.given c.in-Err-get_behind.ensures.err,
      length-take-le c.loop-filled.filled c.loop-filled.bytes.items (search (rules, places)),
    )
