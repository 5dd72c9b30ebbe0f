use Rattle.fact_base.proofs.Shared.{◌+◌, ◌++◌, ◌∷◌, [], length, sym, ap, subst, ◌∙◌, reverse, option_to_list, length_push, reverse-reverse, AreEntriesOf}
use Rattle.fact_base.proofs.Stored.{rises_too, one_taken, taken_is_there, taken_is_within, ReachedIn, next_reached_in, none_reached_in, none_of_none, one_more}
use Rattle.fact_base.proofs.entries.entries_in_order.Goals as goal

pub loop-fact-init : goal.loop-fact-init
loop-fact-init c =
    let facts = c.args.facts.items in
    record {
      done = [];
      split = ap reverse c.reverse.ensures.items ∙ reverse-reverse facts;
      entries = subst (AreEntriesOf []) (sym c.in_ok-entries.ensures.items) none_of_none;
      reached = subst (ReachedIn facts 0) (sym c.in_ok-entries.ensures.items) (none_reached_in facts);
    }

pub push_given-requires-clause-below : goal.push_given-requires-clause-below
push_given-requires-clause-below c =
    let i = c.loop-fact.invariant in
    let facts = c.args.facts.items in
    let is = c.pop.ensures.items ∙ ap (λ x. c.pop.new.self.items ++ option_to_list x) c.in-Some.is in
    i.reached c.in-Some.fact
    (taken_is_within i.done c.loop-fact.left.items c.pop.new.self.items facts c.in-Some.fact i.split is)
    (taken_is_there i.done c.loop-fact.left.items c.pop.new.self.items facts c.in-Some.fact i.split is)

pub loop-fact-preserved : goal.loop-fact-preserved
loop-fact-preserved c =
    let l = c.loop-fact in
    let i = l.invariant in
    let facts = c.args.facts.items in
    let rest = c.pop.new.self.items in
    let f = c.in-Some.fact in
    let is = c.pop.ensures.items ∙ ap (λ x. rest ++ option_to_list x) c.in-Some.is in
    let within = taken_is_within i.done l.left.items rest facts f i.split is in
    let there = taken_is_there i.done l.left.items rest facts f i.split is in
    record {
      done = i.done ++ f ∷ [];
      split = ap (λ xs. (i.done ++ f ∷ []) ++ reverse xs) c.free_spare.ensures ∙ one_taken i.done l.left.items rest facts f i.split is;
      entries = subst (AreEntriesOf (i.done ++ f ∷ [])) (sym c.in_ok-push_given.ensures) (one_more i.done l.entries.items f i.entries);
      reached = subst (λ n. ReachedIn facts n c.push_given.new.entries.items) (sym (length_push i.done f))
          (subst (ReachedIn facts (length i.done + 1)) (sym c.in_ok-push_given.ensures) (next_reached_in facts (length i.done) f l.entries.items c.requires within there i.reached));
    }

pub of_rising-requires : goal.of_rising-requires
of_rising-requires c = rises_too c.loop-fact.entries.items c.loop-fact.invariant.entries.rise
