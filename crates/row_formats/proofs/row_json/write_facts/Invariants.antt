use Rattle.row_formats.proofs.Shared.{take, Adds, named, fact_items, item_tokens}
use Rattle.row_formats.proofs.row_json.write_facts.Given as goal

-- the facts so far are written
abbrev pub invariant-loop-index : goal.invariant-loop-index
invariant-loop-index l = Adds l.initial.json l.json (item_tokens (fact_items (named l.identifiers.before l.identifiers.count) 0 (take l.index l.values)))
