-- Rows that are buffered on their way to a sink, and the texts of mentions (own). In bytes, `f` is 102.
use Rattle.std.specs.Prelude.{ℕ, Option, List, ◌+◌, ◌∷◌}
use Rattle.fact_base.specs.Rows.{Row}
use Rattle.oim_write.specs.SinkBuffer.{Breaks, Passes, Pending}
use Rattle.oim_dims.specs.declared.fact.Fact.{Fact}
use Rattle.oim_write.specs.Rank.{padded, width}
use Rattle.oim_merge.specs.Lines.{AreRowsFrom, RowText}
use Rattle.oim_merge.specs.Sources.{SourceText}
use Rattle.oim_merge.specs.declared.fact_list.LentFact.{LentFact}
use Rattle.oim_merge.specs.declared.mentions.IndexedMention.{IndexedMention}

-- these rows of a body with these facts, numbered from 1, were pushed through a buffer
pub record PassesRows (written : RowText) (facts : List Fact) (rows : List Row) (old new : Option (List ℕ)) (before after : Pending) : Type 0 where
  pub text : List ℕ
  pub are : AreRowsFrom written facts 1 rows text
  pub passed : Passes old new before after text

-- a fault occurred while these rows of a body with these facts, numbered from 1, were pushed through a buffer
pub record BreaksRows (written : RowText) (facts : List Fact) (rows : List Row) (old new : Option (List ℕ)) (before : Pending) (count : ℕ) : Type 0 where
  pub text : List ℕ
  pub are : AreRowsFrom written facts 1 rows text
  pub broken : Breaks old new before text count

-- a borrowed fact as contracts see it
abbrev pub lent : LentFact → Fact
lent f = record { dimensions = f.dimensions.now; value = f.value.now }

-- the text of a mention, given the number of all facts
abbrev pub indexed_text : SourceText → ℕ → IndexedMention → List ℕ
indexed_text written count m = written (102 ∷ padded (width count) (m.index + 1)) m.report m.identifier
