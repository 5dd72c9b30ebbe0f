-- Calls that list sources: the appended bytes, the returned refusals, and the faults (own).
use Rattle.std.specs.Prelude.{◌≡◌, ℕ, Option, List, [], ◌++◌, flat_map}
use Rattle.std.specs.Io.KnownBytes.{Appends}
use Rattle.oim_report.specs.Sheet.{Sheet}
use Rattle.oim_report.specs.declared.refusal.Refusal.{Refusal}
use Rattle.oim_write.specs.Sink.{AppendsFront}
use Rattle.oim_merge.specs.Sources.{SourceText, by_fact, mention_text, source_line}
use Rattle.oim_merge.specs.Traced.{Traced, traced}
use Rattle.oim_merge.specs.declared.fault.Fault.{Fault}
use Rattle.oim_merge.specs.declared.fault.Fault.TheVariants.{OutOfMemory, Device, TooLoose, Sheet as SheetFault}

-- the texts of the mentions, in the order of facts, then reports, then identifiers
abbrev pub mention_texts : SourceText → Traced → List ℕ
mention_texts written t = flat_map (mention_text written t.added.body.facts) (by_fact t.added.body.facts t.mentions)

module _ (header : List ℕ) (written : SourceText) (t : Traced) where
  -- the header and the texts of the mentions were appended, and the refusals were returned
  pub record AppendsMentions (old new : Option (List ℕ)) (returned : List (ℕ × Refusal)) : Type 0 where
    pub refusals_are : returned ≡ t.added.refusals
    pub appended : Appends old new (header ++ mention_texts written t)

  -- a fault: a first part of the header and the texts was appended; the fault contains the number of these bytes, which saturates
  abbrev pub MentionsStop : Option (List ℕ) → Option (List ℕ) → Fault → Type 0
  MentionsStop old new (OutOfMemory count) = AppendsFront old new (header ++ mention_texts written t) count
  MentionsStop old new (Device count) = AppendsFront old new (header ++ mention_texts written t) count
  MentionsStop old new (TooLoose row returned) = ⊥
  MentionsStop old new (SheetFault reason) = ⊥

-- the source lines of the accepted reports were appended, and the refusals of the other reports were returned
abbrev pub ListsSources : Sheet → List (List ℕ) → Option (List ℕ) → Option (List ℕ) → List (ℕ × Refusal) → Type 0
ListsSources sheet reports = AppendsMentions [] source_line (traced sheet reports)

abbrev pub SourcesStop : Sheet → List (List ℕ) → Option (List ℕ) → Option (List ℕ) → Fault → Type 0
SourcesStop sheet reports = MentionsStop [] source_line (traced sheet reports)
