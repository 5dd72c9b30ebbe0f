-- The lines of replicas that are written one after another.
use Rattle.std.proofs.Common.{◌≡◌, ◌+◌, ◌<◌, ℕ, List, [], ◌∷◌, ◌++◌, Option, Err, take, drop, get_or, length, refl, sym, ap, ◌∙◌, append_assoc, append-nil, take-append-drop}
use Rattle.std.specs.Io.KnownBytes.{Appends}
use Rattle.std.proofs.lemmas.Grind.{flat_map-append}
use Rattle.std.proofs.lemmas.List.{take_more}
use Rattle.fact_base.specs.Contents.{Contents}
use Rattle.oim_write.specs.Sink.{AppendsFront, written_of}
use Rattle.oim_write.specs.declared.write_fault.WriteFault.{WriteFault}
use Rattle.oim_write.specs.declared.write_fault.WriteFault.TheVariants.{OutOfMemory, Device}
use Rattle.oim_merge.specs.Run.{fault_of}
use Rattle.command_line.specs.Endings.{Is, IsCut, Prints, PutsText}
use Rattle.command_line.specs.Faults.{IsOutputError, error_of}
use Rattle.command_line.specs.declared.error.Error.{Error}
use Rattle.command_line.specs.declared.error.Error.TheVariants as error
use Rattle.command_line.specs.Outputs.{replica_line, replica_lines}
use Rattle.command_line.proofs.Ends.{cut_at, stops_behind}

-- an error within a later piece of a text
pub put_behind : (old mid new : Option (List ℕ)) (all before piece behind : List ℕ) → all ≡ before ++ (piece ++ behind) → Appends old mid before → (e : Error) → Prints (PutsText piece) mid new (Err e) → Prints (PutsText all) old new (Err e)
put_behind old mid new all before piece behind whole first e p =
    stops_behind (Is piece) IsOutputError (IsCut (Is piece)) (Is all) IsOutputError (IsCut (Is all)) e (λ why. why) before
    (λ why. (all, piece ++ behind, (why, tt, refl), whole))
    (λ text cut. (all, behind, (cut.0, tt, refl), whole ∙ sym (append_assoc before piece behind) ∙ ap (λ t. (before ++ t) ++ behind) (sym cut.2)))
    old mid new first p

-- a fault of the writer
pub write_fault : (old new : Option (List ℕ)) (text : List ℕ) (f : WriteFault) → AppendsFront old new text (written_of f) → Prints (PutsText text) old new (Err (error_of (fault_of f)))
write_fault old new text (OutOfMemory n) front = cut_at (Is text) IsOutputError old new error.OutOfMemory tt tt text tt refl n front
write_fault old new text (Device n) front = cut_at (Is text) IsOutputError old new (error.Device n) tt tt text tt refl n front

module _ (bases : List Contents) (i : ℕ) (within : i < length bases) (b : Contents) (is : b ≡ get_or bases i b) where
  -- the line of the next replica
  pub lines_more : replica_lines (take (i + 1) bases) ≡ replica_lines (take i bases) ++ replica_line b
  lines_more =
      ap replica_lines (take_more bases i b within ∙ ap (λ x. take i bases ++ x ∷ []) (sym is))
      ∙ flat_map-append replica_line (take i bases) (b ∷ [])
      ∙ ap (λ t. replica_lines (take i bases) ++ t) (append-nil (replica_line b))

  pub lines_split : replica_lines bases ≡ replica_lines (take i bases) ++ (replica_line b ++ replica_lines (drop (i + 1) bases))
  lines_split =
      let behind = replica_lines (drop (i + 1) bases) in
      ap replica_lines (sym (take-append-drop (i + 1) bases))
      ∙ flat_map-append replica_line (take (i + 1) bases) (drop (i + 1) bases)
      ∙ ap (λ t. t ++ behind) lines_more
      ∙ append_assoc (replica_lines (take i bases)) (replica_line b) behind
