-- What the matches and the errors of a parse say of the words.
use Rattle.std.proofs.Common.{◌∙◌, ◌≡◌, ◌⊎◌, ◌∷◌, [], List, Option, Some, None, true, false, ap, if◌then◌else◌, inl, inr, refl, subst, sym}
use Rattle.std.specs.Prelude.{◌≢◌, ⊤}
use Rattle.clap.specs.Walk.{is_empty}
use Rattle.clap.specs.Words.{HasKind, IsAmong, Kinds, Text, fault_of, is_simple, is_simple_and_free, kind_of, subcommand_of}
use Rattle.clap.specs.declared.error.Error.{Error}
use Rattle.clap.specs.declared.error.kind.ErrorKind.{ErrorKind}
use Rattle.clap.specs.declared.error.kind.ErrorKind.TheVariants as kind
use Rattle.clap.proofs.OnLiterals.{clap_on_literals}
use Rattle.command_line.specs.Arguments.{AreTables, Tables, explain_app, merge_app, program_app, replay_app, rows_app, top_app, with_output_of, with_reports_of}
use Rattle.command_line.specs.Words.{AreRefused, AskFor, AskForNothing, Asked, CallForHelp, HasFault, asked, asked_with}

-- what a proof unfolds to compute at words
unfoldable pub program_on_literals : ⊤
unfolding clap_on_literals program_app top_app merge_app rows_app explain_app replay_app with_reports_of with_output_of
program_on_literals = tt

-- the matches are a function of the words, and so are the kinds of errors
pub free : (t : Tables) → is_simple_and_free (program_app false t) ≡ true
unfolding program_on_literals
free t = refl

pub simple : (t : Tables) → is_simple (program_app false t) ≡ true
unfolding program_on_literals
simple t = refl

module _ (t : Tables) (are : AreTables t) (words : List Text) where
  abbrev faults : Kinds
  faults = fault_of (program_app false t) words

  abbrev found : Option Asked
  found = asked (subcommand_of (program_app false t) words)

  asked_is : (x : Option Asked) → faults ≡ [] → found ≡ x → asked_with t words ≡ x
  asked_is x none is = ap (λ k. if is_empty k then found else None) none ∙ is

  pub some_asked : (a : Asked) → faults ≡ [] → Some a ≡ found → AskFor words a
  some_asked a none same = (t, are, asked_is (Some a) none (sym same))

  pub none_asked : faults ≡ [] → None ≡ found → AskForNothing words
  none_asked none same = (t, are, none, sym same)

  pub refused : (e : Error) → HasKind faults e → (kind_of e ≡ kind.OutOfMemory) ⊎ HasFault words (kind_of e) ⊎ AskForNothing words
  refused e (inl h) = inl h
  refused e (inr h) = inr (inl (t, are, h))

  pub helped : (e : Error) → HasKind faults e → (kind_of e ≡ kind.DisplayHelp) ⊎ (kind_of e ≡ kind.DisplayVersion) → CallForHelp words
  helped e (inl h) (inl k) = cc
  helped e (inl h) (inr k) = cc
  helped e (inr h) (inl k) = inl (t, are, subst (λ x. IsAmong x faults) k h)
  helped e (inr h) (inr k) = inr (t, are, subst (λ x. IsAmong x faults) k h)

-- a fault that is neither a call for help nor for the version
pub other_fault : (words : List Text) (k : ErrorKind) → k ≢ kind.OutOfMemory → k ≢ kind.DisplayHelp → k ≢ kind.DisplayVersion → (k ≡ kind.OutOfMemory) ⊎ HasFault words k ⊎ AskForNothing words → AreRefused words
other_fault words k memory help version (inl is) = absurd (memory is)
other_fault words k memory help version (inr (inl has)) = inl (k, help, version, has)
other_fault words k memory help version (inr (inr nothing)) = inr nothing
