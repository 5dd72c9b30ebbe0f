-- The bytes of an accepted report denote the document that is read. The document's facts fit the sheet, and its references
-- are kept texts.
use Rattle.oim_report.proofs.Shared.{◌≡◌, ℕ, List, [], ◌∷◌, Bool, true, false, cond, Option, Some, None, Result, Ok, Err, refl, ap, subst, ◌∙◌, All, is_none, unwrap_or, is_lt, FactFits, Reason, Namespace, BaseUrl, TaxonomyUrl, Feature, DisallowedDuplicates, level_cmp, Level, AllLevel, Fact, Data, Members, AtDocument, Refusal, Document, SaysDocument, level_of, base_url_said, bindings_of, facts_of, level_said, namespaces_of, references_said, document_refusal, any_in, any_member, json, members, binds_nothing, map_ok, Sheet, AcceptedFactsFit, AcceptedReferencesAreKept, OutcomesAreSaid}
use Rattle.oim_report.proofs.DocumentHolds.{document_least, info_refusal, shape_refusal}
use Rattle.oim_report.proofs.EachRefusal.{first_holding, none_of}
use Rattle.oim_report.specs.Outcome.{at, document_with, facts_said, outcome, then_allowed, tree_outcome, unless_above, unless_refused}
use Rattle.oim_report.proofs.ReferenceTexts.{references_kept}
use Rattle.oim_report.proofs.AcceptedFacts.{facts_are_said, facts_fit, ok_of}
use Rattle.oim_report.proofs.Fitting.{AreNamespaces, bindings_are}

four : (a b c d : Bool) → first_holding ((a, Namespace) ∷ (b, BaseUrl) ∷ (c, TaxonomyUrl) ∷ (d, Feature) ∷ []) ≡ None → (a ≡ false) × (b ≡ false) × (c ≡ false) × (d ≡ false)
four false false false false e = (refl, refl, refl, refl)
four a b c d e = absurd (cc)

in_members : (o : Option Members) → any_in binds_nothing o ≡ false → any_member binds_nothing (members o) ≡ false
in_members None e = refl
in_members (Some ms) e = e

pub bindings_are_namespaces : (tree : Data) → document_refusal tree ≡ None → AreNamespaces (bindings_of tree)
bindings_are_namespaces tree e =
    let groups = none_of (shape_refusal tree) _ (document_least tree ∙ e) in
    let info = none_of (info_refusal tree) None groups.1 in
    let each = four (any_in binds_nothing (namespaces_of tree)) (is_none (base_url_said tree)) (is_none (references_said tree)) (is_none (level_said tree)) info.0 in
    bindings_are (members (namespaces_of tree)) (in_members (namespaces_of tree) each.0)

there : {A : Type 0} (o : Option A) (a : A) → is_none o ≡ false → o ≡ Some (unwrap_or o a)
there None a e = absurd (cc)
there (Some b) a e = refl

level_allows : (found : Level) (d e : Document) → unless_above found d ≡ Ok e → d ≡ e
level_allows found d e h = by (is_lt (level_cmp d.level found)) h
  where
    by : (b : Bool) → cond b (Err (at AtDocument DisallowedDuplicates)) (Ok d) ≡ Ok e → d ≡ e
    by true h' = absurd (cc)
    by false h' = cc

pub is_allowed : (r : Result Document Refusal) (d : Document) → then_allowed r ≡ Ok d → r ≡ Ok d
is_allowed (Ok c) d e = ap Ok (level_allows (level_of c.facts) c d e)
is_allowed (Err q) d e = absurd (cc)

pub not_refused : (o : Option Reason) (r : Result Document Refusal) (d : Document) → unless_refused o r ≡ Ok d → (o ≡ None) × (r ≡ Ok d)
not_refused None r d e = (refl, e)
not_refused (Some q) r d e = absurd (cc)

pub document_is_said : (sheet : Sheet) (bytes : List ℕ) (tree : Data) (fs : List Fact) → json bytes ≡ Some tree → document_refusal tree ≡ None → facts_said sheet (bindings_of tree) (facts_of tree) ≡ Ok fs → SaysDocument sheet bytes (document_with tree fs)
document_is_said sheet bytes tree fs read none said =
    let groups = none_of (shape_refusal tree) _ (document_least tree ∙ none) in
    let info = none_of (info_refusal tree) None groups.1 in
    let each = four (any_in binds_nothing (namespaces_of tree)) (is_none (base_url_said tree)) (is_none (references_said tree)) (is_none (level_said tree)) info.0 in
    record {
      tree = tree;
      read = read;
      facts = facts_are_said sheet (bindings_of tree) (facts_of tree) fs (bindings_are_namespaces tree none) said;
      references = there (references_said tree) [] each.2;
      level = there (level_said tree) AllLevel each.3;
    }

tree_says : (sheet : Sheet) (bytes : List ℕ) (tree : Data) (d : Document) → json bytes ≡ Some tree → tree_outcome sheet (Some tree) ≡ Ok d → SaysDocument sheet bytes d
tree_says sheet bytes tree d read e =
    let a = not_refused (document_refusal tree) _ d e in
    let b = is_allowed (map_ok (document_with tree) (facts_said sheet (bindings_of tree) (facts_of tree))) d a.1 in
    let c = ok_of (document_with tree) (facts_said sheet (bindings_of tree) (facts_of tree)) d b in
    subst (SaysDocument sheet bytes) c.2 (document_is_said sheet bytes tree c.0 read a.0 c.1)

pub document_said : (sheet : Sheet) (bytes : List ℕ) (o : Option Data) (d : Document) → json bytes ≡ o → tree_outcome sheet o ≡ Ok d → SaysDocument sheet bytes d
document_said sheet bytes None d read e = absurd (cc)
document_said sheet bytes (Some tree) d read e = tree_says sheet bytes tree d read e

pub report_fits : (sheet : Sheet) (tree : Data) (fs : List Fact) → document_refusal tree ≡ None → facts_said sheet (bindings_of tree) (facts_of tree) ≡ Ok fs → All (FactFits sheet) fs
report_fits sheet tree fs none e = facts_fit sheet (bindings_of tree) (facts_of tree) fs (bindings_are_namespaces tree none) e

pub outcomes_are_said : OutcomesAreSaid
unfolding outcome
outcomes_are_said sheet bytes d e = document_said sheet bytes (json bytes) d refl e

tree_fits : (sheet : Sheet) (tree : Data) (d : Document) → tree_outcome sheet (Some tree) ≡ Ok d → All (FactFits sheet) d.facts
tree_fits sheet tree d e =
    let a = not_refused (document_refusal tree) _ d e in
    let b = is_allowed (map_ok (document_with tree) (facts_said sheet (bindings_of tree) (facts_of tree))) d a.1 in
    let c = ok_of (document_with tree) (facts_said sheet (bindings_of tree) (facts_of tree)) d b in
    subst (λ (x : Document). All (FactFits sheet) x.facts) c.2 (report_fits sheet tree c.0 a.0 c.1)

some_fits : (sheet : Sheet) (o : Option Data) (d : Document) → tree_outcome sheet o ≡ Ok d → All (FactFits sheet) d.facts
some_fits sheet None d e = absurd (cc)
some_fits sheet (Some tree) d e = tree_fits sheet tree d e

pub accepted_facts_fit : AcceptedFactsFit
unfolding outcome
accepted_facts_fit sheet bytes d e = some_fits sheet (json bytes) d e

pub accepted_references_are_kept : AcceptedReferencesAreKept
accepted_references_are_kept sheet bytes d e = let says = outcomes_are_said sheet bytes d e in references_kept says.tree d.references says.references
