-- The facts and references of bodies.
use Rattle.fact_base.proofs.Shared.{◌≡◌, ℕ, List, ◌++◌, ap, ◌∙◌, ⊎_elim, All-contains, Contains, flat_map, SameMembers, fact_cmp, Fact, fact_cmp_exact, fact_cmp_total, Document, FactFits, IsKeptReference, Body, all_facts, all_references, body, text_cmp, union, BodyHasWhatDocumentsHave, BodyIgnoresOrder, BodyOfBoth, UnionHasBoth, AcceptedFits, IsAccepted, UnionFits, set_of}
use Rattle.std.proofs.lemmas.List.Concat.{flat_map-append}
use Rattle.oim_report.proofs.Documents.{accepted_facts_fit, accepted_references_are_kept}
use Rattle.fact_base.proofs.Members.{each_by_there, in_flat_map, in_one_of_both, some_in_other}
use Rattle.fact_base.proofs.Sets.{same_sets, set_of-both, set_of_is_set}
use Rattle.fact_base.proofs.TextOrder.{text_cmp_exact, text_cmp_total}

pub body_has_what_documents_have : BodyHasWhatDocumentsHave
body_has_what_documents_have docs =
    let facts = set_of_is_set fact_cmp_total fact_cmp_exact (all_facts docs) in
    let references = set_of_is_set text_cmp_total text_cmp_exact (all_references docs) in
    record {
      rises = record { facts = facts.rises; references = references.rises };
      facts = λ f. let some = in_flat_map (λ (d : Document). d.facts) docs f in (λ h. some.0 ((facts.members f).0 h), λ h. (facts.members f).1 (some.1 h));
      references = λ r. let some = in_flat_map (λ (d : Document). d.references) docs r in (λ h. some.0 ((references.members r).0 h), λ h. (references.members r).1 (some.1 h));
    }

pub union_has_both : UnionHasBoth
union_has_both a b =
    let facts = set_of_is_set fact_cmp_total fact_cmp_exact (a.facts ++ b.facts) in
    let references = set_of_is_set text_cmp_total text_cmp_exact (a.references ++ b.references) in
    record {
      rises = record { facts = facts.rises; references = references.rises };
      facts = λ f. let one = in_one_of_both a.facts b.facts f in (λ h. one.0 ((facts.members f).0 h), λ h. (facts.members f).1 (one.1 h));
      references = λ r. let one = in_one_of_both a.references b.references r in (λ h. one.0 ((references.members r).0 h), λ h. (references.members r).1 (one.1 h));
    }

same_in_all : {A : Type 0} (f : Document → List A) (ds es : List Document) → SameMembers ds es → SameMembers (flat_map f ds) (flat_map f es)
same_in_all f ds es same x =
    let first = in_flat_map f ds x in
    let second = in_flat_map f es x in (
      λ h. second.1 (some_in_other (λ d. Contains (f d) x) ds es (λ d. (same d).0) (first.0 h)),
      λ h. first.1 (some_in_other (λ d. Contains (f d) x) es ds (λ d. (same d).1) (second.0 h)),
    )

pub same_bodies : {facts more : List Fact} {references others : List (List ℕ)} → facts ≡ more → references ≡ others → ◌≡◌ {A = Body} (record { facts = facts; references = references }) (record { facts = more; references = others })
same_bodies p q = λ i. record { facts = p i; references = q i }

pub body_ignores_order : BodyIgnoresOrder
body_ignores_order ds es same = same_bodies
    (same_sets fact_cmp_total fact_cmp_exact (all_facts ds) (all_facts es) (same_in_all (λ d. d.facts) ds es same))
    (same_sets text_cmp_total text_cmp_exact (all_references ds) (all_references es) (same_in_all (λ d. d.references) ds es same))

pub body_of_both : BodyOfBoth
body_of_both ds es = same_bodies
    (ap (set_of fact_cmp) (flat_map-append (λ (d : Document). d.facts) ds es) ∙ set_of-both fact_cmp_total fact_cmp_exact (all_facts ds) (all_facts es))
    (ap (set_of text_cmp) (flat_map-append (λ (d : Document). d.references) ds es) ∙ set_of-both text_cmp_total text_cmp_exact (all_references ds) (all_references es))

-- ---- bodies that fit

pub accepted_fits : AcceptedFits
accepted_fits sheet docs accepted =
    let has = body_has_what_documents_have docs in
    record {
      rises = has.rises;
      facts = each_by_there (FactFits sheet) (body docs).facts (λ f at.
          let some = (has.facts f).0 at in
          let one = All-contains (IsAccepted sheet) docs some.1 accepted (some.0, some.2, some.3) in
          All-contains (FactFits sheet) some.1.facts f (accepted_facts_fit sheet one.0 some.1 one.1) some.4);
      references = each_by_there IsKeptReference (body docs).references (λ r at.
          let some = (has.references r).0 at in
          let one = All-contains (IsAccepted sheet) docs some.1 accepted (some.0, some.2, some.3) in
          All-contains IsKeptReference some.1.references r (accepted_references_are_kept sheet one.0 some.1 one.1) some.4);
    }

pub union_fits : UnionFits
union_fits sheet a b first second =
    let has = union_has_both a b in
    record {
      rises = has.rises;
      facts = each_by_there (FactFits sheet) (union a b).facts (λ f at. ⊎_elim (All-contains (FactFits sheet) a.facts f first.facts) (All-contains (FactFits sheet) b.facts f second.facts) ((has.facts f).0 at));
      references = each_by_there IsKeptReference (union a b).references (λ r at. ⊎_elim (All-contains IsKeptReference a.references r first.references) (All-contains IsKeptReference b.references r second.references) ((has.references r).0 at));
    }
