-- A fact object is refused for the lowest-numbered condition that applies.
use Rattle.oim_report.proofs.Shared.{◌≡◌, List, Result, Ok, Err, refl, sym, ap, ◌∙◌, ℕ, ◌+◌, [], ◌∷◌, map, Bool, true, false, cond, Option, Some, None, inl, inr, ◌++◌, length, arith, ◌≢◌, subst, ◌↔◌, option_and_then, if◌then◌else◌, filter_map, is_lt, unwrap_or, result_err, AllByRecursion, cons_option, option_map_or, Binding, Reason, DisallowedDuplicates, NotJson, OutOfMemory, level_cmp, Level, AllLevel, Fact, Data, fact_parts, said_fact, IsLeast, least, first, told, AtDocument, AtFact, Document, level_of, bindings_of, facts_of, level_said, json, values, map_ok, Refusal, Place}
use Rattle.oim_report.specs.Outcome.{IsFree, fact_or, fact_outcome, AcceptedWhereFree, Accepts, all_or_first, at, document_with, facts_said, outcome, then_allowed, tree_outcome, unless_above, unless_refused, RefusedWhereHeld, Refuses, RefusesFacts, RefusesOne, RefusesTree, OutcomesWantNoMemory}
use Rattle.oim_report.specs.Sheet.{Sheet, RefusesSheet, SheetOutcomesWantNoMemory, sheet_holds}
use Rattle.oim_report.specs.Holds.{holds, document_holds, document_refusal}
use Rattle.oim_report.specs.Faults.{FirstFaultIsAnswered, NoFaultsWhereAccepted, faults, faults_from, first_of, is_above_level, level_faults, or_else, tree_faults}
use Rattle.oim_report.proofs.LeastOf.{least_is, none_is, first_told}
use Rattle.oim_report.proofs.SaidWhereFree.{facts_are_said, outcome_free}
use Rattle.oim_report.proofs.AcceptedFacts.{next, ok_of}
use Rattle.oim_report.proofs.Documents.{document_is_said, document_said, is_allowed, not_refused}
use Rattle.oim_report.proofs.OneDocument.{says_one_document}
use Rattle.oim_report.proofs.Accepted.{ok_or}
use Rattle.oim_report.proofs.SheetEntries.{sheet_refused_where_held}

pub free_is_said : (sheet : Sheet) (bs : List Binding) (d : Data) → IsFree sheet bs d → (f : Fact) × (fact_outcome sheet bs d ≡ Ok f)
free_is_said sheet bs d free =
    let f = facts_are_said sheet bs d free in
    (f.0, λ i. fact_or ((none_is (holds sheet bs d)).1 free i) (f.1 i))

ok_none : (o : Result Fact Reason) (f : Fact) → o ≡ Ok f → None ≡ result_err o
ok_none (Ok g) f e = refl
ok_none (Err q) f e = absurd (cc)

err_by : (sheet : Sheet) (bs : List Binding) (d : Data) (o : Option Reason) → least (holds sheet bs d) ≡ o → o ≡ result_err (fact_outcome sheet bs d)
err_by sheet bs d None is = let s = free_is_said sheet bs d ((none_is (holds sheet bs d)).0 is) in ok_none (fact_outcome sheet bs d) s.0 s.1
err_by sheet bs d (Some r) is = ap (λ o. result_err (fact_or o (option_and_then (said_fact sheet bs) (fact_parts d)))) (sym is)

pub answered_is_least : (sheet : Sheet) (bs : List Binding) (d : Data) → least (holds sheet bs d) ≡ result_err (fact_outcome sheet bs d)
answered_is_least sheet bs d = err_by sheet bs d (least (holds sheet bs d)) refl

err_is : (o : Result Fact Reason) (r : Reason) → result_err o ≡ Some r → o ≡ Err r
err_is (Ok f) r e = absurd (cc)
err_is (Err q) r e = cc

pub refused_is_least : (sheet : Sheet) (bs : List Binding) (d : Data) (r : Reason) → (fact_outcome sheet bs d ≡ Err r) ↔ IsLeast (holds sheet bs d) r
refused_is_least sheet bs d r =
    let here = least_is (holds sheet bs d) r in (
      (λ e. here.0 (answered_is_least sheet bs d ∙ ap result_err e)),
      (λ l. err_is (fact_outcome sheet bs d) r (sym (answered_is_least sheet bs d) ∙ here.1 l)),
    )

-- ---- A report is accepted exactly if its bytes are JSON, no condition applies, and the declared level allows its facts.

pub all_free : (sheet : Sheet) (bs : List Binding) (n : ℕ) (ds : List Data) (fs : List Fact) → all_or_first n (map (fact_outcome sheet bs) ds) ≡ Ok fs → AllByRecursion (IsFree sheet bs) ds
all_free sheet bs n [] fs e = tt
all_free sheet bs n (d ∷ ds) fs e =
    let a = next n (fact_outcome sheet bs d) (map (fact_outcome sheet bs) ds) fs e in
    (outcome_free sheet bs d a.0 a.2, all_free sheet bs (n + 1) ds a.1 a.3)

not_above : (b : Bool) (d e : Document) → cond b (Err (at AtDocument DisallowedDuplicates)) (Ok d) ≡ Ok e → b ≡ false
not_above true d e h = absurd (cc)
not_above false d e h = refl

tree_accepts : (sheet : Sheet) (bytes : List ℕ) (tree : Data) (d : Document) → json bytes ≡ Some tree → tree_outcome sheet (Some tree) ≡ Ok d → Accepts sheet bytes d
tree_accepts sheet bytes tree d read e =
    let found = map_ok (document_with tree) (facts_said sheet (bindings_of tree) (facts_of tree)) in
    let a = not_refused (document_refusal tree) (then_allowed found) d e in
    let b = is_allowed found d a.1 in
    let c = ok_of (document_with tree) (facts_said sheet (bindings_of tree) (facts_of tree)) d b in
    record {
      tree = tree;
      read = read;
      document = (none_is (document_holds tree)).0 a.0;
      facts = all_free sheet (bindings_of tree) 1 (values (facts_of tree)) c.0 c.1;
      said = document_said sheet bytes (Some tree) d read e;
      level = not_above (is_lt (level_cmp d.level (level_of d.facts))) d d (ap then_allowed (sym b) ∙ a.1);
    }

some_accepts : (sheet : Sheet) (bytes : List ℕ) (o : Option Data) (d : Document) → json bytes ≡ o → tree_outcome sheet o ≡ Ok d → Accepts sheet bytes d
some_accepts sheet bytes None d read e = absurd (cc)
some_accepts sheet bytes (Some tree) d read e = tree_accepts sheet bytes tree d read e

pub all_ok : (sheet : Sheet) (bs : List Binding) (n : ℕ) (ds : List Data) → AllByRecursion (IsFree sheet bs) ds → (fs : List Fact) × (all_or_first n (map (fact_outcome sheet bs) ds) ≡ Ok fs)
all_ok sheet bs n [] free = ([], refl)
all_ok sheet bs n (d ∷ ds) free =
    let f = free_is_said sheet bs d free.0 in
    let fs = all_ok sheet bs (n + 1) ds free.1 in
    (f.0 ∷ fs.0, ap (λ o. all_or_first n (o ∷ map (fact_outcome sheet bs) ds)) f.1 ∙ ap (map_ok (λ facts. f.0 ∷ facts)) fs.1)

free_accepted : (sheet : Sheet) (bytes : List ℕ) (d : Document) → Accepts sheet bytes d → outcome sheet bytes ≡ Ok d
unfolding outcome
free_accepted sheet bytes d acc =
    let tree = acc.tree in
    let bs = bindings_of tree in
    let fs = all_ok sheet bs 1 (values (facts_of tree)) acc.facts in
    let doc = document_with tree fs.0 in
    let none = (none_is (document_holds tree)).1 acc.document in
    let says = document_is_said sheet bytes tree fs.0 acc.read none fs.1 in
    let one : doc ≡ d = says_one_document sheet bytes doc d says acc.said in
    ap (tree_outcome sheet) acc.read
    ∙ ap (λ r. unless_refused r (then_allowed (map_ok (document_with tree) (facts_said sheet bs (facts_of tree))))) none
    ∙ ap (λ r. then_allowed (map_ok (document_with tree) r)) fs.1
    ∙ ap (λ e. unless_above (level_of e.facts) e) one
    ∙ ap (λ b. cond b (Err (at AtDocument DisallowedDuplicates)) (Ok d)) acc.level

pub accepted_where_free : AcceptedWhereFree
unfolding outcome
accepted_where_free sheet bytes d = ((λ e. some_accepts sheet bytes (json bytes) d refl e), (λ acc. free_accepted sheet bytes d acc))

-- ---- A report is refused with a refusal r exactly if `Refuses` holds for r.

err_of : {A B : Type 0} (g : A → B) (r : Result A Refusal) (q : Refusal) → map_ok g r ≡ Err q → r ≡ Err q
err_of g (Ok a) q e = absurd (cc)
err_of g (Err p) q e = cc

by_first : (sheet : Sheet) (bs : List Binding) (n : ℕ) (d : Data) (ds : List Data) (r : Refusal) (o : Result Fact Reason) → fact_outcome sheet bs d ≡ o
    → (all_or_first (n + 1) (map (fact_outcome sheet bs) ds) ≡ Err r → RefusesOne sheet bs (n + 1) ds r)
    → all_or_first n (o ∷ map (fact_outcome sheet bs) ds) ≡ Err r → RefusesOne sheet bs n (d ∷ ds) r
by_first sheet bs n d ds r (Ok f) is later e =
    let l = later (err_of (λ facts. f ∷ facts) _ r e) in
    let place : n + 1 + length l.before ≡ n + length (d ∷ l.before) = omega arith in
    record { before = d ∷ l.before; object = l.object; after = l.after; reason = l.reason; are = ap (λ x. d ∷ x) l.are; free = (outcome_free sheet bs d f is, l.free); refused = l.refused; answer = l.answer ∙ ap (λ k. at (AtFact k) l.reason) place }
by_first sheet bs n d ds r (Err reason) is later e =
    let same : at (AtFact n) reason ≡ r = cc in
    let place : n ≡ n + 0 = omega arith in
    record { before = []; object = d; after = ds; reason = reason; are = refl; free = tt; refused = (refused_is_least sheet bs d reason).0 is; answer = sym same ∙ ap (λ k. at (AtFact k) reason) place }

first_is : (sheet : Sheet) (bs : List Binding) (n : ℕ) (ds : List Data) (r : Refusal) → all_or_first n (map (fact_outcome sheet bs) ds) ≡ Err r → RefusesOne sheet bs n ds r
first_is sheet bs n [] r e = absurd (cc)
first_is sheet bs n (d ∷ ds) r e = by_first sheet bs n d ds r (fact_outcome sheet bs d) refl (first_is sheet bs (n + 1) ds r) e

behind_free : (sheet : Sheet) (bs : List Binding) (n : ℕ) (before : List Data) (one : Data) (after : List Data) (reason : Reason) → AllByRecursion (IsFree sheet bs) before → fact_outcome sheet bs one ≡ Err reason → all_or_first n (map (fact_outcome sheet bs) (before ++ one ∷ after)) ≡ Err (at (AtFact (n + length before)) reason)
behind_free sheet bs n [] one after reason free e =
    let place : n ≡ n + 0 = omega arith in
    ap (λ o. all_or_first n (o ∷ map (fact_outcome sheet bs) after)) e ∙ ap (λ k. Err (at (AtFact k) reason)) place
behind_free sheet bs n (d ∷ ds) one after reason free e =
    let f = free_is_said sheet bs d free.0 in
    let place : n + 1 + length ds ≡ n + length (d ∷ ds) = omega arith in
    ap (λ o. all_or_first n (o ∷ map (fact_outcome sheet bs) (ds ++ one ∷ after))) f.1
    ∙ ap (map_ok (λ facts. f.0 ∷ facts)) (behind_free sheet bs (n + 1) ds one after reason free.1 e)
    ∙ ap (λ k. Err (at (AtFact k) reason)) place

first_answered : (sheet : Sheet) (bs : List Binding) (n : ℕ) (ds : List Data) (r : Refusal) → RefusesOne sheet bs n ds r → all_or_first n (map (fact_outcome sheet bs) ds) ≡ Err r
first_answered sheet bs n ds r h =
    ap (λ x. all_or_first n (map (fact_outcome sheet bs) x)) h.are ∙ behind_free sheet bs n h.before h.object h.after h.reason h.free ((refused_is_least sheet bs h.object h.reason).1 h.refused) ∙ ap Err (sym h.answer)

is_above : (b : Bool) (d : Document) (r : Refusal) → cond b (Err (at AtDocument DisallowedDuplicates)) (Ok d) ≡ Err r → (b ≡ true) × (r ≡ at AtDocument DisallowedDuplicates)
is_above true d r e = (refl, cc)
is_above false d r e = absurd (cc)

module _ (sheet : Sheet) (bytes : List ℕ) (tree : Data) (read : json bytes ≡ Some tree) where
  held_by_facts : (o : Result (List Fact) Refusal) (r : Refusal) → document_refusal tree ≡ None → facts_said sheet (bindings_of tree) (facts_of tree) ≡ o → then_allowed (map_ok (document_with tree) o) ≡ Err r → RefusesFacts sheet bytes tree r
  held_by_facts (Err q) r none is e = let same : q ≡ r = cc in inl (first_is sheet (bindings_of tree) 1 (values (facts_of tree)) r (is ∙ ap Err same))
  held_by_facts (Ok fs) r none is e =
      let doc = document_with tree fs in
      let a = is_above (is_lt (level_cmp doc.level (level_of doc.facts))) doc r e in
      inr (all_free sheet (bindings_of tree) 1 (values (facts_of tree)) fs is, record { document = doc; said = document_is_said sheet bytes tree fs read none is; above = a.0; answer = a.1 })

  held_by_document : (o : Option Reason) (r : Refusal) → document_refusal tree ≡ o → unless_refused o (then_allowed (map_ok (document_with tree) (facts_said sheet (bindings_of tree) (facts_of tree)))) ≡ Err r → RefusesTree sheet bytes tree r
  held_by_document None r is e = inr ((none_is (document_holds tree)).0 is, held_by_facts (facts_said sheet (bindings_of tree) (facts_of tree)) r is refl e)
  held_by_document (Some reason) r is e = inl (reason, (least_is (document_holds tree) reason).0 is, cc)

  facts_answered : (r : Refusal) → document_refusal tree ≡ None → RefusesFacts sheet bytes tree r → then_allowed (map_ok (document_with tree) (facts_said sheet (bindings_of tree) (facts_of tree))) ≡ Err r
  facts_answered r none (inl one) = ap (λ o. then_allowed (map_ok (document_with tree) o)) (first_answered sheet (bindings_of tree) 1 (values (facts_of tree)) r one)
  facts_answered r none (inr h) =
      let fs = all_ok sheet (bindings_of tree) 1 (values (facts_of tree)) h.0 in
      let one : document_with tree fs.0 ≡ h.1.document = says_one_document sheet bytes (document_with tree fs.0) h.1.document (document_is_said sheet bytes tree fs.0 read none fs.1) h.1.said in
      ap (λ o. then_allowed (map_ok (document_with tree) o)) fs.1 ∙ ap (λ d. unless_above (level_of d.facts) d) one
      ∙ ap (λ b. cond b (Err (at AtDocument DisallowedDuplicates)) (Ok h.1.document)) h.1.above ∙ ap Err (sym h.1.answer)

  tree_answered : (r : Refusal) → RefusesTree sheet bytes tree r → tree_outcome sheet (Some tree) ≡ Err r
  tree_answered r (inl h) = ap (λ o. unless_refused o (then_allowed (map_ok (document_with tree) (facts_said sheet (bindings_of tree) (facts_of tree))))) ((least_is (document_holds tree) h.0).1 h.1) ∙ ap Err (sym h.2)
  tree_answered r (inr h) = ap (λ o. unless_refused o (then_allowed (map_ok (document_with tree) (facts_said sheet (bindings_of tree) (facts_of tree))))) ((none_is (document_holds tree)).1 h.0) ∙ facts_answered r ((none_is (document_holds tree)).1 h.0) h.1

held_by_read : (sheet : Sheet) (bytes : List ℕ) (o : Option Data) (r : Refusal) → json bytes ≡ o → tree_outcome sheet o ≡ Err r → Refuses sheet bytes r
held_by_read sheet bytes None r is e = inl (is, cc)
held_by_read sheet bytes (Some tree) r is e = inr (tree, is, held_by_document sheet bytes tree is (document_refusal tree) r refl e)

answered : (sheet : Sheet) (bytes : List ℕ) (r : Refusal) → Refuses sheet bytes r → tree_outcome sheet (json bytes) ≡ Err r
answered sheet bytes r (inl h) = ap (tree_outcome sheet) h.0 ∙ ap Err (sym h.1)
answered sheet bytes r (inr h) = ap (tree_outcome sheet) h.1 ∙ tree_answered sheet bytes h.0 h.1 r h.2

pub refused_where_held : RefusedWhereHeld
unfolding outcome
refused_where_held sheet bytes r = ((λ e. held_by_read sheet bytes (json bytes) r refl e), (λ h. answered sheet bytes r h))

-- ---- A report has faults exactly if it is refused, and the first fault is its refusal.

object_first : (sheet : Sheet) (bs : List Binding) (d : Data) → first (told (holds sheet bs d)) ≡ result_err (fact_outcome sheet bs d)
object_first sheet bs d = first_told (holds sheet bs d) ∙ answered_is_least sheet bs d

pub refused_least : (sheet : Sheet) (bs : List Binding) (d : Data) (r : Reason) → least (holds sheet bs d) ≡ Some r → fact_outcome sheet bs d ≡ Err r
refused_least sheet bs d r is = ap (λ o. fact_or o (option_and_then (said_fact sheet bs) (fact_parts d))) is

no_told : (place : Place) (rs : List Reason) → first_of (map (at place) rs) ≡ None → first rs ≡ None
no_told place [] e = refl
no_told place (r ∷ rs) e = absurd (cc)

-- a condition applies to an object of no fact
pub some_least : (sheet : Sheet) (bs : List Binding) (d : Data) → ((f : Fact) → fact_outcome sheet bs d ≢ Ok f) → least (holds sheet bs d) ≡ None → ⊥
some_least sheet bs d never none = let said = free_is_said sheet bs d ((none_is (holds sheet bs d)).0 none) in never said.0 said.1

pub no_document_fault : (tree : Data) → map (at AtDocument) (told (document_holds tree)) ≡ [] → document_refusal tree ≡ None
no_document_fault tree none = sym (first_told (document_holds tree)) ∙ no_told AtDocument (told (document_holds tree)) (ap first_of none)

none_first : (place : Place) (rs : List Reason) (later : List Refusal) → first rs ≡ None → first_of (map (at place) rs ++ later) ≡ first_of later
none_first place [] later h = refl
none_first place (r ∷ rs) later h = absurd (cc)

some_first : (place : Place) (rs : List Reason) (later : List Refusal) (r : Reason) → first rs ≡ Some r → first_of (map (at place) rs ++ later) ≡ Some (at place r)
some_first place [] later r h = absurd (cc)
some_first place (s ∷ rs) later r h = let same : s ≡ r = cc in ap (λ x. Some (at place x)) same

err_kept : {A B : Type 0} (g : A → B) (r : Result A Refusal) → result_err (map_ok g r) ≡ result_err r
err_kept g (Ok a) = refl
err_kept g (Err e) = refl

next_first : (n : ℕ) (rs : List Reason) (later : List Refusal) (o : Result Fact Reason) (os : List (Result Fact Reason)) → first rs ≡ result_err o → first_of later ≡ result_err (all_or_first (n + 1) os) → first_of (map (at (AtFact n)) rs ++ later) ≡ result_err (all_or_first n (o ∷ os))
next_first n rs later (Ok f) os here there = none_first (AtFact n) rs later here ∙ there ∙ sym (err_kept (λ fs. f ∷ fs) (all_or_first (n + 1) os))
next_first n rs later (Err r) os here there = some_first (AtFact n) rs later r here

facts_first : (sheet : Sheet) (bs : List Binding) (n : ℕ) (ds : List Data) → first_of (faults_from sheet bs n ds) ≡ result_err (all_or_first n (map (fact_outcome sheet bs) ds))
facts_first sheet bs n [] = refl
facts_first sheet bs n (d ∷ ds) = next_first n (told (holds sheet bs d)) (faults_from sheet bs (n + 1) ds) (fact_outcome sheet bs d) (map (fact_outcome sheet bs) ds) (object_first sheet bs d) (facts_first sheet bs (n + 1) ds)

none_else : (xs ys : List Refusal) → first_of xs ≡ None → or_else xs ys ≡ ys
none_else [] ys h = refl
none_else (x ∷ xs) ys h = absurd (cc)

some_else : (xs ys : List Refusal) (r : Refusal) → first_of xs ≡ Some r → first_of (or_else xs ys) ≡ Some r
some_else [] ys r h = absurd (cc)
some_else (x ∷ xs) ys r h = h

map_first : (place : Place) (rs : List Reason) (r : Reason) → first rs ≡ Some r → first_of (map (at place) rs) ≡ Some (at place r)
map_first place [] r h = absurd (cc)
map_first place (s ∷ rs) r h = let same : s ≡ r = cc in ap (λ x. Some (at place x)) same

map_none : (place : Place) (rs : List Reason) → first rs ≡ None → first_of (map (at place) rs) ≡ None
map_none place [] h = refl
map_none place (s ∷ rs) h = absurd (cc)

facts_are : (sheet : Sheet) (bs : List Binding) (n : ℕ) (ds : List Data) (fs : List Fact) → all_or_first n (map (fact_outcome sheet bs) ds) ≡ Ok fs → filter_map (λ d. option_and_then (said_fact sheet bs) (fact_parts d)) ds ≡ fs
facts_are sheet bs n [] fs e = cc
facts_are sheet bs n (d ∷ ds) fs e =
    let a = next n (fact_outcome sheet bs d) (map (fact_outcome sheet bs) ds) fs e in
    let here = ok_or (least (holds sheet bs d)) (option_and_then (said_fact sheet bs) (fact_parts d)) a.0 a.2 in
    (λ i. cons_option (here i) (facts_are sheet bs (n + 1) ds a.1 a.3 i)) ∙ a.4

one_level : (b : Bool) (d : Document) → first_of (if b then at AtDocument DisallowedDuplicates ∷ [] else []) ≡ result_err (if b then Err (at AtDocument DisallowedDuplicates) else Ok d)
one_level true d = refl
one_level false d = refl

no_err : {A : Type 0} (r : Result A Refusal) → None ≡ result_err r → (a : A) × (r ≡ Ok a)
no_err (Ok a) h = (a, refl)
no_err (Err e) h = absurd (cc)

module _ (sheet : Sheet) (tree : Data) where
  abbrev found : List Refusal
  found = faults_from sheet (bindings_of tree) 1 (values (facts_of tree))

  abbrev said : Result (List Fact) Refusal
  said = facts_said sheet (bindings_of tree) (facts_of tree)

  by_facts : (o : Result (List Fact) Refusal) → said ≡ o → first_of found ≡ result_err o → first_of (or_else found (level_faults sheet tree)) ≡ result_err (then_allowed (map_ok (document_with tree) o))
  by_facts (Ok fs) is same =
      ap first_of (none_else found _ same)
      ∙ ap (λ x. first_of (if is_lt (level_cmp (unwrap_or (level_said tree) AllLevel) (level_of x)) then at AtDocument DisallowedDuplicates ∷ [] else [])) (facts_are sheet (bindings_of tree) 1 (values (facts_of tree)) fs is)
      ∙ one_level (is_lt (level_cmp (unwrap_or (level_said tree) AllLevel) (level_of fs))) (document_with tree fs)
  by_facts (Err r) is same = some_else found _ r same

  by_document : (rs : List Reason) (o : Option Reason) (r : Result Document Refusal) (later : List Refusal) → first rs ≡ o → first_of later ≡ result_err r → first_of (or_else (map (at AtDocument) rs) later) ≡ result_err (unless_refused o r)
  by_document rs None r later same there = ap first_of (none_else (map (at AtDocument) rs) later (map_none AtDocument rs same)) ∙ there
  by_document rs (Some reason) r later same there = some_else (map (at AtDocument) rs) later (at AtDocument reason) (map_first AtDocument rs reason same)

  tree_first : first_of (tree_faults sheet tree) ≡ result_err (tree_outcome sheet (Some tree))
  tree_first =
      by_document (told (document_holds tree)) (document_refusal tree) (then_allowed (map_ok (document_with tree) said)) (or_else found (level_faults sheet tree)) (first_told (document_holds tree))
      (by_facts said refl (facts_first sheet (bindings_of tree) 1 (values (facts_of tree))))

  -- if no condition applies to a fact, all facts are said
  pub all_said : found ≡ [] → (fs : List Fact) × (said ≡ Ok fs)
  all_said free = no_err said (sym (ap first_of free) ∙ facts_first sheet (bindings_of tree) 1 (values (facts_of tree)))

  pub above_declared : (fs : List Fact) (level : Level) → said ≡ Ok fs → level_said tree ≡ Some level → is_above_level sheet tree ≡ is_lt (level_cmp level (level_of fs))
  above_declared fs level is declared =
      (λ i. is_lt (level_cmp (unwrap_or (declared i) AllLevel) (level_of (facts_are sheet (bindings_of tree) 1 (values (facts_of tree)) fs is i))))

no_first : (rs : List Refusal) → first_of rs ≡ None → rs ≡ []
no_first [] h = refl
no_first (r ∷ rs) h = absurd (cc)

pub accepted_has_none : (sheet : Sheet) (tree : Data) (d : Document) → tree_outcome sheet (Some tree) ≡ Ok d → tree_faults sheet tree ≡ []
accepted_has_none sheet tree d e = no_first (tree_faults sheet tree) (tree_first sheet tree ∙ ap result_err e)

by_read : (sheet : Sheet) (o : Option Data) → first_of (option_map_or (tree_faults sheet) o (at AtDocument NotJson ∷ [])) ≡ result_err (tree_outcome sheet o)
by_read sheet None = refl
by_read sheet (Some tree) = tree_first sheet tree

pub first_fault : FirstFaultIsAnswered
unfolding faults outcome
first_fault sheet bytes = by_read sheet (json bytes)

pub no_faults : NoFaultsWhereAccepted
no_faults sheet bytes = (
  (λ none. let d = no_err (outcome sheet bytes) (sym (ap first_of none) ∙ first_fault sheet bytes) in (d.0, (accepted_where_free sheet bytes d.0).0 d.1)),
  (λ some. no_first (faults sheet bytes) (first_fault sheet bytes ∙ ap result_err ((accepted_where_free sheet bytes some.0).1 some.1))),
)

-- ---- The definitions refuse no report or sheet for lack of memory.

no_least : (h : Reason → Bool) → h OutOfMemory ≡ false → IsLeast h OutOfMemory → ⊥
no_least h free l = let no : true ≡ false = sym l.holding ∙ free in absurd (cc)

pub fact_other : (sheet : Sheet) (bs : List Binding) (d : Data) → fact_outcome sheet bs d ≢ Err OutOfMemory
unfolding holds
fact_other sheet bs d e = no_least (holds sheet bs d) refl ((refused_is_least sheet bs d OutOfMemory).0 e)

same_reason : (p q : Place) (r s : Reason) → at p r ≡ at q s → s ≡ r
same_reason p q r s e = ap (λ (f : Refusal). f.reason) (sym e)

never_refuses : (sheet : Sheet) (bytes : List ℕ) (p : Place) → Refuses sheet bytes (at p OutOfMemory) → ⊥
unfolding holds document_holds
never_refuses sheet bytes p (inl h) = let same : NotJson ≡ OutOfMemory = same_reason p AtDocument _ _ h.1 in absurd (cc)
never_refuses sheet bytes p (inr (tree, read, inl h)) = no_least (document_holds tree) refl (subst (IsLeast (document_holds tree)) (same_reason p AtDocument _ _ h.2) h.1)
never_refuses sheet bytes p (inr (tree, read, inr (free, inl one))) =
    let holds = holds sheet (bindings_of tree) one.object in
    no_least holds refl (subst (IsLeast holds) (same_reason p (AtFact (1 + length one.before)) _ _ one.answer) one.refused)
never_refuses sheet bytes p (inr (tree, read, inr (free, inr h))) = let same : DisallowedDuplicates ≡ OutOfMemory = same_reason p AtDocument _ _ h.1.answer in absurd (cc)

pub outcomes_want_no_memory : OutcomesWantNoMemory
outcomes_want_no_memory sheet bytes place e = never_refuses sheet bytes place ((refused_where_held sheet bytes (at place OutOfMemory)).0 e)

no_sheet : (bytes : List ℕ) → RefusesSheet bytes OutOfMemory → ⊥
unfolding sheet_holds
no_sheet bytes (inl h) = let same : OutOfMemory ≡ NotJson = h.1 in absurd (cc)
no_sheet bytes (inr h) = no_least (sheet_holds h.0) refl h.2

pub sheet_outcomes_want_no_memory : SheetOutcomesWantNoMemory
sheet_outcomes_want_no_memory bytes e = no_sheet bytes ((sheet_refused_where_held bytes OutOfMemory).0 e)
