use Rattle.oim_report.proofs.Shared.{rules, ◌≡◌, ℕ, List, Some, option_map, Err, IfErr, IfOk, Ok, Result, refl, sym, ap, ◌∙◌, subst, BeginsWith, Json, document, Members, no_members, alone, HasMember, IsPiece, put_all, AreMore, append, with_rest, Scope, AreData, one, FactsSoFar}
use Rattle.json.specs.Json as j
use Rattle.oim_report.proofs.FoundInOrder.{none_found, none_ranked}
use Rattle.oim_report.proofs.PiecesInTurn.{one_more, last_one}
use Rattle.oim_report.proofs.TapedFacts.{piece_of_facts}
use Rattle.oim_report.proofs.pieces.facts_in_pieces.read_facts_in_pieces.Goals as goal

-- the piece has members, which were added
record IsRead (s now : Scope) (piece : List ℕ) (old new : FactsSoFar) : Type 0 where
  pub ms : Members
  pub piece_is : IsPiece piece (put_all ms no_members)
  pub more : AreMore s.sheet s.aliases ms old new

read_piece : (s now : Scope) (piece : List ℕ) (old new : FactsSoFar) (v : Json) → document (alone piece) ≡ Some v → now ≡ s → ((vs : j.Members) × (v ≡ one vs) × (ms : Members) × AreData vs ms × HasMember ms × AreMore now.sheet now.aliases ms old new) → IsRead s now piece old new
read_piece s now piece old new v e same h = record {
  ms = h.2;
  piece_is = piece_of_facts piece h.0 h.2 (e ∙ ap (λ x. Some x) h.1) h.3 h.4;
  more = subst (λ (r : Scope). AreMore r.sheet r.aliases h.2 old new) same h.5;
}

pub loop-init : goal.loop-init
loop-init c =
    let sheet = c.args.reader.now.sheet in
    let bs = c.args.reader.now.aliases in
    (search rules, no_members, refl, (none_found sheet bs _ _ c.new.ensures.identifiers c.new.ensures.facts, none_ranked sheet.concepts _ _ c.new.ensures.facts c.new.ensures.ranks), refl)

pub loop-preserved : goal.loop-preserved
loop-preserved c =
    let s = c.args.reader.now in
    let l = c.loop in
    let objects = l.invariant.1 in
    let piece = c.split_piece.result.0.now in
    let splits : l.left.now ≡ with_rest piece (option_map (λ r. r.now) c.split_piece.result.1) = c.split_piece.ensures in
    let next = splits ∙ ap (λ r. with_rest piece (option_map (λ r. r.now) r)) c.in-Some.is in
    let v = c.in-Ok.ensures in
    let begins = subst (λ t. BeginsWith t v.0) (sym c.root.ensures.same) v.2 in
    let read = read_piece s l.reader piece l.facts c.read_objects.new.facts v.0 v.1 l.invariant.4 (c.in_ok-read_objects-in-Ok.ensures.more v.0 begins) in (
      search rules,
      append objects read.ms,
      one_more c.args.text.now l.left.now piece c.in-Some.rest.now objects read.ms l.invariant.2 next read.piece_is,
      read.more objects l.invariant.3,
      c.read_objects.ensures.same ∙ l.invariant.4,
    )

ok_weaker : {A E F : Type 0} (r : Result (Result A E) F) (P Q : A → Type 0) → ((a : A) → P a → Q a) → IfOk r (λ o. IfOk o P) → IfOk r (λ o. IfOk o Q)
ok_weaker (Ok (Ok a)) P Q f h = f a h
ok_weaker (Ok (Err e)) P Q f h = tt
ok_weaker (Err x) P Q f h = tt

err_weaker : {A E F : Type 0} (r : Result (Result A E) F) (P Q : E → Type 0) → ((e : E) → P e → Q e) → IfOk r (λ o. IfErr o P) → IfOk r (λ o. IfErr o Q)
err_weaker (Ok (Ok a)) P Q f h = tt
err_weaker (Ok (Err e)) P Q f h = f e h
err_weaker (Err x) P Q f h = tt

pub returns-in-None-clause-found : goal.returns-in-None-clause-found
returns-in-None-clause-found c =
    let s = c.args.reader.now in
    let l = c.loop in
    let objects = l.invariant.1 in
    let piece = c.split_piece.result.0.now in
    let splits : l.left.now ≡ with_rest piece (option_map (λ r. r.now) c.split_piece.result.1) = c.split_piece.ensures in
    let last = splits ∙ ap (λ r. with_rest piece (option_map (λ r. r.now) r)) c.in-None.is in
    let v = c.in-Ok.ensures in
    let begins = subst (λ t. BeginsWith t v.0) (sym c.root.ensures.same) v.2 in
    let read = read_piece s l.reader piece l.facts c.read_objects.new.facts v.0 v.1 l.invariant.4 (c.in_ok-read_objects-in-Ok.ensures.more v.0 begins) in
    let all = append objects read.ms in
    let whole = last_one c.args.text.now l.left.now piece objects read.ms l.invariant.2 last read.piece_is in
    ok_weaker c.in_order.result _ _ (λ f found. (put_all all no_members, whole, found s.sheet s.aliases all (read.more objects l.invariant.3))) c.in_order.ensures.found

pub returns-in-None-clause-ranks : goal.returns-in-None-clause-ranks
returns-in-None-clause-ranks c =
    let s = c.args.reader.now in
    let l = c.loop in
    let objects = l.invariant.1 in
    let v = c.in-Ok.ensures in
    let begins = subst (λ t. BeginsWith t v.0) (sym c.root.ensures.same) v.2 in
    let read = read_piece s l.reader c.split_piece.result.0.now l.facts c.read_objects.new.facts v.0 v.1 l.invariant.4 (c.in_ok-read_objects-in-Ok.ensures.more v.0 begins) in
    ok_weaker c.in_order.result _ _ (λ f ranks. ranks s.sheet s.aliases (append objects read.ms) (read.more objects l.invariant.3)) c.in_order.ensures.ranks

pub returns-in-None-clause-refused : goal.returns-in-None-clause-refused
returns-in-None-clause-refused c =
    let s = c.args.reader.now in
    let l = c.loop in
    let objects = l.invariant.1 in
    let piece = c.split_piece.result.0.now in
    let splits : l.left.now ≡ with_rest piece (option_map (λ r. r.now) c.split_piece.result.1) = c.split_piece.ensures in
    let last = splits ∙ ap (λ r. with_rest piece (option_map (λ r. r.now) r)) c.in-None.is in
    let v = c.in-Ok.ensures in
    let begins = subst (λ t. BeginsWith t v.0) (sym c.root.ensures.same) v.2 in
    let read = read_piece s l.reader piece l.facts c.read_objects.new.facts v.0 v.1 l.invariant.4 (c.in_ok-read_objects-in-Ok.ensures.more v.0 begins) in
    let all = append objects read.ms in
    let whole = last_one c.args.text.now l.left.now piece objects read.ms l.invariant.2 last read.piece_is in
    err_weaker c.in_order.result _ _ (λ r refused. (put_all all no_members, whole, refused s.sheet s.aliases all (read.more objects l.invariant.3))) c.in_order.ensures.refused
