-- Schedules run one event after another.
use Rattle.oim_merge.proofs.Shared.{◌≡◌, ℕ, ◌+◌, ◌<◌, ◌≤◌, Bool, true, false, cond, List, [], ◌∷◌, ◌++◌, length, take, get_or, Option, Some, None, refl, sym, ap, subst, ◌∙◌, length-append, arith, append-nil, map, true≢false, filter, flat_map, flat_map-append, get_or_from_slice_get, slice_get_within, slice_get-get_or, IsBadAt, IsFirstBad, Machine, NoneIsBad, World, happens, is_send, names_none, numbered, receives, run, sent_by, start, world_after, Event, Send, Receive, take_all, take_more, All, Sheet, Refusal, Contents, each_by_there, from_map, IsReplayOf, Replay, refused_by, refused_takes, world_of, base_named, reached, wire}
use Rattle.oim_merge.proofs.Agreement.{agree, count}
use borrow.Author.Count.{below_more}

pub flat_map_next : {A B : Type 0} (f : A → List B) (xs : List A) (k : ℕ) (d : A) → k < length xs → flat_map f (take (k + 1) xs) ≡ flat_map f (take k xs) ++ (f (get_or xs k d) ++ [])
flat_map_next f xs k d h = ap (flat_map f) (take_more xs k d h) ∙ flat_map-append f (take k xs) (get_or xs k d ∷ [])

none_more : (n : ℕ) → n ≡ 0 + n
none_more n = omega arith

one_more : (n : ℕ) → n + 1 ≡ 1 + n
one_more n = omega arith

one_counted : (b : Bool) (e : Event) (es : List Event) → length (cond b (e ∷ es) es) ≡ cond b 1 0 + length es
one_counted true e es = omega arith
one_counted false e es = none_more (length es)

module _ {S M : Type 0} (machine : Machine S M) where
  run_last : (events : List Event) (event : Event) (world : World S M) → run machine (events ++ event ∷ []) world ≡ happens machine (run machine events world) event
  run_last [] event world = refl
  run_last (e ∷ es) event world = run_last es event (happens machine world e)

  pub run_next : (events : List Event) (k : ℕ) (d : Event) (world : World S M) → k < length events → run machine (take (k + 1) events) world ≡ happens machine (run machine (take k events) world) (get_or events k d)
  run_next events k d world h = ap (λ es. run machine es world) (take_more events k d h) ∙ run_last (take k events) (get_or events k d) world

  sent_receives : (world : World S M) (i : ℕ) (message : Option M) → length (receives machine world i message).sent ≡ length world.sent
  sent_receives world i None = refl
  sent_receives world i (Some message) = refl

  sent_happens : (world : World S M) (event : Event) → length (happens machine world event).sent ≡ cond (is_send event) 1 0 + length world.sent
  sent_happens world (Send i) = length-append world.sent _ ∙ one_more (length world.sent)
  sent_happens world (Receive i k) = sent_receives world i (numbered world.sent k) ∙ none_more (length world.sent)
  sent_happens world event = none_more (length world.sent)

  pub sent_run : (events : List Event) (world : World S M) → length (run machine events world).sent ≡ sent_by events + length world.sent
  sent_run [] world = none_more (length world.sent)
  sent_run (e ∷ es) world =
      let here = sent_happens world e in
      let rest = sent_run es (happens machine world e) in
      let next : length (run machine (e ∷ es) world).sent ≡ length (run machine es (happens machine world e)).sent = refl in
      let counted : sent_by (e ∷ es) ≡ cond (is_send e) 1 0 + sent_by es = one_counted (is_send e) e (filter is_send es) in
      omega (arith, here, rest, next, counted)

-- ---- bad events

module _ (n reports : ℕ) (events : List Event) where
  good_at : (k : ℕ) (d : Event) → names_none n reports (sent_by (take k events)) (get_or events k d) ≡ false → ¬ (IsBadAt n reports events k)
  good_at k d good bad =
      let is : get_or events k d ≡ bad.event = get_or_from_slice_get events k bad.event d bad.there in
      true≢false (sym bad.bad ∙ ap (names_none n reports (sent_by (take k events))) (sym is) ∙ good)

  pub good_next : (k : ℕ) (d : Event) → names_none n reports (sent_by (take k events)) (get_or events k d) ≡ false →
      ((before : ℕ) → before < k → ¬ (IsBadAt n reports events before)) → (before : ℕ) → before < k + 1 → ¬ (IsBadAt n reports events before)
  good_next k d good earlier = below_more (λ before. ¬ (IsBadAt n reports events before)) k earlier (good_at k d good)

  pub none_bad : (k : ℕ) → length events ≤ k → ((before : ℕ) → before < k → ¬ (IsBadAt n reports events before)) → NoneIsBad n reports events
  none_bad k ended earlier index bad = earlier index (omega (arith, ended, slice_get_within events index bad.event bad.there)) bad

  pub first_bad : (k : ℕ) (d : Event) → k < length events → names_none n reports (sent_by (take k events)) (get_or events k d) ≡ true →
      ((before : ℕ) → before < k → ¬ (IsBadAt n reports events before)) → IsFirstBad n reports events (k + 1)
  first_bad k d within bad earlier = record {
    index = k;
    line_is = refl;
    bad = record { event = get_or events k d; there = slice_get-get_or events k d within; bad = bad };
    earlier = earlier;
  }

-- ---- a replay

-- the first k events were run, and none of them is bad
pub record HasRun (sheet : Sheet) (n : ℕ) (reports : List (List ℕ)) (events : List Event) (k : ℕ) (bases : List Contents) (sent : List (List ℕ)) (returned : List (ℕ × Refusal)) : Type 0 where
  pub world : world_of bases sent ≡ world_after (wire sheet [] reports) n (take k events)
  pub refused : returned ≡ refused_takes sheet reports (take k events)
  pub earlier : (before : ℕ) → before < k → ¬ (IsBadAt n (length reports) events before)

module _ (sheet : Sheet) (n : ℕ) (reports : List (List ℕ)) (events : List Event) (k : ℕ) (bases : List Contents) (sent : List (List ℕ)) (returned : List (ℕ × Refusal)) (h : HasRun sheet n reports events k bases sent returned) where
  replicas_are : length bases ≡ n
  replicas_are = ap (λ (w : World Contents (List ℕ)). length w.replicas) h.world ∙ count (wire sheet [] reports) n (take k events)

  sent_are : length sent ≡ sent_by (take k events)
  sent_are = ap (λ (w : World Contents (List ℕ)). length w.sent) h.world ∙ sent_run (wire sheet [] reports) (take k events) (start (wire sheet [] reports) n) ∙ omega arith

  pub sheets_are : All (λ base. base.sheet ≡ sheet) bases
  sheets_are =
      let sets = (world_after (reached sheet reports) n (take k events)).replicas in
      subst (All (λ base. base.sheet ≡ sheet))
      (sym (ap (λ (w : World Contents (List ℕ)). w.replicas) h.world ∙ (agree sheet [] reports n (take k events)).replicas))
      (each_by_there (λ base. base.sheet ≡ sheet) (map (base_named sheet reports) sets) (λ base there. let from = from_map (base_named sheet reports) sets base there in ap (λ (b : Contents). b.sheet) (sym from.1.1)))

  names_are : (event : Event) → names_none (length bases) (length reports) (length sent) event ≡ names_none n (length reports) (sent_by (take k events)) event
  names_are event = λ t. names_none (replicas_are t) (length reports) (sent_are t) event

  pub run_further : (d : Event) (new : List Contents) (texts : List (List ℕ)) (refusals : List (ℕ × Refusal)) → k < length events →
      names_none (length bases) (length reports) (length sent) (get_or events k d) ≡ false →
      world_of new texts ≡ happens (wire sheet [] reports) (world_of bases sent) (get_or events k d) →
      refusals ≡ returned ++ refused_by sheet reports (get_or events k d) →
      HasRun sheet n reports events (k + 1) new texts refusals
  run_further d new texts refusals within good stepped appended = record {
    world = stepped ∙ ap (λ w. happens (wire sheet [] reports) w (get_or events k d)) h.world ∙ sym (run_next (wire sheet [] reports) events k d (start (wire sheet [] reports) n) within);
    refused = appended ∙ (λ t. h.refused t ++ sym (append-nil (refused_by sheet reports (get_or events k d))) t) ∙ sym (flat_map_next (refused_by sheet reports) events k d within);
    earlier = good_next n (length reports) events k d (sym (names_are (get_or events k d)) ∙ good) h.earlier;
  }

  pub run_ends : (d : Event) → k < length events → names_none (length bases) (length reports) (length sent) (get_or events k d) ≡ true → IsFirstBad n (length reports) events (k + 1)
  run_ends d within bad = first_bad n (length reports) events k d within (sym (names_are (get_or events k d)) ∙ bad) h.earlier

  pub run_whole : (replay : Replay) → length events ≤ k → replay.world ≡ world_of bases sent → replay.refused ≡ returned → IsReplayOf sheet n reports events replay
  run_whole replay ended world_is refused_is =
      let all : take k events ≡ events = take_all k events ended in
      let world : replay.world ≡ world_after (wire sheet [] reports) n events = world_is ∙ h.world ∙ ap (world_after (wire sheet [] reports) n) all in
      record {
        good = none_bad n (length reports) events k ended h.earlier;
        world = world;
        bases = ap (λ (w : World Contents (List ℕ)). w.replicas) world ∙ (agree sheet [] reports n events).replicas;
        count = ap (λ (w : World Contents (List ℕ)). length w.replicas) world ∙ count (wire sheet [] reports) n events;
        refusals = refused_is ∙ h.refused ∙ ap (refused_takes sheet reports) all;
      }
