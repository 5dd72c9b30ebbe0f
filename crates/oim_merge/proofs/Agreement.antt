-- Each replica that exchanges texts has the base, and says the same, as a new merge of the accepted reports that reached it since its
-- last restart.
use Rattle.oim_merge.proofs.Shared.{◌≡◌, ℕ, List, [], ◌++◌, Result, Ok, Err, refl, sym, ap, ◌∙◌, ⊎_elim, zero, suc, ◌-◌, ◌∷◌, map, length, get_or, set, replicate, Option, Some, None, subst, Contains, flat_map, option_map, nat_cmp_total, Any, flat_map-append, flat_map-map, exact_unsigned, SameMembers, Document, outcome, Sheet, Refusal, Body, body, union, Contents, Fits, IsAccepted, accepted_fits, body_ignores_order, body_of_both, each_by_there, first_or_later, in_flat_map, none_there, some_in_other, set_of_is_set, accepted, document_in, Numbers, base_named, both, documents_named, joined_with, report, Agree, ReplicasStay, WireAgrees, Writer, earlier, present, reached, text_by, text_chosen, wire, with_accepted, with_outcome, EqualSetsWriteTheSame, ReplicasSayAsAfresh, map-set, length-set, length-replicate, base_of, IsReadAsBody, Machine, World, happens, keeps, kept_by, numbered, receives, run, start, world_after, Event, Take, Join, Send, Receive, Restart, unwrap_or, slice_get-map, level_of, values_at, verdict, canonical, all_zipped_more}
use Rattle.std.proofs.Math.ListN.{get_or-map}
use Rattle.oim_merge.proofs.Histories.{earlier_texts_give_bodies, texts_give_bodies}
use Rattle.oim_merge.proofs.Zips.{AtBoth, zip_numbered}

-- ---- reports with numbers

module _ (sheet : Sheet) (reports : List (List ℕ)) where
  -- the document of the report with this number, if the report is accepted
  abbrev documents_at : ℕ → List Document
  documents_at r = document_in (outcome sheet (report reports r))

  named_is : (numbers : Numbers) → documents_named sheet reports numbers ≡ flat_map documents_at numbers
  named_is numbers = flat_map-map (λ bytes. document_in (outcome sheet bytes)) (report reports) numbers

  same_named : (a b : Numbers) → SameMembers (flat_map documents_at (both a b)) (flat_map documents_at (a ++ b))
  same_named a b d =
      let set = set_of_is_set nat_cmp_total exact_unsigned (a ++ b) in
      let first = in_flat_map documents_at (both a b) d in
      let second = in_flat_map documents_at (a ++ b) d in (
        λ h. second.1 (some_in_other (λ r. Contains (documents_at r) d) (both a b) (a ++ b) (λ r. (set.members r).0) (first.0 h)),
        λ h. first.1 (some_in_other (λ r. Contains (documents_at r) d) (a ++ b) (both a b) (λ r. (set.members r).1) (second.0 h)),
      )

  body_both : (a b : Numbers) → body (documents_named sheet reports (both a b)) ≡ union (body (documents_named sheet reports a)) (body (documents_named sheet reports b))
  body_both a b =
      ap body (named_is (both a b))
      ∙ body_ignores_order (flat_map documents_at (both a b)) (flat_map documents_at (a ++ b)) (same_named a b)
      ∙ ap body (flat_map-append documents_at a b)
      ∙ body_of_both (flat_map documents_at a) (flat_map documents_at b)
      ∙ (λ i. union (body (sym (named_is a) i)) (body (sym (named_is b) i)))

  pub base_both : (a b : Numbers) → base_named sheet reports (both a b) ≡ joined_with (base_named sheet reports a) (base_named sheet reports b)
  base_both a b = ap (λ (x : Body). let c : Contents = record { sheet = sheet; body = x } in c) (body_both a b)

-- ---- accepted documents fit their sheet

accepted_one : (sheet : Sheet) (bytes : List ℕ) (outcome_is : Result Document Refusal) (d : Document) → outcome sheet bytes ≡ outcome_is → Contains (document_in outcome_is) d → IsAccepted sheet d
accepted_one sheet bytes (Ok x) d is h = (bytes, is ∙ ap Ok (⊎_elim (λ e. e) (none_there d) (first_or_later x [] d h)))
accepted_one sheet bytes (Err r) d is h = none_there d h

pub reports_fit : (sheet : Sheet) (reports : List (List ℕ)) → Fits sheet (body (accepted sheet reports))
reports_fit sheet reports =
    accepted_fits sheet (accepted sheet reports) (each_by_there (IsAccepted sheet) (accepted sheet reports) (λ d there.
    let some = (in_flat_map (λ bytes. document_in (outcome sheet bytes)) reports d).0 there in
    accepted_some d reports some))
  where
    accepted_some : (d : Document) (reports : List (List ℕ)) → Any (λ bytes. Contains (document_in (outcome sheet bytes)) d) reports → IsAccepted sheet d
    accepted_some d reports some = accepted_one sheet some.1 (outcome sheet some.1) d refl some.4

-- ---- lists of one repeated element

map-replicate : {A B : Type 0} (f : A → B) (n : ℕ) (x : A) → replicate n (f x) ≡ map f (replicate n x)
map-replicate f zero x = refl
map-replicate f (suc n) x = ap (λ ys. f x ∷ ys) (map-replicate f n x)

-- ---- no event changes the number of replicas

module _ {S M : Type 0} (machine : Machine S M) where
  count-receives : (world : World S M) (i : ℕ) (message : Option M) → length (receives machine world i message).replicas ≡ length world.replicas
  count-receives world i None = refl
  count-receives world i (Some message) = length-set world.replicas (i - 1) _

  count-happens : (world : World S M) (event : Event) → length (happens machine world event).replicas ≡ length world.replicas
  count-happens world (Take i r) = length-set world.replicas (i - 1) _
  count-happens world (Join i j) = length-set world.replicas (i - 1) _
  count-happens world (Send i) = refl
  count-happens world (Receive i k) = count-receives world i (numbered world.sent k)
  count-happens world (Restart i) = length-set world.replicas (i - 1) _

  count-run : (events : List Event) (world : World S M) → length (run machine events world).replicas ≡ length world.replicas
  count-run [] world = refl
  count-run (event ∷ events) world = count-run events (happens machine world event) ∙ count-happens world event

  pub count : (n : ℕ) (events : List Event) → length (world_after machine n events).replicas ≡ n
  count n events = count-run events (start machine n) ∙ length-replicate n machine.fresh

pub replicas_stay : ReplicasStay
replicas_stay sheet writers reports n events = count (wire sheet writers reports) n events

-- ---- every event keeps the agreement

module _ (sheet : Sheet) (writers : List Writer) (reports : List (List ℕ)) where
  abbrev says : Numbers → Contents
  says numbers = base_named sheet reports numbers

  abbrev Says : List ℕ → Numbers → Type 0
  Says bytes numbers = IsReadAsBody sheet bytes (body (documents_named sheet reports numbers))

  abbrev sets_machine : Machine Numbers Numbers
  sets_machine = reached sheet reports

  abbrev bytes_machine : Machine Contents (List ℕ)
  bytes_machine = wire sheet writers reports

  abbrev Agreeing : World Numbers Numbers → World Contents (List ℕ) → Type 0
  Agreeing sets bases = Agree sheet reports sets bases

  says_kept : (sets : World Numbers Numbers) (bases : World Contents (List ℕ)) → Agreeing sets bases → (i : ℕ) → kept_by bytes_machine bases i ≡ says (kept_by sets_machine sets i)
  says_kept sets bases agree i = ap (λ xs. get_or xs (i - 1) (base_of sheet [])) agree.replicas ∙ get_or-map says sets.replicas (i - 1) []

  agree_keeps : (sets : World Numbers Numbers) (bases : World Contents (List ℕ)) → Agreeing sets bases → (i : ℕ) (numbers : Numbers) (base : Contents) → base ≡ says numbers → Agreeing (keeps sets_machine sets i numbers) (keeps bytes_machine bases i base)
  agree_keeps sets bases agree i numbers base is = record {
    replicas = (λ t. set (agree.replicas t) (i - 1) (is t)) ∙ sym (map-set says sets.replicas (i - 1) numbers);
    sent = agree.sent;
  }

  says_taken : (r : ℕ) (numbers : Numbers) (base : Contents) → base ≡ says numbers →
      with_outcome (outcome sheet (report reports r)) base ≡ says (with_accepted (outcome sheet (report reports r)) r numbers)
  says_taken r numbers base is = by_outcome (outcome sheet (report reports r)) refl
    where
      by_outcome : (o : Result Document Refusal) → outcome sheet (report reports r) ≡ o → with_outcome o base ≡ says (with_accepted o r numbers)
      by_outcome (Ok d) e =
          let one : says (r ∷ []) ≡ base_of sheet (d ∷ []) = ap (λ o. base_of sheet (document_in o ++ [])) e in
          (λ t. joined_with (is t) (sym one t)) ∙ sym (base_both sheet reports numbers (r ∷ []))
      by_outcome (Err f) e = is

  says_received : (bytes : List ℕ) (message : Numbers) → Says bytes message → (numbers : Numbers) (base : Contents) → base ≡ says numbers →
      with_outcome (outcome sheet bytes) base ≡ says (both numbers message)
  says_received bytes message said numbers base is =
      ap (λ o. with_outcome o base) said.read
      ∙ (λ t. record { sheet = (is t).sheet; body = union (is t).body (said.same t) })
      ∙ sym (base_both sheet reports numbers message)

  says_sent : (numbers : Numbers) (sent : ℕ) (base : Contents) → base ≡ says numbers → Says (text_chosen writers sent base.body) numbers
  says_sent numbers sent base is = subst (λ (c : Contents). Says (text_chosen writers sent c.body) numbers) (sym is) (by_writer (get_or writers sent present))
    where
      by_writer : (w : Writer) → Says (text_by w (says numbers).body) numbers
      by_writer present = texts_give_bodies sheet (body (documents_named sheet reports numbers)) (reports_fit sheet (map (report reports) numbers))
      by_writer earlier = earlier_texts_give_bodies sheet (body (documents_named sheet reports numbers)) (reports_fit sheet (map (report reports) numbers))

  agree_receives : (sets : World Numbers Numbers) (bases : World Contents (List ℕ)) → Agreeing sets bases → (i : ℕ) (bytes : Option (List ℕ)) (message : Option Numbers) →
      AtBoth Says bytes message → Agreeing (receives sets_machine sets i message) (receives bytes_machine bases i bytes)
  agree_receives sets bases agree i None None h = agree
  agree_receives sets bases agree i (Some bytes) (Some message) h = agree_keeps sets bases agree i _ _ (says_received bytes message h _ _ (says_kept sets bases agree i))
  agree_receives sets bases agree i o d h = absurd h

  agree_happens : (sets : World Numbers Numbers) (bases : World Contents (List ℕ)) → Agreeing sets bases → (event : Event) → Agreeing (happens sets_machine sets event) (happens bytes_machine bases event)
  agree_happens sets bases agree (Take i r) = agree_keeps sets bases agree i _ _ (says_taken r _ _ (says_kept sets bases agree i))
  agree_happens sets bases agree (Join i j) = agree_keeps sets bases agree i _ _ ((λ t. joined_with (says_kept sets bases agree i t) (says_kept sets bases agree j t)) ∙ sym (base_both sheet reports _ _))
  agree_happens sets bases agree (Send i) = record {
    replicas = agree.replicas;
    sent = all_zipped_more Says bases.sent sets.sent _ _ agree.sent (says_sent (kept_by sets_machine sets i) (length bases.sent) (kept_by bytes_machine bases i) (says_kept sets bases agree i));
  }
  agree_happens sets bases agree (Receive i k) = agree_receives sets bases agree i _ _ (zip_numbered Says bases.sent sets.sent agree.sent k)
  agree_happens sets bases agree (Restart i) = agree_keeps sets bases agree i [] (base_of sheet []) refl

  agree_run : (events : List Event) (sets : World Numbers Numbers) (bases : World Contents (List ℕ)) → Agreeing sets bases → Agreeing (run sets_machine events sets) (run bytes_machine events bases)
  agree_run [] sets bases agree = agree
  agree_run (event ∷ events) sets bases agree = agree_run events _ _ (agree_happens sets bases agree event)

  -- the agreement also holds after bad events
  pub agree : (n : ℕ) (events : List Event) → Agreeing (world_after sets_machine n events) (world_after bytes_machine n events)
  agree n events = agree_run events (start sets_machine n) (start bytes_machine n) (record { replicas = map-replicate says n []; sent = tt })

pub wire_agrees : WireAgrees
wire_agrees sheet writers reports n events good = agree sheet writers reports n events

-- ---- texts, verdicts, values and levels

numbered_map : {A B : Type 0} (f : A → B) (xs : List A) (i : ℕ) → numbered (map f xs) i ≡ option_map f (numbered xs i)
numbered_map f xs zero = refl
numbered_map f xs (suc k) = slice_get-map f xs k

module _ (sheet : Sheet) (writers : List Writer) (reports : List (List ℕ)) (n : ℕ) (events : List Event) where
  base_is : (i : ℕ) (numbers : Numbers) (base : Contents) →
      numbered (world_after (reached sheet reports) n events).replicas i ≡ Some numbers →
      numbered (world_after (wire sheet writers reports) n events).replicas i ≡ Some base →
      base ≡ base_named sheet reports numbers
  base_is i numbers base set there =
      let same : Some base ≡ Some (base_named sheet reports numbers) =
      sym there
      ∙ ap (λ bs. numbered bs i) (agree sheet writers reports n events).replicas
      ∙ numbered_map (base_named sheet reports) (world_after (reached sheet reports) n events).replicas i
      ∙ ap (option_map (base_named sheet reports)) set in
      ap (λ o. unwrap_or o base) same

pub replicas_say_as_afresh : ReplicasSayAsAfresh
replicas_say_as_afresh sheet writers reports n events good i numbers base set there =
    let is : base.body ≡ body (documents_named sheet reports numbers) = ap (λ (c : Contents). c.body) (base_is sheet writers reports n events i numbers base set there) in
    record {
      bytes = ap canonical is;
      verdicts = λ d. ap (λ (b : Body). verdict b.facts d) is;
      values = λ d. ap (λ (b : Body). values_at d b.facts) is;
      level = ap (λ (b : Body). level_of b.facts) is;
    }

pub equal_sets_write_the_same : EqualSetsWriteTheSame
equal_sets_write_the_same sheet writers reports n events good i j numbers base other set same there others =
    let first = base_is sheet writers reports n events i numbers base set there in
    let second = base_is sheet writers reports n events j numbers other same others in
    ap (λ (c : Contents). canonical c.body) (first ∙ sym second)
