-- How one event changes a list of bases, cached readings, and sent texts that are stored once.
use Rattle.oim_merge.proofs.Shared.{◌≡◌, ◌≢◌, ℕ, zero, suc, ◌-◌, ◌<◌, ◌≤◌, ◌||◌, false, List, [], ◌++◌, length, get_or, set, Some, sym, ap, ◌∙◌, arith, ◌∷◌, length-append, replicate, Bor, Option, None, MatchOption, HoldsAt, option_map, Result, Ok, Err, refl, subst, true≢false, set-set, get_or-append_seam, or_parts, nat_tests, get_or_default, get_or-set_other, length-set, set_comm, set-get_or, get_or_append_left, Contents, union_itself, outcome, Sheet, base_of, world_of, texts_at, joined_with, wire, with_outcome, happens, is_outside, names_none, numbered, receives, Event, Receive, Send, IfOk, AllZip, result_err, slice_get-map, slice_get-get_or, Document, Refusal, canonical, AreWithin, IsCurrent, IsTextAt, Stay, AreReadings, IsReadingOf, read_as, with_read, all_zipped_more, AllZip-long}
use Rattle.fact_base.specs.BodyLaws.{IsBody}
use Rattle.oim_merge.proofs.Zips.{zip_at, zip_both, zip_same, zip_set, zip_weaker}

-- ---- joins

joined_itself : (base : Contents) → IsBody base.body → base ≡ joined_with base base
joined_itself base rises = λ i. record { sheet = base.sheet; body = union_itself base.body rises i }

pub read_default : {A : Type 0} (xs : List A) (i : ℕ) (x d : A) → i < length xs → x ≡ get_or xs i x → x ≡ get_or xs i d
read_default xs i x d within is = is ∙ get_or_default xs i x d within

pub set_itself : (bases : List Contents) (i : ℕ) (base new : Contents) → i < length bases → base ≡ get_or bases i base → new ≡ base → set bases i new ≡ bases
set_itself bases i base new within read same = ap (set bases i) (same ∙ read) ∙ set-get_or bases i base

pub joins_itself : (bases : List Contents) (i j : ℕ) (base fresh : Contents) → i ≡ j → i < length bases → base ≡ get_or bases i base → IsBody base.body →
    bases ≡ set bases i (joined_with (get_or bases i fresh) (get_or bases j fresh))
joins_itself bases i j base fresh is within read rises =
    let there = read_default bases i base fresh within read in
    sym (set-get_or bases i fresh)
    ∙ ap (set bases i) (sym there ∙ joined_itself base rises ∙ (λ t. joined_with (there t) ((there ∙ ap (λ k. get_or bases k fresh) is) t)))

-- if another base leaves the list, is joined and returns, the list is the same as after a join in place
pub joins_other : (bases : List Contents) (i j : ℕ) (left base other joined fresh : Contents) → i ≢ j → i < length bases →
    other ≡ get_or bases j fresh → base ≡ get_or (set bases j left) i base → joined ≡ joined_with base other →
    set (set (set bases j left) i joined) j other ≡ set bases i (joined_with (get_or bases i fresh) (get_or bases j fresh))
joins_other bases i j left base other joined fresh apart within there read is =
    let long : length (set bases j left) ≡ length bases = length-set bases j left in
    let mine = read_default (set bases j left) i base fresh (omega (arith, long, within)) read ∙ get_or-set_other bases j i left fresh apart in
    let more = set bases i joined in
    ap (λ bs. set bs j other) (set_comm bases j i left joined (λ e. apart (sym e)))
    ∙ set-set more j left other
    ∙ ap (set more j) (there ∙ sym (get_or-set_other bases i j joined fresh (λ e. apart (sym e))))
    ∙ set-get_or more j fresh
    ∙ ap (set bases i) (is ∙ (λ t. joined_with (mine t) (there t)))

-- ---- sends and receives

pub names_good : (replicas reports sent : ℕ) (event other : Event) → event ≡ other → names_none replicas reports sent event ≡ false → names_none replicas reports sent other ≡ false
names_good replicas reports sent event other is good = sym (ap (names_none replicas reports sent) is) ∙ good

number_within : (greatest number : ℕ) → is_outside greatest number ≡ false → number - 1 < greatest
number_within greatest zero inside = absurd (true≢false inside)
number_within greatest (suc index) inside = let least : suc index ≤ greatest = grind (arith, nat_tests) in omega (arith, least)

pub sender_within : (replicas reports sent : ℕ) (event : Event) (i : ℕ) → event ≡ Send i → names_none replicas reports sent event ≡ false → i - 1 < replicas
sender_within replicas reports sent event i is good = number_within replicas i (names_good replicas reports sent event (Send i) is good)

pub receiver_within : (replicas reports sent : ℕ) (event : Event) (i k : ℕ) → event ≡ Receive i k → names_none replicas reports sent event ≡ false → i - 1 < replicas
receiver_within replicas reports sent event i k is good =
    number_within replicas i (or_parts (is_outside replicas i) (is_outside sent k) (names_good replicas reports sent event (Receive i k) is good)).0

numbered_there : {A : Type 0} (xs : List A) (number : ℕ) (d : A) → is_outside (length xs) number ≡ false → numbered xs number ≡ Some (get_or xs (number - 1) d)
numbered_there xs zero d inside = absurd (true≢false inside)
numbered_there xs (suc index) d inside =
    let within = number_within (length xs) (suc index) inside in
    let before : index ≡ suc index - 1 = omega arith in
    slice_get-get_or xs index d (omega (arith, within)) ∙ ap (λ k. Some (get_or xs k d)) before

-- a send keeps each base and adds the text of the sender's base
pub sends_text : (sheet : Sheet) (reports : List (List ℕ)) (bases : List Contents) (sent : List (List ℕ)) (i : ℕ) (base new : Contents) (after : List (List ℕ)) →
    i - 1 < length bases → base ≡ get_or bases (i - 1) base → new ≡ base → after ≡ sent ++ canonical base.body ∷ [] →
    world_of (set bases (i - 1) new) after ≡ happens (wire sheet [] reports) (world_of bases sent) (Send i)
sends_text sheet reports bases sent i base new after within read same is =
    let fresh = base_of sheet [] in
    let there : base ≡ get_or bases (i - 1) fresh = read_default bases (i - 1) base fresh within read in
    λ t. world_of (set_itself bases (i - 1) base new within read same t) ((is ∙ ap (λ (b : Contents). sent ++ canonical b.body ∷ []) there) t)

-- putting back a base that received a text gives the world after the event `Receive`
pub receives_text : (sheet : Sheet) (reports : List (List ℕ)) (bases : List Contents) (sent : List (List ℕ)) (i k : ℕ) (base given : Contents) (more : List Contents) (after : List (List ℕ)) →
    (is_outside (length bases) i || is_outside (length sent) k) ≡ false → base ≡ get_or bases (i - 1) base →
    given ≡ with_outcome (outcome sheet (get_or sent (k - 1) [])) base → more ≡ set bases (i - 1) given → after ≡ sent →
    world_of more after ≡ happens (wire sheet [] reports) (world_of bases sent) (Receive i k)
receives_text sheet reports bases sent i k base given more after inside read is changed same =
    let parts = or_parts (is_outside (length bases) i) (is_outside (length sent) k) inside in
    let fresh = base_of sheet [] in
    let said = outcome sheet (get_or sent (k - 1) []) in
    let there : base ≡ get_or bases (i - 1) fresh = read_default bases (i - 1) base fresh (number_within (length bases) i parts.0) read in
    let changes : more ≡ set bases (i - 1) (with_outcome said (get_or bases (i - 1) fresh)) = changed ∙ ap (set bases (i - 1)) (is ∙ ap (with_outcome said) there) in
    let world : world_of more after ≡ receives (wire sheet [] reports) (world_of bases sent) i (Some (get_or sent (k - 1) [])) = λ t. world_of (changes t) (same t) in
    world ∙ ap (receives (wire sheet [] reports) (world_of bases sent) i) (sym (numbered_there sent k [] parts.1))

-- ---- cached readings

pub with_read_is : (sheet : Sheet) (said : Result Document Refusal) (base : Contents) → with_read (read_as sheet said) base ≡ with_outcome said base
with_read_is sheet (Ok d) base = refl
with_read_is sheet (Err refusal) base = refl

pub refusal_is : (sheet : Sheet) (said : Result Document Refusal) → result_err (read_as sheet said) ≡ result_err said
refusal_is sheet (Ok d) = refl
refusal_is sheet (Err refusal) = refl

pub sheet_is : (sheet : Sheet) (said : Result Document Refusal) → IfOk (read_as sheet said) (λ read. read.sheet ≡ sheet)
sheet_is sheet (Ok d) = refl
sheet_is sheet (Err refusal) = tt

module _ (sheet : Sheet) (texts : List (List ℕ)) (kept : List (Option (Result Contents Refusal))) (each : AreReadings sheet texts kept) (index : ℕ) (there : index < length texts) where
  pub kept_there : index < length kept
  kept_there = let long = AllZip-long (IsReadingOf sheet) texts kept each in omega (arith, there, long)

  pub kept_is : (found : Option (Result Contents Refusal)) (read : Result Contents Refusal) → get_or kept index found ≡ Some read → read ≡ read_as sheet (outcome sheet (get_or texts index []))
  kept_is found read is = subst (IsReadingOf sheet (get_or texts index [])) is (zip_at (IsReadingOf sheet) texts kept each index [] found there)

pub kept_long : (sheet : Sheet) (texts : List (List ℕ)) (kept more : List (Option (Result Contents Refusal))) → AreReadings sheet texts kept → AreReadings sheet texts more → length more ≡ length kept
kept_long sheet texts kept more before after = AllZip-long (IsReadingOf sheet) texts more after ∙ sym (AllZip-long (IsReadingOf sheet) texts kept before)

pub none_is_kept : (sheet : Sheet) (texts : List (List ℕ)) → AreReadings sheet texts (replicate (length texts) None)
none_is_kept sheet texts = zip_same (IsReadingOf sheet) texts None (λ text. tt)

-- ---- sent texts

pub among_more : (texts : List (List ℕ)) (text : List ℕ) (sent : List ℕ) → AreWithin texts sent → texts_at (texts ++ text ∷ []) sent ≡ texts_at texts sent
among_more texts text [] within = refl
among_more texts text (index ∷ sent) within =
    let here : index < length texts = within 0 0 (omega arith) in
    let rest = among_more texts text sent (λ k d less. within (suc k) d (omega (arith, less))) in
    λ i. get_or_append_left texts (text ∷ []) [] index here i ∷ rest i

module _ (texts : List (List ℕ)) (sent : List ℕ) (text : List ℕ) where
  pub stands_last : IsTextAt (texts ++ text ∷ []) text (length texts)
  stands_last =
      let longer = length-append texts (text ∷ []) in
      (omega (arith, longer), get_or-append_seam texts text [] [])

  pub within_longer : AreWithin texts sent → AreWithin (texts ++ text ∷ []) sent
  within_longer within k d less =
      let earlier = within k d less in
      let longer = length-append texts (text ∷ []) in
      omega (arith, earlier, longer)

-- ---- the current text of each replica

pub stay_with_more : (texts : List (List ℕ)) (text : List ℕ) → Stay texts (texts ++ text ∷ [])
stay_with_more texts text other index there =
    let longer = length-append texts (text ∷ []) in
    let here = there.0 in
    (omega (arith, here, longer), get_or_append_left texts (text ∷ []) [] index here ∙ there.1)

still_current : (texts more : List (List ℕ)) → Stay texts more → (base : Contents) (index : Option ℕ) → IsCurrent texts base index → IsCurrent more base index
still_current texts more stay base None is = tt
still_current texts more stay base (Some index) is = stay (canonical base.body) index is

pub current_at : (texts : List (List ℕ)) (bases : List Contents) (indices : List (Option ℕ)) → AllZip (IsCurrent texts) bases indices →
    (k : ℕ) (base : Contents) (index : Option ℕ) → k < length bases → base ≡ get_or bases k base → index ≡ get_or indices k index → IsCurrent texts base index
current_at texts bases indices each k base index within there known =
    subst (λ b. IsCurrent texts b index) (sym there)
    (subst (IsCurrent texts (get_or bases k base)) (sym known) (zip_at (IsCurrent texts) bases indices each k base index within))

pub current_after_send : (texts more : List (List ℕ)) (bases : List Contents) (indices : List (Option ℕ)) → AllZip (IsCurrent texts) bases indices → Stay texts more →
    (k : ℕ) (base : Contents) (index : Option ℕ) → base ≡ get_or bases k base → IsCurrent more base index → AllZip (IsCurrent more) bases (set indices k index)
current_after_send texts more bases indices each stay k base index there is =
    zip_set (IsCurrent more) bases indices (zip_weaker (IsCurrent texts) (IsCurrent more) (still_current texts more stay) bases indices each) k base index
    (subst (λ b. IsCurrent more b index) there is)

pub current_after_receive : (texts : List (List ℕ)) (bases more : List Contents) (indices left : List (Option ℕ)) → AllZip (IsCurrent texts) bases indices →
    (k : ℕ) (base : Contents) (index : Option ℕ) → IsCurrent texts base index → more ≡ set bases k base → left ≡ set indices k index → AllZip (IsCurrent texts) more left
current_after_receive texts bases more indices left each k base index is changed known =
    subst (λ bs. AllZip (IsCurrent texts) bs left) (sym changed)
    (subst (AllZip (IsCurrent texts) (set bases k base)) (sym known) (zip_both (IsCurrent texts) bases indices each k base index is))

pub current_after_change : (texts : List (List ℕ)) (bases more : List Contents) (indices left : List (Option ℕ)) → AllZip (IsCurrent texts) bases indices →
    (k : ℕ) (base : Contents) → more ≡ set bases k base → left ≡ set indices k None → AllZip (IsCurrent texts) more left
current_after_change texts bases more indices left each k base changed forgotten = current_after_receive texts bases more indices left each k base None tt changed forgotten

pub none_is_current : (texts : List (List ℕ)) (n : ℕ) (base : Contents) → AllZip (IsCurrent texts) (replicate n base) (replicate n None)
none_is_current texts zero base = tt
none_is_current texts (suc n) base = (tt, none_is_current texts n base)

pub kept_new : (sheet : Sheet) (texts : List (List ℕ)) (kept : List (Option (Result Contents Refusal))) (text : List ℕ) → AreReadings sheet texts kept → AreReadings sheet (texts ++ text ∷ []) (kept ++ None ∷ [])
kept_new sheet texts kept text each = all_zipped_more (IsReadingOf sheet) texts kept text None each tt

-- `sent` has the index in `texts` of each sent text, so looking up a number in `sent` and the index in `texts` finds the text
pub text_of_number : (texts : List (List ℕ)) (sent : List ℕ) (number before held : ℕ) (text : Option (Bor (List ℕ))) → AreWithin texts sent → number ≡ suc before → before < length sent → held ≡ get_or sent before held →
    MatchOption text (length texts ≤ held) (λ t. (held < length texts) × HoldsAt (λ y. t.now ≡ y) texts held) →
    MatchOption text (numbered (texts_at texts sent) number ≡ None) (λ t. numbered (texts_at texts sent) number ≡ Some t.now)
text_of_number texts sent number before held None within is there read past =
    let below : held < length texts = subst (λ h. h < length texts) (sym read) (within before held there) in
    absurd (omega (arith, below, past))
text_of_number texts sent number before held (Some t) within is there read found =
    ap (numbered (texts_at texts sent)) is
    ∙ slice_get-map (λ index. get_or texts index []) sent before
    ∙ ap (option_map (λ index. get_or texts index [])) (slice_get-get_or sent before held there ∙ ap Some (sym read))
    ∙ ap Some (sym (found.1 []))
