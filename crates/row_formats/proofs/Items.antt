-- The JSON arrays of facts: their items, and the tokens that write them.
use Rattle.row_formats.proofs.Shared.{◌≡◌, ℕ, suc, ◌+◌, List, [], ◌∷◌, ◌++◌, length, append_assoc, append-nil, false, Result, Ok, Err, codes, refl, sym, ap, ◌∙◌, arith, OnOk, on_ok_weaker, begin_array, begin_object, end_array, end_object, key, Data, array, object, Items, no_items, item, no_members, member, compact_text, items_outline, outline, Value, Adds, AddsMembers, AddsValue, Adds-is, Adds-none, Adds-one, Adds-trans, closed_object, then_member, evidence_member, fact_data, fact_items, item_tokens}
use Rattle.json.specs.Tree as tree
use Rattle.json.specs.Print.{print}
use Rattle.json.specs.Written.{Writes, Written}
use Rattle.oim_write.proofs.PieceTexts.{behind, item_is}

outlined : (ds : Items) → tree.items_tokens (items_outline ds) ≡ item_tokens ds ++ end_array ∷ []
outlined no_items = refl
outlined (item d ds) = ap (λ ts. tree.json_tokens (outline d) ++ ts) (outlined ds) ∙ sym (append_assoc (tree.json_tokens (outline d)) (item_tokens ds) (end_array ∷ []))

pub closed_array : {E : Type 0} {a b c d : Written} (r : Result (Unit {0}) E) (ds : Items) → Adds a b (begin_array ∷ []) → Adds b c (item_tokens ds) → Writes r c d end_array → OnOk r (AddsValue a d (array ds))
closed_array (Ok done) ds begun items closed = Adds-is (ap (λ ts. begin_array ∷ ts) (sym (outlined ds))) (Adds-trans begun (Adds-trans items (Adds-one closed)))
closed_array (Err e) ds begun items closed = tt

pub next_fact : (name : ℕ → List ℕ) (k : ℕ) (vs : List Value) (v : Value) (index : ℕ) → k + length vs ≡ index →
    item_tokens (fact_items name k (vs ++ v ∷ [])) ≡ item_tokens (fact_items name k vs) ++ tree.json_tokens (outline (fact_data (name index) v))
next_fact name k [] v index is = append-nil _ ∙ ap (λ i. tree.json_tokens (outline (fact_data (name i) v))) (omega (arith, is))
next_fact name k (w ∷ vs) v index is =
    let this = tree.json_tokens (outline (fact_data (name k) w)) in
    ap (λ ts. this ++ ts) (next_fact name (suc k) vs v index (omega (arith, is)))
    ∙ sym (append_assoc this (item_tokens (fact_items name (suc k) vs)) (tree.json_tokens (outline (fact_data (name index) v))))

-- the tokens of an evidence member: its key, then an object with one member
pub closed_evidence : {E : Type 0} {a b c e f g : Written} (r : Result (Unit {0}) E) (k : List ℕ) (d : Data) → Adds a b (key (codes "evidence") ∷ []) → Adds b c (begin_object ∷ []) → Adds c e (key k ∷ []) → AddsValue e f d → Writes r f g end_object → OnOk r (AddsMembers a g (evidence_member k d))
closed_evidence r k d name begun inner value closed =
    on_ok_weaker r (λ all. then_member (codes "evidence") (object (member k d no_members)) no_members name all Adds-none)
    (closed_object r (member k d no_members) begun (then_member k d no_members inner value Adds-none) closed)

-- a writer that begins with nothing produces the text of a value
pub whole_text : {begun done : Written} {text : List ℕ} (d : Data) → begun.before ≡ [] → begun.tokens ≡ [] → AddsValue begun done d → text ≡ done.before ++ print done.tokens → text ≡ compact_text d
whole_text {done = done} d before tokens added is = is ∙ item_is [] done.before false d done.tokens (added.before ∙ before) (behind _ added.tokens tokens)
