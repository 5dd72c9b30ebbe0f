-- The tokens of an object: the tokens of its members, between the tokens of the braces.
use Rattle.oim_write.proofs.Shared.{◌≡◌, List, [], ◌∷◌, ◌++◌, append_assoc, append-nil, Option, Some, None, Result, Ok, Err, refl, sym, ap, ◌∙◌, ℕ, OnOk, Token, begin_object, end_object, key, Data, object, Members, no_members, member, members_outline, outline, QName, Value, Number, Member, member_data, decimals_member, defined_members, text_member, Adds, AddsValue, AddsMembers, members_tokens}
use Rattle.json.specs.Tree as tree
use Rattle.json.specs.Written.{Writes, Written}

outlined : (ms : Members) → tree.members_tokens (members_outline ms) ≡ members_tokens ms ++ end_object ∷ []
outlined no_members = refl
outlined (member k d ms) = ap (λ ts. key k ∷ (tree.json_tokens (outline d) ++ ts)) (outlined ms) ∙ ap (λ ts. key k ∷ ts) (sym (append_assoc (tree.json_tokens (outline d)) (members_tokens ms) (end_object ∷ [])))

pub object_tokens : (ms : Members) → tree.json_tokens (outline (object ms)) ≡ begin_object ∷ (members_tokens ms ++ end_object ∷ [])
object_tokens ms = ap (λ ts. begin_object ∷ ts) (outlined ms)

pub text_tokens : (k : List ℕ) (o : Option (List ℕ)) (ms : Members) → members_tokens (text_member k o ms) ≡ members_tokens (text_member k o no_members) ++ members_tokens ms
text_tokens k None ms = refl
text_tokens k (Some t) ms = refl

pub decimals_tokens : (v : Value) (ms : Members) → members_tokens (decimals_member v ms) ≡ members_tokens (decimals_member v no_members) ++ members_tokens ms
decimals_tokens (Number units (Some d)) ms = refl
decimals_tokens v ms = refl

module _ (spelled : QName → List ℕ) where
  pub defined_tokens : (es : List (QName × Member)) (ms : Members) → members_tokens (defined_members spelled es ms) ≡ members_tokens (defined_members spelled es no_members) ++ members_tokens ms
  defined_tokens [] ms = refl
  defined_tokens (e ∷ es) ms =
      ap (λ ts. key (spelled e.0) ∷ (tree.json_tokens (outline (member_data spelled e.1)) ++ ts)) (defined_tokens es ms)
      ∙ ap (λ ts. key (spelled e.0) ∷ ts) (sym (append_assoc (tree.json_tokens (outline (member_data spelled e.1))) (members_tokens (defined_members spelled es no_members)) (members_tokens ms)))

  pub defined_next : (es : List (QName × Member)) (e : QName × Member) →
      members_tokens (defined_members spelled (es ++ e ∷ []) no_members)
      ≡ members_tokens (defined_members spelled es no_members) ++ key (spelled e.0) ∷ tree.json_tokens (outline (member_data spelled e.1))
  defined_next [] e = ap (λ ts. key (spelled e.0) ∷ ts) (append-nil _)
  defined_next (f ∷ es) e =
      ap (λ ts. key (spelled f.0) ∷ (tree.json_tokens (outline (member_data spelled f.1)) ++ ts)) (defined_next es e)
      ∙ ap (λ ts. key (spelled f.0) ∷ ts) (sym (append_assoc (tree.json_tokens (outline (member_data spelled f.1))) (members_tokens (defined_members spelled es no_members)) _))

-- ---- tokens that are appended to earlier tokens

pub Adds-is : {a b : Written} {ts us : List Token} → ts ≡ us → Adds a b ts → Adds a b us
Adds-is {a = a} is added = record { tokens = added.tokens ∙ ap (λ xs. a.tokens ++ xs) is; before = added.before }

pub Adds-trans : {a b c : Written} {ts us : List Token} → Adds a b ts → Adds b c us → Adds a c (ts ++ us)
Adds-trans {a = a} {ts = ts} {us = us} first second = record {
  tokens = second.tokens ∙ ap (λ xs. xs ++ us) first.tokens ∙ append_assoc a.tokens ts us;
  before = second.before ∙ first.before;
}

pub Adds-none : {a : Written} → Adds a a []
Adds-none {a} = record { tokens = sym (append-nil a.tokens); before = refl }

pub Adds-one : {E : Type 0} {a b : Written} {t : Token} {done : Unit {0}} → Writes {E = E} (Ok done) a b t → Adds a b (t ∷ [])
Adds-one written = record { tokens = written.ok; before = written.room.0 }

pub then_member : {a b c e : Written} (k : List ℕ) (d : Data) (ms : Members) → Adds a b (key k ∷ []) → AddsValue b c d → AddsMembers c e ms → AddsMembers a e (member k d ms)
then_member k d ms name value rest = Adds-trans name (Adds-trans value rest)

pub then_text : {a b c : Written} (k : List ℕ) {o p : Option (List ℕ)} (ms : Members) → o ≡ p → AddsMembers a b (text_member k o no_members) → AddsMembers b c ms → AddsMembers a c (text_member k p ms)
then_text k {o} ms is text rest = Adds-is (sym (text_tokens k o ms) ∙ ap (λ t. members_tokens (text_member k t ms)) is) (Adds-trans text rest)

pub then_decimals : {a b c : Written} (v : Value) (ms : Members) → AddsMembers a b (decimals_member v no_members) → AddsMembers b c ms → AddsMembers a c (decimals_member v ms)
then_decimals v ms decimals rest = Adds-is (sym (decimals_tokens v ms)) (Adds-trans decimals rest)

pub then_defined : {a b c : Written} (spelled : QName → List ℕ) {es fs : List (QName × Member)} (ms : Members) → es ≡ fs → AddsMembers a b (defined_members spelled es no_members) → AddsMembers b c ms → AddsMembers a c (defined_members spelled fs ms)
then_defined spelled {es} ms is defined rest = Adds-is (sym (defined_tokens spelled es ms) ∙ ap (λ ds. members_tokens (defined_members spelled ds ms)) is) (Adds-trans defined rest)

pub whole_object : {a b c d : Written} (ms : Members) → Adds a b (begin_object ∷ []) → AddsMembers b c ms → Adds c d (end_object ∷ []) → AddsValue a d (object ms)
whole_object ms begun members closed = Adds-is (sym (object_tokens ms)) (Adds-trans begun (Adds-trans members closed))

pub closed_object : {E : Type 0} {a b c d : Written} (r : Result (Unit {0}) E) (ms : Members) → Adds a b (begin_object ∷ []) → AddsMembers b c ms → Writes r c d end_object → OnOk r (AddsValue a d (object ms))
closed_object (Ok done) ms begun members closed = whole_object ms begun members (Adds-one closed)
closed_object (Err e) ms begun members closed = tt
