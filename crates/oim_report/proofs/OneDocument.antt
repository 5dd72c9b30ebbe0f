-- Under one sheet, a report denotes at most one document.
use Rattle.oim_report.proofs.Shared.{◌≡◌, ℕ, ℤ, List, [], ◌∷◌, Option, Some, None, Result, Ok, refl, sym, ap, subst, ◌∙◌, IsTrue, IfSome, AllZip, str_to_ascii_lowercase, QName, is_entity, Binding, Expands, ExpandsEntity, Reason, names_one, Value, Nil, Number, AText, AName, denotes_one, DimensionSet, is_language, period_of, Measures, IsUnit, UnitOf, Fact, Period, Forever, one_unit, Data, ConceptKind, Numeric, Text, Name, ObjectSays, SaysOneDocument, GivesText, GivesTextOr, SaysDecimals, SaysDimensions, SaysEntity, SaysFact, SaysLanguage, SaysNumber, SaysPeriod, SaysUnit, SaysValue, bindings_of, facts_of, references_said, level_said, Given, absent, nil, text, whole, json, values, DimensionMembers, FactMembers, fact_parts, Sheet}
use Rattle.std.specs.FinMap as map
use Rattle.oim_report.proofs.MembersSay.{given_name, no_text, one_list, one_some, one_text}

one_text_or : (C IfP IfQ : Type 0) (g : Given) (P Q : List ℕ → Type 0) → GivesTextOr IfP g P → GivesTextOr IfQ g Q → (IfP → IfQ → C) → ((t : List ℕ) → P t → Q t → C) → C
one_text_or C IfP IfQ absent P Q a b none both = none a b
one_text_or C IfP IfQ (text t) P Q a b none both = both t a b
one_text_or C IfP IfQ g P Q a b none both = absurd a

one_entity : (bs : List Binding) (g : Given) (x y : Option QName) → SaysEntity bs g x → SaysEntity bs g y → x ≡ y
one_entity bs g x y a b =
    one_text_or (x ≡ y) (x ≡ None) (y ≡ None) g
    (λ t. (n : QName) × (x ≡ Some n) × ExpandsEntity bs t n)
    (λ t. (n : QName) × (y ≡ Some n) × ExpandsEntity bs t n)
    a b
    (λ p q. p ∙ sym q)
    (λ t p q. p.1 ∙ ap Some (names_one is_entity bs t p.0 q.0 p.2 q.2) ∙ sym q.1)

one_ok : (r : Result Period Reason) (x y : Period) → r ≡ Ok x → r ≡ Ok y → x ≡ y
one_ok r x y p q = cc

one_period : (g : Given) (x y : Period) → SaysPeriod g x → SaysPeriod g y → x ≡ y
one_period g x y a b =
    one_text_or (x ≡ y) (x ≡ Forever) (y ≡ Forever) g (λ t. period_of t ≡ Ok x) (λ t. period_of t ≡ Ok y) a b
    (λ p q. p ∙ sym q)
    (λ t p q. one_ok (period_of t) x y p q)

unit_once : (bs : List Binding) (g : Given) (u v : Option Measures) → SaysUnit bs g u → SaysUnit bs g v → IfSome u IsUnit → IfSome v IsUnit → u ≡ v
unit_once bs g u v a b is_u is_v =
    one_text_or (u ≡ v) (u ≡ None) (v ≡ None) g (λ t. UnitOf bs t u) (λ t. UnitOf bs t v) a b
    (λ p q. p ∙ sym q)
    (λ t p q. one_unit bs t u v p q is_u is_v)

one_language : (g : Given) (x y : Option (List ℕ)) → SaysLanguage g x → SaysLanguage g y → x ≡ y
one_language g x y a b =
    one_text_or (x ≡ y) (x ≡ None) (y ≡ None) g
    (λ t. IsTrue (is_language t) × (x ≡ Some (str_to_ascii_lowercase t)))
    (λ t. IsTrue (is_language t) × (y ≡ Some (str_to_ascii_lowercase t)))
    a b
    (λ p q. p ∙ sym q)
    (λ t p q. p.1 ∙ sym q.1)

one_set : (sheet : Sheet) (bs : List Binding) (ds : DimensionMembers) (x y : DimensionSet) → SaysDimensions sheet bs ds x → SaysDimensions sheet bs ds y → x ≡ y
one_set sheet bs ds x y a b =
    let concept = given_name bs ds.concept x.concept y.concept a.concept b.concept in
    let entity = one_entity bs ds.entity x.entity y.entity a.entity b.entity in
    let period = one_period ds.period x.period y.period a.period b.period in
    let unit = unit_once bs ds.unit x.unit y.unit a.unit b.unit a.set.unit b.set.unit in
    let language = one_language ds.language x.language y.language a.language b.language in
    let members = one_list sheet bs ds.defined x.members y.members a.set.members b.set.members a.members b.members in
    λ i. record { concept = concept i; entity = entity i; period = period i; unit = unit i; language = language i; members = members i }

one_places : (g : Given) (x y : Option ℤ) → SaysDecimals g x → SaysDecimals g y → x ≡ y
one_places absent x y a b = a ∙ sym b
one_places (whole n) x y a b = a.1 ∙ sym b.1
one_places g x y a b = absurd a

one_number : (g : Given) (m n : ℤ) → GivesText g (λ t. SaysNumber t m) → GivesText g (λ t. SaysNumber t n) → m ≡ n
one_number g m n a b = one_text (m ≡ n) g (λ t. SaysNumber t m) (λ t. SaysNumber t n) a b (λ t p q. denotes_one t m n p.denoted q.denoted)

one_string : (g : Given) (s t : List ℕ) → g ≡ text s → g ≡ text t → s ≡ t
one_string g s t a b = let same : text s ≡ text t = sym a ∙ b in cc

no_string : (g : Given) (t : List ℕ) → g ≡ nil → g ≡ text t → ⊥
no_string g t a b = let same : nil ≡ text t = sym a ∙ b in absurd (cc)

one_value : (bs : List Binding) (k : ConceptKind) (g decimals : Given) (v w : Value) → SaysValue bs k g decimals v → SaysValue bs k g decimals w → v ≡ w
one_value bs k g decimals Nil Nil a b = refl
one_value bs Numeric g decimals Nil (Number n q) a b = absurd (no_text g (λ t. SaysNumber t n) a b.0)
one_value bs Numeric g decimals (Number m p) Nil a b = absurd (no_text g (λ t. SaysNumber t m) b a.0)
one_value bs Numeric g decimals (Number m p) (Number n q) a b = let units = one_number g m n a.0 b.0 in let places = one_places decimals p q a.1 b.1 in λ i. Number (units i) (places i)
one_value bs Numeric g decimals v (AText t) a b = absurd b
one_value bs Numeric g decimals v (AName n) a b = absurd b
one_value bs Text g decimals Nil (AText t) a b = absurd (no_string g t a b)
one_value bs Text g decimals (AText s) Nil a b = absurd (no_string g s b a)
one_value bs Text g decimals (AText s) (AText t) a b = ap AText (one_string g s t a b)
one_value bs Text g decimals v (Number n q) a b = absurd b
one_value bs Text g decimals v (AName n) a b = absurd b
one_value bs Name g decimals Nil (AName n) a b = absurd (no_text g (λ t. Expands bs t n) a b)
one_value bs Name g decimals (AName m) Nil a b = absurd (no_text g (λ t. Expands bs t m) b a)
one_value bs Name g decimals (AName m) (AName n) a b = ap AName (given_name bs g m n a b)
one_value bs Name g decimals v (Number n q) a b = absurd b
one_value bs Name g decimals v (AText t) a b = absurd b
one_value bs k g decimals v w a b = absurd a

one_fact : (sheet : Sheet) (bs : List Binding) (p : FactMembers) (f g : Fact) → SaysFact sheet bs p f → SaysFact sheet bs p g → f ≡ g
one_fact sheet bs p f g a b =
    let parts : a.parts ≡ b.parts = one_some p.dimensions a.parts b.parts a.there b.there in
    let set : f.dimensions ≡ g.dimensions = one_set sheet bs b.parts f.dimensions g.dimensions (subst (λ ds. SaysDimensions sheet bs ds f.dimensions) parts a.dimensions) b.dimensions in
    let kind : a.kind ≡ b.kind = one_some (map.get sheet.concepts g.dimensions.concept) a.kind b.kind (subst (λ (d : DimensionSet). map.get sheet.concepts d.concept ≡ Some a.kind) set a.listed) b.listed in
    let value : f.value ≡ g.value = one_value bs b.kind p.value p.decimals f.value g.value (subst (λ k. SaysValue bs k p.value p.decimals f.value) kind a.value) b.value in
    λ i. record { dimensions = set i; value = value i }

one_said : (sheet : Sheet) (bs : List Binding) (d : Data) (f g : Fact) → ObjectSays sheet bs d f → ObjectSays sheet bs d g → f ≡ g
one_said sheet bs d f g a b =
    let parts : a.parts ≡ b.parts = one_some (fact_parts d) a.parts b.parts a.are b.are in
    one_fact sheet bs b.parts f g (subst (λ p. SaysFact sheet bs p f) parts a.says) b.says

same_facts : (sheet : Sheet) (bs : List Binding) (objects : List Data) (fs gs : List Fact) → AllZip (ObjectSays sheet bs) objects fs → AllZip (ObjectSays sheet bs) objects gs → fs ≡ gs
same_facts sheet bs [] [] [] a b = refl
same_facts sheet bs [] (f ∷ fs) gs a b = absurd a
same_facts sheet bs (d ∷ ds) [] gs a b = absurd a
same_facts sheet bs (d ∷ ds) (f ∷ fs) (g ∷ gs) a b =
    let one = one_said sheet bs d f g a.0 b.0 in
    let rest = same_facts sheet bs ds fs gs a.1 b.1 in
    λ i. one i ∷ rest i
same_facts sheet bs objects fs gs a b = absurd b

pub says_one_document : SaysOneDocument
says_one_document sheet bytes d e a b =
    let tree : a.tree ≡ b.tree = one_some (json bytes) a.tree b.tree a.read b.read in
    let facts : d.facts ≡ e.facts = same_facts sheet (bindings_of b.tree) (values (facts_of b.tree)) d.facts e.facts
    (subst (λ (t : Data). AllZip (ObjectSays sheet (bindings_of t)) (values (facts_of t)) d.facts) tree a.facts)
    b.facts in
    let references : d.references ≡ e.references = one_some (references_said b.tree) d.references e.references (ap references_said (sym tree) ∙ a.references) b.references in
    let level : d.level ≡ e.level = one_some (level_said b.tree) d.level e.level (ap level_said (sym tree) ∙ a.level) b.level in
    λ i. record { facts = facts i; references = references i; level = level i }
