-- With the prefixes of a text, the order of `ordered_fact` is the byte order of the keys.
use Rattle.oim_write.proofs.Shared.{◌≡◌, ℕ, List, [], ◌∷◌, true, Option, Some, None, codes, refl, ap, ◌∙◌, Contains, Less, Greater, is_lt, match_ordering, and_parts, Data, string, object, Members, no_members, member, put, QName, name_cmp, Value, Number, DimensionSet, is_below, rises, period_text, Member, less_is, IsBefore, IsSet, dimension_members, member_data, option_spelled, option_unit_text, put_text, value_data, with_decimals, with_defined, text_cmp, first_there, later_there, FactsAreWrittenInOrder, decimals_member, defined_members, ordered_dimensions, text_member, name_text, uris, put_first}
use Rattle.oim_write.proofs.Ranks.{names_keep_order}
use Rattle.oim_write.proofs.Namespaces.{defined_there, uri_there, uris_rise}

-- ---- one more member

put_past : (k l : List ℕ) (d e : Data) (ms : Members) → text_cmp k l ≡ Greater → put k d (member l e ms) ≡ member l e (put k d ms)
put_past k l d e ms past = ap (λ o. match_ordering o (member k d (member l e ms)) (member l d ms) (member l e (put k d ms))) past

put_past_text : (k l : List ℕ) (d : Data) (o : Option (List ℕ)) (ms : Members) → text_cmp k l ≡ Greater → put k d (text_member l o ms) ≡ text_member l o (put k d ms)
put_past_text k l d None ms past = refl
put_past_text k l d (Some t) ms past = put_past k l d (string t) ms past

text_second : (k l : List ℕ) (o : Option (List ℕ)) (e : Data) (ms : Members) → text_cmp k l ≡ Greater → IsBefore k ms → put_text k o (member l e ms) ≡ member l e (text_member k o ms)
text_second k l None e ms past before = refl
text_second k l (Some t) e ms past before = put_past k l (string t) e ms past ∙ ap (member l e) (put_first k (string t) ms before)

before_text : (k l : List ℕ) (o : Option (List ℕ)) (ms : Members) → text_cmp k l ≡ Less → IsBefore k ms → IsBefore k (text_member l o ms)
before_text k l None ms less_is before = before
before_text k l (Some t) ms less_is before = (less_is, before)

-- ---- the core dimensions, before and after the taxonomy-defined ones

abbrev front : Data → Option (List ℕ) → Option (List ℕ) → Members → Members
front c e l ms = member (codes "concept") c (text_member (codes "entity") e (text_member (codes "language") l ms))

abbrev back : Option (List ℕ) → Option (List ℕ) → Members
back p u = text_member (codes "period") p (text_member (codes "unit") u no_members)

before_back : (k : List ℕ) (p u : Option (List ℕ)) → text_cmp k (codes "period") ≡ Less → text_cmp k (codes "unit") ≡ Less → IsBefore k (back p u)
before_back k p u period unit = before_text k (codes "period") p (text_member (codes "unit") u no_members) period (before_text k (codes "unit") u no_members unit tt)

core_order : (c : Data) (e l p u : Option (List ℕ)) →
    put_text (codes "entity") e (put_text (codes "language") l (put_text (codes "period") p (put_text (codes "unit") u (put (codes "concept") c no_members)))) ≡ front c e l (back p u)
core_order c e l p u =
    let behind_language : IsBefore (codes "language") (back p u) = before_back (codes "language") p u refl refl in
    let behind_entity = before_text (codes "entity") (codes "language") l (back p u) refl (before_back (codes "entity") p u refl refl) in
    ap (λ ms. put_text (codes "entity") e (put_text (codes "language") l (put_text (codes "period") p ms))) (text_second (codes "unit") (codes "concept") u c no_members refl tt)
    ∙ ap (λ ms. put_text (codes "entity") e (put_text (codes "language") l ms)) (text_second (codes "period") (codes "concept") p c _ refl (before_text (codes "period") (codes "unit") u no_members refl tt))
    ∙ ap (put_text (codes "entity") e) (text_second (codes "language") (codes "concept") l c (back p u) refl behind_language)
    ∙ text_second (codes "entity") (codes "concept") e c (text_member (codes "language") l (back p u)) refl behind_entity

-- ---- the taxonomy-defined dimensions: their keys begin with the letter n

module _ (us : List (List ℕ)) where
  put_between : (n : QName) (d c : Data) (e l : Option (List ℕ)) (ms : Members) → put (name_text us n) d (front c e l ms) ≡ front c e l (put (name_text us n) d ms)
  put_between n d c e l ms =
      let behind = text_member (codes "language") l ms in
      put_past (name_text us n) (codes "concept") d c (text_member (codes "entity") e behind) refl
      ∙ ap (member (codes "concept") c) (put_past_text (name_text us n) (codes "entity") d e behind refl ∙ ap (text_member (codes "entity") e) (put_past_text (name_text us n) (codes "language") d l ms refl))

  defined_between : (es : List (QName × Member)) (c : Data) (e l : Option (List ℕ)) (ms : Members) → with_defined (name_text us) es (front c e l ms) ≡ front c e l (with_defined (name_text us) es ms)
  defined_between [] c e l ms = refl
  defined_between (x ∷ es) c e l ms = ap (put (name_text us x.0) (member_data (name_text us) x.1)) (defined_between es c e l ms) ∙ put_between x.0 (member_data (name_text us) x.1) c e l (with_defined (name_text us) es ms)

  module _ (us_rise : IsSet text_cmp us) where
    before_defined : (n : QName) (es : List (QName × Member)) (ms : Members) → Contains us n.uri → ((x : QName × Member) → Contains es x → Contains us x.0.uri) → is_below n es ≡ true
        → IsBefore (name_text us n) ms → IsBefore (name_text us n) (defined_members (name_text us) es ms)
    before_defined n [] ms here there below before = before
    before_defined n (x ∷ es) ms here there below before =
        let parts = and_parts (is_lt (name_cmp n x.0)) (is_below n es) below in
        (names_keep_order us us_rise n x.0 here (there x (first_there x es)) (less_is _ parts.0), before_defined n es ms here (λ y at. there y (later_there x es y at)) parts.1 before)

    defined_order : (es : List (QName × Member)) (ms : Members) → rises es ≡ true → ((x : QName × Member) → Contains es x → Contains us x.0.uri) → ((n : QName) → IsBefore (name_text us n) ms)
        → with_defined (name_text us) es ms ≡ defined_members (name_text us) es ms
    defined_order [] ms rise there before = refl
    defined_order (x ∷ es) ms rise there before =
        let parts = and_parts (is_below x.0 es) (rises es) rise in
        let later = λ (y : QName × Member) (at : Contains es y). there y (later_there x es y at) in
        ap (put (name_text us x.0) (member_data (name_text us) x.1)) (defined_order es ms parts.1 later before)
        ∙ put_first (name_text us x.0) (member_data (name_text us) x.1) (defined_members (name_text us) es ms) (before_defined x.0 es ms (there x (first_there x es)) later parts.0 (before x.0))

    dimensions_order : (d : DimensionSet) → rises d.members ≡ true → ((x : QName × Member) → Contains d.members x → Contains us x.0.uri) → dimension_members (name_text us) d ≡ ordered_dimensions (name_text us) d
    dimensions_order d rise there =
        let c = string (name_text us d.concept) in
        let e = option_spelled (name_text us) d.entity in
        let p = period_text d.period in
        let u = option_unit_text (name_text us) d.unit in
        ap (with_defined (name_text us) d.members) (core_order c e d.language p u)
        ∙ defined_between d.members c e d.language (back p u)
        ∙ ap (front c e d.language) (defined_order d.members (back p u) rise there (λ n. before_back (name_text us n) p u refl refl))

-- ---- the fact object

decimals_first : (spelled : QName → List ℕ) (v : Value) (ms : Members) → IsBefore (codes "decimals") ms → with_decimals spelled v ms ≡ decimals_member v ms
decimals_first spelled (Number units (Some places)) ms before = put_first (codes "decimals") _ ms before
decimals_first spelled v ms before = refl

pub facts_are_written_in_order : FactsAreWrittenInOrder
facts_are_written_in_order facts f at set =
    let spelled = name_text (uris facts) in
    let there = λ (x : QName × Member) (within : Contains f.dimensions.members x). uri_there facts f x.0 at (defined_there f x within) in
    let ordered = dimensions_order (uris facts) (uris_rise facts) f.dimensions set.members there in
    let members = λ (ds : Members). member (codes "dimensions") (object ds) (member (codes "value") (value_data spelled f.value) no_members) in
    ap (λ ds. object (with_decimals spelled f.value (members ds))) ordered
    ∙ ap object (decimals_first spelled f.value (members (ordered_dimensions spelled f.dimensions)) (refl, (refl, tt)))
