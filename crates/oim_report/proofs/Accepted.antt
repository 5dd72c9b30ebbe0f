-- If a fact object is accepted, its parts denote the fact.
use Rattle.oim_report.proofs.Shared.{◌≡◌, List, Option, Some, None, Ok, refl, ap, ◌∙◌, option_and_then, option_map, Binding, Reason, DimensionSet, Fact, Data, ConceptKind, holds, least, fact_or, fact_outcome, DimensionMembers, FactMembers, fact_parts, concept_kind, fact_of, fact_with, said_concept, said_dimensions, said_entity, said_fact, said_language, said_members, said_period, said_unit, said_value, Sheet}

pub and_then_some : {A B : Type 0} (g : A → Option B) (o : Option A) (b : B) → option_and_then g o ≡ Some b → (a : A) × (o ≡ Some a) × (g a ≡ Some b)
and_then_some g None b e = absurd (cc)
and_then_some g (Some a) b e = (a, refl, e)

pub map_some : {A B : Type 0} (g : A → B) (o : Option A) (b : B) → option_map g o ≡ Some b → (a : A) × (o ≡ Some a) × (g a ≡ b)
map_some g None b e = absurd (cc)
map_some g (Some a) b e = (a, refl, cc)

pub record EachSays (sheet : Sheet) (bs : List Binding) (kind : ConceptKind) (ds : DimensionMembers) (said : DimensionSet) : Type 0 where
  pub concept : said_concept bs ds.concept ≡ Some said.concept
  pub entity : said_entity bs ds.entity ≡ Some said.entity
  pub period : said_period ds.period ≡ Some said.period
  pub unit : said_unit bs kind ds.unit ≡ Some said.unit
  pub language : said_language kind ds.language ≡ Some said.language
  pub members : said_members sheet bs ds.defined ≡ Some said.members

pub each_says : (sheet : Sheet) (bs : List Binding) (kind : ConceptKind) (ds : DimensionMembers) (said : DimensionSet) → said_dimensions sheet bs kind ds ≡ Some said → EachSays sheet bs kind ds said
each_says sheet bs kind ds said e =
    let a = and_then_some _ (said_concept bs ds.concept) said e in
    let b = and_then_some _ (said_entity bs ds.entity) said a.2 in
    let c = and_then_some _ (said_period ds.period) said b.2 in
    let d = and_then_some _ (said_unit bs kind ds.unit) said c.2 in
    let f = and_then_some _ (said_language kind ds.language) said d.2 in
    let g = map_some _ (said_members sheet bs ds.defined) said f.2 in
    let is = g.2 in
    record {
      concept = a.1 ∙ ap (λ (s : DimensionSet). Some s.concept) is;
      entity = b.1 ∙ ap (λ (s : DimensionSet). Some s.entity) is;
      period = c.1 ∙ ap (λ (s : DimensionSet). Some s.period) is;
      unit = d.1 ∙ ap (λ (s : DimensionSet). Some s.unit) is;
      language = f.1 ∙ ap (λ (s : DimensionSet). Some s.language) is;
      members = g.1 ∙ ap (λ (s : DimensionSet). Some s.members) is;
    }

pub record IsSaid (sheet : Sheet) (bs : List Binding) (p : FactMembers) (ds : DimensionMembers) (f : Fact) : Type 0 where
  pub kind : ConceptKind
  pub listed : concept_kind sheet bs ds.concept ≡ Some kind
  pub each : EachSays sheet bs kind ds f.dimensions
  pub value : said_value bs kind p.value p.decimals ≡ Some f.value

pub is_said : (sheet : Sheet) (bs : List Binding) (p : FactMembers) (ds : DimensionMembers) (f : Fact) → fact_of sheet bs p ds ≡ Some f → IsSaid sheet bs p ds f
is_said sheet bs p ds f e =
    let k = and_then_some (fact_with sheet bs p ds) (concept_kind sheet bs ds.concept) f e in
    let a = and_then_some _ (said_dimensions sheet bs k.0 ds) f k.2 in
    let b = map_some _ (said_value bs k.0 p.value p.decimals) f a.2 in
    record {
      kind = k.0;
      listed = k.1;
      each = each_says sheet bs k.0 ds f.dimensions (a.1 ∙ ap (λ (g : Fact). Some g.dimensions) b.2);
      value = b.1 ∙ ap (λ (g : Fact). Some g.value) b.2;
    }

pub record HasAccepted (sheet : Sheet) (bs : List Binding) (d : Data) (f : Fact) : Type 0 where
  pub parts : FactMembers
  pub are : fact_parts d ≡ Some parts
  pub dimensions : DimensionMembers
  pub there : parts.dimensions ≡ Some dimensions
  pub said : IsSaid sheet bs parts dimensions f

pub ok_or : (r : Option Reason) (o : Option Fact) (f : Fact) → fact_or r o ≡ Ok f → o ≡ Some f
ok_or None (Some g) f e = cc
ok_or r o f e = absurd (cc)

pub accepted : (sheet : Sheet) (bs : List Binding) (d : Data) (f : Fact) → fact_outcome sheet bs d ≡ Ok f → HasAccepted sheet bs d f
accepted sheet bs d f e =
    let a = and_then_some (said_fact sheet bs) (fact_parts d) f (ok_or (least (holds sheet bs d)) (option_and_then (said_fact sheet bs) (fact_parts d)) f e) in
    let b = and_then_some (fact_of sheet bs a.0) a.0.dimensions f a.2 in
    record { parts = a.0; are = a.1; dimensions = b.0; there = b.1; said = is_said sheet bs a.0 b.0 f b.2 }
