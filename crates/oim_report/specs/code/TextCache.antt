-- The meanings of texts that were read (own).
use Rattle.std.specs.Prelude.{◌≡◌, ◌⊎◌, ℕ, List, true, Option, Some, None, Ok, IfSome, option_and_then}
use Rattle.std.specs.Str.{bytes_eq, str_to_ascii_lowercase}
use Rattle.std.specs.HashMap.{get_by_text}
use Rattle.std.specs.BTreeMap.{get_by_text as span_at}
use Rattle.std.specs.Borrow.{Bor}
use Rattle.std.specs.FinMap as map
use Rattle.std.specs.FinMap.{FinMap}
use Rattle.std.specs.Map.{update}
use Rattle.oim_names.specs.Bindings.{Binding, uri_of}
use Rattle.oim_names.specs.Expansion.{Expands, ExpandsEntity}
use Rattle.oim_names.specs.QName.{QName}
use Rattle.oim_value.specs.ValueOrder.{name_cmp}
use Rattle.oim_dims.specs.DimensionSet.{DimensionSet}
use Rattle.oim_dims.specs.Language.{is_language}
use Rattle.oim_dims.specs.Period.{period_of}
use Rattle.oim_dims.specs.Unit.{Measures, UnitOf, IsUnit}
use Rattle.oim_dims.specs.declared.member.Member.{Member}
use Rattle.oim_dims.specs.declared.period.Period.{Period}
use Rattle.oim_dims.specs.declared.period.Period.TheVariants.{Forever}
use Rattle.oim_report.specs.Names.{named}
use Rattle.oim_report.specs.Sheet.{Sheet}
use Rattle.oim_report.specs.code.Ranks.{IsRank, IsSpan}
use Rattle.oim_report.specs.declared.fact_reader.text_cache.NameCache.{NameCache}
use Rattle.oim_report.specs.declared.fact_reader.text_cache.TextCache.{TextCache}
use Rattle.oim_report.specs.declared.fact_reader.text_cache.TextCaches.{TextCaches}

abbrev pub meaning : {A : Type 0} → TextCache A → List ℕ → Option A
meaning g t = get_by_text g.meanings t

-- the cache h has the meanings of the cache g, either unchanged or updated with the meaning a for the text t
abbrev pub Adds : {A : Type 0} → TextCache A → List ℕ → A → TextCache A → Type 0
Adds g t a h = ((u : List ℕ) → meaning h u ≡ meaning g u) ⊎ ((u : List ℕ) → meaning h u ≡ update bytes_eq (meaning g) t (Some a) u)

pub record IsTextCache {A : Type 0} (R : List ℕ → A → Type 0) (g : TextCache A) : Type 0 where
  pub each : (t : List ℕ) (a : A) → meaning g t ≡ Some a → R t a

abbrev pub concept_with : QName → List (QName × Member) → DimensionSet
concept_with concept members = record { concept = concept; entity = None; period = Forever; unit = None; language = None; members = members }

-- ---- the listed names that texts spell under one set of prefixes, and the span of names for each prefix

module _ {K : Type 0} (m : FinMap name_cmp K) (bs : List Binding) where
  abbrev pub kind_of : List ℕ → Option K
  kind_of t = option_and_then (map.get m) (named bs t)

  -- the text spells this name, which the map has with this kind and this rank
  abbrev pub NamesListed : List ℕ → Bor QName × K × ℕ → Type 0
  NamesListed t e = (named bs t ≡ Some e.0.now) × (kind_of t ≡ Some e.1) × IsRank m e.0.now e.2

  -- if the prefix is bound to a URI, the names with this URI have this span
  abbrev pub IsReached : List ℕ → ℕ × ℕ → Type 0
  IsReached p span = (u : List ℕ) → uri_of bs p ≡ Some u → IsSpan (map.entries m) u span

  pub record IsNameCache (c : NameCache K) : Type 0 where
    pub texts : IsTextCache NamesListed c.texts
    pub spans : (p : List ℕ) (span : ℕ × ℕ) → span_at c.spans p ≡ Some span → IsReached p span

-- ---- the meanings of texts under one sheet and one set of prefixes

abbrev pub TextSaysPeriod : List ℕ → Period → Type 0
TextSaysPeriod t period = period_of t ≡ Ok period

abbrev pub TextSaysUnit : List Binding → List ℕ → Option Measures → Type 0
TextSaysUnit bs t unit = UnitOf bs t unit × IfSome unit IsUnit

abbrev pub TextSaysLanguage : List ℕ → List ℕ → Type 0
TextSaysLanguage t language = (is_language t ≡ true) × (language ≡ str_to_ascii_lowercase t)

pub record AreTextCaches (sheet : Sheet) (bs : List Binding) (gs : TextCaches) : Type 0 where
  pub concepts : IsNameCache sheet.concepts bs gs.concepts
  pub dimensions : IsNameCache sheet.dimensions bs gs.dimensions
  pub entities : IsTextCache (ExpandsEntity bs) gs.entities
  pub periods : IsTextCache TextSaysPeriod gs.periods
  pub units : IsTextCache (TextSaysUnit bs) gs.units
  pub languages : IsTextCache TextSaysLanguage gs.languages
  pub members : IsTextCache (Expands bs) gs.members
