-- The JSON value that is written for a body: xBRL-JSON 1.0, sections 2 and 3; the choice of prefixes and identifiers is our own. The feature
-- `xbrl:allowedDuplicates` declares a level of duplicates (OIM Common 1.0). The earlier form lacks this feature. In bytes, `:` is 58, `f`
-- is 102 and `n` is 110.
use Rattle.std.specs.Prelude.{ℕ, List, [], ◌∷◌, ◌++◌, codes, Option, Some, None}
use Rattle.serde_json.specs.Data.{Data, string, array, object, Items, no_items, item, Members, no_members, member}
use Rattle.oim_names.specs.Expansion.{reserved_uri}
use Rattle.oim_names.specs.QName.{QName}
use Rattle.oim_value.specs.Level.{level_entry}
use Rattle.oim_value.specs.declared.level.Level.{Level}
use Rattle.oim_dims.specs.FactOrder.{fact_cmp}
use Rattle.oim_dims.specs.declared.fact.Fact.{Fact}
use Rattle.fact_base.specs.Passed.{fact_object, level_of}
use Rattle.fact_base.specs.Body.{Body, text_cmp}
use Rattle.oim_write.specs.Rank.{numbered}
use Rattle.oim_write.specs.Uris.{uris}

-- the prefix of a URI: the letter n and the padded rank of the URI among all URIs
abbrev pub prefix : List (List ℕ) → List ℕ → List ℕ
prefix us uri = numbered 110 text_cmp uri us

-- a name: its prefix, a colon and the local part
abbrev pub name_text : List (List ℕ) → QName → List ℕ
name_text us n = prefix us n.uri ++ 58 ∷ n.local_part

-- an identifier: the letter f and the padded rank of the fact among all facts
abbrev pub identifier : List Fact → Fact → List ℕ
identifier facts f = numbered 102 fact_cmp f facts

-- one member for each item of a list, before other members
abbrev pub members_before : {A : Type 0} → (A → List ℕ) → (A → Data) → List A → Members → Members
members_before key shown [] others = others
members_before key shown (x ∷ xs) others = member (key x) (shown x) (members_before key shown xs others)

-- one member for each item of a list
abbrev pub members_by : {A : Type 0} → (A → List ℕ) → (A → Data) → List A → Members
members_by key shown xs = members_before key shown xs no_members

abbrev pub text_items : List (List ℕ) → Items
text_items [] = no_items
text_items (t ∷ ts) = item (string t) (text_items ts)

-- ---- the declared level

-- if a level is declared, the member `features` that declares it, then other members; otherwise only the other members
abbrev pub features_member : Option Level → Members → Members
features_member None others = others
features_member (Some level) others =
    member (codes "features") (object (member (codes "xbrl:allowedDuplicates") (string (level_entry level).text) no_members)) others

-- the member that binds the prefix `xbrl`; no member if no level is declared
abbrev pub xbrl_member : Option Level → Members
xbrl_member None = no_members
xbrl_member (Some level) = member (codes "xbrl") (string reserved_uri) no_members

-- ---- the whole object

-- each URI under its prefix; `xbrl` is last if a level is declared
abbrev pub namespaces_object : Option Level → List (List ℕ) → Data
namespaces_object declared us = object (members_before (prefix us) string us (xbrl_member declared))

abbrev pub info_object : Option Level → List (List ℕ) → List (List ℕ) → Data
info_object declared us references =
    object (member (codes "documentType") (string (codes "https://xbrl.org/2021/xbrl-json")) (
    features_member declared (
    member (codes "namespaces") (namespaces_object declared us) (
    member (codes "taxonomy") (array (text_items references)) no_members))))

-- each fact under its identifier
abbrev pub facts_object : List Fact → Data
facts_object facts = object (members_by (identifier facts) (fact_object (name_text (uris facts))) facts)

abbrev pub tree_declaring : Option Level → Body → Data
tree_declaring declared b =
    object (member (codes "documentInfo") (info_object declared (uris b.facts) b.references) (
    member (codes "facts") (facts_object b.facts) no_members))

-- the canonical form declares the strictest level that the facts satisfy
abbrev pub tree : Body → Data
tree b = tree_declaring (Some (level_of b.facts)) b

-- the earlier form declares no level
abbrev pub earlier_tree : Body → Data
earlier_tree b = tree_declaring None b
