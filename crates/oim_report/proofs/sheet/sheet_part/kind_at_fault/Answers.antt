use Rattle.oim_report.proofs.Shared.{◌≡◌, Some, List, [], ◌∷◌, sym, ap, ◌∙◌, option_map, Option, None, unwrap_or, option_map_or, Data, view, Part, Nothing, members, concept_kind_named, dimension_kind_named, same_concept_kind, same_dimension_kind, sheet_bindings, sheet_concepts, sheet_dimensions}
use Rattle.oim_report.specs.Shown.{Shown, entry, first_shown, kindless, nothing, seen, sheet_shown, two_kinds}
use Rattle.oim_report.proofs.sheet.sheet_part.kind_at_fault.Goals as goal

here : (p : Part) (o : Option Part) (a : Option Shown) (os : List (Option Shown)) → o ≡ Some p → option_map seen o ≡ a → seen p ≡ first_shown (a ∷ os)
here p o a os is e = ap (λ a. option_map_or (λ part. part) a (first_shown os)) (ap (option_map seen) (sym is) ∙ e)

past : (o : Option Part) (a : Option Shown) (os : List (Option Shown)) → o ≡ None → option_map seen o ≡ a → first_shown os ≡ first_shown (a ∷ os)
past o a os is e = ap (λ a. option_map_or (λ part. part) a (first_shown os)) (ap (option_map seen) (sym is) ∙ e)

last : (o : Option Part) (a : Option Shown) → option_map seen o ≡ a → seen (unwrap_or o Nothing) ≡ first_shown (a ∷ [])
last None a e = ap (λ a. option_map_or (λ part. part) a nothing) e
last (Some p) a e = ap (λ a. option_map_or (λ part. part) a nothing) e

abbrev concept : Data → Option Shown
concept tree = option_map entry (kindless concept_kind_named same_concept_kind (sheet_concepts tree))

abbrev dimension : Data → Option Shown
dimension tree = option_map entry (kindless dimension_kind_named same_dimension_kind (sheet_dimensions tree))

abbrev two_concepts : Data → Option Shown
two_concepts tree = two_kinds concept_kind_named same_concept_kind (sheet_bindings tree) (sheet_concepts tree)

abbrev two_dimensions : Data → Option Shown
two_dimensions tree = two_kinds dimension_kind_named same_dimension_kind (sheet_bindings tree) (sheet_dimensions tree)

pub returns-in-Some : goal.returns-in-Some
unfolding sheet_shown
returns-in-Some c =
    let tree = view c.args.tree.now in
    here c.in-Some.part c.first_without_kind.result (concept tree) (dimension tree ∷ two_concepts tree ∷ two_dimensions tree ∷ []) c.in-Some.is
    (c.first_without_kind.ensures ∙ ap (λ o. option_map entry (kindless concept_kind_named same_concept_kind (members o))) c.object_at-concepts.ensures)

pub returns-in-Some-first_without_kind : goal.returns-in-Some-first_without_kind
unfolding sheet_shown
returns-in-Some-first_without_kind c =
    let tree = view c.args.tree.now in
    let rest = two_concepts tree ∷ two_dimensions tree ∷ [] in
    here c.in-Some-first_without_kind.part c.first_without_kind-2.result (dimension tree) rest c.in-Some-first_without_kind.is
    (c.first_without_kind-2.ensures ∙ ap (λ o. option_map entry (kindless dimension_kind_named same_dimension_kind (members o))) c.object_at-dimensions.ensures)
    ∙ past c.first_without_kind.result (concept tree) (dimension tree ∷ rest) c.in_default.is
    (c.first_without_kind.ensures ∙ ap (λ o. option_map entry (kindless concept_kind_named same_concept_kind (members o))) c.object_at-concepts.ensures)

pub returns-in-Some-2 : goal.returns-in-Some-2
unfolding sheet_shown
returns-in-Some-2 c =
    let tree = view c.args.tree.now in
    let rest = two_dimensions tree ∷ [] in
    here c.in-Some-2.part c.in_ok-part.field-0 (two_concepts tree) rest c.in-Some-2.is
    (c.in_ok-part.ensures ∙ (λ i. two_kinds concept_kind_named same_concept_kind (c.requires i) (members (c.object_at-concepts.ensures i))))
    ∙ past c.first_without_kind-2.result (dimension tree) (two_concepts tree ∷ rest) c.in_default-first_without_kind.is
    (c.first_without_kind-2.ensures ∙ ap (λ o. option_map entry (kindless dimension_kind_named same_dimension_kind (members o))) c.object_at-dimensions.ensures)
    ∙ past c.first_without_kind.result (concept tree) (dimension tree ∷ two_concepts tree ∷ rest) c.in_default.is
    (c.first_without_kind.ensures ∙ ap (λ o. option_map entry (kindless concept_kind_named same_concept_kind (members o))) c.object_at-concepts.ensures)

pub returns : goal.returns
unfolding sheet_shown
returns c =
    let tree = view c.args.tree.now in
    let rest = two_dimensions tree ∷ [] in
    ap seen c.unwrap_or.ensures
    ∙ last c.in_ok-part-2.part (two_dimensions tree)
    (c.in_ok-part-2.ensures ∙ (λ i. two_kinds dimension_kind_named same_dimension_kind (c.requires i) (members (c.object_at-dimensions.ensures i))))
    ∙ past c.in_ok-part.field-0 (two_concepts tree) rest c.in_default-2.is
    (c.in_ok-part.ensures ∙ (λ i. two_kinds concept_kind_named same_concept_kind (c.requires i) (members (c.object_at-concepts.ensures i))))
    ∙ past c.first_without_kind-2.result (dimension tree) (two_concepts tree ∷ rest) c.in_default-first_without_kind.is
    (c.first_without_kind-2.ensures ∙ ap (λ o. option_map entry (kindless dimension_kind_named same_dimension_kind (members o))) c.object_at-dimensions.ensures)
    ∙ past c.first_without_kind.result (concept tree) (dimension tree ∷ two_concepts tree ∷ rest) c.in_default.is
    (c.first_without_kind.ensures ∙ ap (λ o. option_map entry (kindless concept_kind_named same_concept_kind (members o))) c.object_at-concepts.ensures)
