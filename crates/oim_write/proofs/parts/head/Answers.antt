use Rattle.oim_write.proofs.Shared.{ne_eqb, arith, [], ◌∷◌, not, length, ◌==◌, refl, ◌≡◌, ℕ, List, ◌++◌, codes, append_assoc, ap, ◌∙◌, false, comma_if, level_entry, has_some, namespace_members, parts}
use Rattle.oim_write.proofs.parts.head.Goals as goal

some_is : (us : List (List ℕ)) → not (length us == 0) ≡ has_some us
some_is [] = refl
some_is (u ∷ us) = ap not (ne_eqb (length (u ∷ us)) 0 (λ e. omega (arith, e)))

rejoin : (first level middle names comma bound : List ℕ) →
    ((((first ++ level) ++ middle) ++ names) ++ comma) ++ bound
    ≡ first ++ (level ++ (middle ++ (names ++ (comma ++ bound))))
rejoin first level middle names comma bound = simp append_assoc

pub returns : goal.returns
returns c =
    let first = codes "{\"documentInfo\":{\"documentType\":\"https://xbrl.org/2021/xbrl-json\",\"features\":{\"xbrl:allowedDuplicates\":\"" in
    let level = (level_entry c.args.level).text in
    let middle = codes "\"},\"namespaces\":{" in
    let names = parts false (namespace_members c.args.table.now c.args.table.now) in
    let bound = codes "\"xbrl\":\"https://xbrl.org/2021\"},\"taxonomy\":[" in
    c.in_ok-extend_from_slice-4.ensures.items
    ∙ ap (λ t. t ++ bound) (c.in_ok-append_comma.ensures
    ∙ (λ i. (c.in_ok-append_namespaces.ensures
    ∙ ap (λ t. t ++ names) (c.in_ok-extend_from_slice-3.ensures.items
    ∙ ap (λ t. t ++ middle) (c.in_ok-extend_from_slice-2.ensures.items
    ∙ (λ j. (c.in_ok-extend_from_slice.ensures.items ∙ ap (λ t. t ++ first) c.new-text.ensures.items) j ++ (c.as_bytes.ensures.value ∙ c.text.ensures) j)))) i ++ comma_if ((ap not c.is_empty.ensures ∙ some_is c.uris.result.now ∙ ap has_some c.uris.ensures) i)))
    ∙ rejoin first level middle names (comma_if (has_some c.args.table.now)) bound
