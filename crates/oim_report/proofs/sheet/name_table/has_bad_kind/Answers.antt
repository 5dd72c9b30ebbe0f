use Rattle.oim_report.proofs.Shared.{◌≡◌, ◌||◌, ℕ, List, Bool, false, is_some, refl, sym, ap, ◌∙◌, option_map, Option, None, Some, list_any, Members, members_view, any_in, entries, members, entries_in, has_other_kind, has_two_kinds, names_no_kind, Part}
use Rattle.oim_report.specs.Shown.{entry, kindless, of_other_kind, seen}
use Rattle.oim_report.proofs.SheetCounts.{some_differs}
use Rattle.oim_report.proofs.ShownFaults.{any_found_in}
use Rattle.oim_report.proofs.sheet.name_table.has_bad_kind.Goals as goal

is_some_map : {A B : Type 0} (f : A → B) (o : Option A) → is_some (option_map f o) ≡ is_some o
is_some_map f None = refl
is_some_map f (Some a) = refl

no_kind : {K : Type 0} (kind_named : List ℕ → Option K) (same : K → K → Bool) (ms : Members) (found : Option Part) → option_map seen found ≡ option_map entry (kindless kind_named same ms) → is_some found ≡ any_in (names_no_kind kind_named same) (Some ms)
no_kind kind_named same ms found is = sym (is_some_map seen found) ∙ ap is_some is ∙ is_some_map entry (kindless kind_named same ms) ∙ sym (any_found_in (names_no_kind kind_named same) (Some ms))

pub returns-then-is_some : goal.returns-then-is_some
returns-then-is_some g c =
    let ms = members (option_map (λ m. members_view m.now.entries) c.args.object) in
    let bad = no_kind g.K.Kind.kind_named g.K.Kind.same_kind ms c.first_without_kind.result c.first_without_kind.ensures in
    c.if-is_some.true ∙ sym (ap (λ b. b || has_two_kinds g.K.Kind.kind_named g.K.Kind.same_kind c.args.aliases.now ms) (sym bad ∙ sym c.is_some.ensures ∙ c.if-is_some.true))

pub returns-else-is_some : goal.returns-else-is_some
returns-else-is_some g c =
    let named_as = g.K.Kind.kind_named in
    let same = g.K.Kind.same_kind in
    let bs = c.args.aliases.now in
    let ms = members (option_map (λ m. members_view m.now.entries) c.args.object) in
    let bad = no_kind named_as same ms c.first_without_kind.result c.first_without_kind.ensures in
    let none : any_in (names_no_kind named_as same) (Some ms) ≡ false = sym bad ∙ sym c.is_some.ensures ∙ c.if-is_some.false in
    let two : c.is_some-else-is_some.result ≡ has_two_kinds named_as same bs ms =
    c.is_some-else-is_some.ensures
    ∙ sym (is_some_map (λ k. k.now) c.first_of_other_kind.result)
    ∙ ap is_some c.first_of_other_kind.ensures
    ∙ is_some_map (λ m. m.0) (of_other_kind named_as same bs c.args.names.now (entries ms))
    ∙ some_differs named_as same bs c.args.names.now ms
    ∙ ap (λ m. list_any (has_other_kind named_as same m) (entries_in named_as same bs ms)) c.requires in
    two ∙ sym (ap (λ b. b || has_two_kinds named_as same bs ms) none)
