use Rattle.oim_report.proofs.Shared.{◌≡◌, true, false, not, option_map, string_bytes, sym, ap, subst, ◌∙◌, Some, None, option_map_or, same_Some, uri_of, QName, is_name, prefix_part, view, members_view, entries, named, of_other_kind, IsSpan}
use Rattle.std.specs.FinMap as map
use Rattle.oim_report.proofs.Naming.{expanded}
use Rattle.oim_report.proofs.ShownFaults.{refused_none}
use Rattle.oim_report.proofs.SheetCounts.{differs, differs_as, first_differs, no_name}
use Rattle.oim_report.proofs.sheet.name_table.first_of_other_kind.Goals as goal

pub loop-key-preserved-in_default-resolve : goal.loop-key-preserved-in_default-resolve
loop-key-preserved-in_default-resolve g c =
    let named_as = g.K.Kind.kind_named in
    let same = g.K.Kind.same_kind in
    let bs = c.args.aliases.now in
    let m = c.args.names.now in
    let l = c.loop-key in
    let key = string_bytes c.in-Some-2.key.now in
    let value = view c.in-Some-2.value.now in
    let none : named bs key ≡ None = ap (named bs) (sym c.as_str.ensures.value) ∙ refused_none bs c.as_str.result.now _ (sym c.in_default-resolve.ensures.refused) in
    record {
      found = sym (first_differs named_as same bs m key value (members_view c.next.new.self) false (no_name named_as same bs m key value none)) ∙ ap (λ es. of_other_kind named_as same bs m (entries (members_view es))) (sym c.in-Some-2.ensures.steps) ∙ l.invariant.found;
      last = l.invariant.last;
    }

pub returns-then-is_other_kind : goal.returns-then-is_other_kind
returns-then-is_other_kind g c =
    let named_as = g.K.Kind.kind_named in
    let same = g.K.Kind.same_kind in
    let bs = c.args.aliases.now in
    let m = c.args.names.now in
    let l = c.loop-key in
    let key = string_bytes c.in-Some-2.key.now in
    let value = view c.in-Some-2.value.now in
    let q : QName = record { uri = c.in-Ok.uri.now; local_part = c.in-Ok.local.now } in
    let name : named bs key ≡ Some q = ap (named bs) (sym c.as_str.ensures.value) ∙ expanded is_name bs c.as_str.result.now q c.in-Ok.ensures.ok in
    let found = option_map (λ e. e.1) c.find_in.result in
    let other : differs named_as same bs m (key, value) ≡ true =
    sym (differs_as named_as same bs m key value q found name c.find_in.ensures.kind)
    ∙ ap (λ k. option_map_or (λ j. not (option_map_or (same j) found false)) k false) (sym c.kind_in.ensures)
    ∙ sym c.is_other_kind.ensures
    ∙ c.if-is_other_kind.true in
    ap Some c.as_str-then-is_other_kind.ensures.value
    ∙ ap (option_map (λ e. e.0))
    (sym (first_differs named_as same bs m key value (members_view c.next.new.self) true other)
    ∙ ap (λ es. of_other_kind named_as same bs m (entries (members_view es))) (sym c.in-Some-2.ensures.steps)
    ∙ l.invariant.found)

pub loop-key-preserved : goal.loop-key-preserved
loop-key-preserved g c =
    let named_as = g.K.Kind.kind_named in
    let same = g.K.Kind.same_kind in
    let bs = c.args.aliases.now in
    let m = c.args.names.now in
    let l = c.loop-key in
    let key = string_bytes c.in-Some-2.key.now in
    let value = view c.in-Some-2.value.now in
    let q : QName = record { uri = c.in-Ok.uri.now; local_part = c.in-Ok.local.now } in
    let name : named bs key ≡ Some q = ap (named bs) (sym c.as_str.ensures.value) ∙ expanded is_name bs c.as_str.result.now q c.in-Ok.ensures.ok in
    let found = option_map (λ e. e.1) c.find_in.result in
    let other : differs named_as same bs m (key, value) ≡ false =
    sym (differs_as named_as same bs m key value q found name c.find_in.ensures.kind)
    ∙ ap (λ k. option_map_or (λ j. not (option_map_or (same j) found false)) k false) (sym c.kind_in.ensures)
    ∙ sym c.is_other_kind.ensures
    ∙ c.if-is_other_kind.false in
    record {
      found = sym (first_differs named_as same bs m key value (members_view c.next.new.self) false other) ∙ ap (λ es. of_other_kind named_as same bs m (entries (members_view es))) (sym c.in-Some-2.ensures.steps) ∙ l.invariant.found;
      last = λ u e. subst (λ v. IsSpan (map.entries m) v c.span_of-span.result) (same_Some _ _ (sym (ap (uri_of bs) (c.split_name.ensures.prefix ∙ ap prefix_part (c.as_str-in-loop-key.ensures.value ∙ sym c.as_str.ensures.value)) ∙ c.in-Ok.ensures.ok.uri) ∙ e)) c.span_of-span.ensures;
    }

pub returns : goal.returns
returns g c =
    ap (option_map (λ e. e.0)) (ap (λ es. of_other_kind g.K.Kind.kind_named g.K.Kind.same_kind c.args.aliases.now c.args.names.now (entries (members_view es))) (sym c.in-None.ensures.steps.0) ∙ c.loop-key.invariant.found)
