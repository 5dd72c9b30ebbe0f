use Rattle.oim_report.proofs.Shared.{◌≡◌, ℕ, List, Bor, Option, Some, None, IfSome, option_and_then, option_copied, option_map, refl, sym, ap, subst, ◌∙◌, FinMap, QName, is_name, name_cmp, Binding, uri_of, named, IsFound}
use Rattle.std.specs.FinMap as map
use Rattle.oim_report.specs.code.TextCache.{IsNameCache, NamesListed, kind_of}
use Rattle.oim_report.proofs.Naming.{expanded}
use Rattle.oim_report.proofs.ShownFaults.{refused_none}
use Rattle.oim_report.proofs.TextCacheAdds.{still}
use Rattle.oim_report.proofs.fact_reader.text_cache.NameCache.find.Goals as goal
use Rattle.oim_report.proofs.fact_reader.text_cache.NameCache.find.Goals.{in-Some-found+in_ok-add, in_default-found}

module _ {K : Type 0} (m : FinMap name_cmp K) (bs : List Binding) (t : List ℕ) (n : QName) (spelled : named bs t ≡ Some n) where
  names : (r : Option (Bor QName × K × ℕ)) → IsFound m n r → IfSome r (λ e. named bs t ≡ Some e.0.now)
  names None is = tt
  names (Some e) is = spelled ∙ ap Some (sym is.name)

  kinds : (r : Option (Bor QName × K × ℕ)) → IsFound m n r → option_map (λ e. e.1) r ≡ kind_of m bs t
  kinds r is = is.kind ∙ sym (ap (option_and_then (map.get m)) spelled)

  listed : (r : Option (Bor QName × K × ℕ)) (e : Bor QName × K × ℕ) → r ≡ Some e → IsFound m n r → NamesListed m bs t e
  listed r e here is =
      let there = subst (IsFound m n) here is in
      (names (Some e) there, sym (kinds (Some e) there), there.rank)

pub span-requires-clause-bound : goal.span-requires-clause-bound
span-requires-clause-bound g c = ap (uri_of c.args.aliases.now) c.split_name.ensures.prefix ∙ c.in-Ok.ensures.ok.uri

pub returns-in-Some-clause-kind : goal.returns-in-Some-clause-kind
returns-in-Some-clause-kind g c = sym (c.requires.known.texts.each c.args.text.now c.in-Some.known.now (sym c.find.ensures ∙ ap option_copied c.in-Some.is)).1

pub returns-in-Some-clause-name : goal.returns-in-Some-clause-name
returns-in-Some-clause-name g c = (c.requires.known.texts.each c.args.text.now c.in-Some.known.now (sym c.find.ensures ∙ ap option_copied c.in-Some.is)).0

pub returns-in-Some-clause-rank : goal.returns-in-Some-clause-rank
returns-in-Some-clause-rank g c = (c.requires.known.texts.each c.args.text.now c.in-Some.known.now (sym c.find.ensures ∙ ap option_copied c.in-Some.is)).2

pub returns-clause-name : goal.returns-clause-name
returns-clause-name g c = names c.args.names.now c.args.aliases.now c.args.text.now _ (expanded is_name c.args.aliases.now c.args.text.now _ c.in-Ok.ensures.ok) c.find_in-found.result c.find_in-found.ensures

pub returns-clause-kind : goal.returns-clause-kind
returns-clause-kind g c = kinds c.args.names.now c.args.aliases.now c.args.text.now _ (expanded is_name c.args.aliases.now c.args.text.now _ c.in-Ok.ensures.ok) c.find_in-found.result c.find_in-found.ensures

pub returns-clause-rank : goal.returns-clause-rank
returns-clause-rank g c = c.find_in-found.ensures.rank

pub returns-clause-known : goal.returns-clause-known
returns-clause-known g c =
    let m = c.args.names.now in
    let bs = c.args.aliases.now in
    let t = c.args.text.now in
    elim c.match-found.branch [
      | in-Some-found+in_ok-add w ↦
          let says = listed m bs t _ (expanded is_name bs t _ c.in-Ok.ensures.ok) c.find_in-found.result _ w.in-Some-found.is c.find_in-found.ensures in
          subst (IsNameCache m bs) (sym w.self-is) (record {
            texts = still (NamesListed m bs) c.span.new.self.texts w.add.new.self t _ c.span.ensures.known.texts says w.add.ensures;
            spans = c.span.ensures.known.spans;
          })
      | in_default-found w ↦ subst (IsNameCache m bs) (sym w.self-is) c.span.ensures.known
    ]

pub returns-in_err-add-clause-known : goal.returns-in_err-add-clause-known
returns-in_err-add-clause-known g c =
    let m = c.args.names.now in
    let bs = c.args.aliases.now in
    let t = c.args.text.now in
    let says = listed m bs t _ (expanded is_name bs t _ c.in-Ok.ensures.ok) c.find_in-found.result _ c.in-Some-found.is c.find_in-found.ensures in
    record {
      texts = still (NamesListed m bs) c.span.new.self.texts c.add.new.self t _ c.span.ensures.known.texts says c.add.ensures;
      spans = c.span.ensures.known.spans;
    }

pub returns-in_default-resolve-clause-kind : goal.returns-in_default-resolve-clause-kind
returns-in_default-resolve-clause-kind g c = rw (refused_none c.args.aliases.now c.args.text.now _ (sym c.in_default-resolve.ensures.refused)) refl
