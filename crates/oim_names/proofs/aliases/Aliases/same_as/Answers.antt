use Rattle.oim_names.proofs.Shared.{◌≡◌, ◌&&◌, ◌∙◌, ap, sym, bytes_eq, Decides-and, bytes_eq-Decides, slice_eq-Decides, Binding}
use Rattle.std.specs.Bool.{Decides}
use Rattle.oim_names.proofs.aliases.Aliases.same_as.Goals as goal

same_binding : (a b : Binding) → Decides (bytes_eq a.prefix b.prefix && bytes_eq a.uri b.uri) (a ≡ b)
same_binding a b =
    let both = Decides-and _ _ (bytes_eq-Decides a.prefix b.prefix) (bytes_eq-Decides a.uri b.uri) in
    (λ t. let e = both.0 t in λ i. record { prefix = e.0 i; uri = e.1 i }, λ e. both.1 (ap (λ (x : Binding). x.prefix) e, ap (λ (x : Binding). x.uri) e))

pub returns : goal.returns
returns c =
    let same = slice_eq-Decides same_binding c.as_slice.result.now c.as_slice-2.result.now c.eq.result c.eq.ensures in
    let mine = sym c.self.view_is ∙ sym c.as_slice.ensures.value in
    let theirs = sym c.other.view_is ∙ sym c.as_slice-2.ensures.value in
    (λ t. mine ∙ same.0 t ∙ sym theirs, λ e. same.1 (sym mine ∙ e ∙ theirs))
