use Rattle.oim_report.proofs.Shared.{rules, ◌≡◌, true, codes, string_bytes, sym, ap, ◌∙◌, subst, on_ok_weaker, put, view, members_view, members_view-insert_entry, has_colon, IsLike}
use Rattle.oim_report.proofs.BesideFacts.{extension_added, info_added}
use Rattle.oim_report.proofs.pieces.beside.read_member.Goals as goal

pub returns-then-has_colon : goal.returns-then-has_colon
returns-then-has_colon c = λ v begins.
    let key = c.args.key.now in
    let kept = members_view c.args.tree.now.entries in
    let colon : has_colon key ≡ true = sym c.has_colon.ensures ∙ c.if-has_colon.true in
    on_ok_weaker c.skip_value.result (λ r. record { found = r.found; reads = r.reads; flat = r.flat; adds = λ all own like. extension_added key r.found all kept own colon like }) (c.skip_value.ensures v begins)

pub returns : goal.returns
returns c = λ v begins.
    let key = c.args.key.now in
    let old = members_view c.args.tree.now.entries in
    let d = view c.in_ok-info.info in
    let r = c.in_ok-info.ensures v begins in
    let is_info : key ≡ codes "documentInfo" = search rules in
    let copied : string_bytes c.in_ok-copy.copy ≡ key = search rules in
    let inserted = ap members_view c.in_ok-insert.ensures.entries ∙ members_view-insert_entry c.args.tree.now.entries c.in_ok-copy.copy c.in_ok-info.info ∙ ap (λ k. put k d old) copied in
    record {
      found = d;
      reads = r.reads;
      flat = r.flat;
      adds = λ all own like. subst (λ l. IsLike (put key d all) l own) (sym inserted) (subst (λ k. IsLike (put k d all) (put k d old) own) (sym is_info) (info_added d all old own like));
    }
