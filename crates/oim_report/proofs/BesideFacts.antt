-- What rules read in an object whose members are added one after another.
use Rattle.oim_report.proofs.Shared.{◌≡◌, ℕ, List, true, not, ◌&&◌, bytes_eq, Option, Some, None, refl, sym, ap, ◌∙◌, subst, codes, list_any, Data, Members, put, get_member-put, get_member-put_other, root_keys, has_colon, put_all, Adds, IsLike, Ascends}
use Rattle.oim_report.proofs.PutMembers.{known_put, put_onto}
use Rattle.oim_report.proofs.MembersPut.{kept_name}

-- ---- one member

pub facts_added : (d : Data) (all kept : Members) → IsLike all kept None → IsLike (put (codes "facts") d all) kept (Some d)
facts_added d all kept h = record {
  known = known_put root_keys (codes "facts") d all refl h.known;
  info = get_member-put_other (codes "documentInfo") (codes "facts") d all (λ e. Prim.cc) ∙ h.info;
  facts = get_member-put (codes "facts") d all;
}

pub info_added : (d : Data) (all kept : Members) (own : Option Data) → IsLike all kept own → IsLike (put (codes "documentInfo") d all) (put (codes "documentInfo") d kept) own
info_added d all kept own h = record {
  known = known_put root_keys (codes "documentInfo") d all refl h.known;
  info = get_member-put (codes "documentInfo") d all ∙ sym (get_member-put (codes "documentInfo") d kept);
  facts = get_member-put_other (codes "facts") (codes "documentInfo") d all (λ e. Prim.cc) ∙ h.facts;
}

pub extension_added : (k : List ℕ) (d : Data) (all kept : Members) (own : Option Data) → has_colon k ≡ true → IsLike all kept own → IsLike (put k d all) kept own
extension_added k d all kept own colon h = record {
  known = known_put root_keys k d all (ap (λ b. not b && not (list_any (λ l. bytes_eq l k) root_keys)) colon) h.known;
  info = kept_name (codes "documentInfo") k d all refl colon ∙ h.info;
  facts = kept_name (codes "facts") k d all refl colon ∙ h.facts;
}

-- ---- several members

pub one_added : (k : List ℕ) (d : Data) (ms old now new : Members) → Ascends ms → ((all : Members) (own : Option Data) → IsLike all now own → IsLike (put k d all) new own) → Adds ms old now → Adds (put k d ms) old new
one_added k d ms old now new rises one h = λ all own like. subst (λ l. IsLike l new own) (sym (put_onto k d ms all rises)) (one (put_all ms all) own (h all own like))
