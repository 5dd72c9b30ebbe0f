-- The text of an http or https URL parses as that URL. A kept text stays the same if it is kept again without a base URL.
-- The kept text of an accepted reference is accepted, and the kept text of a UTF-8 reference is UTF-8.
use Rattle.oim_report.proofs.Shared.{◌≡◌, ℕ, ⊎_elim, Bool, true, false, not, List, codes, bytes_eq, Option, Some, None, Ok, Err, refl, sym, ap, ◌∙◌, subst, IsUtf8, option_map_or, is_utf8, cond-true, cond-false, cases_Bool, and_parts, and_from, cond_both, or_cases, not-false, bytes_eq-Decides, is_utf8-from_IsUtf8, Parts, serialize, kind_of, IsValid, is_web, web_url, is_web_text, web_text, kept_by, kept, is_within_limit, is_text_within_limit, is_reference_refused, KeptIsKept, KeptIsAccepted, KeptIsUtf8, bytes_eq-refl}
use Rattle.url.specs.Parser.{Parsed, parse_url}
use Rattle.url.specs.Scheme.{scheme_type, default_port}
use Rattle.url.specs.declared.scheme.SchemeType.TheVariants.{SpecialNotFile}
use Rattle.url.proofs.Theorems.{parse_url-serialize_special}

http_kind : scheme_type (codes "http") ≡ SpecialNotFile
unfolding scheme_type default_port
http_kind = refl

https_kind : scheme_type (codes "https") ≡ SpecialNotFile
unfolding scheme_type default_port
https_kind = refl

web_kind : (url : Parts) → is_web url ≡ true → kind_of url ≡ SpecialNotFile
web_kind url h =
    ⊎_elim
    (λ http. ap scheme_type ((bytes_eq-Decides url.scheme (codes "http")).0 http) ∙ http_kind)
    (λ https. ap scheme_type ((bytes_eq-Decides url.scheme (codes "https")).0 https) ∙ https_kind)
    (or_cases (bytes_eq url.scheme (codes "http")) (bytes_eq url.scheme (codes "https")) h)

pub web_text-parsed : (url : Parts) → IsValid url → is_web url ≡ true → parse_url None (serialize url) ≡ Ok url
web_text-parsed url valid web = parse_url-serialize_special url None valid (web_kind url web)

pub web_text-valid : (url : Parts) → IsValid url → IsUtf8 (serialize url) → is_web url ≡ true → web_text (Some url) ≡ Some (serialize url)
web_text-valid url valid utf8 web =
    let reads : web_url (parse_url None (serialize url)) ≡ Some url =
    ap web_url (web_text-parsed url valid web) ∙ cond-true _ _ _ web in
    let same : option_map_or (λ u. bytes_eq (serialize u) (serialize url)) (web_url (parse_url None (serialize url))) false ≡ true =
    ap (λ o. option_map_or (λ u. bytes_eq (serialize u) (serialize url)) o false) reads ∙ bytes_eq-refl (serialize url) in
    cond-true _ _ _ (and_from _ _ (is_utf8-from_IsUtf8 (serialize url) utf8) same)

-- parsing returned an http or https URL with this text
abbrev has_text : List ℕ → Parsed Parts → Bool
has_text text r = option_map_or (λ url. bytes_eq (serialize url) text) (web_url r) false

never : (P : Type 0) → false ≡ true → P
never P h = cc

itself : (r : Parsed Parts) (text : List ℕ) → parse_url None text ≡ r → is_web_text text ≡ true → kept_by r None text ≡ Some text
itself (Ok url) text reads h =
    let parsed : has_text text (Ok url) ≡ true = ap (has_text text) (sym reads) ∙ (and_parts _ _ h).1 in
    ⊎_elim
    (λ web.
    let found : web_url (Ok url) ≡ Some url = cond-true _ _ _ web in
    let equal : bytes_eq (serialize url) text ≡ true = sym (ap (λ o. option_map_or (λ u. bytes_eq (serialize u) text) o false) found) ∙ parsed in
    let same : serialize url ≡ text = (bytes_eq-Decides (serialize url) text).0 equal in
    cond-true _ _ _ web ∙ cond-true _ _ _ (ap is_web_text same ∙ h) ∙ ap Some same)
    (λ other.
    let none : web_url (Ok url) ≡ None = cond-false _ _ _ other in
    never (kept_by (Ok url) None text ≡ Some text) (sym (ap (λ o. option_map_or (λ u. bytes_eq (serialize u) text) o false) none) ∙ parsed))
    (cases_Bool (is_web url))
itself (Err e) text reads h =
    never (kept_by (Err e) None text ≡ Some text) (ap (has_text text) (sym reads) ∙ (and_parts _ _ h).1)

web_again : (found : Option Parts) (text : List ℕ) → web_text found ≡ Some text → kept None text ≡ Some text
web_again None text h = cc
web_again (Some url) text h =
    cond_both (is_web_text (serialize url)) (Some (serialize url)) None (λ o. o ≡ Some text → kept None text ≡ Some text)
    (λ reads e. let same : serialize url ≡ text = cc in subst (λ t. kept None t ≡ Some t) same (itself _ (serialize url) refl reads))
    (λ other e. cc) h

by_again : (r : Parsed Parts) (base : Option Parts) (reference text : List ℕ) → parse_url None reference ≡ r → kept_by r base reference ≡ Some text → kept None text ≡ Some text
by_again (Ok url) base reference text reads h =
    ⊎_elim
    (λ web. web_again (Some url) text (sym (cond-true _ _ _ web) ∙ h))
    (λ other.
    let same : reference ≡ text = let e = sym (cond-false _ (web_text (Some url)) (Some reference) other) ∙ h in cc in
    subst (λ t. kept None t ≡ Some t) same (ap (λ r. kept_by r None reference) reads ∙ cond-false _ _ _ other))
    (cases_Bool (is_web url))
by_again (Err e) None reference text reads h =
    let same : reference ≡ text = cc in
    subst (λ t. kept None t ≡ Some t) same (ap (λ r. kept_by r None reference) reads)
by_again (Err e) (Some base) reference text reads h = web_again (web_url (parse_url (Some base) reference)) text h

pub kept_again : KeptIsKept
kept_again base reference text h = by_again (parse_url None reference) base reference text refl h

pub kept_limit : (base : Option Parts) (reference text : List ℕ) → is_reference_refused base reference ≡ false → kept base reference ≡ Some text → is_within_limit text ≡ true
kept_limit base reference text accepted h =
    let both = and_parts (is_within_limit reference) (is_text_within_limit (kept base reference)) (not-false _ accepted) in
    sym (ap is_text_within_limit h) ∙ both.1

pub accepted_itself : (text : List ℕ) → kept None text ≡ Some text → is_within_limit text ≡ true → is_reference_refused None text ≡ false
accepted_itself text itself limit = ap not (and_from _ _ limit (ap is_text_within_limit itself ∙ limit))

pub accepted_again : KeptIsAccepted
accepted_again base reference text accepted h =
    accepted_itself text (kept_again base reference text h) (kept_limit base reference text accepted h)

web_utf8 : (found : Option Parts) (text : List ℕ) → web_text found ≡ Some text → is_utf8 text ≡ true
web_utf8 None text h = cc
web_utf8 (Some url) text h =
    cond_both (is_web_text (serialize url)) (Some (serialize url)) None (λ o. o ≡ Some text → is_utf8 text ≡ true)
    (λ reads e. let same : serialize url ≡ text = cc in subst (λ t. is_utf8 t ≡ true) same (and_parts _ _ reads).0)
    (λ other e. cc) h

by_utf8 : (r : Parsed Parts) (base : Option Parts) (reference text : List ℕ) → is_utf8 reference ≡ true → kept_by r base reference ≡ Some text → is_utf8 text ≡ true
by_utf8 (Ok url) base reference text utf8 h =
    ⊎_elim
    (λ web. web_utf8 (Some url) text (sym (cond-true _ _ _ web) ∙ h))
    (λ other.
    let same : reference ≡ text = let e = sym (cond-false _ (web_text (Some url)) (Some reference) other) ∙ h in cc in
    subst (λ t. is_utf8 t ≡ true) same utf8)
    (cases_Bool (is_web url))
by_utf8 (Err e) None reference text utf8 h = let same : reference ≡ text = cc in subst (λ t. is_utf8 t ≡ true) same utf8
by_utf8 (Err e) (Some base) reference text utf8 h = web_utf8 (web_url (parse_url (Some base) reference)) text h

pub kept_utf8 : KeptIsUtf8
kept_utf8 base reference text utf8 h = by_utf8 (parse_url None reference) base reference text utf8 h
