-- The keys of an object that was read ascend in byte order.
use Rattle.oim_report.proofs.Shared.{◌≡◌, ℕ, List, Bool, true, false, cond, Option, Some, None, option_and_then, subst, Less, Equal, Greater, codes, nat_cmp, ⊤, AllByRecursion, match_ordering, slice_cmp, is_utf8, tokens, Data, number, array, object, Members, no_members, member, put, get_member, as_object, of_json, of_items, of_members, number_of, read, max_depth, identifiers_in, IdentifiersRise, entries, json_text, members, without_mark, facts_of, IsBefore, Ascends}
use Rattle.std.specs.List.Sorted.{IsStrictlySortedBy}
use Rattle.json.specs.Json as json
use Rattle.oim_report.proofs.PutMembers.{ascends_put}
use Rattle.oim_report.proofs.ReadUtf8.{Has, has_mapped, has_then, any}

abbrev ObjectAscends : Data → Type 0
ObjectAscends d = Has Ascends (as_object d)

abbrev EachAscends : Members → Type 0
EachAscends no_members = ⊤
EachAscends (member k d ms) = ObjectAscends d × EachAscends ms

abbrev HasAscending : Data → Type 0
HasAscending d = Has EachAscends (as_object d)

members_ascend : (ms : json.Members) (found : Members) → Ascends found → Has Ascends (of_members ms found)
members_ascend json.no_members found h = h
members_ascend (json.member k j ms) found h = has_then (λ d. ⊤) Ascends _ (λ d x. members_ascend ms (put k d found) (ascends_put k d found h)) (of_json j) (any (of_json j))

object_ascends : (j : json.Json) → Has ObjectAscends (of_json j)
object_ascends (json.number s) = has_mapped (λ n. ⊤) ObjectAscends number (λ n x. tt) (number_of s) (any (number_of s))
object_ascends (json.array js) = has_mapped (λ ds. ⊤) ObjectAscends array (λ ds x. tt) (of_items js) (any (of_items js))
object_ascends (json.object ms) = has_mapped Ascends ObjectAscends object (λ m x. x) (of_members ms no_members) (members_ascend ms no_members tt)
object_ascends j = tt

each_put : (k : List ℕ) (d : Data) (ms : Members) → ObjectAscends d → EachAscends ms → EachAscends (put k d ms)
each_put k d no_members x h = (x, tt)
each_put k d (member l e ms) x h =
    elim (slice_cmp nat_cmp k l) as (λ o. EachAscends (match_ordering o (member k d (member l e ms)) (member l d ms) (member l e (put k d ms)))) [
      | Less ↦ (x, h)
      | Equal ↦ (x, h.1)
      | Greater ↦ (h.0, each_put k d ms x h.1)
    ]

each_ascends : (ms : json.Members) (found : Members) → EachAscends found → Has EachAscends (of_members ms found)
each_ascends json.no_members found h = h
each_ascends (json.member k j ms) found h = has_then ObjectAscends EachAscends _ (λ d x. each_ascends ms (put k d found) (each_put k d found x h)) (of_json j) (object_ascends j)

has_ascending : (j : json.Json) → Has HasAscending (of_json j)
has_ascending (json.number s) = has_mapped (λ n. ⊤) HasAscending number (λ n x. tt) (number_of s) (any (number_of s))
has_ascending (json.array js) = has_mapped (λ ds. ⊤) HasAscending array (λ ds x. tt) (of_items js) (any (of_items js))
has_ascending (json.object ms) = has_mapped EachAscends HasAscending object (λ m x. x) (of_members ms no_members) (each_ascends ms no_members tt)
has_ascending j = tt

by_test : (b : Bool) (o : Option Data) → Has HasAscending o → Has HasAscending (cond b o None)
by_test true o h = h
by_test false o h = tt

text_ascends : (text : List ℕ) → Has HasAscending (json_text text)
text_ascends text =
    let parsed : Option json.Json = option_and_then (λ p. json.if_last p.0 p.1) (json.value max_depth (tokens text)) in
    by_test (is_utf8 text) (read text) (has_then (λ j. ⊤) HasAscending of_json (λ j x. has_ascending j) parsed (any parsed))

found_ascends : (key : List ℕ) (ms : Members) → EachAscends ms → Has ObjectAscends (get_member key ms)
found_ascends key no_members h = tt
found_ascends key (member l e ms) h =
    elim (slice_cmp nat_cmp key l) as (λ o. Has ObjectAscends (match_ordering o (get_member key ms) (Some e) (get_member key ms))) [
      | Less ↦ found_ascends key ms h.1
      | Equal ↦ h.0
      | Greater ↦ found_ascends key ms h.1
    ]

or_none : (o : Option Members) → Has Ascends o → Ascends (members o)
or_none None h = tt
or_none (Some ms) h = h

facts_ascend : (tree : Data) → HasAscending tree → Ascends (facts_of tree)
facts_ascend (object ms) h = or_none _ (has_then ObjectAscends Ascends as_object (λ d x. x) (get_member (codes "facts") ms) (found_ascends (codes "facts") ms h))
facts_ascend tree h = tt

before_keys : (k : List ℕ) (ms : Members) → IsBefore k ms → AllByRecursion (λ l. slice_cmp nat_cmp k l ≡ Less) (identifiers_in (entries ms))
before_keys k no_members h = tt
before_keys k (member l d ms) h = (h.0, before_keys k ms h.1)

keys_rise : (ms : Members) → Ascends ms → IsStrictlySortedBy (slice_cmp nat_cmp) (identifiers_in (entries ms))
unfolding IsStrictlySortedBy
keys_rise no_members h = tt
keys_rise (member k d ms) h = (before_keys k ms h.0, keys_rise ms h.1)

pub identifiers_rise : IdentifiersRise
identifiers_rise bytes tree e = keys_rise (facts_of tree) (facts_ascend tree (subst (Has HasAscending) e (text_ascends (without_mark bytes))))
