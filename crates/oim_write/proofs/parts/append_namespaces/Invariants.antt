use Rattle.oim_write.proofs.Shared.{◌≡◌, ◌++◌, drop, false, namespace_members, parts}
use Rattle.oim_write.proofs.parts.append_namespaces.Given as goal

abbrev pub invariant-loop-uri : goal.invariant-loop-uri
invariant-loop-uri l =
    l.text.items ++ parts l.later (namespace_members l.table (drop l.uri-index l.uri-items))
    ≡ l.initial.text.items ++ parts false (namespace_members l.table l.table)
