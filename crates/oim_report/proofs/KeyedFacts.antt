-- An accepted report has an identifier for each fact.
use Rattle.oim_report.proofs.Shared.{◌≡◌, ℕ, List, ◌∷◌, Some, refl, AllZip, Binding, Fact, Members, member, Document, ObjectSays, SaysDocument, EachFactHasAnIdentifier, Identify, IdentifierSays, identifiers, identifiers_in, entries, values, bindings_of, facts_of, Sheet}
use Rattle.oim_report.proofs.Documents.{outcomes_are_said}

keyed_say : (sheet : Sheet) (bs : List Binding) (ms : Members) (fs : List Fact) → AllZip (ObjectSays sheet bs) (values ms) fs → AllZip (IdentifierSays sheet bs) (entries ms) fs
keyed_say sheet bs (member key d ms) (f ∷ fs) says = (says.0, keyed_say sheet bs ms fs says.1)
keyed_say sheet bs ms fs says = says

identified : (sheet : Sheet) (bytes : List ℕ) (d : Document) → SaysDocument sheet bytes d → (is : List (List ℕ)) × (identifiers bytes ≡ Some is) × Identify sheet bytes d is
identified sheet bytes d says =
    let objects = entries (facts_of says.tree) in (
      identifiers_in objects,
      rw says.read refl,
      record { tree = says.tree; read = says.read; are = refl; say = keyed_say sheet (bindings_of says.tree) (facts_of says.tree) d.facts says.facts },
    )

pub each_fact_has_an_identifier : EachFactHasAnIdentifier
each_fact_has_an_identifier sheet bytes d accepted = identified sheet bytes d (outcomes_are_said sheet bytes d accepted)
