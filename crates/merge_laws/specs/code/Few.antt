-- The items of a list that can store a single item without heap memory (own).
use Rattle.std.specs.Prelude.{List}
use Rattle.merge_laws.specs.declared.sorted_set.Storage.{Storage}
use Rattle.merge_laws.specs.declared.sorted_set.Storage.TheVariants.{One, Many}

abbrev pub items_of : {T : Type 0} → Storage T → List T
items_of (One alloc items) = items
items_of (Many items) = items.items
