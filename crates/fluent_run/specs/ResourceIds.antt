-- What resources stand for.
use Rattle.std.specs.Prelude.{List}
use Rattle.std.specs.List.{flat_map}
use Rattle.fluent_grammar.specs.Words.{Text}
use Rattle.fluent_meaning.specs.Ids.{Meaning, entries_by_id}
use Rattle.fluent_resource.specs.ResourceView.{entries_view}
use Rattle.fluent_resource.specs.declared.resource.FluentResource.{FluentResource}

-- the messages and terms of a resource, by their ids
abbrev pub by_id : {F : Type 0} → FluentResource → List (Text × Meaning F)
by_id r = entries_by_id (entries_view r)

-- those of resources, one after the other
abbrev pub all_by_id : {F : Type 0} → List FluentResource → List (Text × Meaning F)
all_by_id rs = flat_map by_id rs
