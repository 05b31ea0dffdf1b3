-- What trees that are added stand for.
use Rattle.std.specs.Prelude.{List}
use Rattle.std.specs.List.{flat_map}
use denote.Ref.{Bor}
use Rattle.fluent_ast.specs.declared.Resource.{Resource}
use Rattle.fluent_grammar.specs.Words.{Text}
use Rattle.fluent_value.specs.declared.function.NoFunction.{NoFunction}
use Rattle.fluent_meaning.specs.Ids.{Ids, Meaning, entries_by_id}
use Rattle.fluent_ids.specs.IdsView.{ids_view}
use Rattle.fluent_ids.specs.ResourceEntries.{entries_in}
use Rattle.fluent_errors.specs.Errors.{Reported}
use Rattle.fluent_check.specs.ReportView.{notices_view}
use Rattle.fluent_check.specs.declared.notices.NoticeList.{NoticeList}

-- the messages and terms of a tree, by their ids
abbrev pub tree_by_id : Resource (Bor Text) → List (Text × Meaning NoFunction)
tree_by_id tree = entries_by_id (entries_in tree)

-- those of trees, one after the other
abbrev pub trees_by_id : List (Resource (Bor Text)) → List (Text × Meaning NoFunction)
trees_by_id trees = flat_map tree_by_id trees

-- the ids that were added
abbrev pub ids_in : NoticeList → Ids NoFunction
ids_in added = ids_view NoFunction added.ids

-- the notices that came
abbrev pub notices_in : NoticeList → List Reported
notices_in added = notices_view added.notices
