-- What the patterns of a catalog whose references never end are to contracts.
use Rattle.fluent_ids.specs.IdsView.{ids_view}
use Rattle.fluent_meaning.specs.Ids.{Ids}
use Rattle.lint_nodes.specs.declared.endless.EndlessPatterns.{EndlessPatterns}

-- the ids of the catalog
abbrev pub ids_of : EndlessPatterns → Ids (Unit {0})
ids_of endless = ids_view (Unit {0}) endless.ids.now
