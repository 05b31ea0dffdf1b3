-- What is known of a catalog.
use Rattle.fluent_ids.specs.IdsView.{ids_view}
use Rattle.fluent_meaning.specs.Ids.{Ids}
use Rattle.lint_nodes.specs.EndlessView.{ids_of}
use Rattle.lint_entries.specs.declared.catalog.Catalog.{Catalog}

-- what its ids stand for
abbrev pub ids_in : Catalog → Ids (Unit {0})
ids_in catalog = ids_of catalog.endless.now

-- what those of its reference stand for
abbrev pub reference_in : Catalog → Ids (Unit {0})
reference_in catalog = ids_view (Unit {0}) catalog.reference.now
