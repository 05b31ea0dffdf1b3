-- The plain map that the map of ids stands for.
use Rattle.std.specs.Prelude.{List, [], ◌∷◌}
use Rattle.std.specs.BTreeMap.{insert_entry}
use Rattle.std.specs.Cow.{cow_str_bytes}
use Rattle.std.specs.Global.{Global}
use Rattle.std.specs.declared.borrow.CowStr.{CowStr}
use Rattle.fluent_value.specs.Args.{order}
use Rattle.fluent_meaning.specs.Ids.{Ids}
use Rattle.fluent_ids.specs.EntryView.{meaning_of}
use Rattle.fluent_ids.specs.declared.entry.Entry.{Entry}
use Rattle.fluent_ids.specs.declared.ids.FluentIds.{FluentIds}

module _ (F : Type 0) where
  -- Entries in the order of their ids' bytes. In which order they come makes no difference, since no id comes twice.
  unfoldable pub sorted : List (CowStr Global × Entry F) → Ids F
  sorted [] = []
  sorted (e ∷ es) = insert_entry order (sorted es) (cow_str_bytes e.0) (meaning_of F e.1)

  -- the ids and what they stand for
  abbrev pub ids_view : FluentIds F → Ids F
  ids_view ids = sorted ids.entries.entries
