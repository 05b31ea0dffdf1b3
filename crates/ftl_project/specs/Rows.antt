-- The lines of the table.
use Rattle.std.specs.Prelude.{◌≡◌, List, [], ◌∷◌, ◌++◌, None}
use Rattle.fluent_lint.specs.declared.table.Counts.{Counts}
use Rattle.ftl_project.specs.declared.table.Row.{Row}

-- the line of all languages
abbrev pub total_row : Counts → Row
total_row total = record { locale = None; file = None; counts = total }

-- it is the last
pub record EndInTotal (total : Counts) (rows : List Row) : Type 0 where
  pub front : List Row
  pub are : rows ≡ front ++ total_row total ∷ []
