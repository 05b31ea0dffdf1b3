-- What unescaping leaves in a writer, and where a text needs none.
use Rattle.std.specs.Prelude.{◌≡◌, ◌++◌, Bool, ◌==◌}
use Rattle.std.specs.List.{list_any}
use Rattle.fluent_grammar.specs.Words.{Text, backslash}

-- after the text that it held, a writer took a prefix of a whole
pub record TookPrefix (held now whole : Text) : Type 0 where
  pub taken : Text
  pub left : Text
  pub holds : now ≡ held ++ taken
  pub split : whole ≡ taken ++ left

-- whether a backslash stands in a text: without one, it stands for itself
abbrev pub has_backslash : Text → Bool
has_backslash text = list_any (λ c. c == backslash) text
