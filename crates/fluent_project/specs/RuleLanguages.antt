-- The languages that a rule is about, of those of its file.
use Rattle.std.specs.Prelude.{◌≡◌, ◌++◌, List, Option, Some, None}
use Rattle.std.specs.List.{filter}
use denote.Ref.{Bor}
use Rattle.fluent_project.specs.FileValues.{is_among}
use Rattle.fluent_project.specs.Patterns.{Text}
use Rattle.fluent_project.specs.PlaceViews.{texts}

-- those that are among others, in their order
abbrev pub those_in : List Text → List Text → List Text
those_in others texts = filter (λ text. is_among text others) texts

-- Those of the rule that the file has as well. Without languages either is about all.
abbrev pub in_both : Option (List Text) → Option (List Text) → Option (List Text)
in_both None languages = languages
in_both (Some locales) None = Some locales
in_both (Some locales) (Some languages) = Some (those_in languages locales)

-- ---- in the code

-- those that are among others are appended
abbrev pub AppendsThoseIn : List (Bor Text) → List (Bor Text) → List (Bor Text) → List (Bor Text) → Type 0
AppendsThoseIn others more old new = texts new ≡ texts old ++ those_in (texts others) (texts more)
