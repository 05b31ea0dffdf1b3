-- What filters are about.
use Rattle.std.specs.Prelude.{Bool, true, false, is_some}
use Rattle.std.specs.Str.{bytes_eq}
use Rattle.regex.specs.Patterns.{find_str}
use Rattle.regex.specs.Strings.{regex_pattern}
use Rattle.fluent_project.specs.Patterns.{Text}
use Rattle.fluent_project.specs.declared.filters.Key.{Key}
use Rattle.fluent_project.specs.declared.filters.Key.TheVariants as key

-- a filter is about files, and not about messages
abbrev pub is_of_files : Key → Bool
is_of_files key.File = true
is_of_files (key.Id id) = false
is_of_files (key.Expression expression) = false

-- it is about messages of an id
abbrev pub is_of_id : Key → Text → Bool
is_of_id key.File id = false
is_of_id (key.Id other) id = bytes_eq other.now id
is_of_id (key.Expression expression) id = is_some (find_str (regex_pattern expression) id 0)
