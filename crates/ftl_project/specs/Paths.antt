-- The paths that names stand for.
use Rattle.std.specs.Prelude.{if◌then◌else◌, List, [], String, map, string_bytes}
use Rattle.std.specs.Global.{Global}
use Rattle.std.specs.Str.{is_utf8}
use Rattle.fluent_grammar.specs.Words.{Text}
use Rattle.fluent_project.specs.Normal.{in_folder, normal}
use Rattle.fluent_project.specs.Patterns.{filled}
use Rattle.fluent_project.specs.declared.part.Part.TheVariants.{Byte}

-- a name that gives no text stays as it is
abbrev pub text_or : Text → Text → Text
text_or path name = if is_utf8 path then path else name

-- the path of a name in a folder, without `.`, `..` and slashes that follow each other
abbrev pub path_in : Text → Text → Text
path_in folder name = text_or (filled [] (normal (in_folder folder (map Byte name))) []) name

-- ---- in the code

abbrev pub paths : List (String Global) → List Text
paths texts = map string_bytes texts
