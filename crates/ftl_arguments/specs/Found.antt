-- What `clap` found for a command, by the names of its arguments.
use Rattle.std.specs.Prelude.{Bool, List, [], Option, unwrap_or, false, codes}
use Rattle.std.specs.Option.{option_map_or}
use Rattle.std.specs.Str.{bytes_eq}
use Rattle.clap.specs.Words.{Row, Text, all_of, first_of}

-- a flag that was given
abbrev pub is_given : Text → List Row → Bool
is_given name rows = option_map_or (λ s. bytes_eq s (codes "true")) (first_of name rows) false

-- all values of an argument, in the order of the words
abbrev pub values_in : Text → List Row → List Text
values_in name rows = unwrap_or (all_of name rows) []

-- the value of `--locale`
abbrev pub locale_in : List Row → Option Text
locale_in rows = first_of (codes "locale") rows

abbrev pub file_in : List Row → Option Text
file_in rows = first_of (codes "FILE") rows

abbrev pub files_in : List Row → List Text
files_in rows = values_in (codes "FILE") rows
