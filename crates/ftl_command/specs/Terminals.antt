-- Who reads what the program writes.
use Rattle.std.specs.Prelude.{Bool, false, ◌||◌, List, [], ◌∷◌, codes}
use Rattle.std.specs.Str.{bytes_eq}
use Rattle.fluent_serve.specs.Text.{Text}
use Rattle.ftl_command.specs.declared.terminals.Terminals.{Terminals}

-- the command is one that people type, and that isn't meant for programs
abbrev pub are_for_people : List Text → Bool
are_for_people [] = false
are_for_people (word ∷ words) =
    bytes_eq word (codes "lint") || (bytes_eq word (codes "status") || (bytes_eq word (codes "format") || bytes_eq word (codes "tidy")))

-- more is said of a fault than its line: by such a command, or on a terminal
abbrev pub explains : Terminals → List Text → Bool
explains screens words = screens.faults || are_for_people words

-- no stream is a terminal
abbrev pub piped : Terminals
piped = record { colours = false; faults = false }
