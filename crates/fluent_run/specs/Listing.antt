-- What a bundle has, as lists of ids and of names.
use Rattle.std.specs.Prelude.{Bool, not, List, [], ◌∷◌, Option, filter, is_some, map, option_map}
use Rattle.std.specs.List.{flat_map}
use Rattle.std.specs.Str.{bytes_eq}
use Rattle.fluent_grammar.specs.Tree.{Message}
use Rattle.fluent_grammar.specs.Words.{Text}
use Rattle.fluent_ids.specs.Found.{message_in}
use Rattle.fluent_meaning.specs.Ids.{Meaning}
use Rattle.fluent_serve.specs.Frames.{ended}

-- each of the texts once, in the order of their first places
unfoldable pub each_once : List Text → List Text
each_once [] = []
each_once (text ∷ rest) = text ∷ filter (λ other. not (bytes_eq text other)) (each_once rest)

-- the ids of entries
abbrev pub entry_ids : {F : Type 0} → List (Text × Meaning F) → List Text
entry_ids entries = map (λ entry. entry.0) entries

-- an id stands for a message
abbrev pub is_message : {F : Type 0} → (Text → Option (Meaning F)) → Text → Bool
is_message find id = is_some (message_in (find id))

-- the ids of the messages among entries, each once, in the order of their first entries; `find` says what of an id counts
abbrev pub message_ids : {F : Type 0} → (Text → Option (Meaning F)) → List (Text × Meaning F) → List Text
message_ids find entries = filter (is_message find) (each_once (entry_ids entries))

-- the names of a message's attributes, in its order
abbrev pub attribute_names : Message → List Text
attribute_names message = map (λ attribute. attribute.id) message.attributes

-- a line for each text
abbrev pub lines : List Text → Text
lines texts = flat_map ended texts

-- a line for each message among entries: its id
abbrev pub message_lines : {F : Type 0} → (Text → Option (Meaning F)) → List (Text × Meaning F) → Text
message_lines find entries = lines (message_ids find entries)

-- a line for each attribute of a message, if there is one
abbrev pub attribute_lines : Option Message → Option Text
attribute_lines found = option_map (λ message. lines (attribute_names message)) found
