-- Messages that were looked up once.
use Rattle.std.specs.Prelude.{◌≡◌, ◌⊎◌, ℕ, [], ◌∷◌, ◌++◌, Option, None, Some, Contains}
use Rattle.std.specs.HashMap.{get_by}
use Rattle.std.specs.Str.{bytes_eq}
use denote.Ref.{Bor}
use Rattle.fluent_ast.specs.View.{message_view}
use Rattle.fluent_ast.specs.declared.Message.{Message}
use Rattle.fluent_grammar.specs.Tree as t
use Rattle.fluent_grammar.specs.Words.{Text}
use Rattle.fluent_meaning.specs.Ids.{attribute_named}
use Rattle.fluent_kept.specs.declared.found.Found.{Found}

-- a message that is lent, as plain data
abbrev pub message_told : Bor (Message (Bor Text)) → t.Message
message_told m = message_view _ (λ s. s.now) m.now

-- the place of a message by its id, if it has one
abbrev pub place_in : Found → Bor (Message (Bor Text)) → Option ℕ
place_in found m = get_by (λ k. bytes_eq (message_told m).id k.now) found.places

-- the message is among those that were found, and has the id
abbrev pub IsThereBy : Found → Text → Bor (Message (Bor Text)) → Type 0
IsThereBy found id m = Contains found.messages.items m × ((message_told m).id ≡ id)

-- those that were found still are, and at most this one is new, after them
abbrev pub Keeps : Found → Found → Bor (Message (Bor Text)) → Type 0
Keeps old new m = (new.messages.items ≡ old.messages.items) ⊎ (new.messages.items ≡ old.messages.items ++ (m ∷ []))

-- the pattern of a message's value, or of its first attribute of a name
abbrev pub pattern_of : Option Text → t.Message → Option t.Elements
pattern_of None m = m.value
pattern_of (Some name) m = attribute_named name m.attributes
