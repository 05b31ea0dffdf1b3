-- What is said of the texts of messages, as the code has them.
use Rattle.std.specs.Prelude.{List, None, Some, option_map}
use denote.Ref.{Bor}
use Rattle.fluent_ast.specs.Borrowed.{attributes_of, elements_of, message_of}
use Rattle.fluent_ast.specs.declared.Attribute.{Attribute}
use Rattle.fluent_ast.specs.declared.Message.{Message}
use Rattle.fluent_grammar.specs.Tree as t
use Rattle.fluent_grammar.specs.Words.{Text}
use Rattle.lint_findings.specs.Doubts as d
use Rattle.lint_findings.specs.Pairs as p

abbrev pub attribute_view : Attribute (Bor Text) → t.Attribute
attribute_view a = record { id = a.id.name.now; value = elements_of a.value }

abbrev pub on_values : Message (Bor Text) → Message (Bor Text) → List d.Spotted
on_values message other = p.on_maybe None (option_map elements_of message.value) (option_map elements_of other.value)

abbrev pub on_attribute_in : Message (Bor Text) → Message (Bor Text) → Attribute (Bor Text) → List d.Spotted
on_attribute_in message other attribute = p.on_attribute (message_of message) (message_of other) (attribute_view attribute)

-- of an attribute, beside the first of its name
abbrev pub beside_first : Attribute (Bor Text) → List (Attribute (Bor Text)) → List d.Spotted
beside_first attribute others =
    p.on_maybe (Some attribute.id.name.now) (Some (elements_of attribute.value)) (p.attribute_of attribute.id.name.now (attributes_of others))

-- of the attribute of this name, if it is an access key
abbrev pub access_key_said : Message (Bor Text) → Message (Bor Text) → Text → List d.Spotted
access_key_said message other name = p.if_access_key name (message_of message) (message_of other)
