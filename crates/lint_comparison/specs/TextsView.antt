-- The findings of what is said of texts, at their places.
use Rattle.std.specs.Prelude.{◌≡◌, ◌-◌, Bool, false, true, List, [], ◌∷◌, length, map, take, Option, Some, None, option_map, Vec}
use Rattle.std.specs.Global.{Global}
use Rattle.std.specs.List.{list_any}
use denote.Ref.{Bor}
use Rattle.fluent_ast.specs.Borrowed.{attributes_of, message_of}
use Rattle.fluent_ast.specs.declared.Attribute.{Attribute}
use Rattle.fluent_ast.specs.declared.Message.{Message}
use Rattle.fluent_grammar.specs.Tree as t
use Rattle.fluent_grammar.specs.Words.{Text}
use Rattle.fluent_ids.specs.IdsView.{ids_view}
use Rattle.fluent_ids.specs.declared.ids.FluentIds.{FluentIds}
use Rattle.fluent_meaning.specs.Fallback.{with_attribute}
use Rattle.lint_comparison.specs.declared.texts.Texts.{Texts}
use Rattle.lint_entries.specs.AttributePlaces.{places_of_attributes}
use Rattle.lint_entries.specs.Made.{Adds}
use Rattle.lint_findings.specs.declared.records.Finding.{Finding}
use Rattle.lint_findings.specs.ComparisonFindings.{spotted_finding, texts_findings}
use Rattle.lint_findings.specs.Doubts as d
use Rattle.lint_findings.specs.EntryFindings.{finding_in}
use Rattle.lint_findings.specs.Finding as f
use Rattle.lint_findings.specs.Occurrences.{entry_places}
use Rattle.lint_findings.specs.Pairs.{on_attribute, on_texts}
use Rattle.lint_findings.specs.Runs.{place_of}
use Rattle.lint_findings.specs.View.{finding_view}
use Rattle.lint_markup.specs.InCode.{Said, said, spotted_view, spotted_views}
use Rattle.lint_markup.specs.declared.spotted.Spotted.{Spotted}
use Rattle.lint_texts.specs.OfMessages.{on_attribute_in, on_values}

-- ---- whether anything is said

abbrev pub is_said : List d.Spotted → Bool
is_said [] = false
is_said (x ∷ xs) = true

abbrev pub attributes_said : Message (Bor Text) → Message (Bor Text) → List (Attribute (Bor Text)) → Bool
attributes_said m o as' = list_any is_said (map (on_attribute (message_of m) (message_of o)) (attributes_of as'))

abbrev pub are_any_said : Message (Bor Text) → Message (Bor Text) → Bool
are_any_said m o = list_any is_said (on_texts (message_of m) (message_of o))

-- this is said of the value of a message
abbrev pub AreOfValue : Message (Bor Text) → Message (Bor Text) → List Spotted → Type 0
AreOfValue message other doubts = spotted_views doubts ≡ map said (on_values message other)

-- ---- of one text

-- of the message, or of its attribute of this name
abbrev pub owner_of : Texts → Option (Bor Text) → Text
owner_of texts name = with_attribute texts.message.now.id.name.now (option_map (λ s. s.now) name)

-- the finding of what is said of a pattern at the front of a text, which is written so
abbrev pub is_found : Texts → Option (Bor Text) → Text → Text → Said → f.Finding
is_found texts name at written x =
    finding_in texts.source.now (owner_of texts name) at (record x.remark { inside = place_of x.piece written })

abbrev pub IsFindingOf : Texts → Option (Bor Text) → Text → Text → Spotted → Finding → Type 0
IsFindingOf texts name at written doubt made = finding_view made ≡ is_found texts name at written (spotted_view doubt)

-- before a rest
abbrev pub AddsDoubts : Texts → Option (Bor Text) → Text → Text → List Spotted → Vec Finding Global → Vec Finding Global → Type 0
AddsDoubts texts name at rest doubts old new =
    Adds old new (map (is_found texts name at (take (length at - length rest) at)) (spotted_views doubts))

-- ---- of a message

abbrev pub said_of : Texts → Option Text → Text → List d.Spotted → List f.Finding
said_of texts name at xs = map (spotted_finding texts.source.now (with_attribute texts.message.now.id.name.now name) at) xs

abbrev pub value_found : Texts → Text → List f.Finding
value_found texts at = said_of texts None at (on_values texts.message.now texts.other.now)

abbrev pub attribute_found : Texts → Attribute (Bor Text) → Text → List f.Finding
attribute_found texts a at = said_of texts (Some a.id.name.now) at (on_attribute_in texts.message.now texts.other.now a)

-- of attributes, from the line of the first one on
abbrev pub attributes_found : Texts → List t.Attribute → Text → List f.Finding
attributes_found texts as' s =
    let m = message_of texts.message.now in
    texts_findings texts.source.now m.id (places_of_attributes as' s) (map (on_attribute m (message_of texts.other.now)) as')

-- of a message beside that of the reference, in this source
abbrev pub beside_found : Text → Message (Bor Text) → Message (Bor Text) → Text → List f.Finding
beside_found source message other s =
    let m = message_of message in
    texts_findings source m.id (entry_places s) (on_texts m (message_of other))

abbrev pub found_beside : Texts → Text → List f.Finding
found_beside texts s = beside_found texts.source.now texts.message.now texts.other.now s

abbrev pub found_in_attributes : Texts → List (Attribute (Bor Text)) → Text → List f.Finding
found_in_attributes texts as' s = attributes_found texts (attributes_of as') s
