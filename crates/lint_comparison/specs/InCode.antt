-- The same of what the code has: ids, messages, their values and attributes.
use Rattle.std.specs.Prelude.{◌≡◌, Bool, ◌&&◌, List, map, Option, Some, option_map, Vec}
use Rattle.std.specs.Global.{Global}
use Rattle.std.specs.Str.{bytes_eq}
use denote.Ref.{Bor}
use Rattle.fluent_ast.specs.Borrowed.{attribute_of, elements_of, message_of}
use Rattle.fluent_ast.specs.declared.Attribute.{Attribute}
use Rattle.fluent_ast.specs.declared.Message.{Message}
use Rattle.fluent_ast.specs.declared.Pattern.{Pattern}
use Rattle.lint_findings.specs.DifferenceView.{difference_view}
use Rattle.lint_findings.specs.declared.difference.Difference.{Difference}
use Rattle.lint_entries.specs.AttributePlaces.{value_elements}
use Rattle.lint_findings.specs.declared.records.Finding.{Finding}
use Rattle.lint_findings.specs.Comparison as c
use Rattle.lint_findings.specs.Occurrences.{pattern_read}
use Rattle.fluent_grammar.specs.Refusal.{got}
use Rattle.fluent_grammar.specs.Tree as t
use Rattle.fluent_grammar.specs.Words.{Text}
use Rattle.fluent_ids.specs.Found.{lent_message, message_in}
use Rattle.fluent_ids.specs.IdsView.{ids_view}
use Rattle.fluent_ids.specs.declared.ids.FluentIds.{FluentIds}
use Rattle.fluent_meaning.specs.Ids.{find}
use Rattle.fluent_meaning.specs.Same.{same_elements}
use Rattle.lint_comparison.specs.Compared.{untranslated_if}
use Rattle.lint_findings.specs.Comparison.{variable_differences}
use Rattle.lint_findings.specs.Shown.{elements_show}
use Rattle.std.specs.List.{list_any}
use Rattle.std.specs.Option.{option_to_list}
use Rattle.lint_comparison.specs.Lacks.{Adds}
use Rattle.lint_comparison.specs.Found.{AreFindingsBy, AreFoundIn}
use Rattle.lint_nodes.specs.HasNames.{HasNames}
use Rattle.lint_nodes.specs.declared.name_set.Names.{Names}

-- ---- by ids of a catalog and of its reference

module _ (ids : FluentIds (Unit {0})) where
  -- the variables that the message of an id is shown with
  abbrev pub variables_by : Text → List Text
  variables_by id = c.variables_of (ids_view (Unit {0}) ids) id

  -- these names are those variables
  abbrev pub AreVariablesOf : Text → Names → Type 0
  AreVariablesOf id names = HasNames names (variables_by id)

-- this was looked up under an id
abbrev pub IsLookedUp : FluentIds (Unit {0}) → Text → Option (Bor (Message (Bor Text))) → Type 0
IsLookedUp ids id found = lent_message found ≡ message_in (find (ids_view (Unit {0}) ids) id)

-- an id stands for this message
abbrev pub StandsFor : FluentIds (Unit {0}) → Text → Message (Bor Text) → Type 0
StandsFor ids id message = message_in (find (ids_view (Unit {0}) ids) id) ≡ Some (message_of message)

-- those of variables that are listed, by the message of this id in the reference
abbrev pub AddsVariablesBy : Message (Bor Text) → Names → FluentIds (Unit {0}) → Text → Vec Difference Global → Vec Difference Global → Type 0
AddsVariablesBy other variables reference id old new =
    (xs : List Text) → HasNames variables xs → Adds old new (variable_differences (message_of other) xs (variables_by reference id))

module _ (ids reference : FluentIds (Unit {0})) where
  abbrev pub differences_by : Text → List c.Difference
  differences_by id = c.differences (ids_view (Unit {0}) ids) (ids_view (Unit {0}) reference) id

  -- these are those differences
  abbrev pub AreDifferencesOf : Text → List Difference → Type 0
  AreDifferencesOf id found = map difference_view found ≡ differences_by id

  -- of the message of an id in both
  abbrev pub message_differences_by : Text → Message (Bor Text) → Message (Bor Text) → List c.Difference
  message_differences_by id message other = c.message_differences (ids_view (Unit {0}) ids) (ids_view (Unit {0}) reference) id (message_of message) (message_of other)

  abbrev pub variables_between : Text → Message (Bor Text) → List c.Difference
  variables_between id other = variable_differences (message_of other) (variables_by ids id) (variables_by reference id)

  -- the findings of a message at the front of a text, in this source
  abbrev pub AreFoundOf : Text → Message (Bor Text) → Text → Vec Finding Global → Type 0
  AreFoundOf source message text found = AreFoundIn (ids_view (Unit {0}) ids) (ids_view (Unit {0}) reference) source (message_of message) text found

-- ---- of messages

-- whether a value, if there is one, or an attribute shows a variable
abbrev pub value_shows : Option (Pattern (Bor Text)) → Text → Bool
value_shows value x = list_any (elements_show x) (option_to_list (option_map elements_of value))

abbrev pub attributes_show : List t.Attribute → Text → Bool
attributes_show as' x = list_any (elements_show x) (map (λ (a : t.Attribute). a.value) as')

abbrev pub values_difference : Option (Pattern (Bor Text)) → Option (Pattern (Bor Text)) → List c.Difference
values_difference value other = c.value_difference (option_map elements_of value) (option_map elements_of other)

abbrev pub untranslated_by : Message (Bor Text) → Message (Bor Text) → List c.Difference
untranslated_by message other = untranslated_if (c.same_message (message_of message) (message_of other))

abbrev pub same_attribute : Attribute (Bor Text) → Attribute (Bor Text) → Bool
same_attribute attribute other =
    bytes_eq (attribute_of other).id (attribute_of attribute).id && same_elements (attribute_of attribute).value (attribute_of other).value

-- the findings of these differences of a message, by the variables that are listed
abbrev pub AreMessageFindings : Text → Message (Bor Text) → Text → Names → List Difference → Vec Finding Global → Type 0
AreMessageFindings source message text names differences found = AreFindingsBy source (message_of message).id text names (map difference_view differences) found

-- what is left of a text after the value at its front
abbrev pub LeavesOfValue : Option (Pattern (Bor Text)) → Text → Text → Type 0
LeavesOfValue value text rest = pattern_read text ≡ got (value_elements (option_map elements_of value)) rest
