-- What a few patterns take, by computing.
use Rattle.std.proofs.Common.{◌+◌, [], List, Option, None, Some, refl}
use Rattle.fluent_grammar.specs.Tree as t
use Rattle.fluent_grammar.specs.Tree.{Elements, Inline}
use Rattle.fluent_grammar.specs.Words.{Text}
use Rattle.fluent_meaning.specs.Ids.{Meaning, message}
use Rattle.fluent_meaning.specs.Same.{same_elements}
use Rattle.fluent_progress.specs.Nesting.{TakesPattern, as_call, as_text, call_opens, enters, in_call, in_elements, in_inline, in_message, in_positional, inside_text, this_placeable, this_positional}
use Rattle.fluent_text.specs.declared.stack.resolving.TheConstants.{CALL, TEXT}

-- `{ .. }`, and a call with one argument
placeable_of : Inline → Elements
placeable_of i = t.placeable (t.inline i) t.no_elements

call_of : Inline → Inline
call_of i = t.function_reference [] (t.arguments (t.positional i t.no_inlines) t.no_nameds)

-- a call without arguments, which is an argument of another
twice : Elements
twice = placeable_of (call_of (t.function_reference [] (t.arguments t.no_inlines t.no_nameds)))

-- each id is that of a message with this value
all_are : Elements → Text → Option (Meaning (Unit {0}))
all_are es id = Some (message (record { id = id; value = Some es; attributes = []; comment = None }))

-- the argument of a call takes what a call does
call_in_call : (find : Text → Option (Meaning (Unit {0}))) (path : List Elements) → TakesPattern find path twice CALL
unfolding twice placeable_of call_of
call_in_call find path = in_elements (this_placeable (in_inline (in_call (in_positional (this_positional (as_call call_opens))))))

-- and a message there a text, and what its value takes
message_in_call : TakesPattern (all_are twice) [] (placeable_of (call_of (t.message_reference [] None))) (TEXT + CALL)
unfolding twice placeable_of call_of same_elements all_are
message_in_call =
    in_elements (this_placeable (in_inline (in_call (in_positional (this_positional (as_text refl (inside_text (in_message (enters refl (call_in_call (all_are twice) _))))))))))
