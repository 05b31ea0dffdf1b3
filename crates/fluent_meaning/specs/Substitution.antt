-- What a pattern gives, with a budget of placeables.
use Rattle.std.specs.Prelude.{ℕ, zero, suc, Bool, true, false, not, ◌&&◌, if◌then◌else◌, List, [], ◌∷◌, ◌++◌, Option, Some, None, is_some, encode_utf8}
use Rattle.std.specs.List.{list_any}
use Rattle.fluent_grammar.specs.Words.{Text, dollar}
use Rattle.fluent_grammar.specs.Escapes.{unescaped}
use Rattle.fluent_grammar.specs.Tree as t
use Rattle.fluent_grammar.specs.Tree.{Elements, no_elements, text, placeable, Expression, select, inline, Variants, Inline, Arguments, arguments, Inlines, no_inlines, positional, Nameds, no_nameds, named, MaybeArguments, no_arguments, with_arguments}
use Rattle.fluent_errors.specs.Errors.{Reference, reference_of, to_function, to_message, to_term, to_variable, Unresolved, unknown, no_value, missing_default, cyclic, too_many_placeables}
use Rattle.fluent_value.specs.Args.{argument, all_set}
use Rattle.fluent_value.specs.Builtins.{number_called}
use Rattle.fluent_value.specs.Value as v
use Rattle.fluent_value.specs.Value.{Value, number_or_text}
use Rattle.fluent_meaning.specs.Choice.{chosen}
use Rattle.fluent_meaning.specs.Environment.{Environment, value_text}
use Rattle.fluent_meaning.specs.Fallback.{fallback, inline_fallback, braced, called}
use Rattle.fluent_meaning.specs.Ids.{Meaning, number_function, function, message, term, attribute_named}
use Rattle.fluent_meaning.specs.Same.{same_elements}
use Rattle.fluent_meaning.specs.Steps.{Budget, may_open, shut, left, is_shut, Done, done, faulty, and_then, mapped, beside, opening, entering}

-- how many placeables one answer may open
abbrev pub most_placeables : ℕ
most_placeables = 100

-- What is passed down: the request's arguments, a term's own in their place, and the patterns entered.
pub record Surroundings (S : Type 0) : Type 0 where
  pub arguments : List (Text × Value S)
  pub locals : Option (List (Text × Value S))
  pub path : List Elements

-- a request's own place
abbrev pub outset : {S : Type 0} → List (Text × Value S) → Surroundings S
outset args = record { arguments = args; locals = None; path = [] }

-- whether a pattern of this content is being written
abbrev pub is_on_path : Elements → List Elements → Bool
is_on_path es path = list_any (same_elements es) path

-- with a pattern more on the path
abbrev pub deeper : {S : Type 0} → Elements → Surroundings S → Surroundings S
deeper es place = record { arguments = place.arguments; locals = place.locals; path = place.path ++ es ∷ [] }

-- the first pattern in which a placeable opens goes on the path
abbrev pub rooted_path : Elements → List Elements → List Elements
rooted_path whole [] = whole ∷ []
rooted_path whole (es ∷ path) = es ∷ path

abbrev pub rooted : {S : Type 0} → Elements → Surroundings S → Surroundings S
rooted whole place = record { arguments = place.arguments; locals = place.locals; path = rooted_path whole place.path }

-- inside a term that was given these arguments
abbrev pub in_term : {S : Type 0} → List (Text × Value S) → Surroundings S → Surroundings S
in_term given place = record { arguments = place.arguments; locals = Some given; path = place.path }

-- the arguments that count: a term's own, if there is one around
abbrev pub locals_or : {S : Type 0} → List (Text × Value S) → Option (List (Text × Value S)) → List (Text × Value S)
locals_or args None = args
locals_or args (Some locals) = locals

-- no isolation marks stand round these
abbrev pub stands_bare : Expression → Bool
stands_bare (inline (t.message_reference s a)) = true
stands_bare (inline (t.term_reference s a c)) = true
stands_bare (inline (t.string_literal s)) = true
stands_bare (inline (t.number_literal s)) = false
stands_bare (inline (t.function_reference s a)) = false
stands_bare (inline (t.variable_reference s)) = false
stands_bare (inline (t.nested e)) = false
stands_bare (select i vs) = false

-- whether a pattern has more than one element
abbrev pub several : Elements → Bool
several no_elements = false
several (text s no_elements) = false
several (text s (text x es)) = true
several (text s (placeable e es)) = true
several (placeable e no_elements) = false
several (placeable e (text x es)) = true
several (placeable e (placeable x es)) = true

-- the pattern that a reference means, or why there is none
pub data Target : Type 0 where
  there : Elements → Target
  missing : Unresolved → Target

abbrev pub there_or : Unresolved → Option Elements → Target
there_or e None = missing e
there_or e (Some es) = there es

-- a message's value, or its attribute of that name
abbrev pub message_target : {F : Type 0} → Text → Option Text → Option (Meaning F) → Target
message_target id attr None = missing (unknown (to_message id attr))
message_target id attr (Some number_function) = missing (unknown (to_message id attr))
message_target id attr (Some (function f)) = missing (unknown (to_message id attr))
message_target id attr (Some (term m)) = missing (unknown (to_message id attr))
message_target id None (Some (message m)) = there_or (no_value id) m.value
message_target id (Some a) (Some (message m)) = there_or (unknown (to_message id (Some a))) (attribute_named a m.attributes)

-- a term's value, or its attribute of that name
abbrev pub term_target : {F : Type 0} → Text → Option Text → Option (Meaning F) → Target
term_target id attr None = missing (unknown (to_term id attr))
term_target id attr (Some number_function) = missing (unknown (to_term id attr))
term_target id attr (Some (function f)) = missing (unknown (to_term id attr))
term_target id attr (Some (message m)) = missing (unknown (to_term id attr))
term_target id None (Some (term m)) = there m.value
term_target id (Some a) (Some (term m)) = there_or (unknown (to_term id (Some a))) (attribute_named a m.attributes)

-- positional and named arguments
pub record Called (S : Type 0) : Type 0 where
  pub positional : List (Value S)
  pub named : List (Text × Value S)

-- the last of a name counts
abbrev pub both : {S : Type 0} → List (Value S) → List (Text × Value S) → Called S
both vs pairs = record { positional = vs; named = all_set [] pairs }

module _ {S F : Type 0} (env : Environment S F) where
  -- how something is written or found at a place, with a budget
  abbrev pub Writer : Type 0 → Type 0
  Writer A = A → Surroundings S → Budget → Done Text

  -- the fallback in braces
  abbrev pub fallen_back : Inline → Unresolved → Budget → Done Text
  fallen_back i e b = faulty (braced (inline_fallback i)) e b

  -- the fallback in braces, reported if the expression refers to something
  abbrev pub missed : Inline → Option Reference → Budget → Done Text
  missed i None b = done (braced (inline_fallback i)) b
  missed i (Some r) b = fallen_back i (unknown r) b

  abbrev pub missed_written : Inline → Budget → Done Text
  missed_written i b = missed i (reference_of i) b

  -- a reference to a pattern, by the expression that refers to it
  abbrev pub referred : Writer Elements → Inline → Elements → Surroundings S → Budget → Done Text
  referred enter i es place b =
      if is_on_path es place.path then fallen_back i cyclic b
      else entering (enter es (deeper es place) b)

  -- what a reference leads to: the pattern that it enters, or its fallback
  abbrev pub target_written : Writer Elements → Inline → Target → Surroundings S → Budget → Done Text
  target_written enter i (there es) place b = referred enter i es place b
  target_written enter i (missing e) place b = fallen_back i e b

  -- the value of a variable: inside a term one of its arguments, otherwise one of the request's
  abbrev pub variable : Text → Surroundings S → Option (Value S)
  variable id place = argument id (locals_or place.arguments place.locals)

  -- a missing variable is reported only outside terms
  abbrev pub missing_variable : {A : Type 0} → A → Text → Surroundings S → Budget → Done A
  missing_variable v id place b = if is_some place.locals then done v b else faulty v (unknown (to_variable id)) b

  abbrev pub variable_written : Text → Option (Value S) → Surroundings S → Budget → Done Text
  variable_written id (Some v) place b = done (value_text env v) b
  variable_written id None place b = missing_variable (braced (dollar ∷ id)) id place b

  abbrev pub variable_found : Text → Option (Value S) → Surroundings S → Budget → Done (Value S)
  variable_found id (Some v) place b = done v b
  variable_found id None place b = missing_variable v.error id place b

  -- the result of a function, written
  abbrev pub result_written : Text → Value S → Budget → Done Text
  result_written id (v.text s) b = done (value_text env (v.text s)) b
  result_written id (v.number n) b = done (value_text env (v.number n)) b
  result_written id (v.custom c) b = done (value_text env (v.custom c)) b
  result_written id v.none b = done (value_text env v.none) b
  result_written id v.error b = done (called id) b

  -- a call, written, with its arguments
  abbrev pub call_written : Inline → Text → Option (Meaning F) → Called S → Budget → Done Text
  call_written i id None args b = fallen_back i (unknown (to_function id)) b
  call_written i id (Some number_function) args b = result_written id (number_called args.positional args.named) b
  call_written i id (Some (function f)) args b = result_written id (env.call f args.positional args.named) b
  call_written i id (Some (message m)) args b = fallen_back i (unknown (to_function id)) b
  call_written i id (Some (term m)) args b = fallen_back i (unknown (to_function id)) b

  abbrev pub call_found : Option (Meaning F) → Called S → Budget → Done (Value S)
  call_found None args b = done v.error b
  call_found (Some number_function) args b = done (number_called args.positional args.named) b
  call_found (Some (function f)) args b = done (env.call f args.positional args.named) b
  call_found (Some (message m)) args b = done v.error b
  call_found (Some (term m)) args b = done v.error b

  -- the variant of a select
  abbrev pub variant_written : Writer Elements → Option Elements → Surroundings S → Budget → Done Text
  variant_written enter None place b = faulty [] missing_default b
  variant_written enter (Some es) place b = entering (enter es place b)

  -- expressions, by how a pattern that they enter is written
  module _ (enter : Writer Elements) where
    unfoldable mutual
      -- an expression, written
      pub expression_with : Expression → Surroundings S → Budget → Done Text
      expression_with (inline i) place b = inline_with i place b
      expression_with (select i vs) place b = and_then (value_with i place b) (λ v c. variant_written enter (chosen env.plurals v vs) place c)

      pub inline_with : Inline → Surroundings S → Budget → Done Text
      inline_with (t.string_literal s) place b = done (unescaped s) b
      inline_with (t.number_literal s) place b = done (value_text env (number_or_text s)) b
      inline_with (t.function_reference id args) place b = and_then (arguments_with args place b) (λ called c. call_written (t.function_reference id args) id (env.find id) called c)
      inline_with (t.message_reference id attr) place b = target_written enter (t.message_reference id attr) (message_target id attr (env.find id)) place b
      inline_with (t.term_reference id attr args) place b = and_then (maybe_arguments_with args place b) (λ called c. target_written enter (t.term_reference id attr args) (term_target id attr (env.find id)) (in_term called.named place) c)
      inline_with (t.variable_reference id) place b = variable_written id (variable id place) place b
      inline_with (t.nested e) place b = expression_with e place b

      -- an expression's value, as a selector or an argument
      pub value_with : Inline → Surroundings S → Budget → Done (Value S)
      value_with (t.string_literal s) place b = done (v.text (unescaped s)) b
      value_with (t.number_literal s) place b = done (number_or_text s) b
      value_with (t.function_reference id args) place b = and_then (arguments_with args place b) (λ called c. call_found (env.find id) called c)
      value_with (t.message_reference id attr) place b = mapped v.text (target_written enter (t.message_reference id attr) (message_target id attr (env.find id)) place b)
      value_with (t.term_reference id attr args) place b = mapped v.text (and_then (maybe_arguments_with args place b) (λ called c. target_written enter (t.term_reference id attr args) (term_target id attr (env.find id)) (in_term called.named place) c))
      value_with (t.variable_reference id) place b = variable_found id (variable id place) place b
      value_with (t.nested e) place b = mapped v.text (expression_with e place b)

      pub maybe_arguments_with : MaybeArguments → Surroundings S → Budget → Done (Called S)
      maybe_arguments_with no_arguments place b = done (record { positional = []; named = [] }) b
      maybe_arguments_with (with_arguments args) place b = arguments_with args place b

      -- positional arguments before named ones; the last of a name counts
      pub arguments_with : Arguments → Surroundings S → Budget → Done (Called S)
      arguments_with (arguments ps ns) place b = and_then (positional_with ps place b) (λ vs c. mapped (both vs) (named_with ns place c))

      pub positional_with : Inlines → Surroundings S → Budget → Done (List (Value S))
      positional_with no_inlines place b = done [] b
      positional_with (positional e ps) place b = and_then (value_with e place b) (λ v c. mapped (λ vs. v ∷ vs) (positional_with ps place c))

      pub named_with : Nameds → Surroundings S → Budget → Done (List (Text × Value S))
      named_with no_nameds place b = done [] b
      named_with (named x e ns) place b = and_then (value_with e place b) (λ v c. mapped (λ pairs. (x, v) ∷ pairs) (named_with ns place c))

  -- an opened placeable that ends shut has its fallback in braces after what it wrote
  abbrev pub closed : Expression → Done Text → Done Text
  closed e a = if is_shut a.budget then mapped (λ s. s ++ braced (fallback e)) a else a

  -- between isolation marks
  abbrev pub surrounded : Bool → Done Text → Done Text
  surrounded isolated a = if isolated then mapped (λ s. encode_utf8 0x2068 ++ (s ++ encode_utf8 0x2069)) a else a

  -- whether a placeable of a pattern stands between isolation marks
  abbrev pub is_isolated : Elements → Expression → Bool
  is_isolated whole e = env.isolating && (several whole && not (stands_bare e))

  -- what an opened placeable of a pattern writes, its isolation marks aside
  abbrev pub unmarked_with : Writer Expression → Elements → Writer Expression
  unmarked_with write whole e place b = closed e (write e (rooted whole place) b)

  -- a placeable of a pattern: it counts one, and the first that is one too many shuts
  abbrev pub placeable_with : Writer Expression → Elements → Writer Expression
  placeable_with write whole e place shut = done [] shut
  placeable_with write whole e place (may_open zero) = faulty [] too_many_placeables shut
  placeable_with write whole e place (may_open (suc k)) = opening (surrounded (is_isolated whole e) (unmarked_with write whole e place (may_open k)))

  -- a text of a pattern: nothing once shut
  abbrev pub text_written : Text → Budget → Done Text
  text_written s (may_open k) = done (env.transformed s) (may_open k)
  text_written s shut = done [] shut

  -- the elements of a pattern that are left, by how an expression is written
  unfoldable pub elements_with : Writer Expression → Elements → Elements → Surroundings S → Budget → Done Text
  elements_with write whole no_elements place b = done [] b
  elements_with write whole (text s es) place b = beside (text_written s b) (λ c. elements_with write whole es place c)
  elements_with write whole (placeable e es) place b = beside (placeable_with write whole e place b) (λ c. elements_with write whole es place c)

  -- a pattern whose placeables nest at most so deep
  unfoldable pub pattern_at : ℕ → Writer Elements
  pattern_at zero es place b = elements_with (λ e p c. done [] c) es es place b
  pattern_at (suc d) es place b = elements_with (expression_with (pattern_at d)) es es place b

  -- a pattern: no deeper than placeables may be opened
  unfoldable pub pattern_written : Writer Elements
  pattern_written es place b = pattern_at (left b) es place b

  -- an expression, an inline expression and a value in such a pattern
  abbrev pub expression_written : Writer Expression
  expression_written = expression_with pattern_written

  abbrev pub inline_written : Writer Inline
  inline_written = inline_with pattern_written

  abbrev pub value_found : Inline → Surroundings S → Budget → Done (Value S)
  value_found = value_with pattern_written

  -- call arguments, if there are any; positional ones, and named ones
  abbrev pub arguments_found : MaybeArguments → Surroundings S → Budget → Done (Called S)
  arguments_found = maybe_arguments_with pattern_written

  abbrev pub positional_found : Inlines → Surroundings S → Budget → Done (List (Value S))
  positional_found = positional_with pattern_written

  abbrev pub named_found : Nameds → Surroundings S → Budget → Done (List (Text × Value S))
  named_found = named_with pattern_written

  -- a reference to a pattern, by this expression
  abbrev pub reference_written : Inline → Writer Elements
  reference_written = referred pattern_written

  -- an opened placeable of a pattern, its isolation marks aside
  abbrev pub unmarked_written : Elements → Writer Expression
  unmarked_written = unmarked_with expression_written

  -- a placeable of a pattern, and the elements of a pattern that are left
  abbrev pub placeable_written : Elements → Writer Expression
  placeable_written = placeable_with expression_written

  abbrev pub elements_written : Elements → Writer Elements
  elements_written = elements_with expression_written

  -- an asked pattern, with this many placeables to open
  abbrev pub formatted : ℕ → List (Text × Value S) → Elements → Done Text
  formatted k args es = entering (pattern_written es (outset args) (may_open k))

  -- what a request writes
  abbrev pub answer_written : List (Text × Value S) → Elements → Done Text
  answer_written = formatted most_placeables

  -- what a request returns: its complete text goes through the formatter once more
  abbrev pub answer_handed : List (Text × Value S) → Elements → Done Text
  answer_handed args es = mapped (λ r. value_text env (v.text r)) (answer_written args es)
