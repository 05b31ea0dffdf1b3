-- What patterns refer to.
use Rattle.std.specs.Prelude.{List, [], ◌∷◌, ◌++◌, Option, Some, None}
use Rattle.std.specs.List.{flat_map}
use Rattle.std.specs.Option.{option_to_list}
use Rattle.fluent_grammar.specs.Words.{Text}
use Rattle.fluent_grammar.specs.Tree as t
use Rattle.fluent_grammar.specs.Tree.{Elements, Expression, Variants, Inline, Arguments, Inlines, Nameds, MaybeArguments}
use Rattle.fluent_errors.specs.Errors.{Unresolved, unknown, to_function}
use Rattle.fluent_meaning.specs.Ids.{Meaning, number_function, function, message, term}
use Rattle.fluent_meaning.specs.Substitution.{Target, there, missing, message_target, term_target}

abbrev mutual
  -- The references of a pattern to messages, terms, functions and variables, in their order. Those of selectors and
  -- of call arguments are among them.
  pub elements_references : Elements → List Inline
  elements_references t.no_elements = []
  elements_references (t.text x es) = elements_references es
  elements_references (t.placeable e es) = expression_references e ++ elements_references es

  pub expression_references : Expression → List Inline
  expression_references (t.select i vs) = inline_references i ++ variants_references vs
  expression_references (t.inline i) = inline_references i

  pub variants_references : Variants → List Inline
  variants_references t.no_variants = []
  variants_references (t.variant k es d vs) = elements_references es ++ variants_references vs

  pub inline_references : Inline → List Inline
  inline_references (t.string_literal x) = []
  inline_references (t.number_literal x) = []
  inline_references (t.function_reference id a) = t.function_reference id a ∷ arguments_references a
  inline_references (t.message_reference id a) = t.message_reference id a ∷ []
  inline_references (t.term_reference id a c) = t.term_reference id a c ∷ maybe_references c
  inline_references (t.variable_reference x) = t.variable_reference x ∷ []
  inline_references (t.nested e) = expression_references e

  pub maybe_references : MaybeArguments → List Inline
  maybe_references t.no_arguments = []
  maybe_references (t.with_arguments a) = arguments_references a

  pub arguments_references : Arguments → List Inline
  arguments_references (t.arguments ps ns) = inlines_references ps ++ nameds_references ns

  pub inlines_references : Inlines → List Inline
  inlines_references t.no_inlines = []
  inlines_references (t.positional e ps) = inline_references e ++ inlines_references ps

  pub nameds_references : Nameds → List Inline
  nameds_references t.no_nameds = []
  nameds_references (t.named x e ns) = inline_references e ++ nameds_references ns

-- why a target is missing, if it is
abbrev pub target_error : Target → Option Unresolved
target_error (there es) = None
target_error (missing e) = Some e

abbrev pub function_error : {F : Type 0} → Text → Option (Meaning F) → Option Unresolved
function_error id None = Some (unknown (to_function id))
function_error id (Some number_function) = None
function_error id (Some (function f)) = None
function_error id (Some (message m)) = Some (unknown (to_function id))
function_error id (Some (term m)) = Some (unknown (to_function id))

-- The resolver error that a reference has whatever the arguments of a request are, if it has one: what it names is
-- missing. Variables depend on the request.
abbrev pub reference_error : {F : Type 0} → (Text → Option (Meaning F)) → Inline → Option Unresolved
reference_error meaning (t.string_literal x) = None
reference_error meaning (t.number_literal x) = None
reference_error meaning (t.function_reference id a) = function_error id (meaning id)
reference_error meaning (t.message_reference id a) = target_error (message_target id a (meaning id))
reference_error meaning (t.term_reference id a c) = target_error (term_target id a (meaning id))
reference_error meaning (t.variable_reference x) = None
reference_error meaning (t.nested e) = None

-- the errors of all references of a pattern, in their order
abbrev pub pattern_errors : {F : Type 0} → (Text → Option (Meaning F)) → Elements → List Unresolved
pattern_errors meaning es = flat_map (λ i. option_to_list (reference_error meaning i)) (elements_references es)

-- the pattern of a target, if it is there
abbrev pub target_patterns : Target → List Elements
target_patterns (there es) = es ∷ []
target_patterns (missing e) = []

-- the pattern that a reference enters, if there is one
abbrev pub reference_patterns : {F : Type 0} → (Text → Option (Meaning F)) → Inline → List Elements
reference_patterns meaning (t.string_literal x) = []
reference_patterns meaning (t.number_literal x) = []
reference_patterns meaning (t.function_reference id a) = []
reference_patterns meaning (t.message_reference id a) = target_patterns (message_target id a (meaning id))
reference_patterns meaning (t.term_reference id a c) = target_patterns (term_target id a (meaning id))
reference_patterns meaning (t.variable_reference x) = []
reference_patterns meaning (t.nested e) = []

-- the patterns that a pattern's references enter
abbrev pub next_patterns : {F : Type 0} → (Text → Option (Meaning F)) → Elements → List Elements
next_patterns meaning es = flat_map (reference_patterns meaning) (elements_references es)
