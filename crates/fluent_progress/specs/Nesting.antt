-- How deep a request nests, in bytes of the machine's stack. Values that are calls or texts may stand open inside each other: those
-- of arguments and selectors, in the pattern that is asked for and in those that it enters. Each takes so many bytes as long as it is
-- open; what stands beside it, and is closed, takes none. So a pattern takes so many bytes at some place of it, by what is open there.
-- Each variant of a select counts, and no pattern is entered while it is being written.
use Rattle.std.specs.Prelude.{◌≡◌, ℕ, ◌+◌, Bool, true, false, List, ◌∷◌, [], ◌++◌, Option}
use Rattle.fluent_grammar.specs.Tree as t
use Rattle.fluent_grammar.specs.Tree.{Elements, Expression, Variants, VariantKey, Inline, Arguments, Inlines, Nameds, MaybeArguments}
use Rattle.fluent_grammar.specs.Words.{Text}
use Rattle.fluent_meaning.specs.Ids.{Meaning}
use Rattle.fluent_meaning.specs.Substitution.{Target, there, is_on_path, message_target, rooted_path, term_target}
use Rattle.fluent_text.specs.declared.stack.resolving.TheConstants.{CALL, TEXT}

-- whether the value of an expression is the text that it writes
abbrev pub gives_text : Inline → Bool
gives_text (t.string_literal s) = false
gives_text (t.number_literal s) = false
gives_text (t.function_reference id a) = false
gives_text (t.message_reference id attribute) = true
gives_text (t.term_reference id attribute a) = true
gives_text (t.variable_reference id) = false
gives_text (t.nested e) = true

-- each while the patterns of a path are being written, by what ids stand for
mutual
  -- a pattern takes so many bytes at some place of it
  pub data TakesPattern {F : Type 0} (find : Text → Option (Meaning F)) : List Elements → Elements → ℕ → Type 0 where
    in_elements : {path : List Elements} {es : Elements} {n : ℕ} → TakesElements find (rooted_path es path) es n → TakesPattern find path es n

  -- the elements of a pattern that are left
  pub data TakesElements {F : Type 0} (find : Text → Option (Meaning F)) : List Elements → Elements → ℕ → Type 0 where
    this_placeable : {path : List Elements} {e : Expression} {es : Elements} {n : ℕ} → TakesExpression find path e n → TakesElements find path (t.placeable e es) n
    after_placeable : {path : List Elements} {e : Expression} {es : Elements} {n : ℕ} → TakesElements find path es n → TakesElements find path (t.placeable e es) n
    after_text : {path : List Elements} {s : Text} {es : Elements} {n : ℕ} → TakesElements find path es n → TakesElements find path (t.text s es) n

  -- an expression
  pub data TakesExpression {F : Type 0} (find : Text → Option (Meaning F)) : List Elements → Expression → ℕ → Type 0 where
    in_inline : {path : List Elements} {i : Inline} {n : ℕ} → TakesInline find path i n → TakesExpression find path (t.inline i) n
    in_selector : {path : List Elements} {i : Inline} {vs : Variants} {n : ℕ} → TakesValue find path i n → TakesExpression find path (t.select i vs) n
    in_variants : {path : List Elements} {i : Inline} {vs : Variants} {n : ℕ} → TakesVariants find path vs n → TakesExpression find path (t.select i vs) n

  -- the variants of a select that are left
  pub data TakesVariants {F : Type 0} (find : Text → Option (Meaning F)) : List Elements → Variants → ℕ → Type 0 where
    this_variant : {path : List Elements} {k : VariantKey} {es : Elements} {d : Bool} {vs : Variants} {n : ℕ} → TakesPattern find path es n → TakesVariants find path (t.variant k es d vs) n
    later_variant : {path : List Elements} {k : VariantKey} {es : Elements} {d : Bool} {vs : Variants} {n : ℕ} → TakesVariants find path vs n → TakesVariants find path (t.variant k es d vs) n

  -- an inline expression that is written: a call, a reference, or what stands in braces
  pub data TakesInline {F : Type 0} (find : Text → Option (Meaning F)) : List Elements → Inline → ℕ → Type 0 where
    in_call : {path : List Elements} {id : Text} {a : Arguments} {n : ℕ} → TakesArguments find path a n → TakesInline find path (t.function_reference id a) n
    in_message : {path : List Elements} {id : Text} {attribute : Option Text} {n : ℕ} → TakesTarget find path (message_target id attribute (find id)) n →
        TakesInline find path (t.message_reference id attribute) n
    in_own : {path : List Elements} {id : Text} {attribute : Option Text} {a : MaybeArguments} {n : ℕ} → TakesMaybe find path a n →
        TakesInline find path (t.term_reference id attribute a) n
    in_term : {path : List Elements} {id : Text} {attribute : Option Text} {a : MaybeArguments} {n : ℕ} → TakesTarget find path (term_target id attribute (find id)) n →
        TakesInline find path (t.term_reference id attribute a) n
    in_braces : {path : List Elements} {e : Expression} {n : ℕ} → TakesExpression find path e n → TakesInline find path (t.nested e) n

  -- what a reference means: a pattern that is entered, if it isn't being written
  pub data TakesTarget {F : Type 0} (find : Text → Option (Meaning F)) : List Elements → Target → ℕ → Type 0 where
    enters : {path : List Elements} {es : Elements} {n : ℕ} → is_on_path es path ≡ false → TakesPattern find (path ++ es ∷ []) es n → TakesTarget find path (there es) n

  -- an inline expression whose value is found: a call, or a text
  pub data TakesValue {F : Type 0} (find : Text → Option (Meaning F)) : List Elements → Inline → ℕ → Type 0 where
    as_call : {path : List Elements} {id : Text} {a : Arguments} {n : ℕ} → TakesCall find path a n → TakesValue find path (t.function_reference id a) n
    as_text : {path : List Elements} {i : Inline} {n : ℕ} → gives_text i ≡ true → TakesText find path i n → TakesValue find path i n

  -- a call that is a value, by its arguments
  pub data TakesCall {F : Type 0} (find : Text → Option (Meaning F)) : List Elements → Arguments → ℕ → Type 0 where
    call_opens : {path : List Elements} {a : Arguments} → TakesCall find path a CALL
    inside_call : {path : List Elements} {a : Arguments} {n : ℕ} → TakesArguments find path a n → TakesCall find path a (CALL + n)

  -- a text that is a value, by the expression that writes it
  pub data TakesText {F : Type 0} (find : Text → Option (Meaning F)) : List Elements → Inline → ℕ → Type 0 where
    text_opens : {path : List Elements} {i : Inline} → TakesText find path i TEXT
    inside_text : {path : List Elements} {i : Inline} {n : ℕ} → TakesInline find path i n → TakesText find path i (TEXT + n)

  -- the arguments of a call, if there are any
  pub data TakesMaybe {F : Type 0} (find : Text → Option (Meaning F)) : List Elements → MaybeArguments → ℕ → Type 0 where
    in_given : {path : List Elements} {a : Arguments} {n : ℕ} → TakesArguments find path a n → TakesMaybe find path (t.with_arguments a) n

  pub data TakesArguments {F : Type 0} (find : Text → Option (Meaning F)) : List Elements → Arguments → ℕ → Type 0 where
    in_positional : {path : List Elements} {ps : Inlines} {ns : Nameds} {n : ℕ} → TakesInlines find path ps n → TakesArguments find path (t.arguments ps ns) n
    in_named : {path : List Elements} {ps : Inlines} {ns : Nameds} {n : ℕ} → TakesNameds find path ns n → TakesArguments find path (t.arguments ps ns) n

  -- the arguments without a name that are left, and those with one
  pub data TakesInlines {F : Type 0} (find : Text → Option (Meaning F)) : List Elements → Inlines → ℕ → Type 0 where
    this_positional : {path : List Elements} {i : Inline} {ps : Inlines} {n : ℕ} → TakesValue find path i n → TakesInlines find path (t.positional i ps) n
    later_positional : {path : List Elements} {i : Inline} {ps : Inlines} {n : ℕ} → TakesInlines find path ps n → TakesInlines find path (t.positional i ps) n

  pub data TakesNameds {F : Type 0} (find : Text → Option (Meaning F)) : List Elements → Nameds → ℕ → Type 0 where
    this_named : {path : List Elements} {x : Text} {i : Inline} {ns : Nameds} {n : ℕ} → TakesValue find path i n → TakesNameds find path (t.named x i ns) n
    later_named : {path : List Elements} {x : Text} {i : Inline} {ns : Nameds} {n : ℕ} → TakesNameds find path ns n → TakesNameds find path (t.named x i ns) n
