-- What a pattern gives without a limit on placeables, as relations: one rule for each case. Each says its value, the errors that
-- it adds, and how many placeables it opens. That each pattern has a result is not claimed.
use Rattle.std.specs.Prelude.{◌≡◌, ℕ, suc, ◌+◌, true, false, not, ◌&&◌, if◌then◌else◌, List, [], ◌∷◌, ◌++◌, Option, Some, None, encode_utf8}
use Rattle.fluent_grammar.specs.Words.{Text}
use Rattle.fluent_grammar.specs.Escapes.{unescaped}
use Rattle.fluent_grammar.specs.Tree as t
use Rattle.fluent_grammar.specs.Tree.{Elements, Expression, Inline, Variants, Arguments, Inlines, Nameds, MaybeArguments}
use Rattle.fluent_errors.specs.Errors.{Unresolved, cyclic, missing_default}
use Rattle.fluent_value.specs.Value as v
use Rattle.fluent_value.specs.Value.{Value, number_or_text}
use Rattle.fluent_meaning.specs.Choice.{chosen}
use Rattle.fluent_meaning.specs.Environment.{Environment, value_text}
use Rattle.fluent_meaning.specs.Fallback.{inline_fallback, braced}
use Rattle.fluent_meaning.specs.Steps.{shut}
use Rattle.fluent_meaning.specs.Substitution as s
use Rattle.fluent_meaning.specs.Substitution.{Surroundings, Called, Target, there, missing, is_on_path, deeper, rooted, in_term, both, several, stands_bare, message_target, term_target}

module _ {S F : Type 0} (env : Environment S F) where
  -- between isolation marks if they are due
  abbrev pub marked : Elements → Expression → Text → Text
  marked whole e r = if env.isolating && (several whole && not (stands_bare e)) then encode_utf8 0x2068 ++ (r ++ encode_utf8 0x2069) else r

  mutual
    -- the elements of a pattern that are left
    pub data Gives : Elements → Elements → Surroundings S → Text → List Unresolved → ℕ → Type 0 where
      nothing : {whole : Elements} {place : Surroundings S} → Gives whole t.no_elements place [] [] 0
      a_text : {whole : Elements} {x r : Text} {es : Elements} {place : Surroundings S} {errors : List Unresolved} {n : ℕ} → Gives whole es place r errors n → Gives whole (t.text x es) place (env.transformed x ++ r) errors n
      a_placeable : {whole : Elements} {e : Expression} {es : Elements} {place : Surroundings S} {q r : Text} {xs ys : List Unresolved} {m n : ℕ} → Writes e (rooted whole place) q xs m → Gives whole es place r ys n → Gives whole (t.placeable e es) place (marked whole e q ++ r) (xs ++ ys) (suc m + n)

    -- an expression, written
    pub data Writes : Expression → Surroundings S → Text → List Unresolved → ℕ → Type 0 where
      of_inline : {i : Inline} {place : Surroundings S} {r : Text} {xs : List Unresolved} {n : ℕ} → WritesInline i place r xs n → Writes (t.inline i) place r xs n
      no_variant : {i : Inline} {vs : Variants} {place : Surroundings S} {v : Value S} {xs : List Unresolved} {n : ℕ} → Finds i place v xs n → chosen env.plurals v vs ≡ None → Writes (t.select i vs) place [] (xs ++ missing_default ∷ []) n
      a_variant : {i : Inline} {vs : Variants} {place : Surroundings S} {v : Value S} {es : Elements} {r : Text} {xs ys : List Unresolved} {m n : ℕ} → Finds i place v xs m → chosen env.plurals v vs ≡ Some es → Gives es es place r ys n → Writes (t.select i vs) place r (xs ++ ys) (m + n)

    -- an inline expression, written
    pub data WritesInline : Inline → Surroundings S → Text → List Unresolved → ℕ → Type 0 where
      of_string : {x : Text} {place : Surroundings S} → WritesInline (t.string_literal x) place (unescaped x) [] 0
      of_number : {x : Text} {place : Surroundings S} → WritesInline (t.number_literal x) place (value_text env (number_or_text x)) [] 0
      of_variable : {id : Text} {place : Surroundings S} → WritesInline (t.variable_reference id) place (s.variable_written env id (s.variable env id place) place shut).value (s.variable_written env id (s.variable env id place) place shut).errors 0
      of_call : {id : Text} {args : Arguments} {place : Surroundings S} {called : Called S} {xs : List Unresolved} {n : ℕ} → Calls args place called xs n → WritesInline (t.function_reference id args) place (s.call_written env (t.function_reference id args) id (env.find id) called shut).value (xs ++ (s.call_written env (t.function_reference id args) id (env.find id) called shut).errors) n
      of_message : {id : Text} {attr : Option Text} {place : Surroundings S} {r : Text} {xs : List Unresolved} {n : ℕ} → Refers (t.message_reference id attr) (message_target id attr (env.find id)) place r xs n → WritesInline (t.message_reference id attr) place r xs n
      of_term : {id : Text} {attr : Option Text} {args : MaybeArguments} {place : Surroundings S} {called : Called S} {r : Text} {xs ys : List Unresolved} {m n : ℕ} → MayCall args place called xs m → Refers (t.term_reference id attr args) (term_target id attr (env.find id)) (in_term called.named place) r ys n → WritesInline (t.term_reference id attr args) place r (xs ++ ys) (m + n)
      of_nested : {e : Expression} {place : Surroundings S} {r : Text} {xs : List Unresolved} {n : ℕ} → Writes e place r xs n → WritesInline (t.nested e) place r xs n

    -- a reference to a pattern
    pub data Refers : Inline → Target → Surroundings S → Text → List Unresolved → ℕ → Type 0 where
      to_nothing : {i : Inline} {e : Unresolved} {place : Surroundings S} → Refers i (missing e) place (braced (inline_fallback i)) (e ∷ []) 0
      to_itself : {i : Inline} {es : Elements} {place : Surroundings S} → is_on_path es place.path ≡ true → Refers i (there es) place (braced (inline_fallback i)) (cyclic ∷ []) 0
      to_pattern : {i : Inline} {es : Elements} {place : Surroundings S} {r : Text} {xs : List Unresolved} {n : ℕ} → is_on_path es place.path ≡ false → Gives es es (deeper es place) r xs n → Refers i (there es) place r xs n

    -- an expression's value, as a selector or an argument
    pub data Finds : Inline → Surroundings S → Value S → List Unresolved → ℕ → Type 0 where
      string_value : {x : Text} {place : Surroundings S} → Finds (t.string_literal x) place (v.text (unescaped x)) [] 0
      number_value : {x : Text} {place : Surroundings S} → Finds (t.number_literal x) place (number_or_text x) [] 0
      variable_value : {id : Text} {place : Surroundings S} → Finds (t.variable_reference id) place (s.variable_found env id (s.variable env id place) place shut).value (s.variable_found env id (s.variable env id place) place shut).errors 0
      call_value : {id : Text} {args : Arguments} {place : Surroundings S} {called : Called S} {xs : List Unresolved} {n : ℕ} → Calls args place called xs n → Finds (t.function_reference id args) place (s.call_found env (env.find id) called shut).value xs n
      message_value : {id : Text} {attr : Option Text} {place : Surroundings S} {r : Text} {xs : List Unresolved} {n : ℕ} → WritesInline (t.message_reference id attr) place r xs n → Finds (t.message_reference id attr) place (v.text r) xs n
      term_value : {id : Text} {attr : Option Text} {args : MaybeArguments} {place : Surroundings S} {r : Text} {xs : List Unresolved} {n : ℕ} → WritesInline (t.term_reference id attr args) place r xs n → Finds (t.term_reference id attr args) place (v.text r) xs n
      nested_value : {e : Expression} {place : Surroundings S} {r : Text} {xs : List Unresolved} {n : ℕ} → Writes e place r xs n → Finds (t.nested e) place (v.text r) xs n

    pub data MayCall : MaybeArguments → Surroundings S → Called S → List Unresolved → ℕ → Type 0 where
      without : {place : Surroundings S} → MayCall t.no_arguments place (record { positional = []; named = [] }) [] 0
      with_some : {args : Arguments} {place : Surroundings S} {called : Called S} {xs : List Unresolved} {n : ℕ} → Calls args place called xs n → MayCall (t.with_arguments args) place called xs n

    pub data Calls : Arguments → Surroundings S → Called S → List Unresolved → ℕ → Type 0 where
      arguments_found : {ps : Inlines} {ns : Nameds} {place : Surroundings S} {vs : List (Value S)} {pairs : List (Text × Value S)} {xs ys : List Unresolved} {m n : ℕ} → FindsAll ps place vs xs m → FindsNamed ns place pairs ys n → Calls (t.arguments ps ns) place (both vs pairs) (xs ++ ys) (m + n)

    pub data FindsAll : Inlines → Surroundings S → List (Value S) → List Unresolved → ℕ → Type 0 where
      no_more : {place : Surroundings S} → FindsAll t.no_inlines place [] [] 0
      one_more : {e : Inline} {ps : Inlines} {place : Surroundings S} {v : Value S} {vs : List (Value S)} {xs ys : List Unresolved} {m n : ℕ} → Finds e place v xs m → FindsAll ps place vs ys n → FindsAll (t.positional e ps) place (v ∷ vs) (xs ++ ys) (m + n)

    pub data FindsNamed : Nameds → Surroundings S → List (Text × Value S) → List Unresolved → ℕ → Type 0 where
      no_more_named : {place : Surroundings S} → FindsNamed t.no_nameds place [] [] 0
      one_more_named : {x : Text} {e : Inline} {ns : Nameds} {place : Surroundings S} {v : Value S} {pairs : List (Text × Value S)} {xs ys : List Unresolved} {m n : ℕ} → Finds e place v xs m → FindsNamed ns place pairs ys n → FindsNamed (t.named x e ns) place ((x, v) ∷ pairs) (xs ++ ys) (m + n)
