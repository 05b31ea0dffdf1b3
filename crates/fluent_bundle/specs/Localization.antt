-- Which of several bundles answers, and what it answers.
use Rattle.std.specs.Prelude.{◌≡◌, ℕ, ◌+◌, List, [], ◌∷◌, ◌++◌, MatchResult, Option, None, Result, Some, map, option_copied, option_map}
use Rattle.std.specs.Cow.{cow_str_bytes}
use Rattle.std.specs.Global.{Vec}
use denote.Ref.{Bor}
use Rattle.fluent_ast.specs.Borrowed.{elements_of}
use Rattle.fluent_errors.specs.Errors.{Unresolved, unresolved}
use Rattle.fluent_errors.specs.declared.bundle.FluentError.{FluentError}
use Rattle.fluent_grammar.specs.Tree as t
use Rattle.fluent_grammar.specs.Words.{Text}
use Rattle.fluent_ids.specs.Attributes.{first_named}
use Rattle.fluent_ids.specs.Found.{message_in}
use Rattle.fluent_meaning.specs.Ids.{find}
use Rattle.fluent_meaning.specs.Steps.{Done}
use Rattle.fluent_meaning.specs.Substitution.{answer_handed}
use Rattle.fluent_progress.specs.Views.{args_or_none, given_args}
use Rattle.fluent_resolver.specs.Asked.{TellsFirst, told}
use Rattle.fluent_value.specs.declared.args.FluentArgs.{FluentArgs}
use Rattle.fluent_value.specs.declared.custom.FluentType.{Ghosts as Custom}
use Rattle.fluent_value.specs.declared.formatter.ValueFormatter.{Ghosts as Formatter}
use Rattle.fluent_value.specs.declared.function.FluentFunction.{Ghosts as Function}
use Rattle.fluent_value.specs.declared.plurals.MemoizerKind.{Ghosts as PluralSource}
use Rattle.fluent_bundle.specs.BundleView.{bundle_of, environment_of}
use Rattle.fluent_bundle.specs.declared.bundle.FluentBundle.{FluentBundle}
use Rattle.fluent_bundle.specs.declared.localization.FoundPattern.{FoundPattern}
use Rattle.fluent_bundle.specs.declared.localization.LocalizedText.{LocalizedText}

-- What is looked for in each of a list, if it is there, with the position of the first that has it. The first of the list is at a
-- position.
abbrev pub first_or : {A : Type 0} → ℕ → Option A → Option (ℕ × A) → Option (ℕ × A)
first_or at None later = later
first_or at (Some a) later = Some (at, a)

abbrev pub first_there : {X A : Type 0} → (X → Option A) → List X → ℕ → Option (ℕ × A)
first_there look [] at = None
first_there look (x ∷ xs) at = first_or at (look x) (first_there look xs (at + 1))

-- of a message its value, or its first attribute of a name
abbrev pub pattern_of : Option Text → t.Message → Option t.Elements
pattern_of None message = message.value
pattern_of (Some name) message = option_map (λ attribute. attribute.value) (first_named name message.attributes)

-- the same of what may be a message
abbrev pub pattern_in : Option Text → Option t.Message → Option t.Elements
pattern_in attribute None = None
pattern_in attribute (Some message) = pattern_of attribute message

-- the name of an attribute, or none for the value
abbrev pub named : Option (Bor Text) → Option Text
named = option_copied

-- a pattern that was found, and the position of its bundle
abbrev pub found_of : FoundPattern → ℕ × t.Elements
found_of found = (found.position, elements_of found.pattern.now)

-- a text with the position of its bundle
abbrev pub text_of : LocalizedText → ℕ × Text
text_of found = (found.position, cow_str_bytes found.text)

-- the same of an answer
abbrev pub text_in : ℕ × Done Text → ℕ × Text
text_in answer = (answer.0, answer.1.value)

abbrev pub errors_in : Option (ℕ × Done Text) → List Unresolved
errors_in None = []
errors_in (Some answer) = answer.1.errors

-- What is returned is the text of the answer with the position of its bundle, or nothing if there is no answer.
abbrev pub GivesFirst : Option (ℕ × Done Text) → Option LocalizedText → Type 0
GivesFirst answer found = option_map text_of found ≡ option_map text_in answer

-- After the old errors stand those of the answer.
abbrev pub TellsIts : Vec FluentError → Vec FluentError → Option (ℕ × Done Text) → Type 0
TellsIts old new answer = told new ≡ told old ++ map unresolved (errors_in answer)

-- There is an answer, and after the old errors stand the first of it.
abbrev pub TellsItsFirst : Vec FluentError → Vec FluentError → Option (ℕ × Done Text) → Type 0
TellsItsFirst old new None = ⊥
TellsItsFirst old new (Some answer) = TellsFirst old new answer.1

-- On Ok all of it is so, and on Err memory ran out on the way.
abbrev pub Answers : {E : Type 0} → Result (Option LocalizedText) E → Vec FluentError → Vec FluentError → Option (ℕ × Done Text) → Type 0
Answers result old new answer = MatchResult result (λ found. GivesFirst answer found × TellsIts old new answer) (λ _. TellsItsFirst old new answer)

-- M is the plural source, C the program's own type of values and S what these mean, F the type of its functions, G that of its
-- formatter and T that of its transform.
module _ {M C F G T S : Type 0} {m : PluralSource M} {c : Custom C S} {f : Function F C S} {g : Formatter G C M S} where
  -- a bundle's pattern of an id
  abbrev pub pattern_there : Option Text → Text → FluentBundle M C F G T S m c f g → Option t.Elements
  pattern_there attribute id bundle = pattern_in attribute (message_in (find (bundle_of bundle).ids id))

  -- the pattern in the first bundle that has it
  abbrev pub first_pattern : Option Text → List (FluentBundle M C F G T S m c f g) → Text → Option (ℕ × t.Elements)
  first_pattern attribute bundles id = first_there (pattern_there attribute id) bundles 0

  -- what a bundle gives of elements, for these arguments or for none
  abbrev pub given : (T → Text → Text) → Option (Bor (FluentArgs C)) → FluentBundle M C F G T S m c f g → t.Elements → Done Text
  given t args bundle = answer_handed (environment_of t bundle) (args_or_none c.meaning (given_args c.meaning args))

  -- and of its pattern of an id
  abbrev pub answer_there : (T → Text → Text) → Option (Bor (FluentArgs C)) → Option Text → Text → FluentBundle M C F G T S m c f g → Option (Done Text)
  answer_there t args attribute id bundle = option_map (given t args bundle) (pattern_there attribute id bundle)

  -- the answer of the first bundle that has it
  abbrev pub reply : (T → Text → Text) → Option (Bor (FluentArgs C)) → Option Text → List (FluentBundle M C F G T S m c f g) → Text → Option (ℕ × Done Text)
  reply t args attribute bundles id = first_there (answer_there t args attribute id) bundles 0
