-- The first of a list that has what is looked for, and the first bundle that answers.
use Rattle.std.proofs.Common.{◌≡◌, ◌∙◌, ℕ, ◌+◌, ◌<◌, List, Option, Some, None, Bor, ap, length, drop, get_or, sym}
use Rattle.std.specs.Option.{option_map}
use Rattle.std.proofs.lemmas.List.{at_drop_more}
use Rattle.fluent_ast.specs.Borrowed.{elements_of}
use Rattle.fluent_ast.specs.declared.Pattern.{Pattern}
use Rattle.fluent_grammar.specs.Words.{Text}
use Rattle.fluent_value.specs.declared.args.FluentArgs.{FluentArgs}
use Rattle.fluent_value.specs.declared.custom.FluentType.{Ghosts as Custom}
use Rattle.fluent_value.specs.declared.formatter.ValueFormatter.{Ghosts as Formatter}
use Rattle.fluent_value.specs.declared.function.FluentFunction.{Ghosts as Function}
use Rattle.fluent_value.specs.declared.plurals.MemoizerKind.{Ghosts as PluralSource}
use Rattle.fluent_bundle.specs.BundleView.{handout}
use Rattle.fluent_bundle.specs.Localization.{answer_there, first_or, first_there, given, pattern_there}
use Rattle.fluent_bundle.specs.declared.bundle.FluentBundle.{FluentBundle}

-- from a position on, by what there is at it
from_here : {X A : Type 0} (look : X → Option A) (xs : List X) (i : ℕ) (d : X) (o : Option A) → i < length xs → look (get_or xs i d) ≡ o
    → first_there look (drop i xs) i ≡ first_or i o (first_there look (drop (i + 1) xs) (i + 1))
from_here look xs i d o l e =
    at_drop_more (λ ys. first_there look ys i) xs i d l ∙ ap (λ here. first_or i here (first_there look (drop (i + 1) xs) (i + 1))) e

module _ {M C F G T S : Type 0} {m : PluralSource M} {c : Custom C S} {f : Function F C S} {g : Formatter G C M S}
    (t : T → Text → Text) (args : Option (Bor (FluentArgs C))) (attribute : Option Text) (id : Text)
    (bundles : List (FluentBundle M C F G T S m c f g)) (i : ℕ) (bundle : FluentBundle M C F G T S m c f g)
    (is : bundle ≡ get_or bundles i bundle) (l : i < length bundles) where
  -- what the bundle at a position has of a message
  look_here : (found : Option _) → pattern_there attribute id bundle ≡ found
      → answer_there t args attribute id (get_or bundles i bundle) ≡ option_map (given t args bundle) found
  look_here found e = ap (answer_there t args attribute id) (sym is) ∙ ap (option_map (given t args bundle)) e

  -- it has a pattern, and answers
  pub answers_here : (pattern : Pattern (Bor Text)) → pattern_there attribute id bundle ≡ Some (elements_of pattern)
      → first_there (answer_there t args attribute id) (drop i bundles) i ≡ Some (i, handout t bundle args pattern)
  answers_here pattern e = from_here (answer_there t args attribute id) bundles i bundle _ l (look_here _ e)

  -- it has none, and the next are asked
  pub answers_later : pattern_there attribute id bundle ≡ None
      → first_there (answer_there t args attribute id) (drop i bundles) i ≡ first_there (answer_there t args attribute id) (drop (i + 1) bundles) (i + 1)
  answers_later e = from_here (answer_there t args attribute id) bundles i bundle _ l (look_here _ e)
