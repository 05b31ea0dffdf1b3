-- Patterns are resolved in what a bundle lends as in the bundle.
use Rattle.std.proofs.Common.{◌≡◌, ◌∙◌, ◌++◌, Option, None, Some, Bor, map, ap, sym}
use Rattle.std.specs.Prelude.{option_copied}
use Rattle.std.specs.Global.{Vec}
use Rattle.fluent_ids.specs.Settings.{formatted_by, transformed_by}
use Rattle.fluent_grammar.specs.Words.{Text}
use Rattle.fluent_ids.specs.IdsView.{ids_view}
use Rattle.fluent_meaning.specs.Environment.{Environment, value_text}
use Rattle.fluent_meaning.specs.Ids.{find}
use Rattle.fluent_meaning.specs.Steps.{Done}
use Rattle.fluent_meaning.proofs.Refusals.{begins-all}
use Rattle.fluent_progress.specs.LentView.{lent_view}
use Rattle.fluent_progress.specs.declared.lent.BorrowedSettings.{BorrowedSettings}
use Rattle.fluent_value.specs.Value.{Value, text}
use Rattle.fluent_value.specs.declared.args.FluentArgs.{FluentArgs}
use Rattle.fluent_value.specs.declared.custom.FluentType.{Ghosts as Custom}
use Rattle.fluent_value.specs.declared.formatter.ValueFormatter.{Ghosts as Formatter}
use Rattle.fluent_value.specs.declared.function.FluentFunction.{Ghosts as Function}
use Rattle.fluent_value.specs.declared.plurals.MemoizerKind.{Ghosts as PluralSource}
use Rattle.fluent_ast.specs.declared.Pattern.{Pattern}
use Rattle.fluent_errors.specs.Errors.{unresolved}
use Rattle.fluent_errors.specs.declared.bundle.FluentError.{FluentError}
use Rattle.fluent_resolver.specs.Asked.{TellsAll, TellsFirst, asked, handed, told as told_of}
use Rattle.fluent_bundle.specs.BundleView.{IsLent, answer, bundle_of, environment_of, handout}
use Rattle.fluent_bundle.specs.declared.bundle.FluentBundle.{FluentBundle}

transformed-is : {T : Type 0} (f : T → Text → Text) (o : Option (Bor T)) (p : Option T) → option_copied o ≡ p → (s : Text) → transformed_by (λ (it : Bor T). f it.now) o s ≡ transformed_by f p s
transformed-is f None p e s = ap (λ q. transformed_by f q s) e
transformed-is f (Some x) p e s = ap (λ q. transformed_by f q s) e

formatted-is : {M G S : Type 0} (f : G → M → Value S → Option Text) (m n : M) (o : Option (Bor G)) (p : Option G) → m ≡ n → option_copied o ≡ p → (v : Value S) → formatted_by (λ (it : Bor G). f it.now) m o v ≡ formatted_by f n p v
formatted-is f m n None p e h v = λ i. formatted_by f (e i) (h i) v
formatted-is f m n (Some x) p e h v = λ i. formatted_by f (e i) (h i) v

module _ {M C F G T S : Type 0} {m : PluralSource M} {c : Custom C S} {f : Function F C S} {g : Formatter G C M S}
    (t : T → Text → Text) (bundle : FluentBundle M C F G T S m c f g) (lent : BorrowedSettings M G T) (h : IsLent (bundle_of bundle) lent) where
  -- what patterns are resolved in, with the bundle's messages and terms
  abbrev pub env_lent : Environment S F
  env_lent = let env = lent_view {F = F} c.text f.gives g.formats m.category_of m.stringified t lent in record {
    find = find (ids_view F bundle.ids);
    call = env.call;
    isolating = env.isolating;
    transformed = env.transformed;
    formatted = env.formatted;
    plurals = env.plurals;
    shown = env.shown;
  }

  pub lent-is : env_lent ≡ environment_of t bundle
  lent-is = λ i. record {
    find = find (ids_view F bundle.ids);
    call = f.gives;
    isolating = h.isolating i;
    transformed = λ s. transformed-is t lent.transform bundle.transform h.transform s i;
    formatted = λ v. formatted-is g.formats lent.plurals.now bundle.plurals lent.formatter bundle.formatter h.plurals h.formatter v i;
    plurals = m.category_of (h.plurals i);
    shown = m.stringified (h.plurals i) S c.text;
  }

  module _ (args : Option (Bor (FluentArgs C))) (pattern : Pattern (Bor Text)) where
    pub asked-is : asked c.meaning env_lent args pattern ≡ answer t bundle args pattern
    asked-is = ap (λ env. asked c.meaning env args pattern) lent-is

    -- a text that is handed out
    pub handed-is : (x : Text) → x ≡ (asked c.meaning env_lent args pattern).value → (handout t bundle args pattern).value ≡ value_text env_lent (text x)
    handed-is x e = ap (λ env. (handed c.meaning env args pattern).value) (sym lent-is) ∙ ap (λ s. value_text env_lent (text s)) (sym e)

    pub all-told : (old new : Vec FluentError) → TellsAll old new (asked c.meaning env_lent args pattern) → TellsFirst old new (handout t bundle args pattern)
    all-told old new told = record {
      some = (handout t bundle args pattern).errors;
      first = begins-all (handout t bundle args pattern).errors;
      errors = told ∙ ap (λ (d : Done Text). told_of old ++ map unresolved d.errors) asked-is;
    }
