-- A pattern of one text gives it as it is.
use Rattle.std.proofs.Common.{◌≡◌, ◌∙◌, false, Option, None, Some, Bor, [], refl, ap}
use Rattle.std.specs.Prelude.{is_some}
use Rattle.fluent_ast.specs.Borrowed.{elements_of}
use Rattle.fluent_ast.specs.declared.Pattern.{Pattern}
use Rattle.fluent_resolver.specs.Asked.{lone_text}
use Rattle.fluent_resolver.proofs.Asking.{lone-errors, lone-value}
use Rattle.fluent_grammar.specs.Words.{Text}
use Rattle.fluent_ids.specs.Settings.{formatted_by, transformed_by}
use Rattle.fluent_meaning.specs.Environment.{value_text}
use Rattle.fluent_meaning.specs.Substitution.{most_placeables, outset}
use Rattle.fluent_progress.specs.Views.{args_or_none, given_args}
use Rattle.fluent_value.specs.Shown.{shown_text}
use Rattle.fluent_value.specs.Value.{Value, text}
use Rattle.fluent_value.specs.declared.args.FluentArgs.{FluentArgs}
use Rattle.fluent_value.specs.declared.custom.FluentType.{Ghosts as Custom}
use Rattle.fluent_value.specs.declared.formatter.ValueFormatter.{Ghosts as Formatter}
use Rattle.fluent_value.specs.declared.function.FluentFunction.{Ghosts as Function}
use Rattle.fluent_value.specs.declared.plurals.MemoizerKind.{Ghosts as PluralSource}
use Rattle.fluent_bundle.specs.BundleView.{bundle_of, environment_of, handout}
use Rattle.fluent_bundle.specs.Contents.{ShowsAsIs}
use Rattle.fluent_bundle.specs.declared.bundle.FluentBundle.{FluentBundle}

untransformed : {T : Type 0} (f : T → Text → Text) (o : Option T) → is_some o ≡ false → (s : Text) → transformed_by f o s ≡ s
untransformed f None h s = refl
untransformed f (Some x) h s = absurd cc

unformatted : {M G S : Type 0} (f : G → M → Value S → Option Text) (shown : S → Text) (m : M) (o : Option G) → is_some o ≡ false → (s : Text) → shown_text (formatted_by f m o) shown (text s) ≡ s
unformatted f shown m None h s = refl
unformatted f shown m (Some x) h s = absurd cc

module _ {M C F G T S : Type 0} {m : PluralSource M} {c : Custom C S} {f : Function F C S} {g : Formatter G C M S}
    (t : T → Text → Text) (bundle : FluentBundle M C F G T S m c f g) (args : Option (Bor (FluentArgs C))) (pattern : Pattern (Bor Text)) (x : Text) (h : lone_text (elements_of pattern) ≡ Some x) where
  pub lone-handed : ShowsAsIs (bundle_of bundle) → (handout t bundle args pattern).value ≡ x
  lone-handed as_is =
      let env = environment_of t bundle in
      let written = lone-value env (outset (args_or_none c.meaning (given_args c.meaning args))) most_placeables (elements_of pattern) x h ∙ untransformed t bundle.transform as_is.0 x in
      ap (λ (s : Text). value_text env (text s)) written ∙ unformatted g.formats env.shown bundle.plurals bundle.formatter as_is.1 x

  pub lone-unreported : (handout t bundle args pattern).errors ≡ []
  lone-unreported = lone-errors (environment_of t bundle) (outset (args_or_none c.meaning (given_args c.meaning args))) most_placeables (elements_of pattern) x h
