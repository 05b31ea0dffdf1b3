-- What a bundle holds that has the source `welcome = Welcome, { $name }.` alone, and what the message gives.
use Rattle.std.proofs.Common.{◌≡◌, List, [], ◌∷◌, true, false, Option, Some, None, option_and_then, unwrap_or, codes, ap, ◌∙◌, append_assoc}
use Rattle.std.specs.Char.{encode_utf8 as encoded}
use Rattle.fluent_grammar.specs.Tree.{Elements, Entry, Message, no_elements}
use Rattle.fluent_grammar.specs.Words.{Text}
use Rattle.fluent_meaning.specs.Environment.{Environment}
use Rattle.fluent_meaning.specs.Ids.{Meaning, find}
use Rattle.fluent_meaning.specs.Same.{same_elements}
use Rattle.fluent_meaning.specs.Substitution.{answer_handed, expression_with, elements_with, pattern_at, pattern_written}
use Rattle.fluent_ids.specs.Found.{message_in}
use Rattle.fluent_ids.specs.Settings.{formatted_by, transformed_by}
use Rattle.fluent_value.specs.Args.{with_argument}
use Rattle.fluent_value.specs.Matching.{Plurals}
use Rattle.fluent_value.specs.Value.{Value, text}
use Rattle.fluent_value.specs.declared.custom.FluentType.{Ghosts as Custom}
use Rattle.fluent_value.specs.declared.formatter.ValueFormatter.{Ghosts as Formatter}
use Rattle.fluent_value.specs.declared.function.FluentFunction.{Ghosts as Function}
use Rattle.fluent_value.specs.declared.plurals.MemoizerKind.{Ghosts as PluralSource}
use Rattle.fluent_bundle.specs.Adding.{with_entries}
use Rattle.fluent_bundle.specs.BundleView.{bundle_of, environment_of}
use Rattle.fluent_bundle.specs.Contents.{Contents, empty}
use Rattle.fluent_bundle.specs.declared.bundle.FluentBundle.{FluentBundle}
use Rattle.example_callers.specs.Welcome.{greeting_text, welcome, welcome_pattern}

module _ {M F G T : Type 0} where
  -- a new bundle with the message alone
  abbrev welcoming : List Text → M → Contents M F G T
  welcoming locales plurals = with_entries false (empty locales plurals) welcome

  -- a new bundle holds the message alone once its resource is added
  pub held_is : {old held : Contents M F G T} {locales : List Text} {plurals : M} {entries : List Entry} →
      old ≡ empty locales plurals → entries ≡ welcome → held ≡ with_entries false old entries → held ≡ welcoming locales plurals
  held_is {old} {held} {locales} {plurals} {entries} new read added =
      added
      ∙ ap (λ (h : Contents M F G T). with_entries false h entries) new
      ∙ ap (λ (es : List Entry). with_entries false (empty locales plurals) es) read

  -- the pattern that is found there
  pub pattern_is : {held : Contents M F G T} {locales : List Text} {plurals : M} {m : Message} {es : Elements} →
      held ≡ welcoming locales plurals → Some m ≡ message_in (find held.ids (codes "welcome")) → Some es ≡ m.value → es ≡ welcome_pattern
  pattern_is held found value =
      ap (λ (o : Option Elements). unwrap_or o no_elements)
      (value ∙ ap (option_and_then (λ (m : Message). m.value)) (found ∙ ap (λ (h : Contents M F G T). message_in (find h.ids (codes "welcome"))) held))

-- arguments that had none before are the name alone
pub given_is : {S : Type 0} {old now : List (Text × Value S)} {key : Text} {value : Value S} {name : Text} →
    now ≡ with_argument key value old → key ≡ codes "name" → value ≡ text name → old ≡ [] → now ≡ (codes "name", text name) ∷ []
given_is {S} {old} {now} {key} {value} {name} set named is new =
    set
    ∙ ap (λ (k : Text). with_argument k value old) named
    ∙ ap (λ (v : Value S). with_argument (codes "name") v old) is
    ∙ ap (λ (o : List (Text × Value S)). with_argument (codes "name") (text name) o) new

-- what the pattern gives without a transform and a formatter
shows : {S F : Type 0} (ids : Text → Option (Meaning F)) (call : F → List (Value S) → List (Text × Value S) → Value S) (plurals : Plurals) (shown : S → Text) (name : Text) →
    (answer_handed (record { find = ids; call = call; isolating = true; transformed = λ s. s; formatted = λ v. None; plurals = plurals; shown = shown }) ((codes "name", text name) ∷ []) welcome_pattern).value ≡ greeting_text name
unfolding same_elements expression_with elements_with pattern_at pattern_written encoded
shows ids call plurals shown name = simp append_assoc

module _ {M C F G T S : Type 0} (m : PluralSource M) (k : Custom C S) (f : Function F C S) (g : Formatter G C M S) (t : T → Text → Text) where
  -- what patterns are resolved in, by what a bundle holds
  abbrev environment_by : Contents M F G T → Environment S F
  environment_by held = record {
    find = find held.ids;
    call = f.gives;
    isolating = held.isolating;
    transformed = transformed_by t held.transform;
    formatted = formatted_by g.formats held.plurals held.formatter;
    plurals = m.category_of held.plurals;
    shown = m.stringified held.plurals S k.text;
  }

-- what a bundle with the message gives for the pattern and the name
pub greeted : {M C F G T S : Type 0} {m : PluralSource M} {k : Custom C S} {f : Function F C S} {g : Formatter G C M S} (t : T → Text → Text)
    (bundle : FluentBundle M C F G T S m k f g) (locales : List Text) (plurals : M) (args : List (Text × Value S)) (es : Elements) (name : Text) →
    bundle_of bundle ≡ welcoming locales plurals → args ≡ (codes "name", text name) ∷ [] → es ≡ welcome_pattern →
    (answer_handed (environment_of t bundle) args es).value ≡ greeting_text name
greeted {M} {C} {F} {G} {T} {S} {m} {k} {f} {g} t bundle locales plurals args es name held given pattern =
    let by = environment_by m k f g t in
    let last : Contents M F G T = welcoming locales plurals in
    ap (λ (h : Contents M F G T). (answer_handed (by h) args es).value) held
    ∙ ap (λ (a : List (Text × Value S)). (answer_handed (by last) a es).value) given
    ∙ ap (λ (e : Elements). (answer_handed (by last) ((codes "name", text name) ∷ []) e).value) pattern
    ∙ shows (find last.ids) f.gives (m.category_of plurals) (m.stringified plurals S k.text) name
