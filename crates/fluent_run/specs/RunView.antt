-- What a run answers, by the code's own values.
use Rattle.std.specs.Prelude.{◌≡◌, ℕ, List, [], Result, IfSome, IsErrOf, OnOk, option_map}
use Rattle.std.specs.Io.KnownBytes.{Appends, IsAtEnd}
use denote.Ref.{Bor}
use Rattle.fluent_answers.specs.Answers.{line_answered, answers}
use Rattle.fluent_answers.specs.Sources as plain
use Rattle.fluent_grammar.specs.Words.{Text}
use Rattle.fluent_tidy_laws.specs.Tidied.{Tidied}
use Rattle.fluent_numerals.specs.Views.{locale_view}
use Rattle.fluent_run.specs.declared.settings.Settings.{Settings}
use Rattle.fluent_serve.specs.Devices.{HasFailed}
use Rattle.fluent_serve.specs.Exchange.{GivesUp, Runs}
use Rattle.fluent_serve.specs.Texts.{texts}
use Rattle.fluent_serve.specs.declared.serve.RunError.{RunError}
use Rattle.fluent_serve.specs.declared.serve.RunError.TheVariants.{Read, Write}
use Rattle.fluent_serve.specs.declared.stream.Sink.{Ghosts as SinkGhosts}
use Rattle.fluent_serve.specs.declared.stream.Source.{Ghosts as SourceGhosts}
use Rattle.fluent_value.specs.Matching.{Plurals}
use Rattle.fluent_value.specs.declared.function.NoFunction.{NoFunction}
use Rattle.fluent_value.specs.declared.plurals.MemoizerKind.{Ghosts as KindGhosts}

-- the settings, as plain data
abbrev pub settings_view : Settings → plain.Settings
settings_view s = record { isolating = s.isolating; overriding = s.overriding; numerals = option_map locale_view s.numerals }

-- how many bytes of the machine's stack reading or an answer takes in a run at most: 6 MB
abbrev pub program_stack : ℕ
program_stack = 6291456

-- No program's own type of values is around: there is one value of it, which is shown as nothing.
abbrev pub no_text : Unit {0} → Text
no_text _ = []

-- By what a plural source means, its categories and how it shows values.
module _ {M : Type 0} (category_of : M → Plurals) (stringified : M → (S : Type 0) → (S → Text) → S → Text) where
  -- what is written for one line
  abbrev pub line_by : M → Settings → List (Bor Text) → Text → Text
  line_by plurals settings sources =
      line_answered NoFunction (category_of plurals) (stringified plurals (Unit {0}) no_text) (settings_view settings) (texts sources)

  -- what is written for a stream of lines
  abbrev pub answers_by : M → Settings → List (Bor Text) → Text → Text
  answers_by plurals settings sources =
      answers NoFunction (category_of plurals) (stringified plurals (Unit {0}) no_text) (settings_view settings) (texts sources)

  -- the same of plain texts
  abbrev pub answers_of : M → Settings → List Text → Text → Text
  answers_of plurals settings sources =
      answers NoFunction (category_of plurals) (stringified plurals (Unit {0}) no_text) (settings_view settings) sources

-- what is written for a stream of lines, by what a plural source means
abbrev pub answers_in : {M : Type 0} → KindGhosts M → M → Settings → List (Bor Text) → Text → Text
answers_in kind plurals settings sources = answers_by kind.category_of kind.stringified plurals settings sources

-- What became of a run from these sources, by how it ended.
pub record RunsFrom {M R W : Type 0} (kind : KindGhosts M) (plurals : M) (settings : Settings) (sources : List (Bor Text))
    (source : SourceGhosts R) (reader reader' : R) (sink : SinkGhosts W) (writer writer' : W) (result : Result (Unit {0}) RunError) : Type 0 where
  -- the answers to all of the input are written, and nothing else
  pub exact : OnOk result (IfSome (source.remaining reader) (λ input.
      Appends (sink.contents writer) (sink.contents writer') (answers_by kind.category_of kind.stringified plurals settings sources input)))
  -- they are also the answers of whatever the sources are tidied into
  pub tidied : OnOk result (IfSome (source.remaining reader) (λ input. (others : List Text) → Tidied (texts sources) others →
      Appends (sink.contents writer) (sink.contents writer') (answers_of kind.category_of kind.stringified plurals settings others input)))
  -- Of a reader whose bytes aren't known, they are the answers to those that it gave. So it is of an error, too.
  pub served : Runs source reader reader' sink writer writer' (line_by kind.category_of kind.stringified plurals settings sources) 4294967296 result

-- What became of a run, and of its devices.
pub record RunsWell {M R W : Type 0} (kind : KindGhosts M) (plurals : M) (settings : Settings) (sources : List (Bor Text))
    (source : SourceGhosts R) (reader reader' : R) (sink : SinkGhosts W) (writer writer' : W) (result : Result (Unit {0}) RunError) : Type 0 where
  -- The answers to all of the input are written, and nothing else; they are also those of whatever the sources are tidied into.
  -- After `Memory` the first whole lines are answered, after `Read` all whole lines that came, and after `Write` a front of the
  -- answers is written.
  pub answered : RunsFrom kind plurals settings sources source reader reader' sink writer writer' result
  -- without an error the input is at its end, and no device failed
  pub end : OnOk result (IsAtEnd (source.remaining reader'))
  pub reads : OnOk result (source.failures reader' ≡ source.failures reader)
  pub writes : OnOk result (sink.failures writer' ≡ sink.failures writer)
  -- the reader failed, or gave 2^32 bytes or more without an end
  pub given_up : IsErrOf result Read → GivesUp source reader reader' 4294967296
  -- the writer failed, or took none of a piece that wasn't empty
  pub failed : IsErrOf result Write → HasFailed (sink.failures writer) (sink.failures writer')
