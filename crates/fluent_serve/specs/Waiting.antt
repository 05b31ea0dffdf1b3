-- Output that waits in a buffer before it is written.
use Rattle.std.specs.Prelude.{◌≡◌, ℕ, List, [], ◌∷◌, ◌++◌, take, length, ◌≤◌, ◌⊎◌, Option, Result, OnOk, IsErrOf}
use denote.Ref.{Bor}
use Rattle.std.specs.Io.KnownBytes.{Consumes, Appends}
use Rattle.fluent_serve.specs.Text.{Text, line_feed}
use Rattle.fluent_serve.specs.Lines.{IsUnfinished, unless_empty, whole_lines}
use Rattle.fluent_serve.specs.Frames.{answers_to, answers}
use Rattle.fluent_serve.specs.Devices.{HasFailed}
use Rattle.fluent_serve.specs.Exchange.{IsFrontOf, Devices, devices}
use Rattle.fluent_serve.specs.declared.serve.RunError.{RunError}
use Rattle.fluent_serve.specs.declared.serve.RunError.TheVariants.{Memory, Read, Write}
use Rattle.fluent_serve.specs.declared.serve.Waiting.{Waiting}
use Rattle.fluent_serve.specs.declared.stream.Source.{Ghosts as SourceGhosts}
use Rattle.fluent_serve.specs.declared.stream.Sink.{Ghosts as SinkGhosts}

-- With `given` put after what waited, the writer took a front of it, and what is left waits.
pub record Puts (held_before : Option Text) (waiting_before : Text) (held_after : Option Text) (waiting_after given : Text) : Type 0 where
  pub sent : Text
  pub written : Appends held_before held_after sent
  pub split : waiting_before ++ given ≡ sent ++ waiting_after

-- the same for the first of these lines
pub record PutsFirst (held_before : Option Text) (waiting_before : Text) (held_after : Option Text) (waiting_after : Text) (answer : Text → Text) (lines : List Text) : Type 0 where
  pub count : ℕ
  pub puts : Puts held_before waiting_before held_after waiting_after (answers_to answer (take count lines))

-- The writer failed: it took a front of what waited and of `given`.
pub record PutsFront (held_before : Option Text) (waiting_before : Text) (held_after : Option Text) (given : Text) : Type 0 where
  pub sent : Text
  pub written : Appends held_before held_after sent
  pub front : IsFrontOf sent (waiting_before ++ given)

-- The outcomes of a run whose last answers may wait still: see `Exchange`.
pub record ServesAll (d : Devices) (waiting : Text) (answer : Text → Text) : Type 0 where
  pub taken : Text
  pub read : Consumes d.left_before d.left_after taken
  pub puts : Puts d.held_before [] d.held_after waiting (answers answer taken)

pub record ServesFirst (d : Devices) (waiting : Text) (answer : Text → Text) : Type 0 where
  pub taken : Text
  pub read : Consumes d.left_before d.left_after taken
  pub puts : PutsFirst d.held_before [] d.held_after waiting answer (whole_lines taken)

pub record ServesWhole (d : Devices) (waiting : Text) (answer : Text → Text) (failed : Type 0) (bound : ℕ) : Type 0 where
  pub taken : Text
  pub read : Consumes d.left_before d.left_after taken
  pub puts : Puts d.held_before [] d.held_after waiting (answers_to answer (whole_lines taken))
  pub reason : failed ⊎ (bound ≤ length taken)

pub record ServesFront (d : Devices) (answer : Text → Text) : Type 0 where
  pub taken : Text
  pub read : Consumes d.left_before d.left_after taken
  pub puts : PutsFront d.held_before [] d.held_after (answers answer taken)

-- What became of the devices, by how a run ended whose last answers may wait still. `failed` says that the reader failed.
pub record ServesOn (d : Devices) (waiting : Text) (answer : Text → Text) (failed : Type 0) (bound : ℕ) (result : Result (Unit {0}) RunError) : Type 0 where
  pub ok : OnOk result (ServesAll d waiting answer)
  pub memory : IsErrOf result Memory → ServesFirst d waiting answer
  pub read : IsErrOf result Read → ServesWhole d waiting answer failed bound
  pub write : IsErrOf result Write → ServesFront d answer

-- so it is of a reader and a writer, each before and after, and of what waits after
abbrev pub Serves : {R W : Type 0} → SourceGhosts R → R → R → SinkGhosts W → W → W → Waiting → (Text → Text) → ℕ → Result (Unit {0}) RunError → Type 0
Serves source reader reader' sink writer writer' waiting answer bound result =
    ServesOn (devices source.remaining reader reader' sink.contents writer writer') waiting.output.items answer
    (HasFailed (source.failures reader) (source.failures reader')) bound result

-- A call that could write counts a failure of the writer if that is what it ended by, and else none.
pub record CountsFailures {W : Type 0} (sink : SinkGhosts W) (writer writer' : W) (result : Result (Unit {0}) RunError) : Type 0 where
  pub failed : IsErrOf result Write → HasFailed (sink.failures writer) (sink.failures writer')
  pub kept : (IsErrOf result Write → ⊥) → sink.failures writer' ≡ sink.failures writer

-- The answer to a line, what waited of it and its end, is put after what waits; if memory ran out, nothing is.
pub record PutsLine {W : Type 0} (sink : SinkGhosts W) (writer writer' : W) (waiting waiting' : Waiting) (answer : Text → Text) (end : Text) (result : Result (Unit {0}) RunError) : Type 0 where
  pub ok : OnOk result (Puts (sink.contents writer) waiting.output.items (sink.contents writer') waiting'.output.items (answer (waiting.line.items ++ end)))
  pub memory : IsErrOf result Memory → Puts (sink.contents writer) waiting.output.items (sink.contents writer') waiting'.output.items []
  pub write : IsErrOf result Write → PutsFront (sink.contents writer) waiting.output.items (sink.contents writer') (answer (waiting.line.items ++ end))

-- The answers to the whole lines, of what waited and a block of bytes, are put after what waits; if memory ran out, the first of them are.
pub record PutsBlock {W : Type 0} (sink : SinkGhosts W) (writer writer' : W) (waiting waiting' : Waiting) (answer : Text → Text) (block : Text) (result : Result (Unit {0}) RunError) : Type 0 where
  pub ok : OnOk result (Puts (sink.contents writer) waiting.output.items (sink.contents writer') waiting'.output.items
      (answers_to answer (whole_lines (waiting.line.items ++ block))))
  pub memory : IsErrOf result Memory → PutsFirst (sink.contents writer) waiting.output.items (sink.contents writer') waiting'.output.items answer
      (whole_lines (waiting.line.items ++ block))
  pub write : IsErrOf result Write → PutsFront (sink.contents writer) waiting.output.items (sink.contents writer')
      (answers_to answer (whole_lines (waiting.line.items ++ block)))

-- the answer to the line that waits, if it holds a byte, is put after what waits
abbrev pub PutsRest : Waiting → Waiting → (Text → Text) → Type 0
PutsRest waiting waiting' answer = waiting'.output.items ≡ waiting.output.items ++ answers_to answer (unless_empty waiting.line.items)

-- the bytes are a line, its line feed, and what stands after it
abbrev pub IsSplitAtLine : Text → Bor Text × Bor Text → Type 0
IsSplitAtLine bytes parts = IsUnfinished parts.0.now × (bytes ≡ parts.0.now ++ line_feed ∷ parts.1.now)
