-- What a run reads and writes.
use Rattle.std.specs.Prelude.{◌≡◌, ◌⊎◌, ℕ, ◌≤◌, ◌++◌, length, take, Option, Result, OnOk, IsErrOf}
use Rattle.std.specs.Io.KnownBytes.{Consumes, Appends}
use Rattle.fluent_serve.specs.Text.{Text}
use Rattle.fluent_serve.specs.Lines.{whole_lines}
use Rattle.fluent_serve.specs.Frames.{answers_to, answers}
use Rattle.fluent_serve.specs.Devices.{HasFailed, IsGivenUp}
use Rattle.fluent_serve.specs.declared.serve.RunError.{RunError}
use Rattle.fluent_serve.specs.declared.serve.RunError.TheVariants.{Memory, Read, Write}
use Rattle.fluent_serve.specs.declared.stream.Source.{Ghosts as SourceGhosts}
use Rattle.fluent_serve.specs.declared.stream.Sink.{Ghosts as SinkGhosts}

-- one text is the other's front
pub record IsFrontOf (front whole : Text) : Type 0 where
  pub back : Text
  pub split : whole ≡ front ++ back

-- The bytes that a reader has left and those that a writer holds, before and after, as far as they are known.
pub record Devices : Type 0 where
  pub left_before : Option Text
  pub left_after : Option Text
  pub held_before : Option Text
  pub held_after : Option Text

abbrev pub devices_of : Option Text → Option Text → Option Text → Option Text → Devices
devices_of left_before left_after held_before held_after =
    record { left_before = left_before; left_after = left_after; held_before = held_before; held_after = held_after }

-- those of a reader and a writer, each before and after, as far as they are known
abbrev pub devices : {R W : Type 0} → (R → Option Text) → R → R → (W → Option Text) → W → W → Devices
devices remaining reader_before reader_after contents writer_before writer_after =
    devices_of (remaining reader_before) (remaining reader_after) (contents writer_before) (contents writer_after)

-- the reader gave these bytes, and the writer took those
pub record Exchanged (d : Devices) (taken given : Text) : Type 0 where
  pub read : Consumes d.left_before d.left_after taken
  pub written : Appends d.held_before d.held_after given

-- all that was read is answered, and nothing else is written
pub record AnswersAll (d : Devices) (answer : Text → Text) : Type 0 where
  pub taken : Text
  pub exchanged : Exchanged d taken (answers answer taken)

-- the first whole lines that were read are answered, and nothing else is written
pub record AnswersFirst (d : Devices) (answer : Text → Text) : Type 0 where
  pub taken : Text
  pub count : ℕ
  pub exchanged : Exchanged d taken (answers_to answer (take count (whole_lines taken)))

-- the whole lines that were read are answered, and nothing else is written
pub record AnswersWhole (d : Devices) (answer : Text → Text) (failed : Type 0) (bound : ℕ) : Type 0 where
  pub taken : Text
  pub exchanged : Exchanged d taken (answers_to answer (whole_lines taken))
  -- the reader failed, or gave at least this many bytes without an end
  pub reason : failed ⊎ (bound ≤ length taken)

-- a front of the answers to what was read is written
pub record AnswersFront (d : Devices) (answer : Text → Text) : Type 0 where
  pub taken : Text
  pub given : Text
  pub exchanged : Exchanged d taken given
  pub front : IsFrontOf given (answers answer taken)

-- What became of the devices, by how a run ended. `failed` says that the reader failed.
pub record RunsOn (d : Devices) (answer : Text → Text) (failed : Type 0) (bound : ℕ) (result : Result (Unit {0}) RunError) : Type 0 where
  -- all lines are answered
  pub ok : OnOk result (AnswersAll d answer)
  -- the first lines are
  pub memory : IsErrOf result Memory → AnswersFirst d answer
  -- all whole lines are, and the reader failed or gave at least this many bytes without an end
  pub read : IsErrOf result Read → AnswersWhole d answer failed bound
  -- a front of the answers is written
  pub write : IsErrOf result Write → AnswersFront d answer

-- so it is of a reader and a writer, each before and after
abbrev pub Runs : {R W : Type 0} → SourceGhosts R → R → R → SinkGhosts W → W → W → (Text → Text) → ℕ → Result (Unit {0}) RunError → Type 0
Runs source reader reader' sink writer writer' answer bound result =
    RunsOn (devices source.remaining reader reader' sink.contents writer writer') answer (HasFailed (source.failures reader) (source.failures reader')) bound result

-- the reader is given up, by its counts before and after
abbrev pub GivesUp : {R : Type 0} → SourceGhosts R → R → R → ℕ → Type 0
GivesUp source reader reader' bound = IsGivenUp (source.failures reader) (source.failures reader') (source.given reader) (source.given reader') bound
