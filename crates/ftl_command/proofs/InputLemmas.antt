-- Lemmas on standard input that is tidied.
use Rattle.std.proofs.Common.{◌≡◌, ◌≢◌, ◌⊎◌, Bool, true, false, Option, Result, Ok, Err, append-nil, inl, inr, refl, subst}
use Rattle.std.specs.Prelude.{IsErrOf, []}
use Rattle.std.specs.Io.KnownBytes.{Consumes, IsAtEnd}
use Rattle.fluent_serve.proofs.Exchange.{consumes_trans}
use Rattle.fluent_serve.specs.Text.{Text}
use Rattle.fluent_serve.specs.Exchange.{Devices, GivesUp, devices_of}
use Rattle.fluent_serve.specs.declared.stream.Sink.{Ghosts as SinkGhosts}
use Rattle.fluent_serve.specs.declared.stream.Source.{Ghosts as SourceGhosts}
use Rattle.ftl_command.specs.Input.{IsInputEnd, IsReadWhole, written_of}
use Rattle.ftl_command.specs.Program.{BytesEnd, InputEnds, WritesEnd}
use Rattle.ftl_command.specs.Refusals.{IsDeviceFault, IsOfStreams, IsTextFault}
use Rattle.ftl_command.specs.declared.ended.Ended.{Ended}
use Rattle.ftl_command.specs.declared.fault.Fault.{Fault}
use Rattle.ftl_command.specs.declared.fault.Fault.TheVariants.{Input, Memory, Output}
use Rattle.ftl_files.specs.Tidying.{FileEnd, Failure, failed}

-- the last read gave nothing
pub read_whole : (left left_now left_after : Option Text) (bytes : Text) → Consumes left left_now bytes → Consumes left_now left_after [] → IsAtEnd left_after →
    IsReadWhole left left_after bytes
read_whole left left_now left_after bytes so_far none all =
    record { read = subst (λ s. Consumes left left_after s) (append-nil bytes) (consumes_trans left left_now left_after bytes [] so_far none); all = all }

-- what is only reported is not written
nothing_of_failed : (check : Bool) (a b : Text) (f : Failure) (why : Option Text) → written_of check a (failed f why) ≡ written_of check b (failed f why)
nothing_of_failed true a b f why = refl
nothing_of_failed false a b f why = refl

module _ (check : Bool) (bytes : Text) (held held_after : Option Text) where
  -- what became of bytes is written
  pub bytes_end : (end : FileEnd) (result : Result Ended Fault) → IsInputEnd bytes end → WritesEnd check bytes end held held_after result →
      BytesEnd check bytes held held_after result
  bytes_end end (Ok e) right w = record { done = record { end = end; right = right; outcome = (w.written, w.ended) }; output = λ is. absurd cc }
  bytes_end end (Err fault) right w = record { done = tt; output = λ is. record { end = end; right = right; outcome = w.front is } }

  -- of what is only reported nothing is written, whatever it is
  pub failed_end : (other : Text) (f : Failure) (why : Option Text) (result : Result Ended Fault) → WritesEnd check other (failed f why) held held_after result →
      WritesEnd check bytes (failed f why) held held_after result
  failed_end other f why result w =
      record { ended = w.ended; written = rw (nothing_of_failed check other bytes f why) at w.written; front = λ is. rw (nothing_of_failed check other bytes f why) at (w.front is) }

  -- they were all of the input
  pub input_end : (left left_after : Option Text) (result : Result Ended Fault) → IsReadWhole left left_after bytes → BytesEnd check bytes held held_after result →
      (IsErrOf result Memory → held_after ≡ held) → (IsErrOf result Input → held_after ≡ held) →
      InputEnds (devices_of left left_after held held_after) check result
  input_end left left_after (Ok e) read ends memory input =
      record { done = record { bytes = bytes; read = read; tidied = ends.done }; memory = λ is. absurd cc; input = λ is. absurd cc; output = λ is. absurd cc }
  input_end left left_after (Err fault) read ends memory input =
      record { done = tt; memory = memory; input = input; output = λ is. record { bytes = bytes; read = read; tidied = ends.output is } }

-- a fault came before anything was written
pub input_unread : (d : Devices) (check : Bool) (fault : Fault) → d.held_after ≡ d.held_before → fault ≢ Output → InputEnds d check (Err fault)
input_unread d check fault same other = record { done = tt; memory = λ is. same; input = λ is. same; output = λ is. absurd (other cc) }

pub not_output : (fault : Fault) → (fault ≡ Memory) ⊎ (fault ≡ Input) → fault ≢ Output
not_output fault (inl is) output = absurd cc
not_output fault (inr is) output = absurd cc

module _ {R W : Type 0} (source : SourceGhosts R) (sink : SinkGhosts W) (reader reader' : R) where
  -- the input was not read to its end
  pub unread_stops : (writer : W) (fault : Fault) → (fault ≡ Memory) ⊎ (fault ≡ Input) → (fault ≡ Input → GivesUp source reader reader' 4294967296) →
      IsDeviceFault source reader reader' sink writer writer fault
  unread_stops writer fault (inl is) given_up = rw is (record { unread = λ early. absurd early; unwritten = λ early. refl; given_up = λ input. absurd cc; failed = λ output. absurd cc })
  unread_stops writer fault (inr is) given_up =
      rw is (record { unread = λ early. absurd early; unwritten = λ early. refl; given_up = λ input. given_up is; failed = λ output. absurd cc })

  -- it was, and then a text was written
  pub read_stops : (writer writer' : W) (fault : Fault) → (fault ≡ Memory) ⊎ (fault ≡ Output) → IsTextFault sink writer writer' fault →
      IsDeviceFault source reader reader' sink writer writer' fault
  read_stops writer writer' fault (inl is) f =
      rw is (record { unread = λ early. absurd early; unwritten = λ early. absurd early; given_up = λ input. absurd cc; failed = λ output. absurd cc })
  read_stops writer writer' fault (inr is) f =
      rw is (record { unread = λ early. absurd early; unwritten = λ early. absurd early; given_up = λ input. absurd cc; failed = λ output. f.failed is })

pub of_reading : (fault : Fault) → (fault ≡ Memory) ⊎ (fault ≡ Input) → IsOfStreams fault
of_reading fault (inl is) = inl is
of_reading fault (inr is) = inr (inl is)

pub of_writing : (fault : Fault) → (fault ≡ Memory) ⊎ (fault ≡ Output) → IsOfStreams fault
of_writing fault (inl is) = inl is
of_writing fault (inr is) = inr (inr is)
