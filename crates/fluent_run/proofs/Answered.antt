-- What became of a run, by what became of serving a desk's answers.
use Rattle.std.proofs.Common.{◌≡◌, List, IfSome, Option, Some, None, Result, OnOk, sym, subst}
use Rattle.std.specs.Io.KnownBytes.{Appends, IsAtEnd}
use denote.Ref.{Bor}
use Rattle.fluent_grammar.specs.Words.{Text}
use Rattle.fluent_tidy_laws.specs.Tidied.{Tidied}
use Rattle.fluent_run.specs.RunView.{RunsFrom, answers_by, answers_of, line_by}
use Rattle.fluent_run.specs.declared.settings.Settings.{Settings}
use Rattle.fluent_serve.proofs.Outcomes.{on_ok_map, on_ok_both}
use Rattle.fluent_serve.proofs.SameAnswers.{same_all, same_first, same_whole, same_front, answers_known}
use Rattle.fluent_serve.specs.Exchange.{Runs}
use Rattle.fluent_serve.specs.Texts.{texts}
use Rattle.fluent_serve.specs.declared.serve.RunError.{RunError}
use Rattle.fluent_serve.specs.declared.stream.Sink.{Ghosts as SinkGhosts}
use Rattle.fluent_serve.specs.declared.stream.Source.{Ghosts as SourceGhosts}
use Rattle.fluent_value.specs.declared.plurals.MemoizerKind.{Ghosts as KindGhosts}

-- known answers are those of whatever answers alike
known_alike : {O : Type 0} (P : O → Type 0) (left held now : Option Text) (f : Text → Text) (h : O → Text → Text) →
    ((o : O) → P o → (input : Text) → h o input ≡ f input) → IfSome left (λ input. Appends held now (f input)) → IfSome left (λ input. (o : O) → P o → Appends held now (h o input))
known_alike P None held now f h e k = tt
known_alike P (Some input) held now f h e k = λ o p. subst (λ x. Appends held now x) (sym (e o p input)) k

-- each line is answered as the sources', and whatever they are tidied into has the same answers
pub run-answered : {M R W : Type 0} (kind : KindGhosts M) (plurals : M) (settings : Settings) (sources : List (Bor Text))
    (source : SourceGhosts R) (reader reader' : R) (sink : SinkGhosts W) (writer writer' : W) (result : Result (Unit {0}) RunError) (answer : Text → Text) →
    ((line : Text) → answer line ≡ line_by kind.category_of kind.stringified plurals settings sources line) →
    ((others : List Text) → Tidied (texts sources) others → (input : Text) →
    answers_of kind.category_of kind.stringified plurals settings others input ≡ answers_by kind.category_of kind.stringified plurals settings sources input) →
    Runs source reader reader' sink writer writer' answer 4294967296 result → OnOk result (IsAtEnd (source.remaining reader')) →
    RunsFrom kind plurals settings sources source reader reader' sink writer writer' result
run-answered kind plurals settings sources source reader reader' sink writer writer' result answer same tidied served end =
    let exact = on_ok_both result (λ all end. answers_known (same_all same all) end) served.ok end in
    record {
      exact = exact;
      tidied = on_ok_map result (known_alike _ (source.remaining reader) (sink.contents writer) (sink.contents writer') _ _ tidied) exact;
      served = record {
        ok = on_ok_map result (same_all same) served.ok;
        memory = λ is. same_first same (served.memory is);
        read = λ is. same_whole same (served.read is);
        write = λ is. same_front same (served.write is);
      };
    }
