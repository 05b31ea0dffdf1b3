use Rattle.std.proofs.Common.{◌≡◌, ◌∙◌, ℕ, ◌++◌, List, Option, map, take, sym, ap, append-nil}
use Rattle.std.specs.Prelude.{option_map}
use Rattle.std.specs.Option.{option_to_list}
use Rattle.fluent_parsed.specs.ErrorView.{Span, error_view}
use Rattle.fluent_parsed.specs.declared.errors.ParserError.{ParserError}
use Rattle.lint_files.specs.SourceFindings.{starts_of}
use Rattle.lint_files.proofs.Loops.{starts_more}
use Rattle.lint_files.proofs.findings.junk_starts.Goals as goal
use Rattle.lint_files.proofs.findings.junk_starts.Goals.{in-Some+in_ok-push, in_default}

pub loop-error-preserved : goal.loop-error-preserved
loop-error-preserved c =
    let e : ParserError = c.error-item.result in
    let old = c.loop-error.starts.items in
    let start_of : ParserError → Option ℕ = λ x. option_map (λ (s : Span). s.start) (error_view x).slice in
    let items : c.match-error.starts.items ≡ old ++ option_to_list (start_of e) = elim c.match-error.branch [
      | in-Some+in_ok-push w ↦ rw (w.starts-is, w.in-Some.is) w.in_ok-push.ensures.items
      | in_default w ↦ rw (w.starts-is, w.in_default.is) (sym (append-nil old))
    ] in
    items
    ∙ ap (λ (xs : List ℕ). xs ++ option_to_list (start_of e)) c.loop-error.invariant
    ∙ ap (λ (x : ParserError). starts_of (map error_view (take c.loop-error.error-index c.args.errors.now)) ++ option_to_list (start_of x)) c.error-item.is
    ∙ sym (starts_more c.args.errors.now c.loop-error.error-index e c.loop-error-test.true)
