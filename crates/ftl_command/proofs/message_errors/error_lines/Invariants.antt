use Rattle.std.proofs.Common.{◌≡◌, take, string_bytes}
use Rattle.std.specs.List.{flat_map}
use Rattle.fluent_errors.specs.View.{bundle_view}
use Rattle.fluent_run.specs.ReplyView.{error_text}
use Rattle.ftl_command.specs.Shown.{error_line}
use Rattle.ftl_command.proofs.message_errors.error_lines.Given as goal

-- the lines of the errors so far
abbrev pub invariant-loop-error : goal.invariant-loop-error
invariant-loop-error l = string_bytes l.text ≡ flat_map (λ e. error_line (error_text (bundle_view e))) (take l.error-index l.errors)
