use Rattle.std.proofs.Common.{◌≡◌, take, string_bytes}
use Rattle.fluent_run.specs.Listing.{lines}
use Rattle.lint_nodes.specs.HasNames.{texts}
use Rattle.fluent_kept.proofs.variables.name_lines.Given as goal

-- the lines of the names so far
abbrev pub invariant-loop-name : goal.invariant-loop-name
invariant-loop-name l = string_bytes l.text ≡ lines (texts (take l.name-index l.names))
