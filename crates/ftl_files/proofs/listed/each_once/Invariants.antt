use Rattle.std.proofs.Common.{[], map, take, string_bytes}
use Rattle.lint_nodes.specs.HasNames.{HasNames}
use Rattle.lint_findings.specs.Comparison.{union}
use Rattle.ftl_files.proofs.listed.each_once.Given as goal

-- the names so far, each once
abbrev pub invariant-loop-name : goal.invariant-loop-name
invariant-loop-name l = HasNames l.once (union [] (map string_bytes (take l.name-index l.names)))
