use Rattle.std.proofs.Common.{◌≡◌, ◌++◌, map, string_bytes}
use Rattle.ftl_project.specs.Baselines.{lines_of, text_of_lines}
use Rattle.ftl_project.proofs.baseline.Baseline.text.Given as goal

abbrev pub invariant-loop-line : goal.invariant-loop-line
invariant-loop-line l = string_bytes l.text ++ text_of_lines (map string_bytes l.line-iterator) ≡ text_of_lines (lines_of l.self)
