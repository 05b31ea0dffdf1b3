use Rattle.std.proofs.Common.{◌≡◌, take}
use Rattle.fluent_project.specs.Views.{plain}
use Rattle.ftl_project.specs.Paths.{paths}
use Rattle.ftl_project.proofs.sources.lent.Given as goal

-- the texts so far
abbrev pub invariant-loop-text : goal.invariant-loop-text
invariant-loop-text l = plain l.lent.items ≡ paths (take l.text-index l.texts)
