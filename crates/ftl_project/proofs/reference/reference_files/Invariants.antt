use Rattle.std.proofs.Common.{take}
use Rattle.fluent_project.specs.Views.{plain}
use Rattle.ftl_project.specs.References.{AreReferences}
use Rattle.ftl_project.proofs.reference.reference_files.Given as goal

-- the files so far
abbrev pub invariant-loop-path : goal.invariant-loop-path
invariant-loop-path l = AreReferences l.here (plain l.files) l.sources (take l.path-index l.references) l.all.items
