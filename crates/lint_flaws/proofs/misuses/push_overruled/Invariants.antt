use Rattle.std.proofs.Common.{◌≡◌, ◌++◌, map, drop}
use Rattle.fluent_ast.specs.View.{named_view, nameds_of}
use Rattle.lint_findings.specs.View.{remark_view}
use Rattle.lint_findings.specs.Misuses.{misuse_remark, misuses_of, overruled_by}
use Rattle.lint_flaws.specs.BuiltinView.{builtin_view}
use Rattle.lint_flaws.proofs.misuses.push_overruled.Given as goal

abbrev pub invariant-loop-argument : goal.invariant-loop-argument
invariant-loop-argument l =
    let view = named_view _ (λ s. s.now) in
    let misuse = overruled_by (builtin_view l.row) l.style in
    map remark_view l.found.items ++ map misuse_remark (misuses_of misuse (nameds_of (map view (drop l.argument-index l.named))))
    ≡ map remark_view l.initial.found.items ++ map misuse_remark (misuses_of misuse (nameds_of (map view l.named)))
