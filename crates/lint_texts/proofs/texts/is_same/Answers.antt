use Rattle.std.proofs.Common.{◌≡◌, Decides}
use Rattle.fluent_ast.specs.Borrowed.{elements_of}
use Rattle.fluent_meaning.proofs.OnPath.{compared-is}
use Rattle.lint_texts.proofs.texts.is_same.Goals as goal

pub returns : goal.returns
returns c =
    let es = elements_of c.args.pattern.now in
    let fs = elements_of c.args.other.now in
    let decides : Decides c.eq.result (es ≡ fs) = rw c.eq.ensures (c.equal_nodes.ensures.patterns.plain c.args.pattern.now c.args.other.now) in
    compared-is c.eq.result es fs decides
