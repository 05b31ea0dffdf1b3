use Rattle.std.proofs.Common.{ap}
use Rattle.fluent_ast.specs.Borrowed.{key_of}
use Rattle.lint_nodes.proofs.KeySets.{with_identifier, with_number}
use Rattle.lint_nodes.proofs.keys.Keys.insert.Goals as goal

pub returns-in_ok-insert-in-Identifier-clause-added :
    goal.returns-in_ok-insert-in-Identifier-clause-added
returns-in_ok-insert-in-Identifier-clause-added c = λ before has.
    with_identifier c.in-Identifier.name c.args.self.now c.insert.new.self (key_of c.args.key.now) before (ap key_of c.in-Identifier.is) c.in_ok-insert-in-Identifier.ensures.updates has

pub returns-in_ok-insert-in-NumberLiteral-clause-added :
    goal.returns-in_ok-insert-in-NumberLiteral-clause-added
returns-in_ok-insert-in-NumberLiteral-clause-added c = λ before has.
    with_number c.in-NumberLiteral.value c.args.self.now c.insert-in-NumberLiteral.new.self (key_of c.args.key.now) before (ap key_of c.in-NumberLiteral.is) c.in_ok-insert-in-NumberLiteral.ensures.updates has
