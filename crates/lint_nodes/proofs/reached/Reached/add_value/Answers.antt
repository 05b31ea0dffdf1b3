use Rattle.std.proofs.Common.{ap, option_map}
use Rattle.std.proofs.lemmas.Result.{on_ok_weaker}
use Rattle.fluent_ast.specs.Borrowed.{elements_of}
use Rattle.lint_nodes.proofs.References.{no_value_gets, value_gets}
use Rattle.lint_nodes.proofs.reached.Reached.add_value.Goals as goal

pub returns-in-Some : goal.returns-in-Some
returns-in-Some c =
    let value = option_map elements_of c.args.value.now in
    on_ok_weaker c.add_pattern.result (value_gets c.args.self.now c.add_pattern.new.self value (elements_of c.in-Some.pattern) (ap (option_map elements_of) c.in-Some.is)) c.add_pattern.ensures

pub returns-in-None : goal.returns-in-None
returns-in-None c = no_value_gets c.args.self.now (option_map elements_of c.args.value.now) (ap (option_map elements_of) c.in-None.is)
