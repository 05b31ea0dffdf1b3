use Rattle.fluent_ast.proofs.Attribute.try_clone.Goals as goal

pub returns : goal.returns
returns g c = cc (c.in_ok-id.ensures, c.in_ok-value.ensures)
