use Rattle.fluent_symbols.proofs.Written.{both_written}
use Rattle.std.proofs.Common.{subst}
use Rattle.json.specs.Token.{string}
use Rattle.std.specs.Prelude.{codes}
use Rattle.fluent_symbols.specs.Lines.{at_key}
use Rattle.fluent_symbols.specs.Tokens.{WritesAll}
use Rattle.fluent_symbols.proofs.lines.write_symbol.Goals as goal

pub returns : goal.returns
returns c =
    both_written
    (subst (λ name. WritesAll c.args.writer.now c.write_text.new.writer (at_key (codes "kind") (string name))) c.kind_name.ensures c.in_ok-write_text.ensures)
    (both_written c.in_ok-write_text-2.ensures c.in_ok-write_owner.ensures)
