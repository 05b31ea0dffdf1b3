use Rattle.std.proofs.Common.{◌≡◌, ◌∙◌, ◌-◌, ap, drop, length, subst, sym}
use Rattle.std.proofs.lemmas.List.{length-drop}
use Rattle.std.specs.Prelude.{codes, decimal}
use Rattle.json.specs.Token.{number}
use Rattle.fluent_symbols.specs.Lines.{at_key}
use Rattle.fluent_symbols.specs.Tokens.{WritesAll}
use Rattle.fluent_symbols.proofs.Written.{both_written, one_written}
use Rattle.fluent_symbols.proofs.lines.write_occurrence.Goals as goal

pub returns : goal.returns
returns c =
    let o = c.args.occurrence.now in
    let name = o.symbol.name.now in
    let after : c.saturating_sub-after.result ≡ length (drop (length name) o.at.now) = c.saturating_sub-after.ensures ∙ sym (length-drop (length name) o.at.now) in
    let end = c.saturating_sub.ensures ∙ ap (λ n. c.args.len - n) after in
    both_written (one_written c.in_ok-begin_object.ensures)
    (both_written (one_written c.in_ok-key.ensures)
    (both_written (one_written c.in_ok-boolean.ensures)
    (both_written (subst (λ n. WritesAll c.boolean.new.self c.write_offset.new.writer (at_key (codes "end") (number (decimal n)))) end c.in_ok-write_offset.ensures)
    (both_written c.in_ok-write_symbol.ensures
    (both_written (subst (λ n. WritesAll c.write_symbol.new.writer c.write_offset-2.new.writer (at_key (codes "start") (number (decimal n)))) c.saturating_sub-2.ensures c.in_ok-write_offset-2.ensures)
    (one_written c.in_ok-end_object.ensures))))))
