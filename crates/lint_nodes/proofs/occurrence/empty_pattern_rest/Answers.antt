use Rattle.std.proofs.Common.{◌∙◌, ap, sym}
use Rattle.fluent_grammar.specs.Refusal.{got}
use Rattle.fluent_grammar.specs.Tree.{no_elements}
use Rattle.lint_nodes.proofs.OccurrencesAreFound.{rests_are_read}
use Rattle.lint_nodes.proofs.occurrence.empty_pattern_rest.Goals as goal

pub returns : goal.returns
returns c = c.requires.1 ∙ ap (got no_elements) (sym (rests_are_read c.args.text.now no_elements c.requires.0 c.requires.1) ∙ sym c.first_placeable.ensures)
