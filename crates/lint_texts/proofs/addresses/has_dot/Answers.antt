use Rattle.std.proofs.Common.{◌∙◌, ap, sym}
use Rattle.std.specs.Prelude.{◌==◌}
use Rattle.std.specs.List.{list_any}
use Rattle.fluent_grammar.specs.Words.{dot}
use Rattle.lint_texts.proofs.AddressSteps.{dotted}
use Rattle.lint_texts.proofs.addresses.has_dot.Goals as goal

pub returns : goal.returns
returns c = c.any_dot.ensures ∙ ap (list_any (λ d. d == dot)) (c.front.ensures ∙ c.host_len.ensures.value) ∙ sym (dotted c.args.text.now)
