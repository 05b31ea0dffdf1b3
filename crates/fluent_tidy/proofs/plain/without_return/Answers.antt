use Rattle.std.proofs.Common.{◌==◌, Some, None, sym, ap, ◌∙◌, arith}
use Rattle.std.specs.List.{list_all}
use Rattle.std.proofs.lemmas.Str.Pattern.{strip_suffix_char}
use Rattle.fluent_grammar.specs.Words.{carriage_return, space}
use Rattle.fluent_tidy.proofs.LineFeeds.{blank-left, other-left, returned-left}
use Rattle.fluent_tidy.proofs.plain.without_return.Goals as goal

pub returns-in-Some : goal.returns-in-Some
returns-in-Some c =
    blank-left c.args.line.now c.in-Some.text.now (strip_suffix_char carriage_return c.args.line.now (Some c.in-Some.text) c.in-Some.ensures.cases (omega arith)) c.requires
    (ap (list_all (λ c. c == space)) (sym c.as_bytes.ensures.value) ∙ sym c.is_blank.ensures ∙ c.if-is_blank.true)

pub returns-in-Some-2 : goal.returns-in-Some-2
returns-in-Some-2 c =
    returned-left c.args.line.now c.in-Some.text.now (strip_suffix_char carriage_return c.args.line.now (Some c.in-Some.text) c.in-Some.ensures.cases (omega arith)) c.requires
    (ap (list_all (λ c. c == space)) (sym c.as_bytes.ensures.value) ∙ sym c.is_blank.ensures ∙ c.if-is_blank.false)

pub returns-in-None : goal.returns-in-None
returns-in-None c = other-left c.args.line.now (strip_suffix_char carriage_return c.args.line.now None c.in-None.ensures.cases (omega arith)) c.requires
