use Rattle.std.proofs.Common.{◌≡◌, ◌∙◌, false, sym, rules}
use Rattle.fluent_tidy.specs.Sources.{holds_return}
use Rattle.fluent_tidy.specs.TidyText.{plain}
use Rattle.fluent_tidy.proofs.TidyPlain.{plain-is, reasons-are, tidied-is}
use Rattle.fluent_tidy.proofs.tidying.tidy_within.Goals as goal

pub returns-then-not-has_return-clause-text : goal.returns-then-not-has_return-clause-text
returns-then-not-has_return-clause-text c =
    let body = c.without_mark-body.result.now in
    let no : c.has_return.result ≡ false = search rules in
    let none : holds_return body ≡ false = sym c.has_return.ensures ∙ no in
    let same : plain c.args.source.now ≡ body = plain-is c.args.source.now body c.without_mark-body.ensures none in
    tidied-is c.tidy_plain.result c.args.source.now body same none c.tidy_plain.ensures.whole c.tidy_plain.ensures.text c.tidy_plain.ensures.stays

pub returns-then-not-has_return-clause-reason : goal.returns-then-not-has_return-clause-reason
returns-then-not-has_return-clause-reason c =
    let body = c.without_mark-body.result.now in
    let no : c.has_return.result ≡ false = search rules in
    let none : holds_return body ≡ false = sym c.has_return.ensures ∙ no in
    reasons-are c.tidy_plain.result c.args.source.now body (plain-is c.args.source.now body c.without_mark-body.ensures none) c.tidy_plain.ensures.reason
