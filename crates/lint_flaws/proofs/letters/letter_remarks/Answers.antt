use Rattle.std.proofs.Common.{◌∙◌, map, ap, sym}
use Rattle.lint_findings.specs.View.{remark_view}
use Rattle.lint_flaws.proofs.NothingSpecial.{nothing_special}
use Rattle.lint_flaws.proofs.letters.letter_remarks.Goals as goal

pub returns-else-has_special : goal.returns-else-has_special
returns-else-has_special c =
    ap (map remark_view) c.new.ensures.items ∙ nothing_special c.args.text.now (sym c.has_special.ensures ∙ c.if-has_special.false)
