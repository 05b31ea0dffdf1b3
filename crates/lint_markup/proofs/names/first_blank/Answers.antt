use Rattle.std.proofs.Common.{subst, sym, rules}
use Rattle.std.proofs.lemmas.Iterator.{YieldsList-from_slice}
use Rattle.std.proofs.lemmas.Iterator.Search.{position_from_yields_List}
use Rattle.memchr.specs.Find.{IsFirstByte}
use Rattle.lint_findings.specs.Tags.{is_blank_byte}
use Rattle.lint_markup.proofs.Signs.{first_is}
use Rattle.lint_markup.proofs.names.first_blank.Goals as goal

pub returns : goal.returns
returns c =
    let is = position_from_yields_List is_blank_byte _ _ c.position.result c.position.ensures.ran (YieldsList-from_slice c.args.text.now cc) (λ x b q k. search rules) in
    subst (IsFirstByte is_blank_byte c.args.text.now) (sym is) (first_is is_blank_byte c.args.text.now)
