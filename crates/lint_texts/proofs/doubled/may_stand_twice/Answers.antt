use Rattle.std.proofs.Common.{◌∙◌, ap}
use Rattle.std.specs.List.{list_any}
use Rattle.std.specs.Str.{str_eq_ignore_ascii_case}
use Rattle.lint_texts.proofs.doubled.may_stand_twice.Goals as goal

pub returns : goal.returns
returns c = c.is_one_of.ensures ∙ ap (list_any (str_eq_ignore_ascii_case c.args.word.now)) c.said_twice.ensures
