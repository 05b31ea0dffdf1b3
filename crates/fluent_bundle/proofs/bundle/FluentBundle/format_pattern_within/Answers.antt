use Rattle.std.proofs.Common.{◌∙◌, sym}
use Rattle.std.specs.Cow.{cow_str_bytes}
use Rattle.fluent_progress.proofs.Telling.{on-err}
use Rattle.fluent_bundle.proofs.LentBundle.{all-told, handed-is}
use Rattle.fluent_bundle.proofs.bundle.FluentBundle.format_pattern_within.Goals as goal

pub returns-clause-text : goal.returns-clause-text
returns-clause-text g c =
    c.in_ok-hand_out.ensures.text
    ∙ sym (handed-is g.T.TextTransform.transformed c.args.self.now c.lent-lent.result c.lent-lent.ensures c.args.args c.args.pattern.now (cow_str_bytes c.in_ok-text.text) c.in_ok-text.ensures.text)

pub returns-in_err-hand_out-clause-refused : goal.returns-in_err-hand_out-clause-refused
returns-in_err-hand_out-clause-refused g c =
    on-err _ (all-told g.T.TextTransform.transformed c.args.self.now c.lent-lent.result c.lent-lent.ensures c.args.args c.args.pattern.now c.args.errors.now c.answer_within.new.errors c.in_ok-text.ensures.told)
