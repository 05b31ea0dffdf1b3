use Rattle.std.proofs.Common.{◌∙◌, ap, sym, ◌++◌, string_bytes}
use Rattle.std.proofs.lemmas.Iterator.{YieldsList-from_chars}
use Rattle.std.proofs.lemmas.Iterator.Consumers.{YieldsList-end}
use Rattle.std.specs.Str.{chars}
use Rattle.lint_report.proofs.Characters.{masked_piece, masked_is, all_written}
use Rattle.lint_report.proofs.masked.push_masked.Goals as goal

pub returns : goal.returns
returns c =
    let t = YieldsList-end (YieldsList-from_chars c.args.shown.now c.utf8.shown cc) c.loop-c.yielded _ c.loop-c.yielded_by _ _ c.in-None.is c.next.ensures.steps in
    all_written masked_piece (string_bytes c.args.text.now) (string_bytes c.loop-c.text) c.loop-c.yielded (chars c.args.shown.now) c.loop-c.invariant t.0
    ∙ ap (λ s. string_bytes c.args.text.now ++ s) (sym (masked_is c.args.shown.now))
