use Rattle.std.proofs.Common.{◌∙◌, ap, sym, ◌++◌, string_bytes, ℕ, List}
use Rattle.std.specs.Prelude.{encode_utf8}
use Rattle.std.specs.List.{flat_map}
use Rattle.std.proofs.lemmas.Iterator.{YieldsList-from_chars}
use Rattle.std.proofs.lemmas.Iterator.Consumers.{YieldsList-end}
use Rattle.std.specs.Str.{chars}
use Rattle.lint_report.specs.Parts.{part_byte}
use Rattle.lint_report.proofs.Characters.{of_text, all_written}
use Rattle.lint_report.proofs.commands.push_escaped.Goals as goal

pub returns : goal.returns
returns c =
    let t = YieldsList-end (YieldsList-from_chars c.args.shown.now c.utf8.shown cc) c.loop-c.yielded _ c.loop-c.yielded_by _ _ c.in-None.is c.next.ensures.steps in
    let piece : ℕ → List ℕ = λ d. flat_map (part_byte c.args.part) (encode_utf8 d) in
    all_written piece (string_bytes c.args.text.now) (string_bytes c.loop-c.text) c.loop-c.yielded (chars c.args.shown.now) c.loop-c.invariant t.0
    ∙ ap (λ s. string_bytes c.args.text.now ++ s) (sym (of_text (part_byte c.args.part) c.args.shown.now c.utf8.shown))
