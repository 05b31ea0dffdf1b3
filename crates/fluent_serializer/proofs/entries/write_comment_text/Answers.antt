use Rattle.std.proofs.Common.{◌≡◌, true, false, length, ap, sym, ◌∙◌}
use Rattle.std.specs.Prelude.{◌==◌}
use Rattle.std.specs.Str.{trim_end}
use Rattle.fluent_grammar.proofs.LaidOut.{onto-nil}
use Rattle.fluent_serializer.proofs.Onto.{onto-finish}
use Rattle.fluent_serializer.proofs.entries.write_comment_text.Goals as goal

pub returns-then-is_empty : goal.returns-then-is_empty
returns-then-is_empty c =
    let blank : (length (trim_end c.args.line.now) == 0) ≡ true = ap (λ s. length s == 0) (sym c.trim_end.ensures.trim) ∙ sym c.is_empty.ensures ∙ c.if-is_empty.true in
    rw blank (sym (onto-nil _))

pub returns : goal.returns
returns c =
    let blank : (length (trim_end c.args.line.now) == 0) ≡ false = ap (λ s. length s == 0) (sym c.trim_end.ensures.trim) ∙ sym c.is_empty.ensures ∙ c.if-is_empty.false in
    rw blank (onto-finish _ _ _ _ _ c.in_ok-write_piece.ensures c.write_piece-2.ensures)
