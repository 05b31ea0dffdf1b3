use Rattle.std.proofs.Common.{◌≡◌, map, take, string_bytes}
use Rattle.fluent_grammar.specs.Written.{onto, comment_signs}
use Rattle.fluent_serializer.proofs.entries.write_comment.Given as goal

abbrev pub invariant-loop-line : goal.invariant-loop-line
invariant-loop-line g l = string_bytes l.out ≡ onto (string_bytes l.initial.out) (comment_signs l.sign (map g.S.Slice.text (take l.line-index l.line-items)))
