-- What a few sources take, by computing.
use Rattle.std.proofs.Common.{◌+◌, false, refl, codes}
use Rattle.fluent_grammar.specs.Reading.{identifier_at}
use Rattle.fluent_text.specs.declared.stack.reading.TheConstants.{PLACEABLE, CALL}
use Rattle.fluent_parser.specs.Nesting.{in_braces, in_call, placeable_opens, in_expression, call_opens, in_arguments, this_argument, after_blank, in_pieces, this_piece, TakesSource, in_pattern}

placeable_in_placeable : TakesSource (codes "a = { { $x } }\n") (PLACEABLE + PLACEABLE)
placeable_in_placeable =
    in_pattern 2 refl (after_blank (in_pieces {line = false} refl (this_piece (in_expression refl (in_braces (placeable_opens refl))))))

call_in_call : TakesSource (codes "a = { F(G()) }\n") (PLACEABLE + (CALL + CALL))
unfolding identifier_at
call_in_call =
    in_pattern 2 refl (after_blank (in_pieces {line = false} refl (this_piece (in_expression refl (in_call refl (in_arguments refl (this_argument (in_call refl (call_opens refl)))))))))
