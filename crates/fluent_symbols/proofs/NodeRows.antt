-- Worked rows: the lines of the nodes of sources.
use Rattle.std.specs.Prelude.{◌≡◌, ⊤, codes}
use Rattle.std.proofs.Common.{refl}
use Rattle.std.specs.Fmt.{digits}
use Rattle.fluent_grammar.specs.Words.{Text}
use Rattle.fluent_grammar.proofs.Computing.{computing}
use Rattle.fluent_symbols.specs.NodeLines.{node_lines}

unfoldable computing_nodes : ⊤
unfolding computing digits
computing_nodes = tt

-- the lines of the nodes of a source are these
unfoldable AreNodesOf : Text → Text → Type 0
AreNodesOf source lines = node_lines source ≡ lines

a_text : AreNodesOf (codes "a = b\n")
    (codes "Identifier 0 1\nTextElement 4 5\nPattern 4 5\nMessage 0 5\n")
unfolding computing_nodes AreNodesOf
a_text = refl

an_indented_text_after_a_comment : AreNodesOf (codes "# c\n-t =\n  x\n   y { $z }\n")
    (codes "Comment 0 3\nIdentifier 5 6\nTextElement 11 13\nTextElement 15 18\nIdentifier 21 22\nVariableReference 20 22\nPlaceable 18 24\nPattern 9 24\nTerm 0 24\n")
unfolding computing_nodes AreNodesOf
an_indented_text_after_a_comment = refl

lines_that_end_in_crlf : AreNodesOf (codes "a = b\r\n    c\r\n")
    (codes "Identifier 0 1\nTextElement 4 5\nTextElement 6 7\nTextElement 11 12\nPattern 4 12\nMessage 0 12\n")
unfolding computing_nodes AreNodesOf
lines_that_end_in_crlf = refl

a_select_by_a_call : AreNodesOf (codes "a = { F(1, n: \"q\") ->\n *[o] x\n }\n")
    (codes "Identifier 0 1\nIdentifier 6 7\nNumberLiteral 8 9\nIdentifier 11 12\nStringLiteral 14 17\nNamedArgument 11 17\nCallArguments 7 18\nFunctionReference 6 18\nIdentifier 25 26\nTextElement 28 29\nPattern 28 29\nDefaultVariant 23 29\nSelect 6 31\nPlaceable 4 32\nPattern 4 32\nMessage 0 32\n")
unfolding computing_nodes AreNodesOf
a_select_by_a_call = refl

a_blank_before_the_dot_and_junk : AreNodesOf (codes "k = { m .b }\nx\n")
    (codes "Identifier 0 1\nIdentifier 6 7\nIdentifier 9 10\nMessageReference 6 10\nPlaceable 4 12\nPattern 4 12\nMessage 0 12\nJunk 13 15\n")
unfolding computing_nodes AreNodesOf
a_blank_before_the_dot_and_junk = refl

an_attribute_alone_and_a_comment : AreNodesOf (codes "a =\n .b = { m }\n\n### r\n###\n")
    (codes "Identifier 0 1\nIdentifier 6 7\nIdentifier 12 13\nMessageReference 12 13\nPlaceable 10 15\nPattern 10 15\nAttribute 5 15\nMessage 0 15\nResourceComment 17 26\n")
unfolding computing_nodes AreNodesOf
an_attribute_alone_and_a_comment = refl

a_text_after_a_select : AreNodesOf (codes "a =\n   { -t.b ->\n *[c] { $d }\n }\n  e\n")
    (codes "Identifier 0 1\nIdentifier 10 11\nIdentifier 12 13\nTermReference 9 13\nIdentifier 20 21\nIdentifier 26 27\nVariableReference 25 27\nPlaceable 23 29\nPattern 23 29\nDefaultVariant 18 29\nSelect 9 31\nPlaceable 7 32\nTextElement 32 33\nTextElement 35 36\nPattern 4 36\nMessage 0 36\n")
unfolding computing_nodes AreNodesOf
a_text_after_a_select = refl

a_nested_placeable_and_a_key_that_is_a_number : AreNodesOf (codes "a = {{ -t(1) }}{1->\n*[2]b\n}\n")
    (codes "Identifier 0 1\nIdentifier 8 9\nNumberLiteral 10 11\nCallArguments 9 12\nTermReference 7 12\nPlaceable 5 14\nPlaceable 4 15\nNumberLiteral 16 17\nNumberLiteral 22 23\nTextElement 24 25\nPattern 24 25\nDefaultVariant 20 25\nSelect 16 26\nPlaceable 15 27\nPattern 4 27\nMessage 0 27\n")
unfolding computing_nodes AreNodesOf
a_nested_placeable_and_a_key_that_is_a_number = refl
