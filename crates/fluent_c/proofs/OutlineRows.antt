-- The lines of sources, computed.
use Rattle.std.proofs.Common.{◌≡◌, [], codes, refl}
use Rattle.fluent_grammar.proofs.Computing.{computing}
use Rattle.fluent_grammar.specs.Words.{Text}
use Rattle.fluent_syntax.specs.Tiling.{runtime_tree}
use Rattle.fluent_c.specs.Outline.{outline_lines}

abbrev outline : Text → Text
outline source = outline_lines (runtime_tree source)

nothing : outline [] ≡ []
unfolding computing
nothing = refl

a_value : outline (codes "a = x\n") ≡ codes "a =\n"
unfolding computing
a_value = refl

attributes_alone : outline (codes "a =\n    .b = x\n    .c = y\n") ≡ codes "a\n.b\n.c\n"
unfolding computing
attributes_alone = refl

a_term : outline (codes "-t = x\n    .b = y\n") ≡ codes "-t =\n.b\n"
unfolding computing
a_term = refl

-- comments and junk have no lines
others : outline (codes "# c\na = x\n\n!\n## d\n") ≡ codes "a =\n"
unfolding computing
others = refl

-- each is there as often as the source has it
twice : outline (codes "b = x\n    .c = x\n    .c = y\na = x\nb = y\n") ≡ codes "b =\n.c\n.c\na =\nb =\n"
unfolding computing
twice = refl
