-- Reading and spelling agree, and so a text begins with at most one node of a kind.
use Rattle.std.proofs.Common.{◌≡◌, ℕ, ◌≤◌, List, length, sym, ap, ◌∙◌, arith}
use Rattle.fluent_grammar.specs.Words.{Text}
use Rattle.fluent_grammar.specs.Refusal.{Reading, got}
use Rattle.fluent_grammar.specs.Tree as t
use Rattle.fluent_grammar.specs.Reading.{readers, attributes_at}
use Rattle.fluent_grammar.specs.Spelling.{SpellsAttributes}
use Rattle.fluent_grammar.specs.SpellingLaws.{NamesAgree, NumbersAgree, StringsAgree, AccessorsAgree, KeysAgree, LiteralsAgree, TextPiecesAgree, ExpressionsAgree, PlaceablesAgree, ArgumentsAgree, VariantsAgree, PatternsAgree, LinesAgree, PiecesAgree, AttributesAgree, RunsOfAttributesAgree, MessagesAgree, TermsAgree, CommentsAgree, EntriesAgree, ExpressionsAreUnique, PlaceablesAreUnique, ArgumentsAreUnique, VariantsAreUnique, PatternsAreUnique, LinesAreUnique, PiecesAreUnique, AttributesAreUnique, RunsOfAttributesAreUnique, EntriesAreUnique}
use Rattle.fluent_grammar.proofs.Got.{got_node}
use Rattle.fluent_grammar.proofs.Words.{name_sound, name_complete, number_sound, number_complete, accessor_sound, accessor_complete, key_sound, key_complete, literal_sound, literal_complete}
use Rattle.fluent_grammar.proofs.Strings.{string_sound, string_complete, text_sound, text_complete}
use Rattle.fluent_grammar.proofs.Sound.{readers_sound, placeable_sound, pattern_sound}
use Rattle.fluent_grammar.proofs.Complete.{inline_complete, arguments_complete, placeable_complete, variants_complete, pattern_complete, line_complete, pieces_complete, up-inline, up-arguments, up-variants, up-line, up-pieces}
use Rattle.fluent_grammar.proofs.Attributes.{attribute_sound, attribute_complete, attributes_sound, attributes_complete}
use Rattle.fluent_grammar.proofs.Entries.{entry_sound, entry_complete, entry-of_letter, entry-of_hyphen, entry-of_sign}

-- ---- words

pub names_agree : NamesAgree
names_agree s name rest = (name_sound s name rest, name_complete)

pub numbers_agree : NumbersAgree
numbers_agree s number rest = (number_sound s number rest, number_complete)

pub strings_agree : StringsAgree
strings_agree s raw rest = (string_sound s raw rest, string_complete)

pub accessors_agree : AccessorsAgree
accessors_agree s attribute rest = (accessor_sound s attribute rest, accessor_complete)

pub keys_agree : KeysAgree
keys_agree s key rest = (key_sound s key rest, key_complete)

pub literals_agree : LiteralsAgree
literals_agree s e rest = (literal_sound s e rest, literal_complete)

pub text_pieces_agree : TextPiecesAgree
text_pieces_agree s piece rest = (text_sound s piece rest, text_complete)

-- ---- expressions and patterns

pub expressions_agree : ExpressionsAgree
expressions_agree n s e rest lt = ((readers_sound n).inline s e rest, (λ d. up-inline e s rest (inline_complete d) n lt))

pub placeables_agree : PlaceablesAgree
placeables_agree n s e rest h = (placeable_sound (readers n) (readers_sound n) s e rest h.1, (λ d. placeable_complete d n h.0))

pub arguments_agree : ArgumentsAgree
arguments_agree n names s a rest lt = ((readers_sound n).arguments names s a rest, (λ d. up-arguments names a s rest (arguments_complete d) n lt))

pub variants_agree : VariantsAgree
variants_agree n marked s vs rest lt = ((readers_sound n).variants marked s vs rest, (λ d. up-variants marked vs s rest (variants_complete d) n lt))

pub patterns_agree : PatternsAgree
patterns_agree n s value rest le = (pattern_sound (readers n) (readers_sound n) s value rest, (λ d. pattern_complete d n le))

pub lines_agree : LinesAgree
lines_agree n s ps rest lt = ((readers_sound n).line s ps rest, (λ d. up-line ps s rest (line_complete d) n lt))

pub pieces_agree : PiecesAgree
pieces_agree n s ps rest lt = ((readers_sound n).pieces s ps rest, (λ d. up-pieces ps s rest (pieces_complete d) n lt))

-- ---- entries

pub attributes_agree : AttributesAgree
attributes_agree s a rest h = (attribute_sound s a rest h, attribute_complete)

run_sound : (n : ℕ) (s : Text) (attributes : List t.Attribute) (rest : Text) → length s ≤ n → attributes_at n s ≡ (attributes, rest) → SpellsAttributes attributes s rest
run_sound n s attributes rest le h = rw h at (attributes_sound n s le)

pub runs_of_attributes_agree : RunsOfAttributesAgree
runs_of_attributes_agree n s attributes rest le = (run_sound n s attributes rest le, (λ d. attributes_complete d n le))

pub entries_agree : EntriesAgree
entries_agree s e rest = (entry_sound s e rest, entry_complete)

pub messages_agree : MessagesAgree
messages_agree s e rest h = rw (← entry-of_letter s h) (entries_agree s e rest)

pub terms_agree : TermsAgree
terms_agree s e rest h = rw (← entry-of_hyphen s h) (entries_agree s e rest)

pub comments_agree : CommentsAgree
comments_agree s e rest h = rw (← entry-of_sign s h) (entries_agree s e rest)

-- ---- at most one node and one rest

one_node : {A : Type 0} {x : Reading A} {a b : A} {s u : Text} → x ≡ got a s → x ≡ got b u → (a ≡ b) × (s ≡ u)
one_node e f = got_node (sym e ∙ f)

pub expressions_are_unique : ExpressionsAreUnique
expressions_are_unique s e f rest end d g = one_node (inline_complete d (length s) (omega arith)) (inline_complete g (length s) (omega arith))

pub placeables_are_unique : PlaceablesAreUnique
placeables_are_unique s e f rest end d g = one_node (placeable_complete d (length s) (omega arith)) (placeable_complete g (length s) (omega arith))

pub arguments_are_unique : ArgumentsAreUnique
arguments_are_unique names s a b rest end d g = one_node (arguments_complete d (length s) (omega arith)) (arguments_complete g (length s) (omega arith))

pub variants_are_unique : VariantsAreUnique
variants_are_unique marked s vs ws rest end d g = one_node (variants_complete d (length s) (omega arith)) (variants_complete g (length s) (omega arith))

pub patterns_are_unique : PatternsAreUnique
patterns_are_unique s v w rest end d g = one_node (pattern_complete d (length s) (omega arith)) (pattern_complete g (length s) (omega arith))

pub lines_are_unique : LinesAreUnique
lines_are_unique s ps qs rest end d g = one_node (line_complete d (length s) (omega arith)) (line_complete g (length s) (omega arith))

pub pieces_are_unique : PiecesAreUnique
pieces_are_unique s ps qs rest end d g = one_node (pieces_complete d (length s) (omega arith)) (pieces_complete g (length s) (omega arith))

pub attributes_are_unique : AttributesAreUnique
attributes_are_unique s a b rest end d g = one_node (attribute_complete d) (attribute_complete g)

pub runs_of_attributes_are_unique : RunsOfAttributesAreUnique
runs_of_attributes_are_unique s one other rest end d g =
    let e : (one, rest) ≡ (other, end) = sym (attributes_complete d (length s) (omega arith)) ∙ attributes_complete g (length s) (omega arith) in
    (ap (λ x. x.0) e, ap (λ x. x.1) e)

pub entries_are_unique : EntriesAreUnique
entries_are_unique s e f rest end d g = one_node (entry_complete d) (entry_complete g)
