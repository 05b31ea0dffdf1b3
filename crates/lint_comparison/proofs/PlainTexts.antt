-- Texts that a pattern may be as a whole.
use Rattle.std.proofs.Common.{◌≡◌, ◌<◌, List, [], ◌∷◌, length, map, refl, arith, Bor}
use Rattle.fluent_ast.specs.View.{Element, element_view, elements_of, placeable, text}
use Rattle.fluent_ast.specs.declared.PatternElement.{PatternElement}
use Rattle.fluent_grammar.specs.Tree as t
use Rattle.fluent_grammar.specs.Words.{Text}
use Rattle.lint_comparison.specs.WordView.{elements_in}
use Rattle.lint_findings.specs.WrittenTexts.{plain_texts}

abbrev view : PatternElement (Bor Text) → Element
view = element_view _ (λ s. s.now)

-- a pattern of more than one element is no text
none_of_two : (e f : Element) (es : List Element) → plain_texts (elements_of (e ∷ f ∷ es)) ≡ []
none_of_two (text s) (text u) es = refl
none_of_two (text s) (placeable e) es = refl
none_of_two (placeable (t.select i vs)) (text u) es = refl
none_of_two (placeable (t.select i vs)) (placeable e) es = refl
none_of_two (placeable (t.inline i)) f es = refl

pub none_of_more : (es : List (PatternElement (Bor Text))) → 1 < length es → plain_texts (elements_in es) ≡ []
none_of_more [] more = absurd (omega arith)
none_of_more (e ∷ []) more = absurd (omega arith)
none_of_more (e ∷ f ∷ es) more = none_of_two (view e) (view f) (map view es)
