-- Words in patterns, as the code asks for them.
use Rattle.std.specs.Prelude.{◌≡◌, Bool, List, [], ◌∷◌, ◌++◌, map, Option, option_map, Vec}
use Rattle.std.specs.Global.{Global}
use Rattle.std.specs.List.{list_any}
use Rattle.std.specs.Option.{option_to_list}
use denote.Ref.{Bor}
use Rattle.fluent_ast.specs.Borrowed.{elements_of}
use Rattle.fluent_ast.specs.View.{elements_view}
use Rattle.fluent_ast.specs.declared.Pattern.{Pattern}
use Rattle.fluent_ast.specs.declared.PatternElement.{PatternElement}
use Rattle.fluent_grammar.specs.Tree as t
use Rattle.fluent_grammar.specs.Tree.{Elements}
use Rattle.fluent_grammar.specs.Words.{Text}
use Rattle.lint_nodes.specs.HasNames.{texts}
use Rattle.lint_findings.specs.WrittenTexts.{elements_have, plain_texts}

-- whether a value, if there is one, or an attribute has a word
abbrev pub value_has : Option (Pattern (Bor Text)) → Text → Bool
value_has value w = list_any (elements_have w) (option_to_list (option_map elements_of value))

abbrev pub attributes_have : List t.Attribute → Text → Bool
attributes_have as' w = list_any (elements_have w) (map (λ (a : t.Attribute). a.value) as')

-- these texts are added after the others
abbrev pub AddsTexts : Vec (Bor Text) Global → Vec (Bor Text) Global → List Text → Type 0
AddsTexts old new added = texts new.items ≡ texts old.items ++ added

abbrev pub elements_in : List (PatternElement (Bor Text)) → Elements
elements_in es = elements_view _ (λ s. s.now) es

-- of a pattern that is nothing but this element
abbrev pub element_texts : PatternElement (Bor Text) → List Text
element_texts e = plain_texts (elements_in (e ∷ []))
