use Rattle.std.proofs.Common.{◌≡◌, ◌++◌, map, drop, string_bytes}
use Rattle.fluent_ast.specs.View.{element_view, elements_of}
use Rattle.lint_findings.specs.Runs.{own_text}
use Rattle.lint_markup.proofs.runs.push_elements.Given as goal

-- the elements so far were added
abbrev pub invariant-loop-element : goal.invariant-loop-element
invariant-loop-element l =
    let view = element_view _ (λ s. s.now) in
    string_bytes l.text ++ own_text (elements_of (map view (drop l.element-index l.elements))) ≡ string_bytes l.initial.text ++ own_text (elements_of (map view l.elements))
