use Rattle.std.proofs.Common.{◌++◌, ◌∷◌, [], ◌∙◌, ap, sym, cond, Some, drop, take, map}
use Rattle.std.specs.Str.{trim_end}
use Rattle.fluent_grammar.specs.Words as w
use Rattle.fluent_grammar.specs.Refusal.{got}
use Rattle.fluent_grammar.specs.Tree as t
use Rattle.fluent_ast.specs.View.{element_view, elements_of}
use Rattle.fluent_ast.specs.declared.PatternElement.TheVariants.{TextElement}
use Rattle.fluent_ast.proofs.Views.{pattern_view-roll, element_view-TextElement}
use Rattle.fluent_parser.proofs.OneLine.{one_line}
use Rattle.fluent_parser.proofs.parser.Parser.get_one_line.Goals as goal

pub returns-clause-gives : goal.returns-clause-gives
returns-clause-gives g c =
    let S = g.row.S.Denot in
    let text_of = g.T.Texts.text in
    let s = c.args.self.now.rest.now in
    let rest = c.take_byte_if.new.self.rest.now in
    let behind = c.take_byte_if.ensures.rest ∙ ap (λ u. cond (w.begins_with w.line_feed u) (drop 1 u) u) c.take.ensures.rest in
    let trimmed = c.trim.ensures ∙ ap trim_end c.in_ok-value.ensures.value in
    let shown = pattern_view-roll S text_of (record { elements = c.push.new.self })
    ∙ ap (λ z. elements_of (map (element_view S text_of) z)) (c.in_ok-push.ensures.items ∙ ap (λ z. z ++ TextElement c.trim.new.cut ∷ []) c.in_ok-elements.ensures.items)
    ∙ ap (λ z. elements_of (z ∷ [])) (element_view-TextElement S text_of c.trim.new.cut) in
    one_line s c.args.count c.requires.line
    ∙ ap (got (Some (t.text (trim_end (take c.args.count s)) t.no_elements))) (sym behind)
    ∙ ap (λ z. got (Some (t.text z t.no_elements)) rest) (sym trimmed)
    ∙ sym (ap (λ z. got (Some z) rest) shown)
