use Rattle.std.proofs.Common.{◌∙◌, ap, option_map, Bor}
use Rattle.fluent_grammar.specs.Words.{Text}
use Rattle.lint_comparison.proofs.Placed.{attribute_placed, message_placed, variable_placed}
use Rattle.lint_comparison.proofs.places.Places.place_of.Goals as goal
use Rattle.lint_comparison.proofs.places.Places.place_of.Goals.{in-ObsoleteAttribute, in-UnknownVariable, in_default}

pub returns : goal.returns
returns c = λ has.
    let places = c.args.self.now in
    let d = c.args.difference.now in
    let place = c.match-difference.place in
    elim c.match-difference.branch [
      | in-ObsoleteAttribute w ↦ attribute_placed places d place c.args.text c.unwrap_or.result has c.unwrap_or.ensures w.in-ObsoleteAttribute.name w.in-ObsoleteAttribute.is
          (ap (option_map (λ (s : Bor Text). s.now)) w.place-is ∙ w.get-place.ensures)
      | in-UnknownVariable w ↦ variable_placed places d place c.args.text c.unwrap_or.result has c.unwrap_or.ensures w.in-UnknownVariable.name w.in-UnknownVariable.is
          (ap (option_map (λ (s : Bor Text). s.now)) w.place-is ∙ w.get-place-in-UnknownVariable.ensures)
      | in_default w ↦ message_placed d place c.args.text c.unwrap_or.result c.unwrap_or.ensures w.place-is w.in_default.not-ObsoleteAttribute w.in_default.not-UnknownVariable
    ]
