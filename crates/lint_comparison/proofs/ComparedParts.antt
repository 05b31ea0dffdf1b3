-- The parts of the differences of a message, one after the other.
use Rattle.std.proofs.Common.{◌≡◌, ◌∙◌, Bool, List, ◌++◌, map, ap, append_assoc, Bor}
use Rattle.lint_findings.specs.Comparison as c
use Rattle.fluent_ast.specs.Borrowed.{message_of}
use Rattle.fluent_ast.specs.declared.Message.{Message}
use Rattle.lint_findings.specs.Comparison.{attribute_names, has_new, lost_variable, value_difference, variable_differences, without}
use Rattle.fluent_grammar.specs.Tree as t
use Rattle.fluent_grammar.specs.Words.{Text}
use Rattle.lint_comparison.specs.Compared.{own_differences}
use Rattle.lint_nodes.specs.HasNames.{HasNames, texts}
use Rattle.lint_comparison.specs.Lacks.{lacking}
use Rattle.lint_comparison.specs.LackingAttributes.{names_of}
use Rattle.lint_comparison.specs.declared.lack.Lack.TheVariants as of
use Rattle.lint_nodes.specs.declared.name_set.Names.{Names}
use Rattle.lint_comparison.proofs.LackedNames.{both_added}

module _ (a b d e : List c.Difference) where
  pub own_added : (m o : t.Message) (as' bs cs ds : List t.Attribute) → as' ≡ o.attributes → bs ≡ m.attributes → cs ≡ m.attributes → ds ≡ o.attributes → b ≡ a ++ value_difference m.value o.value →
      d ≡ b ++ lacking of.MissingAttribute (names_of as') (names_of bs) → e ≡ d ++ lacking of.ObsoleteAttribute (names_of cs) (names_of ds) → e ≡ a ++ own_differences m o
  own_added m o as' bs cs ds p q r s first second third =
      let missing = lacking of.MissingAttribute (attribute_names o) (attribute_names m) in
      let obsolete = lacking of.ObsoleteAttribute (attribute_names m) (attribute_names o) in
      let second_is : d ≡ b ++ missing = second ∙ ap (λ xs. b ++ lacking of.MissingAttribute (names_of xs) (names_of bs)) p ∙ ap (λ xs. b ++ lacking of.MissingAttribute (attribute_names o) (names_of xs)) q in
      let third_is : e ≡ d ++ obsolete = third ∙ ap (λ xs. d ++ lacking of.ObsoleteAttribute (names_of xs) (names_of ds)) r ∙ ap (λ xs. d ++ lacking of.ObsoleteAttribute (attribute_names m) (names_of xs)) s in
      both_added a (value_difference m.value o.value ++ missing) obsolete (both_added a (value_difference m.value o.value) missing first second_is) third_is
      ∙ ap (λ l. a ++ l) (append_assoc (value_difference m.value o.value) missing obsolete)

module _ (a b d : List c.Difference) where
  pub variables_added : (other : Bor (Message (Bor Text))) (own others : Names) (xs vs : List Text) (ns ms : List (Bor Text)) (has_unknown : Bool) → HasNames own xs → HasNames others vs → ns ≡ own.list.items → ms ≡ others.list.items →
      has_unknown ≡ has_new xs vs → b ≡ a ++ lacking of.UnknownVariable (texts ns) vs → d ≡ b ++ lacking (of.LostVariable has_unknown other) (texts ms) xs → d ≡ a ++ variable_differences (message_of other.now) xs vs
  variables_added other own others xs vs ns ms has_unknown has has_too p q new first second =
      let lost = λ (u : Bool) (l : List Text). map (lost_variable u (message_of other.now)) (without l xs) in
      both_added a (lacking of.UnknownVariable xs vs) (lost (has_new xs vs) vs)
      (first ∙ ap (λ l. a ++ lacking of.UnknownVariable l vs) (ap texts p ∙ has.listed)) (second ∙ ap (λ l. b ++ lost has_unknown l) (ap texts q ∙ has_too.listed) ∙ ap (λ u. b ++ lost u vs) new)
