-- The nodes of attributes, added one after another, and what follows them.
use Rattle.std.proofs.Common.{◌≡◌, ◌∙◌, List, ◌∷◌, ◌++◌, refl, sym, ap}
use Rattle.fluent_grammar.specs.Words.{Text, skip_spaces}
use Rattle.fluent_grammar.specs.Tree as t
use Rattle.fluent_symbols.specs.EntryNodes.{attribute_end, attribute_rest, attributes_rest, in_attribute, in_attributes, last_end}
use Rattle.fluent_symbols.specs.Node.{Node}
use Rattle.fluent_symbols.proofs.NodeSteps.{then_added}

-- one more attribute
pub attribute_kept : (a : t.Attribute) (left others : List t.Attribute) (before s at rest end whole last : Text) (f0 f1 all : List Node) →
    left ≡ a ∷ others → at ≡ skip_spaces s → rest ≡ attribute_rest a at → end ≡ attribute_end a at → f1 ≡ f0 ++ in_attribute a at →
    attributes_rest left s ≡ whole → last_end before left s ≡ last → f0 ++ in_attributes left s ≡ all →
    (attributes_rest others rest ≡ whole) × (last_end end others rest ≡ last) × (f1 ++ in_attributes others rest ≡ all)
attribute_kept a left others before s at rest end whole last f0 f1 all is begun ended over one rests ends nodes =
    let r = attribute_rest a (skip_spaces s) in
    let to : rest ≡ r = ended ∙ ap (attribute_rest a) begun in
    let itself : f1 ≡ f0 ++ in_attribute a (skip_spaces s) = one ∙ ap (λ x. f0 ++ in_attribute a x) begun in (
      ap (attributes_rest others) to ∙ sym (ap (λ l. attributes_rest l s) is) ∙ rests,
      ap (λ e. last_end e others rest) (over ∙ ap (attribute_end a) begun) ∙ ap (last_end (attribute_end a (skip_spaces s)) others) to ∙ sym (ap (λ l. last_end before l s) is) ∙ ends,
      ap (λ x. f1 ++ in_attributes others x) to ∙ then_added f0 (in_attribute a (skip_spaces s)) (in_attributes others r) itself refl ∙ sym (ap (λ l. f0 ++ in_attributes l s) is) ∙ nodes,
    )
