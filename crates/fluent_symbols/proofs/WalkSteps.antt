-- The occurrences in the parts of a pattern, added one part after another, and what follows each part.
use Rattle.std.proofs.Common.{◌≡◌, ◌∙◌, List, ◌++◌, Option, length, drop, refl, sym, ap}
use Rattle.fluent_grammar.specs.Words.{Text, skip_blank, skip_separator}
use Rattle.fluent_grammar.specs.Tree as t
use Rattle.fluent_grammar.specs.Tree.{Elements, Variants, VariantKey, Inline, Inlines, Nameds}
use Rattle.std.specs.Prelude.{Bool}
use Rattle.lint_findings.specs.FlawWords.{key_text}
use Rattle.lint_nodes.specs.Rests.{after_sign, key_of_variant, value_of_variant, value_of_argument, variants_rest, inline_rest, inlines_rest, nameds_rest, pattern_rest}
use Rattle.fluent_symbols.specs.Occurrences.{Occurrence, argument_named, in_inline, in_inlines, in_nameds, in_pattern, in_variants}
use Rattle.fluent_symbols.proofs.NodeSteps.{then_added}

-- one more variant
pub variant_kept : (owner : Text) (k : VariantKey) (es : Elements) (d : Bool) (left vs : Variants) (name s at after value rest next whole : Text) (f0 f1 all : List Occurrence) →
    left ≡ t.variant k es d vs → name ≡ key_text k → at ≡ key_of_variant s → after ≡ drop (length name) at → value ≡ after_sign after → rest ≡ pattern_rest es value → next ≡ skip_blank rest →
    f1 ≡ f0 ++ in_pattern owner es value → variants_rest left s ≡ whole → f0 ++ in_variants owner left s ≡ all →
    (variants_rest vs next ≡ whole) × (f1 ++ in_variants owner vs next ≡ all)
variant_kept owner k es d left vs name s at after value rest next whole f0 f1 all is named begun keyed valued ended follows one rests found =
    let v = value_of_variant k s in
    let reached : value ≡ v = valued ∙ ap after_sign (keyed ∙ ap (λ n. drop (length n) at) named ∙ ap (drop (length (key_text k))) begun) in
    let n = skip_blank (pattern_rest es v) in
    let to : next ≡ n = follows ∙ ap skip_blank (ended ∙ ap (pattern_rest es) reached) in (
      ap (variants_rest vs) to ∙ sym (ap (λ l. variants_rest l s) is) ∙ rests,
      ap (λ x. f1 ++ in_variants owner vs x) to ∙ then_added f0 (in_pattern owner es v) (in_variants owner vs n) (one ∙ ap (λ x. f0 ++ in_pattern owner es x) reached) refl
          ∙ sym (ap (λ l. f0 ++ in_variants owner l s) is) ∙ found,
    )

-- one more argument without a name
pub positional_kept : (owner : Text) (e : Inline) (left es : Inlines) (s rest next whole : Text) (f0 f1 all : List Occurrence) →
    left ≡ t.positional e es → rest ≡ inline_rest e s → next ≡ skip_separator rest → f1 ≡ f0 ++ in_inline owner e s →
    inlines_rest left s ≡ whole → f0 ++ in_inlines owner left s ≡ all → (inlines_rest es next ≡ whole) × (f1 ++ in_inlines owner es next ≡ all)
positional_kept owner e left es s rest next whole f0 f1 all is ended follows one rests found =
    let n = skip_separator (inline_rest e s) in
    let to : next ≡ n = follows ∙ ap skip_separator ended in (
      ap (inlines_rest es) to ∙ sym (ap (λ l. inlines_rest l s) is) ∙ rests,
      ap (λ x. f1 ++ in_inlines owner es x) to ∙ then_added f0 (in_inline owner e s) (in_inlines owner es n) one refl ∙ sym (ap (λ l. f0 ++ in_inlines owner l s) is) ∙ found,
    )

-- one more argument with a name
pub named_kept : (owner : Text) (callee : Option Text) (name : Text) (e : Inline) (left ns : Nameds) (s value rest next whole : Text) (f0 f1 f2 all : List Occurrence) →
    left ≡ t.named name e ns → value ≡ value_of_argument name s → rest ≡ inline_rest e value → next ≡ skip_separator rest →
    f1 ≡ f0 ++ argument_named callee name s → f2 ≡ f1 ++ in_inline owner e value →
    nameds_rest left s ≡ whole → f0 ++ in_nameds owner callee left s ≡ all → (nameds_rest ns next ≡ whole) × (f2 ++ in_nameds owner callee ns next ≡ all)
named_kept owner callee name e left ns s value rest next whole f0 f1 f2 all is at ended follows one two rests found =
    let v = value_of_argument name s in
    let n = skip_separator (inline_rest e v) in
    let to : next ≡ n = follows ∙ ap skip_separator (ended ∙ ap (inline_rest e) at) in (
      ap (nameds_rest ns) to ∙ sym (ap (λ l. nameds_rest l s) is) ∙ rests,
      ap (λ x. f2 ++ in_nameds owner callee ns x) to
          ∙ then_added f0 (argument_named callee name s) (in_inline owner e v ++ in_nameds owner callee ns n) one
          (then_added f1 (in_inline owner e v) (in_nameds owner callee ns n) (two ∙ ap (λ x. f1 ++ in_inline owner e x) at) refl)
          ∙ sym (ap (λ l. f0 ++ in_nameds owner callee l s) is) ∙ found,
    )
