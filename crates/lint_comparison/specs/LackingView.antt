-- What variants lack, as the code asks for it.
use Rattle.std.specs.Prelude.{Bool, List, Vec}
use Rattle.std.specs.Global.{Global}
use Rattle.std.specs.List.{flat_map, list_any}
use denote.Ref.{Bor}
use Rattle.fluent_ast.specs.Borrowed.{elements_of, key_of, variants_of}
use Rattle.fluent_ast.specs.declared.Pattern.{Pattern}
use Rattle.fluent_ast.specs.declared.Variant.{Variant}
use Rattle.fluent_ast.specs.declared.VariantKey.{VariantKey}
use Rattle.fluent_grammar.specs.Words.{Text}
use Rattle.lint_comparison.specs.LossView.{AddsLosses, nodes_of}
use Rattle.lint_comparison.specs.declared.lacking.Lacking.{Lacking}
use Rattle.lint_comparison.specs.declared.loss.Loss.{Loss}
use Rattle.lint_nodes.specs.HasNames.{texts}
use Rattle.lint_findings.specs.Losses as l
use Rattle.lint_nodes.specs.declared.nodes.Node.{Node}

-- of these variables
abbrev pub names_in : List Node → Text → Pattern (Bor Text) → List (Variant (Bor Text)) → List Text → List l.Loss
names_in others number default variants names =
    flat_map (l.variable_losses (nodes_of others) number (variants_of variants) (elements_of default)) names

abbrev pub AddsNames : List Node → Text → Pattern (Bor Text) → List (Variant (Bor Text)) → List (Bor Text) → Vec Loss Global → Vec Loss Global → Type 0
AddsNames others number default variants names old new = AddsLosses old new (names_in others number default variants (texts names))

abbrev pub variant_in : Lacking → Variant (Bor Text) → List l.Loss
variant_in it variant =
    l.variant_losses (nodes_of it.others.now) it.number.now it.name.now (key_of variant.key) (elements_of variant.value) variant.default

abbrev pub variants_in : Lacking → List (Variant (Bor Text)) → List l.Loss
variants_in it variants = l.variants_losses (nodes_of it.others.now) it.number.now it.name.now (variants_of variants)

abbrev pub is_lacking_in : Lacking → Variant (Bor Text) → Bool
is_lacking_in it variant =
    l.is_lacking (nodes_of it.others.now) it.number.now it.name.now (key_of variant.key) (elements_of variant.value)

abbrev pub must_show_in : Lacking → Variant (Bor Text) → Bool
must_show_in it variant = l.must_show it.number.now it.name.now (key_of variant.key) (elements_of variant.value)

abbrev pub reference_lacks : Lacking → VariantKey (Bor Text) → Bool
reference_lacks it key = list_any (l.node_lacks it.number.now (key_of key) it.name.now) (nodes_of it.others.now)
