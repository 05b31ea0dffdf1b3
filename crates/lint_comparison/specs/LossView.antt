-- The plain losses that those of the code stand for.
use Rattle.std.specs.Prelude.{◌≡◌, ℕ, List, [], ◌++◌, map, Option, option_map, Vec}
use Rattle.std.specs.Global.{Global}
use Rattle.std.specs.List.{flat_map}
use Rattle.std.specs.Option.{option_to_list}
use denote.Ref.{Bor}
use Rattle.fluent_ast.specs.Borrowed.{elements_of, message_of, variants_of}
use Rattle.fluent_ast.specs.declared.Message.{Message}
use Rattle.fluent_ast.specs.declared.Pattern.{Pattern}
use Rattle.fluent_ast.specs.declared.Variant.{Variant}
use Rattle.fluent_grammar.specs.Tree.{Elements}
use Rattle.fluent_grammar.specs.Words.{Text}
use Rattle.fluent_ids.specs.IdsView.{ids_view}
use Rattle.fluent_ids.specs.declared.ids.FluentIds.{FluentIds}
use Rattle.fluent_meaning.specs.Choice.{first_default}
use Rattle.fluent_plurals.specs.declared.plurals.LanguagePlurals.{LanguagePlurals}
use Rattle.lint_comparison.specs.declared.loss.Loss.{Loss}
use Rattle.lint_comparison.specs.declared.loss.Loss.TheVariants as of
use Rattle.lint_nodes.specs.HasNames.{HasNames}
use Rattle.lint_entries.specs.Made.{Adds}
use Rattle.lint_findings.specs.declared.records.Finding as code
use Rattle.lint_nodes.specs.declared.name_set.Names.{Names}
use Rattle.lint_findings.specs.Comparison.{union}
use Rattle.lint_findings.specs.Finding.{Finding, finding_at}
use Rattle.lint_findings.specs.Losses as l
use Rattle.lint_findings.specs.Nodes as n
use Rattle.lint_findings.specs.Nodes.{elements_nodes}
use Rattle.lint_nodes.specs.NodeView.{node_view}
use Rattle.lint_nodes.specs.declared.nodes.Node.{Node}

abbrev pub loss_view : Loss → l.Loss
loss_view (of.LackingVariant key variable) = l.lacking_variant key.now variable.now
loss_view (of.DroppedPlural variable) = l.dropped_plural variable.now
loss_view (of.WrittenTerm id text) = l.written_term id.now text.now

abbrev pub nodes_of : List Node → List n.Node
nodes_of nodes = map node_view nodes

-- those of a value, if there is one
abbrev pub value_nodes : Option (Pattern (Bor Text)) → List n.Node
value_nodes value = flat_map elements_nodes (option_to_list (option_map elements_of value))

-- these losses are added after the others
abbrev pub AddsLosses : Vec Loss Global → Vec Loss Global → List l.Loss → Type 0
AddsLosses old new added = map loss_view new.items ≡ map loss_view old.items ++ added

-- of a message that both have
abbrev pub losses_between : FluentIds (Unit {0}) → Option LanguagePlurals → Message (Bor Text) → Message (Bor Text) → List l.Loss
losses_between reference plurals message other =
    let m = message_of message in
    let o = message_of other in
    l.losses_by (ids_view (Unit {0}) reference) plurals m o (l.message_nodes m) (l.message_nodes o)

abbrev pub AreLossesOf : FluentIds (Unit {0}) → Option LanguagePlurals → Message (Bor Text) → Message (Bor Text) → Vec Loss Global → Type 0
AreLossesOf reference plurals message other losses = map loss_view losses.items ≡ losses_between reference plurals message other

-- the same of a message with these nodes
abbrev pub losses_beside : FluentIds (Unit {0}) → Option LanguagePlurals → Message (Bor Text) → List Node → Message (Bor Text) → List l.Loss
losses_beside reference plurals message nodes other =
    let o = message_of other in
    l.losses_by (ids_view (Unit {0}) reference) plurals (message_of message) o (nodes_of nodes) (l.message_nodes o)

abbrev pub AddsBeside : FluentIds (Unit {0}) → Option LanguagePlurals → Message (Bor Text) → List Node → Message (Bor Text) → Vec Loss Global → Vec Loss Global → Type 0
AddsBeside reference plurals message nodes other old new = AddsLosses old new (losses_beside reference plurals message nodes other)

-- the elements of a pattern that was found
abbrev pub found_pattern : Option (Bor (Pattern (Bor Text))) → Option Elements
found_pattern found = option_map (λ p. elements_of p.now) found

-- these names are the variables of a pattern, each once
abbrev pub AreVariablesIn : Elements → Names → Type 0
AreVariablesIn es names = HasNames names (union [] (flat_map l.variable_of (elements_nodes es)))

-- ---- of what the code has

-- this is the name that is wanted
abbrev pub IsName : Option Text → Option (Bor Text) → Type 0
IsName wanted found = option_map (λ s. s.now) found ≡ wanted

abbrev pub dropped_in : Option LanguagePlurals → Message (Bor Text) → List Node → List Node → List l.Loss
dropped_in plurals message nodes others = l.dropped_plurals plurals (message_of message) (nodes_of nodes) (nodes_of others)

abbrev pub dropped_variable_in : LanguagePlurals → Message (Bor Text) → List Node → List Node → Option Text
dropped_variable_in plurals message nodes others =
    l.dropped_variable plurals (message_of message) (nodes_of nodes) (nodes_of others)

abbrev pub lacking_in : List Node → List Node → List l.Loss
lacking_in nodes others = l.lacking_variants (nodes_of nodes) (nodes_of others)

abbrev pub default_in : List Node → Text → List (Variant (Bor Text)) → List l.Loss
default_in others number variants =
    l.default_losses (nodes_of others) number (variants_of variants) (first_default (variants_of variants))

-- the findings of losses of the message of this id, at this offset
abbrev pub losses_at : Text → ℕ → List Loss → List Finding
losses_at id offset losses = map (λ loss. finding_at offset id (l.loss_remark loss)) (map loss_view losses)

abbrev pub FindsAt : Text → ℕ → List Loss → Vec code.Finding Global → Vec code.Finding Global → Type 0
FindsAt id offset losses old new = Adds old new (losses_at id offset losses)

-- what a message loses of that of the reference, at this offset
abbrev pub loss_found : FluentIds (Unit {0}) → Option LanguagePlurals → Message (Bor Text) → Message (Bor Text) → ℕ → List Finding
loss_found reference plurals message other offset =
    map (λ loss. finding_at offset message.id.name.now (l.loss_remark loss)) (losses_between reference plurals message other)

abbrev pub FindsLosses : FluentIds (Unit {0}) → Option LanguagePlurals → Message (Bor Text) → Message (Bor Text) → ℕ →
    Vec code.Finding Global → Vec code.Finding Global → Type 0
FindsLosses reference plurals message other offset old new = Adds old new (loss_found reference plurals message other offset)
