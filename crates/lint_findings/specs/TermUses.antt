-- What a term makes of its arguments: the variables that its texts have, and the keys of the selects on them.
use Rattle.std.specs.Prelude.{◌==◌, Bool, true, false, not, ◌&&◌, ◌||◌, List, ◌++◌, count_by}
use Rattle.std.specs.List.{flat_map, list_any, list_all}
use Rattle.std.specs.Str.{bytes_eq}
use Rattle.fluent_grammar.specs.Words.{Text}
use Rattle.fluent_grammar.specs.Tree as t
use Rattle.fluent_grammar.specs.Tree.{VariantKey}
use Rattle.lint_findings.specs.FlawWords.{key_text}
use Rattle.lint_findings.specs.MissingCategories.{variant_keys, is_category_name}
use Rattle.lint_findings.specs.Nodes.{Node, expression, select, elements_nodes}

-- the nodes of a term: of its value, and of its attributes
abbrev pub attributes_nodes : List t.Attribute → List Node
attributes_nodes attributes = flat_map (λ (a : t.Attribute). elements_nodes a.value) attributes

abbrev pub term_nodes : t.Term → List Node
term_nodes m = elements_nodes m.value ++ attributes_nodes m.attributes

-- ---- variables

abbrev pub is_variable : Text → Node → Bool
is_variable x (expression (t.variable_reference y)) = bytes_eq x y
is_variable x _ = false

-- whether a variable is among these nodes, as a selector or otherwise
abbrev pub has_variable : List Node → Text → Bool
has_variable nodes x = list_any (is_variable x) nodes

-- ---- selects on a variable

abbrev pub is_select_on : Text → Node → Bool
is_select_on x (select (t.variable_reference y) vs) = bytes_eq x y
is_select_on x _ = false

-- A variable is nothing but a selector: as often as it stands there is a select on it.
abbrev pub only_selects : List Node → Text → Bool
only_selects nodes x = count_by (is_variable x) nodes == count_by (is_select_on x) nodes

-- a key that is neither a number nor a plural category
abbrev pub is_word : VariantKey → Bool
is_word (t.identifier_key s) = not (is_category_name s)
is_word (t.number_key s) = false

-- of a select on the variable, all keys are words
abbrev pub has_words : Text → Node → Bool
has_words x (select (t.variable_reference y) vs) = not (bytes_eq x y) || list_all is_word (variant_keys vs)
has_words x _ = true

-- By these nodes, a variable is nothing but a selector, and all keys of its selects are words.
abbrev pub chooses_by_words : List Node → Text → Bool
chooses_by_words nodes x = only_selects nodes x && list_all (has_words x) nodes

abbrev pub is_key : Text → VariantKey → Bool
is_key s k = bytes_eq (key_text k) s

abbrev pub node_has_key : Text → Text → Node → Bool
node_has_key x s (select (t.variable_reference y) vs) = bytes_eq x y && list_any (is_key s) (variant_keys vs)
node_has_key x s _ = false

-- whether a select on a variable has a variant with this key
abbrev pub has_key : List Node → Text → Text → Bool
has_key nodes x s = list_any (node_has_key x s) nodes
