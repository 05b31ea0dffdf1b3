-- What references name is added one after the other.
use Rattle.std.proofs.Common.{◌≡◌, ◌∙◌, ℕ, ◌+◌, ◌<◌, List, [], ◌∷◌, ◌++◌, length, map, take, get_or, Option, Some, None, refl, ap, sym, subst, append-nil, Bor}
use Rattle.std.specs.List.{flat_map}
use Rattle.std.specs.Option.{option_to_list}
use Rattle.std.proofs.lemmas.List.{map-append}
use Rattle.std.proofs.lemmas.List.Concat.{flat_map-append}
use Rattle.fluent_ast.proofs.Copied.{map-take_more}
use Rattle.fluent_ast.specs.Borrowed.{attribute_of, attributes_of}
use Rattle.fluent_ast.specs.declared.Attribute.{Attribute}
use Rattle.lint_findings.specs.Comparison.{message_of, references_of, union, variable_of}
use Rattle.lint_findings.specs.Nodes as n
use Rattle.lint_findings.specs.References.{elements_references}
use Rattle.fluent_grammar.specs.Tree as t
use Rattle.fluent_grammar.specs.Tree.{Elements, Inline}
use Rattle.fluent_grammar.specs.Words.{Text}
use Rattle.fluent_ids.specs.Found.{message_in}
use Rattle.fluent_meaning.specs.Ids.{Meaning, number_function, function, message, term}
use Rattle.lint_nodes.specs.NodeView.{node_view}
use Rattle.lint_nodes.specs.declared.nodes.Node.{Node}
use Rattle.lint_nodes.specs.HasReached.{HasReached, GetsReferences, messages_in, variables_in, node_references, value_references, attribute_references, message_references}
use Rattle.lint_nodes.specs.declared.reached.Reached.{Reached}
use Rattle.lint_nodes.proofs.NodeReferences.{by_references, of_elements}
use Rattle.lint_nodes.proofs.Unions.{union-append}

module _ (a b : Reached) where
  -- references that name the same
  pub renamed : (is js : List Inline) → messages_in is ≡ messages_in js → variables_in is ≡ variables_in js → GetsReferences a is b → GetsReferences a js b
  renamed is js same_messages same_variables gets = λ ms vs has.
      subst (λ xs. HasReached b xs (union vs (variables_in js))) (ap (union ms) same_messages)
      (subst (λ ys. HasReached b (union ms (messages_in is)) ys) (ap (union vs) same_variables) (gets ms vs has))

  -- the same references
  pub same_references : (is js : List Inline) → is ≡ js → GetsReferences a is b → GetsReferences a js b
  same_references is js same gets = subst (λ xs. GetsReferences a xs b) same gets

  pub both : (c : Reached) (is js : List Inline) → GetsReferences a is b → GetsReferences b js c → GetsReferences a (is ++ js) c
  both c is js first second = λ ms vs has.
      let messages : union ms (messages_in (is ++ js)) ≡ union (union ms (messages_in is)) (messages_in js) = ap (union ms) (flat_map-append message_of is js) ∙ union-append ms (messages_in is) (messages_in js) in
      let variables : union vs (variables_in (is ++ js)) ≡ union (union vs (variables_in is)) (variables_in js) = ap (union vs) (flat_map-append variable_of is js) ∙ union-append vs (variables_in is) (variables_in js) in
      subst (λ xs. HasReached c xs (union vs (variables_in (is ++ js)))) (sym messages)
      (subst (λ ys. HasReached c (union (union ms (messages_in is)) (messages_in js)) ys) (sym variables) (second (union ms (messages_in is)) (union vs (variables_in is)) (first ms vs has)))

-- ---- nodes

abbrev pub nodes_references : List Node → List Inline
nodes_references ns = flat_map node_references (map node_view ns)

pub next_node : (a b c : Reached) (ns : List Node) (i : ℕ) (item : Node) → i < length ns → item ≡ get_or ns i item → GetsReferences a (nodes_references (take i ns)) b → GetsReferences b (node_references (node_view item)) c →
    GetsReferences a (nodes_references (take (i + 1) ns)) c
next_node a b c ns i item inside is first second =
    let before = nodes_references (take i ns) in
    let more : nodes_references (take (i + 1) ns) ≡ before ++ node_references (node_view item) =
    ap (flat_map node_references) (map-take_more node_view ns i item inside is) ∙ flat_map-append node_references (map node_view (take i ns)) (node_view item ∷ [])
    ∙ ap (λ xs. before ++ xs) (append-nil (node_references (node_view item))) in
    same_references a c (before ++ node_references (node_view item)) (nodes_references (take (i + 1) ns)) (sym more) (both a b c before (node_references (node_view item)) first second)

pub pattern_gets : (a b : Reached) (es : Elements) (ns : List Node) → map node_view ns ≡ n.elements_nodes es → GetsReferences a (nodes_references ns) b → GetsReferences a (elements_references es) b
pattern_gets a b es ns are gets =
    let nodes = n.elements_nodes es in
    renamed a b (flat_map node_references nodes) (elements_references es)
    (by_references message_of (λ x. refl) (λ x. refl) nodes ∙ of_elements message_of (λ x. refl) (λ x. refl) es)
    (by_references variable_of (λ x. refl) (λ x. refl) nodes ∙ of_elements variable_of (λ x. refl) (λ x. refl) es)
    (same_references a b (nodes_references ns) (flat_map node_references nodes) (ap (flat_map node_references) are) gets)

-- ---- values and attributes

pub value_gets : (a b : Reached) (value : Option Elements) (es : Elements) → value ≡ Some es → GetsReferences a (elements_references es) b → GetsReferences a (value_references value) b
value_gets a b value es is gets =
    same_references a b (elements_references es) (value_references value) (sym (ap value_references is ∙ append-nil (elements_references es))) gets

pub no_value_gets : (a : Reached) (value : Option Elements) → value ≡ None → GetsReferences a (value_references value) a
no_value_gets a value is = same_references a a [] (value_references value) (sym (ap value_references is)) (λ ms vs has. has)

pub next_attribute : (a b c : Reached) (xs : List (Attribute (Bor Text))) (i : ℕ) (item : Attribute (Bor Text)) → i < length xs → item ≡ get_or xs i item →
    GetsReferences a (attribute_references (attributes_of (take i xs))) b → GetsReferences b (elements_references (attribute_of item).value) c → GetsReferences a (attribute_references (attributes_of (take (i + 1) xs))) c
next_attribute a b c xs i item inside is first second =
    let value : t.Attribute → Elements = λ (x : t.Attribute). x.value in
    let before = attribute_references (attributes_of (take i xs)) in
    let one = elements_references (attribute_of item).value in
    let more : attribute_references (attributes_of (take (i + 1) xs)) ≡ before ++ one =
    ap attribute_references (map-take_more attribute_of xs i item inside is) ∙ ap (flat_map elements_references) (map-append value (attributes_of (take i xs)) (attribute_of item ∷ []))
    ∙ flat_map-append elements_references (map value (attributes_of (take i xs))) (value (attribute_of item) ∷ []) ∙ ap (λ ys. before ++ ys) (append-nil one) in
    same_references a c (before ++ one) (attribute_references (attributes_of (take (i + 1) xs))) (sym more) (both a b c before one first second)

pub message_gets : (a b c : Reached) (m : t.Message) (as' : List t.Attribute) → as' ≡ m.attributes → GetsReferences a (value_references m.value) b → GetsReferences b (attribute_references as') c → GetsReferences a (message_references m) c
message_gets a b c m as' same first second =
    let value : t.Attribute → Elements = λ (x : t.Attribute). x.value in
    let whole : message_references m ≡ value_references m.value ++ attribute_references as' =
    flat_map-append elements_references (option_to_list m.value) (map value m.attributes) ∙ ap (λ xs. value_references m.value ++ attribute_references xs) (sym same) in
    same_references a c (value_references m.value ++ attribute_references as') (message_references m) (sym whole) (both a b c (value_references m.value) (attribute_references as') first second)

-- ---- what an id stands for

message_referred : {F : Type 0} (o : Option (Meaning F)) (m : t.Message) → message_in o ≡ Some m → references_of o ≡ message_references m
message_referred None m e = absurd cc
message_referred (Some (message n)) m e = let same : n ≡ m = cc in ap message_references same
message_referred (Some (term n)) m e = absurd cc
message_referred (Some (function f)) m e = absurd cc
message_referred (Some number_function) m e = absurd cc

none_referred : {F : Type 0} (o : Option (Meaning F)) → message_in o ≡ None → references_of o ≡ []
none_referred None e = refl
none_referred (Some (message n)) e = absurd cc
none_referred (Some (term n)) e = refl
none_referred (Some (function f)) e = refl
none_referred (Some number_function) e = refl

pub found_gets : {F : Type 0} (a b : Reached) (o : Option (Meaning F)) (m : t.Message) → message_in o ≡ Some m → GetsReferences a (message_references m) b → GetsReferences a (references_of o) b
found_gets a b o m is gets = same_references a b (message_references m) (references_of o) (sym (message_referred o m is)) gets

pub not_found_gets : {F : Type 0} (a : Reached) (o : Option (Meaning F)) → message_in o ≡ None → GetsReferences a (references_of o) a
not_found_gets a o is = same_references a a [] (references_of o) (sym (none_referred o is)) (λ ms vs has. has)
