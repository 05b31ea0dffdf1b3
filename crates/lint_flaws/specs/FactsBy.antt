-- The facts of what the code has.
use Rattle.std.specs.Prelude.{◌≡◌, Bool, List, ◌++◌, map, Option, String, string_bytes}
use Rattle.std.specs.Global.{Global}
use denote.Ref.{Bor}
use Rattle.fluent_ast.specs.Borrowed.{inline_of, key_of, named_of, variants_of}
use Rattle.fluent_ast.specs.View as view
use Rattle.fluent_ast.specs.declared.PatternElement.{PatternElement}
use Rattle.fluent_ast.specs.declared.InlineExpression.{InlineExpression}
use Rattle.fluent_ast.specs.declared.NamedArgument.{NamedArgument}
use Rattle.fluent_ast.specs.declared.Variant.{Variant}
use Rattle.fluent_grammar.specs.Escapes.{unescaped}
use Rattle.fluent_grammar.specs.Tree as t
use Rattle.fluent_grammar.specs.Tree.{Elements, VariantKey}
use Rattle.fluent_grammar.specs.Words.{Text}
use Rattle.fluent_meaning.specs.Ids.{find}
use Rattle.fluent_number.specs.declared.plural.PluralRuleType.{PluralRuleType}
use Rattle.fluent_plurals.specs.declared.plurals.LanguagePlurals.{LanguagePlurals}
use Rattle.lint_findings.specs.View.{remark_view}
use Rattle.lint_findings.specs.declared.remark.Remark.{Remark}
use Rattle.lint_findings.specs.Facts as f
use Rattle.lint_findings.specs.MissingCategories.{category_named, variant_keys}
use Rattle.lint_flaws.specs.Said.{CatalogIds, known}
use Rattle.lint_flaws.specs.declared.attribute_texts.AttributeText.{AttributeText}
use Rattle.lint_nodes.specs.NodeView.{node_view}
use Rattle.lint_nodes.specs.declared.nodes.Node.{Node}

-- the remark on this fact
abbrev pub IsOnFact : f.Fact → Remark → Type 0
IsOnFact fact said = remark_view said ≡ f.fact_remark fact

abbrev pub node_facts : CatalogIds → Option LanguagePlurals → Node → List f.Fact
node_facts ids plurals node = f.node_facts (known ids) plurals (node_view node)

abbrev pub expression_facts : CatalogIds → InlineExpression (Bor Text) → List f.Fact
expression_facts ids e = f.expression_facts (known ids) (inline_of e)

-- ---- of arguments of terms

abbrev pub call_facts : CatalogIds → Text → List (NamedArgument (Bor Text)) → List f.Fact
call_facts ids id ns = f.call_facts id (find (known ids) id) (named_of ns)

module _ (id : Text) (nodes : List Node) where
  abbrev pub named_facts : List (NamedArgument (Bor Text)) → List f.Fact
  named_facts ns = f.named_facts id (map node_view nodes) (named_of ns)

  abbrev pub argument_facts : Text → InlineExpression (Bor Text) → List f.Fact
  argument_facts x e = f.argument_facts id (map node_view nodes) x (inline_of e)

  abbrev pub value_facts : Text → Text → List f.Fact
  value_facts x raw = f.value_facts id (map node_view nodes) x raw (unescaped raw)

  abbrev pub unused_argument : Text → f.Fact
  unused_argument x = f.unused_argument id (map node_view nodes) x

  abbrev pub unknown_value : Text → Text → Text → f.Fact
  unknown_value x raw s = f.unknown_value id (map node_view nodes) x raw s

-- ---- of keys

abbrev pub select_facts : LanguagePlurals → InlineExpression (Bor Text) → List (Variant (Bor Text)) → List f.Fact
select_facts plurals selector vs = f.select_facts plurals (inline_of selector) (variants_of vs)

abbrev pub word_facts : LanguagePlurals → PluralRuleType → Text → List f.Fact
word_facts plurals rule word = f.word_facts plurals rule word (category_named word)

-- ---- of attributes of terms

abbrev pub attribute_facts : CatalogIds → InlineExpression (Bor Text) → List (Variant (Bor Text)) → List f.Fact
attribute_facts ids selector vs = f.attribute_facts (known ids) (inline_of selector) (variants_of vs)

-- of a select on the attribute of this name of the term of this id
abbrev pub term_keys_facts : CatalogIds → Text → Text → List (Variant (Bor Text)) → List f.Fact
term_keys_facts ids id name vs = f.text_facts id name (variants_of vs) (f.term_attribute_text name (find (known ids) id))

-- the elements of a pattern
abbrev pub elements_of : List (PatternElement (Bor Text)) → Elements
elements_of es = view.elements_view _ (λ s. s.now) es

module _ (attribute : AttributeText) where
  -- the keys of its select
  abbrev pub keys_of : List VariantKey
  keys_of = variant_keys (variants_of attribute.variants.now)

  -- a key isn't the text, and nearly is, or none of these keys is
  abbrev pub is_other : Text → Bool
  is_other key = f.is_other_text keys_of attribute.text.now key

  abbrev pub others_facts : List (Variant (Bor Text)) → List f.Fact
  others_facts vs = f.others_facts attribute.id.now attribute.name.now keys_of attribute.text.now (variants_of vs)

  abbrev pub other_facts : Variant (Bor Text) → List f.Fact
  other_facts v = f.other_facts attribute.id.now attribute.name.now keys_of attribute.text.now (key_of v.key) v.default

  abbrev pub name_facts : Text → Bool → List f.Fact
  name_facts key is_default = f.other_facts attribute.id.now attribute.name.now keys_of attribute.text.now (t.identifier_key key) is_default

abbrev pub IsTextHint : Text → Text → String Global → Type 0
IsTextHint text key hint = string_bytes hint ≡ f.text_hint text key

-- ---- of a select

abbrev pub plural_facts : Option LanguagePlurals → InlineExpression (Bor Text) → List (Variant (Bor Text)) → List f.Fact
plural_facts plurals selector vs = f.plural_facts plurals (inline_of selector) (variants_of vs)
