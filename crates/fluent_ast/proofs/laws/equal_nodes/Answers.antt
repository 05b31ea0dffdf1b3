use Rattle.std.proofs.Common.{rules}
use Rattle.fluent_ast.proofs.EqualTrees.{compares, resource_decides, entry_decides, message_decides, term_decides, comment_decides, attribute_decides}
use Rattle.fluent_ast.proofs.Equality.{pattern_decides, element_decides, name_decides, key_decides, variant_decides, expression_decides, inline_decides, arguments_decides, named_decides}
use Rattle.fluent_ast.specs.View.{resource_view, entry_view, message_view, term_view, comment_view, attribute_view, pattern_view, element_view, name_of, key_of, variant_view, expression_view, inline_view, arguments_view, named_view}
use Rattle.fluent_ast.proofs.laws.equal_nodes.Goals as goal

pub returns-clause-resources : goal.returns-clause-resources
returns-clause-resources g c =
    let lives : g.claim c.lifetimes = search rules in
    compares _ (resource_view g.row.S.Denot g.S.Slice.text) (resource_decides g.row.S g.S.PartialEq g.S.PartialEq-dict (record { laws = g.met.S.PartialEq.laws }) g.S.Slice.text (g.met.S.Slice c.lifetimes lives).equality)

pub returns-clause-entries : goal.returns-clause-entries
returns-clause-entries g c =
    let lives : g.claim c.lifetimes = search rules in
    compares _ (entry_view g.row.S.Denot g.S.Slice.text) (entry_decides g.row.S g.S.PartialEq g.S.PartialEq-dict (record { laws = g.met.S.PartialEq.laws }) g.S.Slice.text (g.met.S.Slice c.lifetimes lives).equality)

pub returns-clause-messages : goal.returns-clause-messages
returns-clause-messages g c =
    let lives : g.claim c.lifetimes = search rules in
    compares _ (message_view g.row.S.Denot g.S.Slice.text) (message_decides g.row.S g.S.PartialEq g.S.PartialEq-dict (record { laws = g.met.S.PartialEq.laws }) g.S.Slice.text (g.met.S.Slice c.lifetimes lives).equality)

pub returns-clause-terms : goal.returns-clause-terms
returns-clause-terms g c =
    let lives : g.claim c.lifetimes = search rules in
    compares _ (term_view g.row.S.Denot g.S.Slice.text) (term_decides g.row.S g.S.PartialEq g.S.PartialEq-dict (record { laws = g.met.S.PartialEq.laws }) g.S.Slice.text (g.met.S.Slice c.lifetimes lives).equality)

pub returns-clause-comments : goal.returns-clause-comments
returns-clause-comments g c =
    let lives : g.claim c.lifetimes = search rules in
    compares _ (comment_view g.row.S.Denot g.S.Slice.text) (comment_decides g.row.S g.S.PartialEq g.S.PartialEq-dict (record { laws = g.met.S.PartialEq.laws }) g.S.Slice.text (g.met.S.Slice c.lifetimes lives).equality)

pub returns-clause-attributes : goal.returns-clause-attributes
returns-clause-attributes g c =
    let lives : g.claim c.lifetimes = search rules in
    compares _ (attribute_view g.row.S.Denot g.S.Slice.text) (attribute_decides g.row.S g.S.PartialEq g.S.PartialEq-dict (record { laws = g.met.S.PartialEq.laws }) g.S.Slice.text (g.met.S.Slice c.lifetimes lives).equality)

pub returns-clause-patterns : goal.returns-clause-patterns
returns-clause-patterns g c =
    let lives : g.claim c.lifetimes = search rules in
    compares _ (pattern_view g.row.S.Denot g.S.Slice.text) (pattern_decides g.row.S g.S.PartialEq g.S.PartialEq-dict (record { laws = g.met.S.PartialEq.laws }) g.S.Slice.text (g.met.S.Slice c.lifetimes lives).equality)

pub returns-clause-elements : goal.returns-clause-elements
returns-clause-elements g c =
    let lives : g.claim c.lifetimes = search rules in
    compares _ (element_view g.row.S.Denot g.S.Slice.text) (element_decides g.row.S g.S.PartialEq g.S.PartialEq-dict (record { laws = g.met.S.PartialEq.laws }) g.S.Slice.text (g.met.S.Slice c.lifetimes lives).equality)

pub returns-clause-identifiers : goal.returns-clause-identifiers
returns-clause-identifiers g c =
    let lives : g.claim c.lifetimes = search rules in
    compares _ (name_of g.row.S.Denot g.S.Slice.text) (name_decides g.row.S g.S.PartialEq g.S.PartialEq-dict (record { laws = g.met.S.PartialEq.laws }) g.S.Slice.text (g.met.S.Slice c.lifetimes lives).equality)

pub returns-clause-keys : goal.returns-clause-keys
returns-clause-keys g c =
    let lives : g.claim c.lifetimes = search rules in
    compares _ (key_of g.row.S.Denot g.S.Slice.text) (key_decides g.row.S g.S.PartialEq g.S.PartialEq-dict (record { laws = g.met.S.PartialEq.laws }) g.S.Slice.text (g.met.S.Slice c.lifetimes lives).equality)

pub returns-clause-variants : goal.returns-clause-variants
returns-clause-variants g c =
    let lives : g.claim c.lifetimes = search rules in
    compares _ (variant_view g.row.S.Denot g.S.Slice.text) (variant_decides g.row.S g.S.PartialEq g.S.PartialEq-dict (record { laws = g.met.S.PartialEq.laws }) g.S.Slice.text (g.met.S.Slice c.lifetimes lives).equality)

pub returns-clause-expressions : goal.returns-clause-expressions
returns-clause-expressions g c =
    let lives : g.claim c.lifetimes = search rules in
    compares _ (expression_view g.row.S.Denot g.S.Slice.text) (expression_decides g.row.S g.S.PartialEq g.S.PartialEq-dict (record { laws = g.met.S.PartialEq.laws }) g.S.Slice.text (g.met.S.Slice c.lifetimes lives).equality)

pub returns-clause-inlines : goal.returns-clause-inlines
returns-clause-inlines g c =
    let lives : g.claim c.lifetimes = search rules in
    compares _ (inline_view g.row.S.Denot g.S.Slice.text) (inline_decides g.row.S g.S.PartialEq g.S.PartialEq-dict (record { laws = g.met.S.PartialEq.laws }) g.S.Slice.text (g.met.S.Slice c.lifetimes lives).equality)

pub returns-clause-arguments : goal.returns-clause-arguments
returns-clause-arguments g c =
    let lives : g.claim c.lifetimes = search rules in
    compares _ (arguments_view g.row.S.Denot g.S.Slice.text) (arguments_decides g.row.S g.S.PartialEq g.S.PartialEq-dict (record { laws = g.met.S.PartialEq.laws }) g.S.Slice.text (g.met.S.Slice c.lifetimes lives).equality)

pub returns-clause-named : goal.returns-clause-named
returns-clause-named g c =
    let lives : g.claim c.lifetimes = search rules in
    compares _ (named_view g.row.S.Denot g.S.Slice.text) (named_decides g.row.S g.S.PartialEq g.S.PartialEq-dict (record { laws = g.met.S.PartialEq.laws }) g.S.Slice.text (g.met.S.Slice c.lifetimes lives).equality)
