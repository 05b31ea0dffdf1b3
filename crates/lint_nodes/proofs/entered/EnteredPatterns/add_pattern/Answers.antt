use Rattle.std.proofs.Common.{◌≡◌, ◌∙◌, ap, sym, subst, length, List}
use Rattle.std.specs.Prelude.{is_some}
use Rattle.std.specs.Option.{unwrap_or}
use Rattle.std.proofs.lemmas.List.{length-map}
use Rattle.fluent_ast.specs.Borrowed.{elements_of}
use Rattle.fluent_grammar.specs.Tree.{Elements}
use Rattle.lint_nodes.specs.declared.entered.EnteredPattern.{EnteredPattern}
use Rattle.lint_nodes.specs.IndicesView.{attribute_text, index_of, GetsIndex}
use Rattle.lint_nodes.specs.Holding.{Holds, patterns_of, with_pattern}
use Rattle.lint_nodes.proofs.Held.{known_names, new_names, one_more, pushed}
use Rattle.lint_nodes.proofs.entered.EnteredPatterns.add_pattern.Goals as goal

pub returns-in_ok-push-clause-pattern : goal.returns-in_ok-push-clause-pattern
returns-in_ok-push-clause-pattern c = λ others named holds among.
    let old = c.args.self.now in
    let ps = patterns_of old.patterns.items in
    let a = attribute_text c.args.attribute in
    let es = elements_of c.args.pattern.now in
    let found = c.in_ok-found.found in
    let listed = index_of old.indices c.args.is_term c.args.id.now a in
    let P : List Elements → Type 0 = λ qs. Holds others c.get_or_insert.new.self qs (with_pattern c.args.is_term c.args.id.now a es named) in
    let as_many : c.len-index.result ≡ length ps = c.len-index.ensures ∙ old.patterns.ok.0 ∙ sym (length-map old.patterns.items (λ (q : EnteredPattern). elements_of q.pattern.now)) in
    let last : found ≡ length ps = c.if-found-index.true ∙ as_many in
    let gets : GetsIndex old.indices c.get_or_insert.new.self c.args.is_term c.args.id.now a (length ps) = rw (← last) c.in_ok-found.ensures.put in
    let is : found ≡ unwrap_or listed (length ps) = c.in_ok-found.ensures.found ∙ ap (unwrap_or listed) as_many in
    let free = new_names listed (length ps) found (holds.within c.args.is_term c.args.id.now a) is last in
    subst P (sym (pushed old.patterns.items c.push.new.self.items (record { pattern = c.args.pattern }) c.in_ok-push.ensures.items))
    (one_more others ps named c.args.is_term c.args.id.now a es old.indices c.get_or_insert.new.self holds free gets among)

pub returns-else-found-index-clause-listed : goal.returns-else-found-index-clause-listed
returns-else-found-index-clause-listed c = λ e.
    let a = attribute_text c.args.attribute in
    let listed = index_of c.args.self.now.indices c.args.is_term c.args.id.now a in
    (a, ap is_some (known_names listed c.len-index.result c.in_ok-found.found c.in_ok-found.ensures.found c.if-found-index.false))
