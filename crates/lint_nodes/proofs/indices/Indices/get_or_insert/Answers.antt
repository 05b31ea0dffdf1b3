use Rattle.std.proofs.Common.{◌≡◌, ◌∙◌, Some, ap, subst, sym, rules}
use Rattle.std.specs.Option.{unwrap_or}
use Rattle.std.specs.HashMap.{Updates}
use Rattle.std.specs.HashMap.Entry.{map_with_value}
use Rattle.lint_nodes.proofs.Inserted.{inserted, own_found, same_key}
use Rattle.lint_nodes.proofs.indices.Indices.get_or_insert.Goals as goal

pub returns-clause-found : goal.returns-clause-found
returns-clause-found c =
    c.or_insert-found.ensures.value
    ∙ ap (λ o. unwrap_or o c.args.index) (c.in_ok-self.ensures.value ∙ own_found c.args.self.now.by_name c.args.is_term c.args.id c.args.attribute)

pub returns-clause-put : goal.returns-clause-put
returns-clause-put c =
    let m = c.args.self.now.by_name in
    let n = c.self-3-1.given.0 in
    let found = c.or_insert-found.result.now in
    let put : n ≡ map_with_value c.in_ok-self.field-0 found = search rules in
    let updates = c.in_ok-self.ensures.update.0 found in
    inserted m n c.args.is_term c.args.id c.args.attribute found
    (subst (λ x. Updates same_key m x (c.args.is_term, c.args.id, c.args.attribute) (Some found)) (sym put) updates).0
