use Rattle.std.proofs.Common.{◌≡◌, ◌∙◌, Some, ap, subst, sym, rules}
use Rattle.std.specs.Option.{unwrap_or}
use Rattle.std.specs.HashMap.{Updates}
use Rattle.std.specs.HashMap.Entry.{map_with_value}
use Rattle.fluent_lint.proofs.PlacesAdded.{added, same_name}
use Rattle.fluent_lint.proofs.message_places.MessagePlaces.add.Goals as goal

pub returns : goal.returns
returns c = λ ps first.
    let m = c.args.self.now.first in
    let n = c.self-3-1.given.0 in
    let value = c.or_insert.ensures.value ∙ ap (λ o. unwrap_or o c.args.at) c.in_ok-self.ensures.value in
    let put : n ≡ map_with_value c.in_ok-self.field-0 c.or_insert.result.now = search rules in
    let updates = c.in_ok-self.ensures.update.0 c.or_insert.result.now in
    added m n c.args.id c.args.at ps first
    (subst (λ v. Updates same_name m n c.args.id (Some v)) value
    (subst (λ x. Updates same_name m x c.args.id (Some c.or_insert.result.now)) (sym put) updates))
