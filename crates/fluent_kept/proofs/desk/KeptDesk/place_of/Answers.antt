use Rattle.std.proofs.Common.{◌≡◌, ◌∙◌, ap, rules}
use Rattle.fluent_ids.specs.Found.{message_in}
use Rattle.fluent_kept.specs.Catalogs.{catalog_environment}
use Rattle.fluent_kept.specs.Found.{message_told}
use Rattle.fluent_kept.proofs.Written.{kept-still}
use Rattle.fluent_kept.proofs.desk.KeptDesk.place_of.Goals as goal

pub returns : goal.returns
returns c = λ catalog is there.
    let m = c.args.message in
    let same : (message_told m).id ≡ c.args.id.now = search rules in
    record {
      read = is.read;
      desks = is.desks;
      found = kept-still catalog c.args.self.now.found c.keep.new.self m c.keep.ensures.kept (ap (λ id. message_in ((catalog_environment catalog).find id)) same ∙ there) is.found;
    }
