use Rattle.std.proofs.Common.{ap, map}
use Rattle.std.specs.Prelude.{option_map}
use Rattle.fluent_kept.specs.Catalogs.{catalog_calling_by, catalog_environment}
use Rattle.fluent_kept.specs.Given.{pair_of}
use Rattle.fluent_c.specs.Bundles.{attribute_in}
use Rattle.fluent_c.specs.Calling.{answers_of, reply_by}
use Rattle.fluent_c.proofs.laws.plain_bundles_reply_alike.Goals as goal

pub returns : goal.returns
returns c = λ bundle id attribute arguments answers none.
    ap (λ functions. reply_by (option_map (λ names. catalog_calling_by bundle.catalog names (answers_of answers)) functions) (catalog_environment bundle.catalog)
    (record { id = id; attribute = attribute_in attribute; arguments = map pair_of arguments })) none
