use Rattle.std.proofs.Common.{rules, string_bytes}
use Rattle.std.proofs.lemmas.List.Sorted.{All-permutation}
use Rattle.ftl_files.specs.Files.{IsBelow, IsSourceBelow}
use Rattle.ftl_files.specs.Listing.{AreListedBelow}
use Rattle.ftl_files.proofs.listing.list_below.Goals as goal

pub returns-clause-below : goal.returns-clause-below
returns-clause-below g c =
    let name = c.args.name.now in
    let below : AreListedBelow name (record { sources = c.sort.new.self; unlisted = c.sort-2.new.self }) = record {
      of_sources = All-permutation (λ s. IsSourceBelow name (string_bytes s)) _ _ c.sort.ensures.permutation c.in_ok-listing.ensures.of_sources;
      of_unlisted = All-permutation (λ s. IsBelow name (string_bytes s)) _ _ c.sort-2.ensures.permutation c.in_ok-listing.ensures.of_unlisted;
    } in
    search rules
