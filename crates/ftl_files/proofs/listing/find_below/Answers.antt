use Rattle.std.proofs.Common.{append-nil, string_bytes, sym, []}
use Rattle.std.proofs.lemmas.List.Elements.{All-pop, All-same, All-nil}
use Rattle.ftl_files.specs.Files.{IsBelow}
use Rattle.ftl_files.proofs.ListingLemmas.{none_listed}
use Rattle.ftl_files.proofs.listing.find_below.Goals as goal

pub loop-init : goal.loop-init
loop-init g c =
    let name = c.args.name.now in
    c.push_folder.ensures name (record { rest = []; is = sym (append-nil name) }) (record {
      found = none_listed name c.new-2.result c.new-2.ensures;
      left = All-same (λ s. IsBelow name (string_bytes s)) c.new.result.items [] c.new.ensures.items (All-nil (λ s. IsBelow name (string_bytes s)));
    })

pub loop-preserved : goal.loop-preserved
loop-preserved g c =
    let name = c.args.name.now in
    let left = All-pop (λ s. IsBelow name (string_bytes s)) c.loop.walk.folders.items c.pop.new.self.items c.pop.result c.pop.ensures.items c.loop.invariant.left in
    c.push_below.ensures name (rw c.in-Some.is at left.1) (record { found = c.loop.invariant.found; left = left.0 })
