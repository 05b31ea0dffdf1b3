use Rattle.std.proofs.Common.{◌≡◌, Some, map, rules, sym}
use Rattle.fluent_dates.specs.Exact.{exact_in}
use Rattle.fluent_dates.specs.Fields.{measure}
use Rattle.fluent_dates.specs.Matching.{found_view}
use Rattle.fluent_dates.proofs.Exact.{exact_is_nearest}
use Rattle.fluent_dates.proofs.matching.nearest.Goals as goal

pub returns-in-Some : goal.returns-in-Some
returns-in-Some c =
    let row = c.args.row.now in
    let fields = c.args.wanted.now in
    let known = found_view c.in-Some.found in
    let is : exact_in row (map measure fields) ≡ Some known = search rules in
    sym (exact_is_nearest row fields known is)
