use Rattle.std.proofs.Common.{◌∙◌, sym}
use Rattle.std.proofs.lemmas.Bool.{ltb-true}
use Rattle.fluent_number.specs.Number.{number_of}
use Rattle.fluent_numerals.proofs.Plain.{bare_shown}
use Rattle.fluent_numerals.proofs.numerals.LocaleNumerals.shows_plainly.Goals as goal

pub returns-in-Some : goal.returns-in-Some
returns-in-Some g c below shown =
    let n = number_of c.in-Number.number in
    let whole = c.in-Some.whole in
    let bare = c.in-Some.ensures in
    let small = ltb-true whole c.plain_below.result below in
    rw c.in-Number.is (c.plain_below.ensures n whole bare small ∙ sym (bare_shown n whole bare))
