use Rattle.std.proofs.Common.{◌++◌}
use Rattle.std.proofs.lemmas.Result.{on_ok_weaker}
use Rattle.lint_findings.specs.Addresses.{urls_beside}
use Rattle.lint_findings.specs.Doubled.{doubled_words}
use Rattle.lint_findings.specs.Numbers.{numbers_beside}
use Rattle.lint_findings.specs.Placeholders.{changed_placeholders}
use Rattle.lint_findings.specs.Typing.{dots_beside, spaces_beside, straight_quotes, unpaired_quotes}
use Rattle.lint_markup.specs.InCode.{texts_of}
use Rattle.lint_texts.proofs.Named.{adds_both}
use Rattle.lint_texts.proofs.texts.push_text_doubts.Goals as goal

pub returns : goal.returns
returns c =
    let s = texts_of c.args.texts.now in
    let o = texts_of c.args.others.now in
    let old = c.args.found.now.items in
    let new = c.push_unpaired_quotes.new.found.items in
    let f6 = unpaired_quotes s o in
    let f5 = straight_quotes s o ++ f6 in
    let f4 = dots_beside s o ++ f5 in
    let d4 = doubled_words s o ++ f4 in
    let f3 = spaces_beside s o ++ d4 in
    let f2 = numbers_beside s o ++ f3 in
    let f1 = changed_placeholders s o ++ f2 in
    let m0 = c.push_changed_url.new.found.items in
    let m1 = c.push_changed_placeholders.new.found.items in
    let m2 = c.push_changed_number.new.found.items in
    let m3 = c.push_double_space.new.found.items in
    let d3 = c.push_doubled_word.new.found.items in
    let m4 = c.push_three_dots.new.found.items in
    let m5 = c.push_straight_quotes.new.found.items in
    on_ok_weaker c.push_unpaired_quotes.result (λ last.
    adds_both (urls_beside s o) f1 old m0 new c.in_ok-push_changed_url.ensures
    (adds_both (changed_placeholders s o) f2 m0 m1 new c.in_ok-push_changed_placeholders.ensures
    (adds_both (numbers_beside s o) f3 m1 m2 new c.in_ok-push_changed_number.ensures
    (adds_both (spaces_beside s o) d4 m2 m3 new c.in_ok-push_double_space.ensures
    (adds_both (doubled_words s o) f4 m3 d3 new c.in_ok-push_doubled_word.ensures
    (adds_both (dots_beside s o) f5 d3 m4 new c.in_ok-push_three_dots.ensures
    (adds_both (straight_quotes s o) f6 m4 m5 new c.in_ok-push_straight_quotes.ensures last)))))))
    c.push_unpaired_quotes.ensures
