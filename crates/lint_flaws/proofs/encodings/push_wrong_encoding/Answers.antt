use Rattle.std.proofs.Common.{◌∙◌, List, OnOk, sym, subst}
use Rattle.lint_findings.specs.Finding as f
use Rattle.lint_flaws.specs.Letters.{AddsRemarks}
use Rattle.lint_flaws.proofs.Spelled.{wrong_encodings_are}
use Rattle.lint_flaws.proofs.encodings.push_wrong_encoding.Goals as goal

pub returns-in-Some : goal.returns-in-Some
returns-in-Some c =
    let e = sym c.in-Some.ensures.first ∙ sym (wrong_encodings_are c.args.text.now) in
    subst (λ (xs : List f.Remark). OnOk c.push_spelled.result (AddsRemarks c.args.found.now c.push_spelled.new.found xs)) e c.push_spelled.ensures
