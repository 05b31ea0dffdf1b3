use Rattle.std.proofs.Common.{◌≡◌, ◌∙◌, ◌==◌, ◌||◌, false, true, length, ap, sym, rules}
use Rattle.lint_texts.specs.OfMessages.{on_values}
use Rattle.lint_comparison.specs.TextsView.{attributes_said, is_said}
use Rattle.lint_comparison.proofs.TextsFound.{empty_is, is_said_if}
use Rattle.lint_comparison.proofs.texts.are_any_said.Goals as goal

pub returns-then-is_empty : goal.returns-then-is_empty
returns-then-is_empty c =
    let m = c.args.message.now in
    let o = c.args.other.now in
    let here = on_values m o in
    let empty : true ≡ (length c.args.doubts.now == 0) = search rules in
    let nothing : is_said here ≡ false = is_said_if true (is_said here) (empty ∙ empty_is c.args.doubts.now here c.requires) in
    search rules

pub returns-else-is_empty : goal.returns-else-is_empty
returns-else-is_empty c =
    let m = c.args.message.now in
    let o = c.args.other.now in
    let here = on_values m o in
    let empty : false ≡ (length c.args.doubts.now == 0) = search rules in
    let said : is_said here ≡ true = is_said_if false (is_said here) (empty ∙ empty_is c.args.doubts.now here c.requires) in
    sym (ap (λ b. b || attributes_said m o m.attributes.items) said)
