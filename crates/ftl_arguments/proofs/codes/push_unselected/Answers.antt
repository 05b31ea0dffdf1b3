use Rattle.std.proofs.Common.{◌≡◌, ◌∙◌, ◌++◌, Bool, true, false, List, ap, sym}
use Rattle.std.specs.Prelude.{if◌then◌else◌}
use Rattle.std.proofs.lemmas.Result.{on_ok_weaker}
use Rattle.clap.specs.Words.{Text}
use Rattle.lint_findings.specs.Report.{text_codes}
use Rattle.ftl_arguments.specs.Linting.{finding_codes, is_any, others_of}
use Rattle.ftl_arguments.specs.Meaning.{texts}
use Rattle.ftl_arguments.proofs.codes.push_unselected.Goals as goal

module _ (all old selected : List Text) (b : Bool) (is : b ≡ is_any selected) where
  some_left : (given new : List Text) → given ≡ all → b ≡ true → new ≡ old ++ others_of selected given
      → new ≡ old ++ (if is_any selected then others_of selected all else text_codes)
  some_left given new same any e =
      e ∙ (ap (λ codes. old ++ others_of selected codes) same
      ∙ ap (λ b. old ++ (if b then others_of selected all else text_codes)) (sym any ∙ is))

  none_left : (new : List Text) → b ≡ false → new ≡ old ++ text_codes → new ≡ old ++ (if is_any selected then others_of selected all else text_codes)
  none_left new none e = e ∙ ap (λ b. old ++ (if b then others_of selected all else text_codes)) (sym none ∙ is)

pub returns-then-is_any : goal.returns-then-is_any
returns-then-is_any c =
    on_ok_weaker c.push_others.result
    (some_left finding_codes (texts c.args.ignored.now.items) (texts c.args.selected.now) c.is_any.result c.is_any.ensures
    (texts c.all_codes.result.now) (texts c.push_others.new.left.items) c.all_codes.ensures c.if-is_any.true)
    c.push_others.ensures

pub returns-else-is_any : goal.returns-else-is_any
returns-else-is_any c =
    on_ok_weaker c.push_text_codes.result
    (none_left finding_codes (texts c.args.ignored.now.items) (texts c.args.selected.now) c.is_any.result c.is_any.ensures
    (texts c.push_text_codes.new.codes.items) c.if-is_any.false)
    c.push_text_codes.ensures
