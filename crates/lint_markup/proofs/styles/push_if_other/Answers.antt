use Rattle.std.proofs.Common.{◌≡◌, ◌∙◌, ◌++◌, Bool, true, if◌then◌else◌, [], ◌∷◌, map, sym, ap}
use Rattle.std.proofs.lemmas.Result.{on_ok_weaker}
use Rattle.lint_findings.specs.Doubts.{changed_style, on_text}
use Rattle.lint_findings.specs.Styles as s
use Rattle.lint_markup.specs.InCode.{Said, said, said_on_text, spotted_views}
use Rattle.lint_markup.proofs.styles.push_if_other.Goals as goal

pub returns-in_ok-remark : goal.returns-in_ok-remark
returns-in_ok-remark c =
    let old = spotted_views c.args.found.now.items in
    let differs : s.differs (s.style_of c.args.text.now) (s.style_of c.args.other.now) ≡ true = sym c.in_ok-differs.ensures ∙ c.if-branch.true in
    let is = c.on_text.ensures ∙ ap said_on_text c.in_ok-remark.ensures in
    on_ok_weaker c.push_spotted.result
    (λ added.
    added
    ∙ ap (λ (x : Said). old ++ x ∷ []) is
    ∙ ap (λ (b : Bool). old ++ map said (if b then on_text (changed_style c.args.other.now) ∷ [] else [])) (sym differs)) c.push_spotted.ensures
