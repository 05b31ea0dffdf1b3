use Rattle.std.proofs.Common.{◌≡◌, ◌∷◌, [], ◌++◌, List, length, map, refl, sym, ap, ◌∙◌, ◌-◌, take, append-nil, arith, rules}
use Rattle.std.specs.Vec.Iter.{into_iter_items}
use Rattle.fluent_grammar.specs.Words.{Text}
use Rattle.lint_findings.specs.View.{finding_view}
use Rattle.lint_findings.specs.Finding as f
use Rattle.lint_markup.specs.InCode.{spotted_view, spotted_views}
use Rattle.lint_markup.specs.declared.spotted.Spotted.{Spotted}
use Rattle.lint_comparison.specs.TextsView.{is_found}
use Rattle.lint_entries.proofs.Pushed.{first_added, pushed}
use Rattle.lint_comparison.proofs.texts.Texts.push_doubts.Goals as goal

nothing_left : {X : Type 0} (l : List X) → length l ≡ 0 → l ≡ []
nothing_left [] h = refl
nothing_left (x ∷ xs) h = absurd (omega arith)

pub loop-doubt-preserved : goal.loop-doubt-preserved
loop-doubt-preserved c =
    let at = c.loop-doubt in
    let found : List Spotted → List f.Finding = λ (xs : List Spotted). map (is_found c.args.self.now c.args.name c.args.text.now c.front-written.result.now) (spotted_views xs) in
    let one = c.in-Some.doubt in
    let steps : into_iter_items at.doubt-iterator ≡ one ∷ into_iter_items c.next.new.self = c.in-Some.ensures.steps.0 in
    let made = is_found c.args.self.now c.args.name c.args.text.now c.front-written.result.now (spotted_view one) in (
      first_added (map finding_view at.findings.items) (made ∷ []) (found (into_iter_items c.next.new.self))
          (pushed at.findings.items c.push.new.self.items c.in_ok-finding.field-0 made c.in_ok-push.ensures.items c.in_ok-finding.ensures)
          (ap found steps)
          ∙ at.invariant.0,
      let was = at.invariant.1 in
          let gone = c.in-Some.ensures.steps.1 in
          let short = ap length steps in
          omega arith,
    )

pub returns : goal.returns
returns c =
    let at = c.loop-doubt in
    let now = map finding_view at.findings.items in
    let written = c.front-written.result.now in
    let found : Text → List Spotted → List f.Finding = λ (w : Text) (xs : List Spotted). map (is_found c.args.self.now c.args.name c.args.text.now w) (spotted_views xs) in
    let none = c.in-None.ensures.steps in
    let empty : into_iter_items at.doubt-iterator ≡ [] = nothing_left _ (sym at.invariant.1 ∙ none.0) in
    let all = map finding_view c.args.findings.now.items in
    let cut : written ≡ take (length c.args.text.now - length c.args.rest.now) c.args.text.now = search rules in
    sym (append-nil now) ∙ ap (λ l. now ++ found written l) (sym empty) ∙ at.invariant.0
    ∙ ap (λ l. all ++ found written l) c.into_iter-doubt-iterator.ensures.into_iter_gives.0
    ∙ ap (λ w. all ++ found w c.args.doubts.items) cut
