use Rattle.std.proofs.Common.{◌≡◌, ◌∙◌, ◌+◌, ◌++◌, [], ◌∷◌, sym, ap, subst, take, append-nil, string_bytes}
use Rattle.std.specs.List.{flat_map}
use Rattle.std.proofs.lemmas.List.{take_all}
use Rattle.std.proofs.lemmas.List.Concat.{flat_map-append}
use Rattle.fluent_ast.proofs.Copied.{map-take_more}
use Rattle.lint_nodes.specs.HasNames.{HasNames}
use Rattle.lint_nodes.proofs.Unions.{union-append}
use Rattle.lint_findings.specs.Comparison.{union}
use Rattle.lint_findings.specs.Entities.{entities_in}
use Rattle.lint_markup.specs.InCode.{texts_of}
use Rattle.lint_markup.proofs.entities.known_entities.Goals as goal

pub loop-text-preserved : goal.loop-text-preserved
loop-text-preserved c =
    let xs = c.args.texts.now in
    let i = c.loop-text.text-index in
    let before = flat_map entities_in (texts_of (take i xs)) in
    let s = string_bytes c.text-item.result in
    let here = entities_in c.as_str.result.now in
    let more : flat_map entities_in (texts_of (take (i + 1) xs)) ≡ before ++ here =
    ap (flat_map entities_in) (map-take_more string_bytes xs i c.text-item.result c.loop-text-test.true c.text-item.is)
    ∙ flat_map-append entities_in (texts_of (take i xs)) (s ∷ [])
    ∙ ap (λ ys. before ++ ys) (append-nil (entities_in s) ∙ ap entities_in (sym c.as_str.ensures.value)) in
    subst (HasNames c.add_entities.new.names) (sym (ap (union []) more ∙ union-append [] before here))
    (c.in_ok-add_entities.ensures (union [] before) c.loop-text.invariant)

pub returns : goal.returns
returns c =
    let all = take_all c.loop-text.text-index c.args.texts.now c.loop-text-test.false in
    subst (λ ts. HasNames c.loop-text.names (union [] (flat_map entities_in (texts_of ts)))) all c.loop-text.invariant
