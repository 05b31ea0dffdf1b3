use Rattle.std.proofs.Common.{◌∙◌, ◌∷◌, [], List, if◌then◌else◌, map, OnOk, sym, ap, subst}
use Rattle.std.specs.List.{flat_map}
use Rattle.fluent_grammar.specs.Words.{Text, is_among}
use Rattle.lint_nodes.specs.HasNames.{texts}
use Rattle.lint_findings.specs.Doubts as d
use Rattle.lint_findings.specs.Placeholders as p
use Rattle.lint_markup.specs.InCode.{Adds, texts_in}
use Rattle.lint_texts.specs.Beside.{if_gone}
use Rattle.lint_texts.specs.InCode.{placeholder_view}
use Rattle.lint_texts.proofs.Named.{without_each}
use Rattle.lint_texts.proofs.placeholders.push_gone.Goals as goal

pub returns : goal.returns
returns c =
    let known = texts_in c.args.known.now in
    let mine = p.names (map placeholder_view c.args.mine.now) in
    let names = c.in_ok-names.names in
    let e = ap (λ ys. flat_map (if_gone names) (texts ys)) c.deref.ensures.value
    ∙ ap (λ (zs : List Text). flat_map (λ (x : Text). if is_among x zs then [] else d.on_text (d.lost_placeholder x) ∷ []) known) c.in_ok-names.ensures.listed
    ∙ sym (without_each (λ (x : Text). d.on_text (d.lost_placeholder x)) known mine) in
    subst (λ (xs : List d.Spotted). OnOk c.push_each_gone.result (Adds c.args.found.now c.push_each_gone.new.found xs)) e c.push_each_gone.ensures
