use Rattle.std.proofs.Common.{◌≡◌, ◌∙◌, ◌++◌, List, [], map, sym, ap, append-nil}
use Rattle.std.specs.List.{flat_map}
use Rattle.std.proofs.lemmas.Result.{on_ok_weaker}
use Rattle.fluent_grammar.specs.Words.{is_among}
use Rattle.lint_findings.specs.Doubts.{Spotted}
use Rattle.lint_findings.specs.Entities as e
use Rattle.lint_markup.specs.InCode.{Said, said, spotted_views, texts_in, texts_of}
use Rattle.lint_markup.proofs.EntitySteps.{entities_said, nothing_said}
use Rattle.lint_markup.proofs.Known.{are_names, none_by_len, none_listed, same_once, some_by_len, some_listed}
use Rattle.lint_markup.proofs.entities.push_broken_entities.Goals as goal

pub returns-then-is_empty : goal.returns-then-is_empty
returns-then-is_empty c =
    let old = spotted_views c.args.found.now.items in
    let names = flat_map e.entities_in (texts_of c.args.others.now) in
    let none : c.in_ok-known.known.list.items ≡ [] = none_by_len c.in_ok-known.known.list.items _ c.in_ok-known.known.list.ok.0 (sym c.is_empty.ensures ∙ c.if-is_empty.true) in
    sym (append-nil old)
    ∙ ap (λ (xs : List Spotted). old ++ map said xs) (sym (nothing_said (texts_of c.args.texts.now) names (none_listed c.in_ok-known.known names c.in_ok-known.ensures none)))

pub push_unended-requires : goal.push_unended-requires
push_unended-requires c = record { known = are_names c.in_ok-known.known _ c.in_ok-known.ensures }

pub returns : goal.returns
returns c =
    let old = spotted_views c.args.found.now.items in
    let known = c.in_ok-known.known in
    let names = flat_map e.entities_in (texts_of c.args.others.now) in
    let some : known.list.items ≡ [] → ⊥ = some_by_len known.list.items _ known.list.ok.0 (sym c.is_empty.ensures ∙ c.if-is_empty.false) in
    on_ok_weaker c.push_unended.result
    (λ added.
    added
    ∙ ap (λ (xs : List Said). old ++ xs)
    (entities_said (texts_of c.args.texts.now) names (texts_in known) (some_listed known names c.in_ok-known.ensures some) (λ x. ap (is_among x) c.in_ok-known.ensures.listed ∙ same_once names x))) c.push_unended.ensures
