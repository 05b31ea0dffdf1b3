use Rattle.std.proofs.Common.{◌≡◌, ◌∙◌, ◌++◌, Bool, true, false, not, if◌then◌else◌, [], length, map, sym, ap, append-nil}
use Rattle.std.specs.Prelude.{◌==◌}
use Rattle.std.specs.List.{flat_map}
use Rattle.std.proofs.lemmas.Result.{on_ok_weaker}
use Rattle.lint_findings.specs.Comparison.{without}
use Rattle.lint_findings.specs.Markup.{if_name_missing}
use Rattle.lint_markup.specs.InCode.{es_of, os_of, said, spotted_views, texts_in}
use Rattle.lint_markup.proofs.Known.{none_new}
use Rattle.lint_markup.proofs.missing.push_missing_names.Goals as goal

pub returns-then-has_new : goal.returns-then-has_new
returns-then-has_new c =
    let old = spotted_views c.args.found.now.items in
    let mine = texts_in c.args.names.now in
    let known = texts_in c.args.known.now in
    let rule = if_name_missing (es_of c.args.pair.now) (os_of c.args.pair.now) in
    let new : (length (without mine known) == 0) ≡ false = none_new mine known ∙ ap not (sym c.has_new.ensures ∙ c.if-has_new.true) in
    sym (append-nil old) ∙ ap (λ (b : Bool). old ++ map said (if b then flat_map rule known else [])) (sym new)

pub returns : goal.returns
returns c =
    let old = spotted_views c.args.found.now.items in
    let mine = texts_in c.args.names.now in
    let known = texts_in c.args.known.now in
    let rule = if_name_missing (es_of c.args.pair.now) (os_of c.args.pair.now) in
    let none : (length (without mine known) == 0) ≡ true = none_new mine known ∙ ap not (sym c.has_new.ensures ∙ c.if-has_new.false) in
    on_ok_weaker c.push_each_missing.result (λ added. added ∙ ap (λ (b : Bool). old ++ map said (if b then flat_map rule known else [])) (sym none)) c.push_each_missing.ensures
