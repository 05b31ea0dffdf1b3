use Rattle.std.proofs.Common.{◌∙◌, ◌∷◌, [], ◌++◌, string_bytes, ap}
use Rattle.std.proofs.lemmas.List.{map-append}
use Rattle.lint_markup.specs.InCode.{texts_of}
use Rattle.lint_texts.proofs.ends.push_own.Goals as goal

pub returns : goal.returns
returns c =
    let old = c.args.ends.now.items in
    ap texts_of c.in_ok-push.ensures.items ∙ map-append string_bytes old (c.in_ok-own_text.field-0 ∷ []) ∙ ap (λ s. texts_of old ++ s ∷ []) c.in_ok-own_text.ensures
