use Rattle.std.proofs.Common.{◌∙◌, [], ◌∷◌, ◌++◌, ap, sym}
use Rattle.std.proofs.lemmas.List.{append_assoc}
use Rattle.std.proofs.lemmas.Result.{IfOk-weaker}
use Rattle.fluent_project.specs.Normal.{first_name, names}
use Rattle.fluent_project.specs.Views.{cuts}
use Rattle.fluent_project.proofs.Names.{names_more}
use Rattle.fluent_project.proofs.normal.+push_names.Goals as goal

pub returns-in-Some : goal.returns-in-Some
returns-in-Some t c =
    let old = cuts c.args.list.now.items in
    let rest = c.in-Some.rest.now in
    IfOk-weaker c.push_names.result _ _
    (λ _ is. is
    ∙ ap (λ l. l ++ names rest) c.in_ok-push_first.ensures
    ∙ append_assoc old (first_name c.args.parts.now ∷ []) (names rest)
    ∙ ap (λ l. old ++ l) (sym (names_more c.args.parts.now rest (sym c.in-Some.ensures.rest))))
    c.push_names.ensures
