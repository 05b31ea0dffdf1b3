use Rattle.std.proofs.Common.{◌∙◌, sym, ap, refl, option_copied}
use Rattle.fluent_serve.specs.Requests.{request_with}
use Rattle.fluent_serve.specs.RequestView.{arguments_behind}
use Rattle.fluent_serve.proofs.Requests.{request_of-no_text, request_at}
use Rattle.fluent_serve.proofs.request.Asked.of.Goals as goal

pub returns-in_default : goal.returns-in_default
returns-in_default c = sym (request_of-no_text c.args.line.now c.in_default.ensures.cases.0)

pub returns : goal.returns
returns c = sym (request_at c.args.line.now c.in-Ok.text.now c.cut.result.0.now (option_copied c.cut.result.1) (arguments_behind c.cut.result.1) c.in-Ok.ensures.cases c.cut.ensures refl
    ∙ ap (λ name. request_with name (arguments_behind c.cut.result.1)) (sym c.cut-2.ensures))
