use Rattle.std.proofs.Common.{Option, ap, refl, ◌∙◌, option_map, rules}
use Rattle.std.proofs.lemmas.Iterator.Consumers.{YieldsList-from_first}
use Rattle.std.proofs.lemmas.Iterator.Search.{all_from_yields_List}
use Rattle.std.specs.Prelude.{is_some}
use Rattle.fluent_run.proofs.Valued.{none_missing, viewed}
use Rattle.fluent_serve.specs.RequestView.{argument_view, arguments_left}
use Rattle.fluent_serve.specs.Text.{Text}
use Rattle.fluent_run.proofs.arguments.are_arguments.Goals as goal

pub returns : goal.returns
returns c =
    all_from_yields_List (λ (argument : Option (Text × Text)). is_some argument) c.all.new.self _ c.all.result c.all.ensures.ran
    (YieldsList-from_first (option_map argument_view) arguments_left (arguments_left c.of.result) refl) (λ x b q called. search (rules, viewed x))
    ∙ none_missing (arguments_left c.of.result)
    ∙ ap (λ all. is_some all) c.of.ensures.all
