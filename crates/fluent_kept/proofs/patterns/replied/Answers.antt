use Rattle.std.proofs.Common.{Some, ap, option_map, sym, ◌∙◌}
use Rattle.fluent_answers.specs.Answers.{told}
use Rattle.fluent_meaning.specs.Substitution.{answer_written}
use Rattle.fluent_kept.specs.Catalogs.{plain_environment}
use Rattle.fluent_kept.proofs.patterns.replied.Goals as goal

pub returns-in-Ok : goal.returns-in-Ok
returns-in-Ok c =
    let written = answer_written (plain_environment c.args.made.now) c.args.arguments.now in
    ap (option_map (λ es. told (written es))) (sym c.in-Some.ensures) ∙ ap Some (sym c.in-Ok.ensures)
