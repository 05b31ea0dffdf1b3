use Rattle.std.proofs.Common.{◌∙◌, sym}
use Rattle.fluent_project.proofs.Taken.{found_if_taken, none_unless_taken}
use Rattle.fluent_project.proofs.matching.is_match.Goals as goal

pub returns-clause-found : goal.returns-clause-found
returns-clause-found c = λ found. found_if_taken c.args.locale.now c.args.pattern.now c.args.path.now (sym c.takes.ensures ∙ found)

pub returns-clause-none : goal.returns-clause-none
returns-clause-none c = λ none. none_unless_taken c.args.locale.now c.args.pattern.now c.args.path.now (sym c.takes.ensures ∙ none)
