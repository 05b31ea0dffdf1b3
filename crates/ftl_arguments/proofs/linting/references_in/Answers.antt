use Rattle.std.proofs.Common.{◌≡◌, ◌∙◌, Bool, List, Bor, sym, ap, codes}
use Rattle.std.specs.Prelude.{not, ◌||◌}
use Rattle.clap.specs.Words.{Row, Text}
use Rattle.ftl_arguments.specs.CommandView.{found_rows}
use Rattle.ftl_arguments.specs.Found.{is_given}
use Rattle.ftl_arguments.specs.Linting.{has_what_it_counts, is_any, references_in}
use Rattle.ftl_arguments.specs.Meaning.{texts}
use Rattle.ftl_arguments.proofs.linting.references_in.Goals as goal

counted : (items lent : List (Bor Text)) (rows : List Row) (b : Bool) → lent ≡ items → texts items ≡ references_in rows
    → b ≡ (not (is_given (codes "counts") rows) || is_any (texts lent)) → has_what_it_counts rows ≡ b
counted items lent rows b same are is =
    ap (λ references. not (is_given (codes "counts") rows) || is_any references) (sym are ∙ ap texts (sym same)) ∙ sym is

pub returns-then-has_what_it_counts-clause-counted : goal.returns-then-has_what_it_counts-clause-counted
returns-then-has_what_it_counts-clause-counted c =
    counted c.in_ok-values.values.items c.deref.result.now (found_rows c.args.found.now) c.has_what_it_counts.result c.deref.ensures.value c.in_ok-values.ensures c.has_what_it_counts.ensures
    ∙ c.if-has_what_it_counts.true

pub returns-clause-uncounted : goal.returns-clause-uncounted
returns-clause-uncounted c = λ other.
    counted c.in_ok-values.values.items c.deref.result.now (found_rows c.args.found.now) c.has_what_it_counts.result c.deref.ensures.value c.in_ok-values.ensures c.has_what_it_counts.ensures
    ∙ c.if-has_what_it_counts.false
