use Rattle.std.proofs.Common.{sym, subst}
use Rattle.std.proofs.lemmas.Result.{on_ok_weaker}
use Rattle.lint_files.specs.Pushes.{AddsTile, found_so_far}
use Rattle.lint_files.specs.RulesView.{rules_view}
use Rattle.lint_files.proofs.TilesPushed.{junk_added}
use Rattle.lint_files.proofs.cursor.Cursor.push_tile.Goals as goal

pub returns-in-Junk-clause-findings : goal.returns-in-Junk-clause-findings
returns-in-Junk-clause-findings c =
    let rules = rules_view c.args.rules.now in
    let old = c.args.self.now in
    let new = c.push_syntax.new.self in
    on_ok_weaker c.push_syntax.result
    (λ added. subst (λ x. AddsTile rules c.args.declarations.now x (found_so_far old c.args.findings.now) (found_so_far new c.push_syntax.new.findings)) (sym c.in-Junk.is)
    (λ before first. junk_added rules old new c.args.findings.now c.push_syntax.new.findings before added))
    c.push_syntax.ensures
