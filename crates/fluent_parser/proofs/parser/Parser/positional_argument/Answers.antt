use Rattle.std.proofs.Common.{◌≡◌, ◌<◌, ℕ, zero, suc, sym, ◌∙◌, arith, refl, length}
use Rattle.std.specs.Prelude.{◌==◌, false}
use Rattle.fluent_ast.specs.View.{named_view, inline_view}
use Rattle.fluent_tokens.proofs.Scanned.{test_of}
use Rattle.fluent_parser.proofs.Cycle.{no_names, positional_none, positional_refused}
use Rattle.fluent_parser.proofs.parser.Parser.positional_argument.Goals as goal

above_none : (n : ℕ) → (n == 0) ≡ false → 0 < n
above_none zero h = absurd cc
above_none (suc n) h = omega arith

pub returns-then-is_empty-clause-gives : goal.returns-then-is_empty-clause-gives
returns-then-is_empty-clause-gives g c =
    let none : length c.args.others.now.all.items ≡ 0 = omega (arith, c.args.others.now.all.ok.0, test_of _ 0 (sym c.is_empty.ensures ∙ c.if-is_empty.true)) in
    positional_none _ _ _ (no_names (named_view g.row.S.Denot g.T.Texts.text) c.args.others.now.all.items none)

pub returns-else-is_empty-clause-gives : goal.returns-else-is_empty-clause-gives
returns-else-is_empty-clause-gives g c =
    let some : 0 < length c.args.others.now.all.items = omega (arith, c.args.others.now.all.ok.0, above_none _ (sym c.is_empty.ensures ∙ c.if-is_empty.false)) in
    rw (positional_refused (named_view g.row.S.Denot g.T.Texts.text) c.args.others.now.all.items (inline_view g.row.S.Denot g.T.Texts.text c.args.argument) c.args.self.now.rest.now some) (refl, refl)
